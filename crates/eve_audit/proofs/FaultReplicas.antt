-- A fault names the replica in whose section it lies.
use Rattle.std.proofs.Common.{◌≡◌, ℕ, ◌+◌, nat_le, nat_lt, List, Option, Some, None, sym, ap, subst, ◌∙◌}
use Rattle.std.specs.Prelude.{◌↔◌, IsTrue}
use Rattle.std.proofs.lemmas.Bool.{and_parts, and_from, le-leb, lt-ltb, leb-true, ltb-true}
use Rattle.std.proofs.lemmas.Option.{none-some}
use Rattle.eve_grammar.specs.Trace.{Trace}
use Rattle.eve_grammar.specs.Spelling.{section_start}
use Rattle.eve_grammar.specs.FrameOrder.{Spells}
use Rattle.eve_views.specs.Parts.{is_in_section}
use Rattle.eve_views.specs.declared.fault.Fault.{Fault}
use Rattle.eve_views.specs.Form.{StandsInForm, IsFaultOutside}
use Rattle.eve_audit.specs.Verdict.{Stands, in_form, in_trace, IsOwnFault, of_structure, of_records, of_chains}
use Rattle.eve_audit.specs.Verdict.{of_restores, of_tokens, IsCommonFault, IsTraceFault}
use Rattle.eve_audit.specs.Where.{NamesItsSection}
use Rattle.eve_audit.specs.Verdict as of
use Rattle.eve_audit.proofs.Sections.{LiesIn, IsLaidOut}
use Rattle.eve_audit.proofs.SectionPlaces.{one_section}
use Rattle.eve_audit.proofs.FaultPlaces.{structure_lies, record_lies, chain_lies, restore_lies, token_lies}
use Rattle.eve_audit.proofs.FaultPlaces.{majority_lies}
use Rattle.eve_audit.proofs.FaultPlaces.{outcome_lies}
use Rattle.eve_audit.proofs.OutsideSections.{IsOutside, in_none, order_outside, vote_fault_outside, reply_outside}

-- ---- the test of a section

lies_from : (t : Trace) (e at : ℕ) → IsTrue (is_in_section t e at) → LiesIn t e at
lies_from t e at held =
    let parts = and_parts (nat_le (section_start t e) at) (nat_lt at (section_start t (e + 1))) held in
    (leb-true (section_start t e) at parts.0, ltb-true at (section_start t (e + 1)) parts.1)

held_from : (t : Trace) (e at : ℕ) → LiesIn t e at → IsTrue (is_in_section t e at)
held_from t e at lies = and_from (nat_le (section_start t e) at) (nat_lt at (section_start t (e + 1)))
    (le-leb (section_start t e) at lies.0) (lt-ltb at (section_start t (e + 1)) lies.1)

-- ---- in a trace

-- the replica that is named is the one in whose section the offset lies
abbrev Names : Trace → Fault → Type 0
Names t f = (e : ℕ) → (f.replica ≡ Some e) ↔ IsTrue (is_in_section t e f.offset)

inner : (d e : ℕ) → ◌≡◌ {A = Option ℕ} (Some d) (Some e) → d ≡ e
inner d e same = cc

inside : (t : Trace) → IsLaidOut t → (d : ℕ) (f : Fault) → f.replica ≡ Some d → LiesIn t d f.offset → Names t f
inside t laid d f is lies e = (
  λ named. held_from t e f.offset (subst (λ (k : ℕ). LiesIn t k f.offset) (inner d e (sym is ∙ named)) lies),
  λ held. is ∙ ap (λ (k : ℕ). Some k) (one_section t laid.parts d e f.offset lies (lies_from t e f.offset held)),
)

outside : (t : Trace) → IsLaidOut t → (f : Fault) → f.replica ≡ None → IsOutside t f.offset → Names t f
outside t laid f is out e = (
  λ named. absurd (none-some e (sym is ∙ named)),
  λ held. absurd (in_none t laid.parts e f.offset out (lies_from t e f.offset held)),
)

module _ (t : Trace) (laid : IsLaidOut t) (f : Fault) where
  own_names : (e : ℕ) → IsOwnFault t e f → Names t f
  own_names e (of_structure is) = inside t laid e f is.inside (structure_lies t laid e f.code f.offset is.stands)
  own_names e (of_records is) = inside t laid e f is.inside (record_lies t laid e f.code f.offset is.stands)
  own_names e (of_chains is) = inside t laid e f is.inside (chain_lies t laid e f.code f.offset is.stands)
  own_names e (of_restores is) = inside t laid e f is.inside (restore_lies t laid e f.code f.offset is.stands)
  own_names e (of_tokens is) = inside t laid e f is.inside (token_lies t laid e f.code f.offset is.stands)

  common_names : IsCommonFault t f → Names t f
  common_names (of.of_votes is) =
      outside t laid f is.outside (vote_fault_outside t laid.parts f.code f.offset is.stands)
  common_names (of.of_majorities is) =
      inside t laid is.0 f is.1.inside (majority_lies t laid is.0 f.code f.offset is.1.stands)
  common_names (of.of_agreement is) =
      inside t laid is.0 f is.1.inside (outcome_lies t laid is.0 f.code f.offset is.1.stands)
  common_names (of.of_replies is) = outside t laid f is.outside (reply_outside t laid.parts f.code f.offset is.stands)

  trace_names : IsTraceFault t f → Names t f
  trace_names (of.in_orders is) = outside t laid f is.outside (order_outside t laid.parts f.code f.offset is.stands)
  trace_names (of.in_section below) = own_names below.0 below.2
  trace_names (of.in_common is) = common_names is

-- ---- in bytes

-- of bytes that spell this trace
pub named_in : (bytes : List ℕ) (t : Trace) → Spells bytes t → ((u : Trace) → Spells bytes u → u ≡ t)
    → IsLaidOut t → (f : Fault) → IsTraceFault t f → NamesItsSection bytes f
named_in bytes t spells once laid f is = record {
  names = λ u other. subst (λ (x : Trace). Names x f) (sym (once u other)) (trace_names t laid f is);
  outside = λ none. absurd (none t spells);
}

-- of bytes that spell none
pub named_in_none : (bytes : List ℕ) (f : Fault) → IsFaultOutside StandsInForm bytes f
    → ((t : Trace) → ¬ Spells bytes t)
    → NamesItsSection bytes f
named_in_none bytes f is none = record { names = λ t spells. absurd (none t spells); outside = λ _. is.outside }

module _ (laid : (t : Trace) → IsLaidOut t) (once : (bytes : List ℕ) (t u : Trace) → Spells bytes t
    → Spells bytes u → t ≡ u) (bytes : List ℕ) (f : Fault) where
  of_trace : (t : Trace) → Spells bytes t → IsTraceFault t f → NamesItsSection bytes f
  of_trace t spells is = named_in bytes t spells (λ u other. once bytes u t other spells) (laid t) f is

  pub standing_named : ((g : Fault) (t : Trace) → IsFaultOutside StandsInForm bytes g → ¬ Spells bytes t)
      → Stands bytes f
      → NamesItsSection bytes f
  standing_named apart (in_form is) = named_in_none bytes f is (λ t. apart f t is)
  standing_named apart (in_trace t spells is) = of_trace t spells is
