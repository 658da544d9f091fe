-- From what is found in the bytes and in their trace to the verdict.
use Rattle.std.proofs.Common.{◌≡◌, ℕ, ◌≤◌, inl, inr, List, length, sym, subst, ◌∙◌, arith}
use Rattle.eve_grammar.specs.Trace.{Trace}
use Rattle.eve_grammar.specs.FrameOrder.{Spells}
use Rattle.eve_views.specs.Form.{Precedes, IfFound, IsLeast, HasNone, StandsInForm, IsFaultOutside}
use Rattle.eve_views.specs.declared.fault.CheckFault.{CheckFault}
use Rattle.eve_views.specs.declared.fault.CheckFault.TheVariants.{Found, Memory}
use Rattle.eve_views.specs.declared.fault.Fault.{Fault}
use Rattle.eve_audit.specs.declared.verdict.Summary.{Summary}
use Rattle.eve_audit.specs.Verdict.{Stands, in_form, in_trace, IsTraceFault, IsFirst, IsSummary}
use Rattle.eve_audit.specs.Reports.{IsFirstOf, IsLeastBelow}
use Rattle.eve_audit.proofs.Phases.{form_phase}

-- ---- bytes that are no trace

form_first : (bytes : List ℕ) (f : Fault) → IsLeast (IsFaultOutside StandsInForm bytes) f
    → ((t : Trace) → ¬ Spells bytes t)
    → IsFirst bytes f
form_first bytes f least none = record { stands = in_form least.is; first = by }
  where
    by : (g : Fault) → Stands bytes g → Precedes f g
    by g (in_form is) = inr (form_phase bytes f least.is ∙ sym (form_phase bytes g is), least.least g is)
    by g (in_trace t spells is) = absurd (none t spells)

pub found_in_form : (bytes : List ℕ) (why : CheckFault) → IfFound why (IsLeast (IsFaultOutside StandsInForm bytes))
    → IfFound why (λ _. (t : Trace) → ¬ Spells bytes t) → IfFound why (IsFirst bytes)
found_in_form bytes Memory least none = tt
found_in_form bytes (Found f) least none = form_first bytes f least none

-- ---- bytes that are a trace

module _ (bytes : List ℕ) (t : Trace) (spells : Spells bytes t) (once : (u : Trace) → Spells bytes u → u ≡ t) where
  -- what stands in the trace stands in its bytes
  pub stands_in_bytes : (f : Fault) → IsTraceFault t f → Stands bytes f
  stands_in_bytes f is = in_trace t spells is

  -- and all that stands in them, where none of form does
  stands_in_trace : (f : Fault) → HasNone (IsFaultOutside StandsInForm bytes) → Stands bytes f → IsTraceFault t f
  stands_in_trace f formed (in_form is) = absurd (formed f is)
  stands_in_trace f formed (in_trace u other is) = subst (λ x. IsTraceFault x f) (once u other) is

  pub trace_first : (f : Fault) → HasNone (IsFaultOutside StandsInForm bytes) → IsFirstOf (IsTraceFault t) f
      → IsFirst bytes f
  trace_first f formed found = record {
    stands = stands_in_bytes f found.is;
    first = λ g stands. found.first g (stands_in_trace g formed stands);
  }

  pub faultless : HasNone (IsFaultOutside StandsInForm bytes) → HasNone (IsTraceFault t) → HasNone (Stands bytes)
  faultless formed none = λ f stands. none f (stands_in_trace f formed stands)

-- ---- the summary

pub summary_is : (t : Trace) (s : Summary) → s.replicas ≡ length t.sections → s.batches ≡ length t.batches
    → 1 ≤ length t.sections → IsLeastBelow t (length t.sections) s.committed → IsSummary t s
summary_is t s replicas batches some found = record {
  replicas = replicas;
  batches = batches;
  least = found.least;
  reached = elim found.reached [ inl none ↦ absurd (omega (arith, some, none.0)) | inr r ↦ r ];
}
