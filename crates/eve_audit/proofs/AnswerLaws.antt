-- From what is found in a trace to the answer for its bytes.
use Rattle.std.proofs.Common.{◌≡◌, ◌≤◌, ℕ, List, length, arith, ap, sym, subst, ◌∙◌}
use Rattle.eve_grammar.specs.Trace.{Trace}
use Rattle.eve_grammar.specs.Spelling.{length_of}
use Rattle.eve_grammar.specs.FrameOrder.{Spells}
use Rattle.eve_views.specs.Form.{IfFound, IsLeast, HasNone, StandsInForm, IsFaultOutside}
use Rattle.eve_views.specs.declared.fault.CheckFault.{CheckFault}
use Rattle.eve_views.specs.declared.fault.CheckFault.TheVariants.{Found, Memory}
use Rattle.eve_views.specs.declared.fault.Fault.{Fault}
use Rattle.eve_audit.specs.Audited.{IsAudited}
use Rattle.eve_audit.specs.declared.verdict.Summary.{Summary}
use Rattle.eve_audit.specs.declared.verdict.Verdict.TheVariants.{Yes, No}
use Rattle.eve_audit.specs.Verdict.{IsSummary, IsTraceFault, SpellsAudited}
use Rattle.eve_audit.specs.Reports.{IsFirstOf}
use Rattle.eve_audit.specs.declared.verdict.AcceptedTrace.{AcceptedTrace}
use Rattle.eve_audit.specs.declared.verdict.WholeVerdict.TheVariants as whole
use Rattle.eve_audit.specs.Answer.{IsAnswer, IsRead, IsWholeAnswer, IsYesOfAudited, IfNo}
use Rattle.eve_audit.proofs.Sections.{IsLaidOut}
use Rattle.eve_audit.proofs.Verdicts.{faultless, found_in_form, trace_first}
use Rattle.eve_audit.proofs.FaultOffsets.{trace_fault_within}
use Rattle.eve_audit.proofs.FaultReplicas.{named_in, named_in_none}
use Rattle.eve_audit.specs.declared.verdict.Verdict.{Verdict}
use Rattle.eve_history.specs.Order.{StandsInOrders}
use Rattle.eve_history.specs.SectionHistory.{section_histories}

module _ (bytes : List ℕ) (t : Trace) (read : IsRead bytes t) (once : (u : Trace) → Spells bytes u → u ≡ t) where
  pub no_for : length bytes ≡ length_of t
      → ((f : Fault) → IsFaultOutside StandsInOrders t f → f.offset ≤ length_of t)
      → IsLaidOut t → (f : Fault) → IsFirstOf (IsTraceFault t) f → IsAnswer bytes (No f)
  no_for long orders laid f found = record {
    verdict = trace_first bytes t read.spells once f read.none found;
    yes = tt;
    within = (let within = trace_fault_within t laid orders f found.is in omega (arith, within, long));
    replica = named_in bytes t read.spells once laid f found.is;
  }

  pub yes_for : (s : Summary) → IsSummary t s → HasNone (IsTraceFault t) → IsAudited t → IsAnswer bytes (Yes s)
  yes_for s summary none audited = record {
    verdict = (t, read.spells, faultless bytes t read.spells once read.none none, summary);
    yes = (t, read.spells, audited);
    within = tt;
    replica = tt;
  }

-- a fault of form
pub form_for : (bytes : List ℕ) (why : CheckFault) → IfFound why (IsLeast (IsFaultOutside StandsInForm bytes))
    → IfFound why (λ _. (t : Trace) → ¬ Spells bytes t) → IfFound why (λ f. f.offset ≤ length bytes)
    → IfFound why (λ f. IsAnswer bytes (No f))
form_for bytes Memory least none within = tt
form_for bytes (Found f) least none within =
    record {
      verdict = found_in_form bytes (Found f) least none;
      yes = tt;
      within = within;
      replica = named_in_none bytes f least.is none;
    }

-- ---- with the trace of a yes

pub whole_yes : (bytes : List ℕ) (t : Trace) (a : AcceptedTrace) → IsRead bytes t → a.trace ≡ t
    → a.histories.items ≡ section_histories t → IsAnswer bytes (Yes a.summary) → IsWholeAnswer bytes (whole.Yes a)
whole_yes bytes t a read same told answer = record {
  answer = answer;
  trace = subst (Spells bytes) (sym same) read.spells;
  histories = told ∙ ap section_histories (sym same);
}

pub whole_no : (bytes : List ℕ) (f : Fault) → IsAnswer bytes (No f) → IsWholeAnswer bytes (whole.No f)
whole_no bytes f answer = record { answer = answer; trace = tt; histories = tt }

-- ---- of a verdict that is known

pub yes_from : (bytes : List ℕ) (v : Verdict) (s : Summary) → IsYesOfAudited bytes v → v ≡ Yes s → SpellsAudited bytes
yes_from bytes v s decoded is = subst (IsYesOfAudited bytes) is decoded

pub no_from : (v : Verdict) (P : Fault → Type 0) (f : Fault) → IfNo v P → v ≡ No f → P f
no_from v P f holds is = subst (λ (w : Verdict). IfNo w P) is holds
