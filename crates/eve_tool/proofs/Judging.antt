-- A verdict on an input, and what is sent of it.
use Rattle.std.proofs.Common.{◌≡◌, ◌∙◌, ◌+◌, ◌^◌, ℕ, inl, lit≤, refl, subst, List, Option, None, Some, take}
use Rattle.std.specs.Prelude.{IfSome}
use Rattle.eve_audit.specs.declared.verdict.Verdict.{Verdict}
use Rattle.eve_grammar.specs.declared.limits.TheConstants.{MOST_BYTES}
use Rattle.eve_tool.specs.declared.fault.ToolFault.{ToolFault}
use Rattle.eve_tool.specs.declared.fault.ToolFault.TheVariants as fault
use Rattle.eve_tool.specs.Audit.{AuditsAs, Judges, StopsJudging}
use Rattle.eve_tool.specs.Calls.{Leaves}
use Rattle.eve_tool.specs.Lines.{status_of_verdict}
use Rattle.eve_tool_arguments.specs.Arguments.{Audit}
use Rattle.eve_tool_arguments.specs.declared.style.Style.{Style}
use Rattle.eve_tool.proofs.CutInput.{Judges-cut}

-- the verdict on what was read is the verdict on all
pub judged : (known : Option (List ℕ)) (lent read : List ℕ) (v : Verdict) → lent ≡ read
    → IfSome known (λ bytes. read ≡ take (2 ^ 30 + 1) bytes) → Judges lent v → IfSome known (λ bytes. Judges bytes v)
judged None lent read v same cut judges = tt
judged (Some bytes) lent read v same cut judges =
    Judges-cut (2 ^ 30) bytes v (lit≤ tt) (subst (λ (b : List ℕ). Judges b v) (same ∙ cut) judges)

-- what is printed of it is what `audit` says
pub audits_as : (printed : Verdict → List ℕ) (bytes : List ℕ) (v : Verdict) (status : ℕ) → Judges bytes v
    → status ≡ status_of_verdict v → AuditsAs printed bytes (printed v) status
audits_as printed bytes v status judges ends =
    record { verdict = v; is = judges.is; yes = judges.yes; line = refl; ends = ends }

-- where there was no verdict on bytes, there was none on the input that had them
pub stops_on_input : (failed : Type 0) (why : ToolFault) → StopsJudging ⊥ why → StopsJudging failed why
stops_on_input failed fault.Random stops = tt
stops_on_input failed fault.Memory stops = tt
stops_on_input failed _ stops = absurd stops

-- what was left then
pub unjudged_left : {O : Type 0} (written : O → Option (List ℕ)) (failures : O → ℕ) (style : Style)
    (known : Option (List ℕ)) (failed : Type 0) (old : O) (why : ToolFault) → StopsJudging ⊥ why
    → Leaves MOST_BYTES written failures (Audit style) known failed old old why
unjudged_left written failures style known failed old fault.Random stops = (tt, refl)
unjudged_left written failures style known failed old fault.Memory stops = inl refl
unjudged_left written failures style known failed old _ stops = absurd stops
