-- The two least views in which a batch is decided. docs/MODEL.md, "Decided, rolled back" and "Evidence".
use Rattle.std.specs.Prelude.{◌≡◌, ℕ, ◌+◌, length}
use Rattle.eve_grammar.specs.Trace.{Trace}
use Rattle.eve_grammar.specs.Spelling.{batches_at}
use Rattle.eve_views.specs.Form.{SomePlace}
use Rattle.eve_votes.specs.NextDecision.{IsNextDecision}
use Rattle.eve_votes.specs.declared.decided.Decided.{Decided}
use Rattle.eve_evidence.specs.declared.evidence.ToldDecision.{ToldDecision}
use Rattle.eve_evidence.specs.declared.evidence.Evidence.{Evidence}
use Rattle.eve_evidence.specs.declared.evidence.Evidence.TheVariants as shown

-- a decision as the votes give it
abbrev pub decided_of : ToldDecision → Decided
decided_of d = record { view = d.view; token = d.token; votes = d.votes }

-- the two least views in which the batch is decided, and how many verifiers there are
pub record AreFirstDecisions (t : Trace) (n : ℕ) (first second : ToldDecision) (verifiers : ℕ) : Type 0 where
  pub first_is : IsNextDecision t n 0 (decided_of first)
  pub second_is : IsNextDecision t n (first.view + 1) (decided_of second)
  pub verifiers_are : verifiers ≡ length t.verifiers

-- the evidence has them
abbrev pub TellsDecisions : Trace → ℕ → Evidence → Type 0
TellsDecisions t n (shown.TwoDecisions batch first second verifiers) =
    (batch ≡ n) × AreFirstDecisions t n first second verifiers
TellsDecisions t n _ = ⊥

-- The evidence shows that the batch at this byte is decided twice.
abbrev pub TellsTwoDecisions : Trace → ℕ → Evidence → Type 0
TellsTwoDecisions t place evidence = SomePlace (batches_at t) (λ _ b. (b.0 ≡ place) × TellsDecisions t b.1.0 evidence)
