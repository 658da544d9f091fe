-- What shows that a commit, a rollback or a state transferred has no majority. docs/MODEL.md, "Majority" and
-- "Evidence".
use Rattle.std.specs.Prelude.{◌≡◌, ℕ, ◌+◌, ◌-◌}
use Rattle.eve_grammar.specs.Trace.{Choice, ForCommit, ForRollback, Step, Trace}
use Rattle.eve_grammar.specs.Spelling.{steps_at}
use Rattle.eve_views.specs.declared.fault.Code.{Code}
use Rattle.eve_views.specs.declared.fault.Code.TheVariants as code
use Rattle.eve_views.specs.Form.{SomePlace}
use Rattle.eve_views.specs.StepKinds.{IsStep}
use Rattle.eve_views.specs.declared.steps.Step as step_read
use Rattle.eve_history.specs.Structure.{OfCommit, OfRollback, OfTransfer}
use Rattle.eve_votes.specs.Votes.{IsDecided, IsRolledBack}
use Rattle.eve_agree.specs.Majority.{SomeDecided}
use Rattle.eve_evidence.specs.declared.evidence.Evidence.{Evidence}
use Rattle.eve_evidence.specs.declared.evidence.Evidence.TheVariants as shown
use Rattle.eve_evidence_outcomes.specs.Polls.{IsPoll, IsTransferPoll}

-- the step has a fault of majorities of this code
abbrev pub LacksMajority : Code → Trace → Step → Type 0
LacksMajority code.NoMajority t step = OfCommit step (λ c. ¬ IsDecided t c.seq c.view c.token)
LacksMajority code.RollbackNoMajority t step = OfRollback step (λ r. ¬ IsRolledBack t (r.to + 1) (r.view - 1))
LacksMajority code.TransferNoMajority t step = OfTransfer step (λ x. ¬ SomeDecided t x.seq x.view)
LacksMajority _ t step = ⊥

-- the evidence is who voted for this choice on the batch in the view
abbrev pub TellsPoll : Trace → ℕ → ℕ → Choice → Evidence → Type 0
TellsPoll t n view choice (shown.Majority poll) = IsPoll t n view choice poll
TellsPoll t n view choice _ = ⊥

-- it is who voted for some commit of it, of a state whose frame stands at this offset
abbrev pub TellsTransferPoll : Trace → ℕ → ℕ → ℕ → Evidence → Type 0
TellsTransferPoll t at n view (shown.TransferMajority place poll) = (place ≡ at) × IsTransferPoll t n view poll
TellsTransferPoll t at n view _ = ⊥

-- the evidence has who voted for what the step does, whose frame stands at this offset
abbrev pub TellsVoters : Code → Trace → ℕ → Step → Evidence → Type 0
TellsVoters code.NoMajority t at step evidence =
    OfCommit step (λ c. TellsPoll t c.seq c.view (ForCommit c.token) evidence)
TellsVoters code.RollbackNoMajority t at step evidence =
    OfRollback step (λ r. TellsPoll t (r.to + 1) (r.view - 1) ForRollback evidence)
TellsVoters code.TransferNoMajority t at step evidence =
    OfTransfer step (λ x. TellsTransferPoll t at x.seq x.view evidence)
TellsVoters _ t at _ _ = ⊥

-- The evidence shows that replica e's step at this byte has no majority: who voted for what it does, and who didn't.
abbrev pub TellsMajority : Code → Trace → ℕ → ℕ → Evidence → Type 0
TellsMajority c t e place evidence =
    SomePlace (steps_at t e) (λ _ step. (step.0 ≡ place) × TellsVoters c t step.0 step.1 evidence)

-- ---- of a step that was met

-- the evidence has who voted for what it does
abbrev pub TellsVotersOf : Code → Trace → step_read.Step → Evidence → Type 0
TellsVotersOf c t step evidence = (is : ℕ × Step) → IsStep step is → TellsVoters c t is.0 is.1 evidence

-- it has no such fault
abbrev pub LacksNone : Code → Trace → step_read.Step → Type 0
LacksNone c t step = (is : ℕ × Step) → IsStep step is → ¬ LacksMajority c t is.1
