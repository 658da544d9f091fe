-- Commits, rollbacks and transfers without a majority. docs/MODEL.md, "Majority".
use Rattle.std.specs.Prelude.{◌≡◌, ℕ, ◌+◌, ◌-◌, List, ⊤}
use Rattle.std.specs.List.{AllByRecursion}
use Rattle.eve_grammar.specs.Trace.{Step, Attempts, Commits, RollsBack, Transfers, Trace}
use Rattle.eve_grammar.specs.Spelling.{steps_at}
use Rattle.eve_views.specs.declared.fault.Code.{Code}
use Rattle.eve_views.specs.declared.fault.Code.TheVariants as code
use Rattle.eve_views.specs.Form.{SomePlace}
use Rattle.eve_history.specs.Structure.{OfCommit, OfRollback, OfTransfer}
use Rattle.eve_votes.specs.Votes.{IsDecided, IsRolledBack}

-- some commit of the number is decided in this view, whatever its token
-- Where it isn't so, F74 TransferNoMajority stands.
abbrev pub SomeDecided : Trace → ℕ → ℕ → Type 0
SomeDecided t n view = (token : List ℕ) × IsDecided t n view token

-- what a commit, a rollback or a transfer does was voted for by a majority: the number, view and token of the commit;
-- that the next number is rolled back in the view before; some commit of the transfer's number in its view
abbrev pub IsBacked : Trace → Step → Type 0
IsBacked t (Attempts a) = ⊤
IsBacked t (Commits c) = IsDecided t c.seq c.view c.token
IsBacked t (RollsBack r) = IsRolledBack t (r.to + 1) (r.view - 1)
IsBacked t (Transfers x) = SomeDecided t x.seq x.view

-- each commit, rollback and transfer of replica e
abbrev pub IsBackedSection : Trace → ℕ → Type 0
IsBackedSection t e = AllByRecursion (λ step. IsBacked t step.1) (steps_at t e)

-- of each replica
abbrev pub AllAreBacked : Trace → Type 0
AllAreBacked t = (e : ℕ) → IsBackedSection t e

-- a fault of majorities stands at this offset in replica e's section
abbrev pub StandsInMajorities : Code → Trace → ℕ → ℕ → Type 0
StandsInMajorities code.NoMajority t e at =
    SomePlace (steps_at t e) (λ _ step. (step.0 ≡ at) × OfCommit step.1 (λ c. ¬ IsDecided t c.seq c.view c.token))
StandsInMajorities code.RollbackNoMajority t e at =
    SomePlace (steps_at t e)
    (λ _ step. (step.0 ≡ at) × OfRollback step.1 (λ r. ¬ IsRolledBack t (r.to + 1) (r.view - 1)))
StandsInMajorities code.TransferNoMajority t e at =
    SomePlace (steps_at t e) (λ _ step. (step.0 ≡ at) × OfTransfer step.1 (λ x. ¬ SomeDecided t x.seq x.view))
StandsInMajorities _ t e at = ⊥
