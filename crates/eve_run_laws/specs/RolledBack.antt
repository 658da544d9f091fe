-- How often a run rolls a batch back. docs/DEPLOYMENT.md, "A run is accepted".
use Rattle.std.specs.Prelude.{◌≢◌, ℕ, List, [], ◌∷◌, All, AllPairs}
use Rattle.eve_grammar.specs.Trace.{Step, Attempts, Commits, RollsBack, Transfers, Trace}

-- the committed number to which each rollback of a section goes back, in order
abbrev pub rolled_back_to : List Step → List ℕ
rolled_back_to [] = []
rolled_back_to (Attempts a ∷ steps) = rolled_back_to steps
rolled_back_to (Commits c ∷ steps) = rolled_back_to steps
rolled_back_to (RollsBack r ∷ steps) = r.to ∷ rolled_back_to steps
rolled_back_to (Transfers x ∷ steps) = rolled_back_to steps

-- Each batch is at most once the first of those that a rollback discards: in no section two rollbacks go back to the
-- same number. A batch behind the first may be discarded again, by a rollback to a greater number.
abbrev pub AreRolledBackOnce : Trace → Type 0
AreRolledBackOnce t = All (λ steps. AllPairs (λ a b. a ≢ b) (rolled_back_to steps)) t.sections
