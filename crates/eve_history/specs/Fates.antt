-- What becomes of a section's attempts. docs/MODEL.md, "Section state, fate".
use Rattle.std.specs.Prelude.{ℕ, zero, suc, ◌-◌, List, [], ◌∷◌}
use Rattle.eve_grammar.specs.Trace.{Step, Attempts, Commits, RollsBack, Transfers}
use Rattle.eve_history.specs.declared.fate.Fate.{Fate}
use Rattle.eve_history.specs.declared.fate.Fate.TheVariants.{Committed, Discarded, Open}

-- What becomes in these steps of an attempt before which that many are open: its commit comes, or a
-- rollback or a transfer comes first, or none of them.
abbrev pub fate_in : List (ℕ × Step) → ℕ → Fate
fate_in [] before = Open
fate_in ((at, Attempts a) ∷ steps) before = fate_in steps before
fate_in ((at, Commits c) ∷ steps) zero = Committed
fate_in ((at, Commits c) ∷ steps) (suc before) = fate_in steps before
fate_in ((at, RollsBack r) ∷ steps) before = Discarded
fate_in ((at, Transfers x) ∷ steps) before = Discarded

-- what becomes of each attempt of these steps, where that many are open before the first
abbrev pub fates_from : ℕ → List (ℕ × Step) → List Fate
fates_from count [] = []
fates_from count ((at, Attempts a) ∷ steps) = fate_in steps count ∷ fates_from (suc count) steps
fates_from count ((at, Commits c) ∷ steps) = fates_from (count - 1) steps
fates_from count ((at, RollsBack r) ∷ steps) = fates_from 0 steps
fates_from count ((at, Transfers x) ∷ steps) = fates_from 0 steps
