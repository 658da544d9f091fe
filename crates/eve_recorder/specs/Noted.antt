-- Lists of records, worker by worker. docs/DEPLOYMENT.md, "Recorder lists, drawn numbers".
use Rattle.std.specs.Prelude.{◌≡◌, ℕ, suc, ◌≤◌, eqb, cond, List, [], ◌∷◌}
use Rattle.eve_stamps.specs.Applied.{Applied}

-- the records of one worker, in order
abbrev pub of_worker : ℕ → List Applied → List Applied
of_worker w [] = []
of_worker w (r ∷ rs) = cond (eqb r.worker w) (r ∷ of_worker w rs) (of_worker w rs)

-- all are of this worker
abbrev pub AllOf : ℕ → List Applied → Type 0
AllOf w [] = Unit {0}
AllOf w (r ∷ rs) = (r.worker ≡ w) × AllOf w rs

-- they have the places n, n + 1, n + 2, ..
abbrev pub IsPlaced : ℕ → List Applied → Type 0
IsPlaced n [] = Unit {0}
IsPlaced n (r ∷ rs) = (r.place ≡ n) × IsPlaced (suc n) rs

-- each worker's records have the places 0, 1, 2, .., each once
abbrev pub IsOrderly : List Applied → Type 0
IsOrderly rs = (w : ℕ) → IsPlaced 0 (of_worker w rs)

-- they are of workers below this number alone
abbrev pub ComeFrom : ℕ → List Applied → Type 0
ComeFrom workers rs = (w : ℕ) → workers ≤ w → of_worker w rs ≡ []
