-- The rule of the queue, and what its steps make of what passes know. docs/DEPLOYMENT.md, "Recorder lists, drawn
-- numbers".
use Rattle.std.specs.Prelude.{◌≡◌, ℕ, suc, ◌-◌, ◌≤◌, ◌<◌, ◌⊎◌, Bool, true, false, List, [], ◌∷◌, ◌++◌, length}
use mathlib.Core.List.{IsPrefix}
use mathlib.Core.Option.{some}
use lib.ListN.{get_elem?}
use Rattle.eve_recorder.specs.Noted.{of_worker, AllOf, IsOrderly, ComeFrom}
use Rattle.eve_recorder.specs.declared.passes.Knowledge.{Knowledge}
use Rattle.eve_recorder.specs.declared.limits.TheConstants.{MOST_SEATS}
use Rattle.eve_stamps.specs.Applied.{Applied}

abbrev pub knowledge : Bool → List Applied → ℕ → ℕ → ℕ → List Applied → Knowledge
knowledge takes taken workers from below noted =
    record { takes = takes; taken = taken; workers = workers; from = from; below = below; noted = noted }

-- the pass stands for the worker w
abbrev pub StandsFor : Knowledge → ℕ → Type 0
StandsFor v w = (v.from ≤ w) × (w < v.below)

-- A pass that takes is the one taker's, and has all that was taken. A pass that stands for a worker is that worker's
-- one pass, and what it noted is all that there is of the worker. Either knows how many workers there are, and a worker
-- for whom a pass stands is one of them. Of others a pass noted nothing.
abbrev pub FitsPass : ℕ → ℕ → (ℕ → ℕ) → List Applied → List Applied → ℕ → Knowledge → Type 0
FitsPass workers taker seat taken all pass v =
    (v.takes ≡ true → (pass ≡ taker) × (v.taken ≡ taken) × (v.workers ≡ workers))
    × ((w : ℕ) → StandsFor v w
    → (pass ≡ seat w) × (of_worker w v.noted ≡ of_worker w all) × (v.workers ≡ workers) × (w < workers))
    × ((w : ℕ) → ¬ (StandsFor v w) → of_worker w v.noted ≡ [])

-- At every moment at most one pass takes, and each of the `workers` has at most one. All records, what was taken and
-- then what is queued, are of these workers, each worker's in their places, and fit each pass.
pub record FitsPasses (queued : List Applied) (passes : List Knowledge) : Type 0 where
  pub workers : ℕ
  pub taker : ℕ
  pub seat : ℕ → ℕ
  pub taken : List Applied
  pub orderly : IsOrderly (taken ++ queued)
  pub whose : ComeFrom workers (taken ++ queued)
  pub fits : (pass : ℕ) (v : Knowledge) → get_elem? passes pass ≡ some v
      → FitsPass workers taker seat taken (taken ++ queued) pass v

-- a worker's pass stands for that worker alone, and has noted `count` records, all of that worker
abbrev pub IsWorkers : ℕ → ℕ → Knowledge → Type 0
IsWorkers worker count v =
    (v ≡ knowledge false [] v.workers worker (suc worker) v.noted) × (worker < v.workers) × (v.workers ≤ MOST_SEATS)
    × (count ≡ length v.noted) × AllOf worker v.noted

-- what is noted is added to what was noted
abbrev pub noting : Knowledge → Applied → Knowledge
noting v x = knowledge v.takes v.taken v.workers v.from v.below (v.noted ++ x ∷ [])

-- what is taken is added to what was taken
abbrev pub taking : Knowledge → Applied → Knowledge
taking v x = knowledge v.takes (v.taken ++ x ∷ []) v.workers v.from v.below v.noted

-- the first pass stands for all workers that there may be, and takes
abbrev pub newcomer : Knowledge
newcomer = knowledge true [] MOST_SEATS 0 MOST_SEATS []

-- a pass that was joined to another, or that stands for nobody
abbrev pub nobody : Knowledge
nobody = knowledge false [] 0 0 0 []

-- the last worker is none: there is one less
abbrev pub one_less : Knowledge → Knowledge
one_less v = knowledge v.takes v.taken (v.workers - 1) v.from (v.below - 1) v.noted

-- the last worker is cut off
abbrev pub rest_of : Knowledge → Knowledge
rest_of v = knowledge v.takes v.taken v.workers v.from (v.below - 1) v.noted

abbrev pub last_pass : Knowledge → Knowledge
last_pass v = knowledge false [] v.workers (v.below - 1) v.below []

-- and put back
abbrev pub with_last : Knowledge → Knowledge → Knowledge
with_last v u = knowledge v.takes v.taken v.workers v.from u.below (v.noted ++ u.noted)

-- the taker is cut off
abbrev pub no_taker : Knowledge → Knowledge
no_taker v = knowledge false [] v.workers v.from v.below v.noted

abbrev pub taker_of : Knowledge → Knowledge
taker_of v = knowledge true v.taken v.workers 0 0 []

-- and put back
abbrev pub with_taker : Knowledge → Knowledge → Knowledge
with_taker v u = knowledge true u.taken v.workers v.from v.below v.noted

-- the pass stands for the worker, or that worker isn't there
abbrev pub KnowsOf : Knowledge → ℕ → Type 0
KnowsOf v w = StandsFor v w ⊎ (v.workers ≤ w)

-- of each worker that the pass knows of, what was taken is the beginning of what was noted
abbrev pub TakesPrefix : Knowledge → Type 0
TakesPrefix v = (w : ℕ) → KnowsOf v w → IsPrefix (of_worker w v.taken) (of_worker w v.noted)

-- What a worker sees of a full queue: what was taken before and what it holds are, each worker's in their places, of
-- workers that are there, and of the worker itself are what it noted.
abbrev pub SeesSome : Knowledge → List Applied → Type 0
SeesSome v queued =
    (taken : List Applied) × IsOrderly (taken ++ queued)
    × ((w : ℕ) → StandsFor v w
    → (of_worker w v.noted ≡ of_worker w (taken ++ queued)) × ComeFrom v.workers (taken ++ queued))

-- What the taker sees of an empty queue: what it took and what the queue holds are, each worker's in their places, what
-- was noted by each worker that it knows of.
abbrev pub SeesAll : Knowledge → List Applied → Type 0
SeesAll v queued =
    IsOrderly (v.taken ++ queued) × ((w : ℕ) → KnowsOf v w → of_worker w v.noted ≡ of_worker w (v.taken ++ queued))
