-- What the joined pass knows.
use Rattle.std.proofs.Common.{Bool, true, false, ◌≡◌, ◌≢◌, ℕ, zero, suc, ◌+◌, ◌<◌, ◌≤◌, nat_lt, if◌then◌else◌, cond}
use Rattle.std.proofs.Common.{ne_eqb, List, [], ◌∷◌, ◌++◌, sym, refl, ap, ◌∙◌, subst, Option, Some, None, append-nil}
use Rattle.std.proofs.Common.{get_or, IfSome, arith}
use Rattle.std.specs.Prelude.{slice_get}
use Rattle.std.proofs.lemmas.Bool.{ltb-true}
use Rattle.atomic_table.specs.Seated.{TableId}
use Rattle.crossbeam_queue.specs.Fifo.{Merges}
use Rattle.eve_recorder.specs.declared.passes.Knowledge.{Knowledge}
use Rattle.eve_stamps.specs.Applied.{Applied}
use Rattle.eve_recorder.specs.Noted.{of_worker, AllOf}
use Rattle.eve_recorder.specs.QueueRule.{FitsPasses, knowledge, with_last, nobody, IsWorkers}
use Rattle.eve_recorder.specs.SeatTables.{AreSeated}
use Rattle.eve_recorder.specs.RecorderViews.{RecorderId, recorder_id, Desk, Noter, Places, IsNoterOf, AreNotersSeated}
use Rattle.eve_recorder.specs.RecorderViews.{noted_on_all}
use Rattle.eve_recorder.specs.RecorderViews.{noted_on, fresh_noter, fresh_places}
use Rattle.eve_recorder.proofs.QueueSteps.{of_worker-append, merges}
use Rattle.eve_recorder.proofs.OneSeat.{all_of-of_worker}
use Rattle.eve_recorder.proofs.SeatTable.{own_of, seated_by}

all_of_other : (w k : ℕ) (xs : List Applied) → AllOf k xs → k ≢ w → of_worker w xs ≡ []
all_of_other w k [] h n = refl
all_of_other w k (x ∷ xs) h n = ap (λ b. cond b (x ∷ of_worker w xs) (of_worker w xs))
    (ne_eqb x.worker w (λ e. n (sym h.0 ∙ e))) ∙ all_of_other w k xs h.1 n

-- from the place j on, what was noted on each seat is of the worker of its place
abbrev pub From : ℕ → List (Option Noter) → Type 0
From j seats = AreSeated (λ k x. AllOf (j + k) x.noted) seats

later : (j : ℕ) (s : Option Noter) (ss : List (Option Noter)) → From j (s ∷ ss) → From (suc j) ss
later j s ss h k x e = subst (λ n. AllOf n x.noted) (omega arith) (h (suc k) x e)

on_first : (j : ℕ) (s : Option Noter) (ss : List (Option Noter)) → From j (s ∷ ss) → AllOf j (noted_on s)
on_first j None ss h = tt
on_first j (Some x) ss h = subst (λ n. AllOf n x.noted) (omega arith) (h zero x refl)

-- of another worker than the first there is what the rest has
past_first : (j w : ℕ) (s : Option Noter) (ss : List (Option Noter)) → From j (s ∷ ss) → j ≢ w
    → of_worker w (noted_on_all (s ∷ ss)) ≡ of_worker w (noted_on_all ss)
past_first j w s ss h n = of_worker-append w (noted_on s) (noted_on_all ss)
    ∙ ap (λ l. l ++ of_worker w (noted_on_all ss)) (all_of_other w j (noted_on s) (on_first j s ss h) n)

noted_before : (j w : ℕ) (seats : List (Option Noter)) → From j seats → w < j → of_worker w (noted_on_all seats) ≡ []
noted_before j w [] h lt = refl
noted_before j w (s ∷ ss) h lt = past_first j w s ss h (omega arith)
    ∙ noted_before (suc j) w ss (later j s ss h) (omega arith)

pub noted_at : (j w k : ℕ) (seats : List (Option Noter)) (x : Noter) → w ≡ j + k → From j seats → slice_get seats k
    ≡ Some (Some x) → of_worker w (noted_on_all seats) ≡ x.noted
noted_at j w k [] x is h e = absurd (let f : None ≡ Some (Some x) = e in cc)
noted_at j w zero (None ∷ ss) x is h e = absurd (let f : Some None ≡ Some (Some x) = e in cc)
noted_at j w zero (Some y ∷ ss) x is h e =
    let same : y ≡ x = let f : Some (Some y) ≡ Some (Some x) = e in cc in
    of_worker-append w y.noted (noted_on_all ss)
    ∙ ap (λ l. of_worker w y.noted ++ l) (noted_before (suc j) w ss (later j (Some y) ss h) (omega arith))
    ∙ append-nil (of_worker w y.noted)
    ∙ all_of-of_worker w y.noted (subst (λ n. AllOf n y.noted) (omega arith) (on_first j (Some y) ss h))
    ∙ ap (λ (z : Noter). z.noted) same
noted_at j w (suc k) (s ∷ ss) x is h e = past_first j w s ss h (omega arith)
    ∙ noted_at (suc j) w k ss x (omega arith) (later j s ss h) e

noted_none : (j w k : ℕ) (seats : List (Option Noter)) → w ≡ j + k → From j seats
    → ((x : Noter) → slice_get seats k ≡ Some (Some x) → ⊥) → of_worker w (noted_on_all seats) ≡ []
noted_none j w k [] is h not = refl
noted_none j w zero (None ∷ ss) is h not = noted_before (suc j) w ss (later j None ss h) (omega arith)
noted_none j w zero (Some y ∷ ss) is h not = absurd (not y refl)
noted_none j w (suc k) (s ∷ ss) is h not = past_first j w s ss h (omega arith)
    ∙ noted_none (suc j) w k ss (omega arith) (later j s ss h) not

pub from_seated : (recorder : RecorderId) (seats : List (Option Noter)) → AreNotersSeated recorder seats → From 0 seats
from_seated recorder seats h k x e = subst (λ m. AllOf m x.noted) (omega arith) (h k x e).3

pub noted_past : (recorder : RecorderId) (seats : List (Option Noter)) (k : ℕ) → AreNotersSeated recorder seats
    → recorder.workers ≤ k → of_worker k (noted_on_all seats) ≡ []
noted_past recorder seats k h le = noted_none 0 k k seats (omega arith) (from_seated recorder seats h)
    (λ x e. let f = (h k x e).2 in omega arith)

pub put_step : (port other n k count : ℕ) (v u : Knowledge) → v ≡ knowledge false [] n 0 k v.noted → IsWorkers k count u
    → u.workers ≡ n
    → Merges FitsPasses port v other u (with_last v u) nobody
put_step port other n k count v u is seat many =
    let a : v.from ≡ 0 = ap (λ (h : Knowledge). h.from) is in
    let b : v.below ≡ k = ap (λ (h : Knowledge). h.below) is in
    let c : u.from ≡ k = ap (λ (h : Knowledge). h.from) seat.0 in let d : u.below ≡ suc k =
    ap (λ (h : Knowledge). h.below) seat.0 in
    let e : v.workers ≡ n = ap (λ (h : Knowledge). h.workers) is in
    merges port v other u (omega arith) (omega arith) (omega arith) (many ∙ sym e)

-- what `cut` gives fits its place
fresh_by : (recorder : RecorderId) (k : ℕ) (x : Noter) (b : Bool) → (b ≡ true → k < recorder.workers)
    → (if b then Some record { recorder = recorder; worker = k; noted = [] } else None) ≡ Some x
    → IsNoterOf recorder k x
fresh_by recorder k x true lt e = let s : Noter = record { recorder = recorder; worker = k; noted = [] } in let same : s
    ≡ x = let f : Some s ≡ Some x = e in cc in
    subst (IsNoterOf recorder k) same (refl, refl, lt refl, tt)
fresh_by recorder k x false lt e = absurd (let f : None ≡ Some x = e in cc)

pub fresh_seated : (recorder : RecorderId) → AreNotersSeated recorder (fresh_places recorder).seats
fresh_seated recorder = seated_by (IsNoterOf recorder) (fresh_noter recorder)
    (λ k x e. fresh_by recorder k x (nat_lt k recorder.workers) (ltb-true k recorder.workers) e)

-- a seat that lies at its place is of its recorder, and of the worker of that number
pub own_at : {t u : TableId} (n : ℕ) (seats : List (Option Noter)) (w : ℕ) → t ≡ u
    → AreNotersSeated (recorder_id t n) seats
    → IfSome (get_or seats w None) (IsNoterOf (recorder_id u n) w)
own_at {t} {u} n seats w e h = subst (λ v. IfSome (get_or seats w None) (IsNoterOf (recorder_id v n) w)) e
    (own_of (IsNoterOf (recorder_id t n)) seats w (get_or seats w None) h refl)

-- what holds of the values that contracts see holds of the fields
pub tied : {p q : Places} {d e : Desk} → p ≡ q → q.recorder ≡ e.recorder → d ≡ e → p.recorder.table ≡ d.recorder.table
tied at own is = ap (λ (p : Places). p.recorder.table) at ∙ ap (λ (r : RecorderId). r.table) own
    ∙ sym (ap (λ (d : Desk). d.recorder.table) is)
