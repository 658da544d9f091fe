-- The steps of one seat.
use Rattle.std.proofs.Common.{◌≡◌, ℕ, suc, ◌+◌, ◌≤◌, ◌<◌, true, false, cond, eq-eqb, List, [], ◌∷◌, ◌++◌, length, sym}
use Rattle.std.proofs.Common.{refl, ap, ◌∙◌, subst, length-append, append-nil, arith, ◌⊎◌, inl, inr, Option, None, Some}
use Rattle.std.specs.Prelude.{IfSome, IfNone}
use Rattle.std.specs.Option.{MatchOption}
use Rattle.std.proofs.lemmas.Bool.{cases_lt}
use Rattle.std.proofs.lemmas.List.{nil_from_length}
use Rattle.atomic_table.specs.Seated.{TableId}
use Rattle.crossbeam_queue.specs.Fifo.{Pops, Learns, Held}
use Rattle.eve_recorder.specs.declared.passes.Knowledge.{Knowledge}
use Rattle.eve_stamps.specs.Applied.{Applied}
use Rattle.eve_recorder.specs.Noted.{of_worker, AllOf, IsOrderly, ComeFrom}
use Rattle.eve_recorder.specs.QueueRule.{knowledge, FitsPasses, IsWorkers, noting, taking, TakesPrefix, SeesSome}
use Rattle.eve_recorder.specs.QueueRule.{StandsFor}
use Rattle.eve_recorder.specs.QueueRule.{SeesAll, KnowsOf}
use Rattle.eve_recorder.specs.RecorderViews.{RecorderId, recorder_id, Desk, Noter, Taker, NotedAndTaken, WasFull}
use Rattle.eve_recorder.proofs.QueueSteps.{whose_is, come_rest, takes, learns_all}

pub all_of-of_worker : (w : ℕ) (xs : List Applied) → AllOf w xs → of_worker w xs ≡ xs
all_of-of_worker w [] h = refl
all_of-of_worker w (x ∷ xs) h = ap (λ b. cond b (x ∷ of_worker w xs) (of_worker w xs)) (eq-eqb x.worker w h.0)
    ∙ ap (λ l. x ∷ l) (all_of-of_worker w xs h.1)

pub all_of_snoc : (w : ℕ) (xs : List Applied) (x : Applied) → AllOf w xs → x.worker ≡ w → AllOf w (xs ++ x ∷ [])
all_of_snoc w [] x h e = (e, tt)
all_of_snoc w (y ∷ xs) x h e = (h.0, all_of_snoc w xs x h.1 e)

-- a worker's next record is due on its pass
pub note_due : (w count : ℕ) (v : Knowledge) (x : Applied) → IsWorkers w count v → x.worker ≡ w
    → x.place ≡ length v.noted
    → StandsFor v x.worker × (x.place ≡ length (of_worker x.worker v.noted))
note_due w count v x is e place =
    let from : v.from ≡ w = ap (λ (h : Knowledge). h.from) is.0 in
    let below : v.below ≡ suc w = ap (λ (h : Knowledge). h.below) is.0 in
    let due : x.place ≡ length (of_worker x.worker v.noted) = place
    ∙ ap length (sym (ap (λ k. of_worker k v.noted) e ∙ all_of-of_worker w v.noted is.4)) in
    (omega arith, due)

pub seat_after : (w count : ℕ) (v u : Knowledge) (x : Applied) → IsWorkers w count v → x.worker ≡ w → u ≡ noting v x
    → IsWorkers w (count + 1) u
seat_after w count v u x is e after =
    let noted : u.noted ≡ v.noted ++ x ∷ [] = ap (λ (h : Knowledge). h.noted) after in
    let workers : u.workers ≡ v.workers = ap (λ (h : Knowledge). h.workers) after in (
      after ∙ ap (λ (h : Knowledge). knowledge h.takes h.taken h.workers h.from h.below (v.noted ++ x ∷ [])) is.0
          ∙ (λ i. knowledge false [] (sym workers i) w (suc w) (sym noted i)),
      omega (arith, is.1),
      omega (arith, is.2),
      ap (λ k. k + 1) is.3 ∙ sym (length-append v.noted (x ∷ [])) ∙ ap length (sym noted),
      subst (AllOf w) (sym noted) (all_of_snoc w v.noted x is.4 e),
    )

-- a list of one worker's records alone is that worker's
of_one : (xs : List Applied) → ComeFrom 1 xs → length (of_worker 0 xs) ≡ length xs
of_one [] h = refl
of_one (x ∷ xs) h = let lt = whose_is 1 [] xs x h in let is : x.worker ≡ 0 = omega arith in
    ap (λ b. length (cond b (x ∷ of_worker 0 xs) (of_worker 0 xs))) (eq-eqb x.worker 0 is)
    ∙ ap suc (of_one xs (come_rest 1 x xs h))

abbrev pub noter_of : TableId → ℕ → Knowledge → Noter
noter_of table w v = record { recorder = recorder_id table v.workers; worker = w; noted = v.noted }

-- what is learned where the queue is full
pub full_by : (desk : Desk) (table : TableId) (w count : ℕ) (v : Knowledge) → IsWorkers w count v
    → recorder_id table v.workers ≡ desk.recorder
    → Held desk.room (SeesSome v) → WasFull desk (noter_of table w v)
full_by desk table w count v is own held =
    let from : v.from ≡ w = ap (λ (h : Knowledge). h.from) is.0 in
    let below : v.below ≡ suc w = ap (λ (h : Knowledge). h.below) is.0 in
    let sees = held.2 in let mine = sees.2 w (omega arith, omega arith) in (
      sees.0,
      held.0,
      held.1,
      sees.1,
      subst (λ n. ComeFrom n (sees.0 ++ held.0)) (ap (λ (r : RecorderId). r.workers) own) mine.1,
      sym mine.0 ∙ all_of-of_worker w v.noted is.4,
    )

-- where there is one worker, a full queue holds its records alone
pub full_alone : (desk : Desk) (seat : Noter) → WasFull desk seat → seat.worker < desk.recorder.workers
    → desk.recorder.workers ≡ 1 → desk.room ≤ length seat.noted
full_alone desk seat full lt one =
    let all = full.0 ++ full.1 in
    let mine = of_one all (subst (λ n. ComeFrom n all) one full.4) in
    let is : seat.worker ≡ 0 = omega arith in
    let whole : length (of_worker 0 all) ≡ length seat.noted = ap (λ k. length (of_worker k all)) (sym is)
    ∙ ap length full.5 in
    omega (arith, mine, whole, full.2, length-append full.0 full.1)

pub take_step : (port : ℕ) (v : Knowledge) → v.takes ≡ true
    → Pops FitsPasses port v (λ x u. (u ≡ taking v x) × IsOrderly u.taken × TakesPrefix u × (x.worker < v.workers))
    × Learns FitsPasses port v (SeesAll v)
take_step port v may = (takes port v may, learns_all port v may)

-- what is said of a record that was taken, and what is said where there was none
pub where_taken : {A : Type 0} {P Q : A → Type 0} (N : Type 0) (r : Option A) → ((x : A) → P x → Q x)
    → MatchOption r N P → IfSome r Q
where_taken N None f m = tt
where_taken N (Some x) f m = f x m

pub where_none : {A : Type 0} {N M : Type 0} (P : A → Type 0) (r : Option A) → (N → M) → MatchOption r N P → IfNone r M
where_none P None f m = f m
where_none P (Some x) f m = tt

abbrev pub taker_of_pass : TableId → Knowledge → Taker
taker_of_pass table v = record { recorder = recorder_id table v.workers; taken = v.taken }

abbrev pub left_of_pass : Knowledge → NotedAndTaken
left_of_pass v = record { noted = v.noted; taken = v.taken }

abbrev pub taken_on : Taker → Applied → Taker
taken_on seat x = record { recorder = seat.recorder; taken = seat.taken ++ x ∷ [] }

abbrev pub taken_of : NotedAndTaken → Applied → NotedAndTaken
taken_of left x = record { noted = left.noted; taken = left.taken ++ x ∷ [] }

-- a seat on which one more was taken
pub taker_after : (table then : TableId) (v u : Knowledge) (x : Applied) (seat : Taker) → then ≡ table → u ≡ taking v x
    → taker_of_pass table v ≡ seat
    → taker_of_pass then u ≡ taken_on seat x
taker_after table then v u x seat same after is =
    ap (λ t. taker_of_pass t u) same ∙ ap (taker_of_pass table) after
    ∙ ap (λ s. taken_on s x) is

-- a seat on which nothing more was taken
pub taker_same : (table then : TableId) (v u : Knowledge) (seat : Taker) → then ≡ table → u ≡ v
    → taker_of_pass table v ≡ seat → taker_of_pass then u ≡ seat
taker_same table then v u seat same after is = ap (λ t. taker_of_pass t u) same ∙ ap (taker_of_pass table) after ∙ is

-- what is left where one more was taken
pub left_after : (v u : Knowledge) (x : Applied) (left : NotedAndTaken) → u ≡ taking v x → left_of_pass v ≡ left
    → left_of_pass u ≡ taken_of left x
left_after v u x left after is = ap left_of_pass after ∙ ap (λ l. taken_of l x) is

-- what is left where nothing is queued: all that was noted is taken
pub all_taken : (v : Knowledge) (left : NotedAndTaken) → v ≡ knowledge true v.taken v.workers 0 v.workers v.noted
    → Held 0 (SeesAll v) → left_of_pass v ≡ left → (w : ℕ) → of_worker w left.noted ≡ of_worker w left.taken
all_taken v left whole held is w =
    let none : v.taken ++ held.0 ≡ v.taken = ap (λ l. v.taken ++ l) (nil_from_length held.0 held.1)
    ∙ append-nil v.taken in
    ap (λ (l : NotedAndTaken). of_worker w l.noted) (sym is)
    ∙ held.2.1 w (knows (cases_lt w v.workers)) ∙ ap (of_worker w) none
    ∙ ap (λ (l : NotedAndTaken). of_worker w l.taken) is
  where
    from : v.from ≡ 0
    from = ap (λ (h : Knowledge). h.from) whole

    below : v.below ≡ v.workers
    below = ap (λ (h : Knowledge). h.below) whole

    knows : (w < v.workers) ⊎ (v.workers ≤ w) → KnowsOf v w
    knows (inl there) = inl (omega (arith, from), omega (arith, below))
    knows (inr absent) = inr absent
