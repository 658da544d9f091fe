-- Every schedule is serial in the order of its ticks, which keeps the parallelBatches.
use Rattle.std.proofs.Common.{◌≡◌, ℕ, zero, suc, ◌<◌, ◌≤◌, true, false, ◌==◌, nat_lt, List, [], ◌∷◌, ◌++◌, map, length}
use Rattle.std.proofs.Common.{count_by, refl, sym, subst, ap, ◌∙◌, ◌⊎◌, inl, inr, IsTrue, arith}
use Rattle.std.specs.Prelude.{IsPermutation}
use Rattle.std.specs.List.{AllByRecursion, list_any}
use Rattle.std.proofs.lemmas.Bool.{cases_Bool, cases_lt, and_left, eqb-true}
use Rattle.std.proofs.lemmas.List.{append-nil}
use Rattle.eve_smallbank.specs.Access.{Executed, bank_of, Fits}
use Rattle.eve_smallbank.specs.Chain.{Table, table_after, values_of, visible_at}
use Rattle.eve_smallbank.specs.Conflict.{entry_precedes, precedes, AgreesWithConflicts}
use Rattle.eve_smallbank.proofs.Members.{In, here, there, all_in, list_any-none, in_after, reordering_map}
use Rattle.eve_smallbank.proofs.Chains.{Follows, chain_follows, run_along}
use Rattle.eve_smallbank.proofs.FittingRecords.{always_fits}
use Rattle.eve_smallbank.proofs.Orders.{StandsAbove, stands_above_head, later_precedes_not, reordered}
use Rattle.eve_grammar.specs.Certificate.{group_of, keeps_groups}
use Rattle.eve_stamps.specs.Applied.{Applied}
use Rattle.eve_stamps_schedule.specs.declared.stage.Stage.{Stage}
use Rattle.eve_stamps_schedule.specs.declared.stage.Stage.TheVariants as at
use Rattle.eve_stamps.specs.OpeningRows.{stripe_of}
use Rattle.eve_stamps_schedule.specs.ListOrder.{EachBefore}
use Rattle.eve_stamps_schedule.specs.World.{Plan, World, planned_request, executed_record, noted_count, pending}
use Rattle.eve_stamps_schedule.specs.World.{records_at, records_below, noted_below}
use Rattle.eve_stamps_schedule.specs.Events.{needs_at}
use Rattle.eve_stamps_schedule.specs.Serial.{IsReachedWorld, executed_so_far, IsSerialWorld, order_of, is_done}
use Rattle.eve_stamps_schedule.specs.Serial.{IsComplete}
use Rattle.eve_stamps_schedule.proofs.Changes.{below_itself}
use Rattle.eve_stamps_schedule.proofs.WorldInvariant.{flag, held, is_busy, has_index, Share, Bound, IsMade, executed}
use Rattle.eve_stamps_schedule.proofs.WorldInvariant.{Holds}
use Rattle.eve_stamps_schedule.proofs.WorldInvariant.{IsKept}
use Rattle.eve_stamps_schedule.proofs.CommonStripes.{in_map, needed_by, stripe_below}
use Rattle.eve_stamps_schedule.proofs.ReachedWorlds.{kept_after}
use Rattle.eve_stamps_schedule.proofs.KeptGroups.{keeps}

-- ---- the order of ticks

-- one before the other
data Before {A : Type 0} (x y : A) : List A → Type 0 where
  first : {xs : List A} → In y xs → Before x y (x ∷ xs)
  later : {z : A} {xs : List A} → Before x y xs → Before x y (z ∷ xs)

-- two members are the same, or one stands before the other
which_first : {A : Type 0} {x y : A} {xs : List A} → In x xs → In y xs → (x ≡ y) ⊎ (Before x y xs ⊎ Before y x xs)
which_first here here = inl refl
which_first here (there j) = inr (inl (first j))
which_first (there i) here = inr (inr (first i))
which_first (there i) (there j) =
    elim (which_first i j) [
      | inl e ↦ inl e
      | inr r ↦ elim r [ inl p ↦ inr (inl (later p)) | inr p ↦ inr (inr (later p)) ]
    ]

each_at : {A : Type 0} (R : A → A → Type 0) (x y : A) (xs : List A) → EachBefore R xs → Before x y xs → R x y
each_at R x y [] each before = elim before [ ]
each_at R x y (z ∷ xs) each (first i) = all_in (R x) each.0 i
each_at R x y (z ∷ xs) each (later before) = each_at R x y xs each.1 before

above_before : (p : Plan) (table : Table) (x y : Applied) (xs : List Applied) → Follows table (executed p xs)
    → Before x y xs → StandsAbove (executed_record p x) (executed_record p y)
above_before p table x y [] follows before = elim before [ ]
above_before p table x y (z ∷ xs) follows (first i) = stands_above_head table (executed_record p x)
    (executed_record p y)
    (executed p xs) follows (in_map (executed_record p) i)
above_before p table x y (z ∷ xs) follows (later before) = above_before p (table_after table z.entries) x y xs follows.1
    before

both_below : {m n : ℕ} → m < n → n < m → ⊥
both_below h k = omega arith

-- records that share no stripe have no row in common
strangers : (p : Plan) (x y : Applied) → IsMade p x → IsMade p y → ¬ Share p x.index y.index
    → precedes (executed_record p y) (executed_record p x) ≡ false
strangers p x y mx my none =
    list_any-none (λ f. list_any (entry_precedes f) x.entries) y.entries
    (λ f j. list_any-none (entry_precedes f) x.entries (λ e i.
    elim (cases_Bool (f.row == e.row)) [
      | inl same ↦ absurd (none (
        stripe_of e.row,
        stripe_below e.row,
        needed_by p x mx e i,
        subst (λ r. needs_at p y.index (stripe_of r) ≡ true) (eqb-true f.row e.row same) (needed_by p y my f j),
      ))
      | inr other ↦ and_left (f.row == e.row) _ other
    ]))

-- of two applied records the one with the greater tick doesn't precede the other
agreeing : (p : Plan) (w : World) (h : List Applied) → Holds p w h → (x y : Applied) → In x h → In y h → x.tick < y.tick
    → precedes (executed_record p y) (executed_record p x) ≡ false
agreeing p w h holds x y i j less =
    elim (which_first i j) [
      | inl e ↦ absurd (below_itself (ap (λ (z : Applied). z.tick) e) less)
      | inr r ↦ elim r [
        | inl before ↦ later_precedes_not (executed_record p x) (executed_record p y)
            (above_before p (visible_at p.base []) x y h holds.follows before)
        | inr after ↦ strangers p x y (all_in (IsMade p) holds.made i) (all_in (IsMade p) holds.made j)
            (λ share. both_below (each_at (λ a b. Bound p a.index b.index → a.tick < b.tick) y x h holds.ordered after
            (inl (share.0, share.1, share.3, share.2))) less)
      ]
    ]

-- and it isn't of an earlier parallelBatch
in_turn : (p : Plan) (w : World) (h : List Applied) → Holds p w h → (x y : Applied) → In x h → In y h → x.tick < y.tick
    → group_of p.sizes x.index ≤ group_of p.sizes y.index
in_turn p w h holds x y i j less =
    elim (which_first i j) [
      | inl e ↦ absurd (below_itself (ap (λ (z : Applied). z.tick) e) less)
      | inr r ↦ elim r [
        | inl before ↦ each_at (λ a b. group_of p.sizes a.index ≤ group_of p.sizes b.index) x y h holds.grouped before
        | inr after ↦ elim (cases_lt (group_of p.sizes y.index) (group_of p.sizes x.index)) [
          | inl low ↦ absurd (both_below
              (each_at (λ a b. Bound p a.index b.index → a.tick < b.tick) y x h holds.ordered after (inr low)) less)
          | inr high ↦ high
        ]
      ]
    ]

-- what holds of two by rising tick holds along the list
along : {B : Type 0} (f : Applied → B) (R : B → B → Type 0) (xs : List Applied) → EachBefore (λ x y. x.tick < y.tick) xs
    → ((x y : Applied) → In x xs → In y xs → x.tick < y.tick → R (f x) (f y)) → EachBefore R (map f xs)
along f R [] rise h = tt
along {B} f R (x ∷ xs) rise h = (
  all_mapped xs (λ y i. h x y here (there i) (all_in (λ z. x.tick < z.tick) rise.0 i)),
  along f R xs rise.1 (λ y z i j. h y z (there i) (there j)),
)
  where
    all_mapped : (ys : List Applied) → ((y : Applied) → In y ys → R (f x) (f y)) → AllByRecursion (R (f x)) (map f ys)
    all_mapped [] k = tt
    all_mapped (y ∷ ys) k = (k y here, all_mapped ys (λ z i. k z (there i)))

-- no later request precedes an earlier one
agrees : (xs : List Executed) → EachBefore (λ x y. precedes y x ≡ false) xs → AgreesWithConflicts xs
agrees [] each = tt
agrees (x ∷ xs) each = (each.0, agrees xs each.1)

fitting : (p : Plan) (xs : List Applied) → ((x : Applied) → In x xs → IsMade p x)
    → AllByRecursion (Fits p.names) (executed p xs)
fitting p [] made = tt
fitting p (x ∷ xs) made = (
  subst (Fits p.names) (sym (made x here).1) (always_fits p.names (made x here).0 (planned_request p x.index)),
  fitting p xs (λ y i. made y (there i)),
)

serial_kept : (p : Plan) (w : World) → IsKept p w → IsSerialWorld p w
serial_kept p w kept =
    let holds = kept.holds in
    let member : (x : Applied) → In x w.applied → In x kept.history =
    λ x i. in_after w.applied kept.history kept.same i in
    let fit = fitting p w.applied (λ x i. all_in (IsMade p) holds.made (member x i)) in
    let same = reordered (visible_at p.base []) (executed_so_far p w) (executed p kept.history)
    (reordering_map (executed_record p) w.applied kept.history kept.same)
    (agrees (executed_so_far p w) (along (executed_record p) (λ x y. precedes y x ≡ false) w.applied kept.rises
    (λ x y i j less. agreeing p w kept.history holds x y (member x i) (member y j) less))) holds.follows in
    record {
      rises = kept.rises;
      fits = fit;
      chained = chain_follows p.base [] (executed_so_far p w) same.0;
      runs = run_along p.names (visible_at p.base []) (executed_so_far p w) fit same.0
          ∙ ap (λ (t : Table). (bank_of p.names (values_of t), map (λ x. x.reply) (executed_so_far p w)))
          (sym (holds.table ∙ same.1));
    }

-- ---- when all is noted

idle_has_none : (i : ℕ) (stage : Stage) → flag (is_busy stage) ≡ 0 → flag (has_index i stage) ≡ 0
idle_has_none i at.Idle h = refl
idle_has_none i (at.Claimed j) h = absurd (omega (arith, h))
idle_has_none i (at.Ticked j n) h = absurd (omega (arith, h))
idle_has_none i (at.Applied x) h = refl

no_less : (stages : ℕ → Stage) (i n : ℕ) → held is_busy stages n ≡ 0 → held (has_index i) stages n ≡ 0
no_less stages i zero h = refl
no_less stages i (suc n) h =
    let here : flag (is_busy (stages n)) ≡ 0 = omega (arith, h) in
    let before : held is_busy stages n ≡ 0 = omega (arith, h) in
    omega (arith, no_less stages i n before, idle_has_none i (stages n) here)

idle_done : (p : Plan) (w : World) → IsKept p w → is_done p w ≡ true → held is_busy w.stages p.workers ≡ 0
idle_done p w kept done =
    let all : noted_count w.noted p.workers ≡ length p.requests = eqb-true (noted_count w.noted p.workers)
    (length p.requests) done in
    omega (arith, all, kept.counts.claimed, kept.counts.within)

idle_waits_for_none : (stage : Stage) → flag (is_busy stage) ≡ 0 → pending stage ≡ []
idle_waits_for_none at.Idle h = refl
idle_waits_for_none (at.Claimed j) h = refl
idle_waits_for_none (at.Ticked j n) h = refl
idle_waits_for_none (at.Applied x) h = absurd (omega (arith, h))

-- where no worker is busy, all of their records are noted
all_noted : (w : World) (n : ℕ) → held is_busy w.stages n ≡ 0 → records_below w n ≡ noted_below w n
all_noted w zero h = refl
all_noted w (suc n) h =
    let here : flag (is_busy (w.stages n)) ≡ 0 = omega (arith, h) in
    let before : held is_busy w.stages n ≡ 0 = omega (arith, h) in
    ap (λ xs. xs ++ records_at w n) (all_noted w n before)
    ∙ ap (λ xs. noted_below w n ++ (w.noted n ++ xs)) (idle_waits_for_none (w.stages n) here)
    ∙ ap (λ ys. noted_below w n ++ ys) (append-nil (w.noted n))

groups_kept : (p : Plan) (w : World) → IsKept p w → is_done p w ≡ true
    → IsTrue (keeps_groups p.sizes (length p.requests) (order_of w))
groups_kept p w kept done =
    let all : noted_count w.noted p.workers ≡ length p.requests = eqb-true (noted_count w.noted p.workers)
    (length p.requests) done in
    let idle : held is_busy w.stages p.workers ≡ 0 = idle_done p w kept done in
    let claimed : w.claimed ≡ length p.requests = omega (arith, all, kept.counts.claimed, kept.counts.within) in
    keeps p.sizes (length p.requests) (order_of w)
    (λ i.
    let none = no_less w.stages i p.workers idle in
    let once : count_by (λ j. j == i) (order_of w) ≡ flag (nat_lt i w.claimed) =
    omega (arith, none, kept.counts.indexes i) in
    once ∙ ap (λ k. flag (nat_lt i k)) claimed)
    (along (λ x. x.index) (λ i j. group_of p.sizes i ≤ group_of p.sizes j) w.applied kept.rises
    (λ x y i j less. in_turn p w kept.history kept.holds x y (in_after w.applied kept.history kept.same i)
    (in_after w.applied kept.history kept.same j) less))

-- ---- of reached worlds

pub reached_kept : (p : Plan) (w : World) → IsReachedWorld p w → IsKept p w
reached_kept p w reached = subst (IsKept p) (sym reached.world) (kept_after p reached.events reached.allowed)

pub serial : (p : Plan) (w : World) → IsReachedWorld p w → IsSerialWorld p w
serial p w reached = serial_kept p w (reached_kept p w reached)

pub gathered : (p : Plan) (w : World) → IsReachedWorld p w → IsPermutation (records_below w p.workers) w.applied
gathered p w reached = (reached_kept p w reached).gathered

pub complete : (p : Plan) (w : World) → IsReachedWorld p w → IsTrue (is_done p w) → IsComplete p w
complete p w reached done = record {
  noted = subst (λ xs. IsPermutation xs w.applied)
      (all_noted w p.workers (idle_done p w (reached_kept p w reached) done)) (gathered p w reached);
  groups = groups_kept p w (reached_kept p w reached) done;
}
