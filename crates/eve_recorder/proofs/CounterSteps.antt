-- Each step keeps the rule over the counter and all seats.
use Rattle.std.proofs.Common.{◌≡◌, ℕ, zero, suc, ◌+◌, ◌*◌, ◌%◌, ◌^◌, ◌≤◌, ◌<◌, List, [], ◌∷◌, ◌++◌, length, set, All}
use Rattle.std.proofs.Common.{sum_by, sym, refl, ap, ◌∙◌, subst, ⊎_elim, length-append, arith}
use Rattle.std.specs.Prelude.{slice_index}
use Rattle.std.proofs.lemmas.Bool.Decides.{nat_tests}
use Rattle.std.proofs.lemmas.List.Elements.{All-append}
use Rattle.std.proofs.lemmas.List.Sums.{sum_by-append, sum_by-cons, sum_by_push}
use mathlib.Core.Option.{some, some-injective, some-ne-none}
use lib.ListN.{get_elem?}
use native.Mathlib.Nat.{mod-eq_of_lt}
use Rattle.atomic_table.specs.Table.{State, Me, Step, Allows, Splits, Joins, keeps}
use Rattle.atomic_table.proofs.Lists.{at_set, at_snoc, set_else}
use Rattle.eve_recorder.specs.declared.drawn.Drawn.{Drawn}
use Rattle.eve_recorder.specs.declared.limits.TheConstants.{MOST_DRAWN}
use Rattle.eve_recorder.specs.CounterRule.{drawn, all_parts, times, once_below, IsFair, AreBelow, IsDealt, Draws, fewer}
use Rattle.eve_recorder.specs.CounterRule.{one_part, drawn_by_both, spent}
use Rattle.eve_recorder.specs.TicketViews.{Drawer, ticket_source}
use Rattle.atomic_table.specs.Seated.{TableId}

sum_set : (f : Drawn → ℕ) (views : List Drawn) (p : ℕ) (v w : Drawn) → get_elem? views p ≡ some v
    → sum_by f (set views p w) + f v ≡ sum_by f views + f w
sum_set f [] p v w e = absurd (some-ne-none v (sym e))
sum_set f (y ∷ ys) zero v w e = let same = ap f (some-injective y v e) in
    omega (arith, sum_by-cons f y ys, sum_by-cons f w ys)
sum_set f (y ∷ ys) (suc p) v w e = let h = sum_set f ys p v w e in
    omega (arith, sum_by-cons f y ys, sum_by-cons f y (set ys p w))

times-append : (x : ℕ) (xs ys : List ℕ) → times x (xs ++ ys) ≡ times x xs + times x ys
times-append x xs ys = sum_by-append _ xs ys

once_more : (x n : ℕ) → once_below x n + times x (n ∷ []) ≡ once_below x (n + 1)
once_more x n = grind (arith, nat_tests)

none_below : (n : ℕ) → All (λ x. x < n) []
none_below n k d h = absurd (omega arith)

below_more : (n m : ℕ) (xs : List ℕ) → n ≤ m → All (λ x. x < n) xs → All (λ x. x < m) xs
below_more n m xs le h k d lt = let a = h k d lt in omega arith

below_one : (n m : ℕ) → n < m → All (λ x. x < m) (n ∷ [])
below_one n m lt zero d h = lt
below_one n m lt (suc k) d h = absurd (omega arith)

fair_total : (n : ℕ) (views : List Drawn) → ((p : ℕ) (v : Drawn) → get_elem? views p ≡ some v → IsFair n v)
    → sum_by (λ v. length v.numbers) views ≤ sum_by (λ v. v.parts) views * MOST_DRAWN
fair_total n [] h = omega arith
fair_total n (y ∷ ys) h = let a = (h zero y refl).0 in let b = fair_total n ys (λ p v e. h (suc p) v e) in
    omega (arith, sum_by-cons (λ (v : Drawn). length v.numbers) y ys, sum_by-cons (λ (v : Drawn). v.parts) y ys)

abbrev pub Each : (Drawn → Type 0) → List Drawn → Type 0
Each F views = (p : ℕ) (v : Drawn) → get_elem? views p ≡ some v → F v

each_set : (F : Drawn → Type 0) (views : List Drawn) (p : ℕ) (w : Drawn) → F w → Each F views → Each F (set views p w)
each_set F views p w mine others j u e = ⊎_elim (λ x. subst F x.1 mine) (λ x. others j u x.1) (at_set views p j w u e)

each_more : (F : Drawn → Type 0) (views : List Drawn) (w : Drawn) → F w → Each F views → Each F (views ++ w ∷ [])
each_more F views w mine others j u e = ⊎_elim (λ x. others j u x) (λ x. subst F x mine) (at_snoc views w u j e)

fair_more : (n m : ℕ) (views : List Drawn) → n ≤ m → Each (IsFair n) views → Each (IsFair m) views
fair_more n m views le h p v e = let f = h p v e in (f.0, below_more n m v.numbers le f.1)

few_drawn : (n : ℕ) (views : List Drawn) → AreBelow n views → n ≤ all_parts * MOST_DRAWN
few_drawn n views d = let a = fair_total n views d.3 in let p = d.0 in let q = d.1 in omega arith

pub draws : {S : Type 0} (t : Step S) (slots seat : ℕ) (me : Me S Drawn) → length me.0.numbers < me.0.parts * MOST_DRAWN
    → Allows IsDealt slots seat me 0 (λ n. (n + 1) % 2 ^ 64) (Draws t me)
draws {S} t slots seat me room s h len at small =
    let n = h.0 in let i = slice_index s.words 0 in let d = h.2 in
    let is : i ≡ n = ap (λ l. slice_index l 0) h.1 in
    let v : Drawn = me.0 in let w : Drawn = drawn v.parts (v.numbers ++ i ∷ []) in
    let mine = d.3 seat v at in
    let few : n ≤ all_parts * MOST_DRAWN = few_drawn n s.views d in
    let next : (i + 1) % 2 ^ 64 ≡ n + 1 = mod-eq_of_lt (omega arith) ∙ ap (λ k. k + 1) is in
    let fair : IsFair (n + 1) w = (
      (let e = length-append v.numbers (i ∷ []) in omega arith),
      All-append (λ x. x < n + 1) v.numbers (i ∷ [])
          (below_more n (n + 1) v.numbers (omega arith) mine.1) (below_one i (n + 1) (omega arith)),
    ) in (
      w,
      keeps,
      tt,
      (
        n + 1,
        ap (λ l. set l 0 ((i + 1) % 2 ^ 64)) h.1 ∙ ap (λ k. k ∷ []) next,
        (
          (let e = sum_set (λ u. u.parts) s.views seat v w at in let p = d.0 in omega arith),
          (let e = sum_set (λ u. length u.numbers) s.views seat v w at in let p = d.1 in let q = length-append v.numbers
              (i ∷ []) in omega arith),
          (λ x. let e = sum_set (λ u. times x u.numbers) s.views seat v w at in let p = d.2 x in
              let q = times-append x v.numbers (i ∷ []) in
              let o = once_more x n in let r = ap (λ k. times x (k ∷ [])) is in omega arith),
          each_set (IsFair (n + 1)) s.views seat w fair (fair_more n (n + 1) s.views (omega arith) d.3),
        ),
      ),
      (refl, subst (λ k. All (λ x. x < k) v.numbers) (sym is) mine.1),
    )

pub splits : {S : Type 0} (seat : ℕ) (v : Drawn) → 0 < v.parts → v.numbers ≡ []
    → Splits {S = S} IsDealt seat v (fewer v) (one_part v)
splits seat v some_part none s h at =
    let n = h.0 in let d = h.2 in let l = fewer v in let r = one_part v in let vs = set s.views seat l in
    let fair : IsFair n l = subst (λ k. (length k ≤ l.parts * MOST_DRAWN) × All (λ x. x < n) k) (sym none)
    (omega arith, none_below n) in (
      n,
      h.1,
      (
        (let e = sum_set (λ u. u.parts) s.views seat v l at in let f = sum_by_push (λ u. u.parts) vs r in let p = d.0 in
            omega arith),
        (let e = sum_set (λ u. length u.numbers) s.views seat v l at in let f = sum_by_push (λ u. length u.numbers) vs r
            in let p = d.1 in omega arith),
        (λ x. let e = sum_set (λ u. times x u.numbers) s.views seat v l at in
            let f = sum_by_push (λ u. times x u.numbers) vs r in let p = d.2 x in omega arith),
        each_more (IsFair n) vs r (omega arith, none_below n) (each_set (IsFair n) s.views seat l fair d.3),
      ),
    )

pub joins : {S : Type 0} (seat : ℕ) (v : Drawn) (other : ℕ) (w : Drawn)
    → Joins {S = S} IsDealt seat v other w (drawn_by_both v w) spent
joins seat v other w s h at two at' =
    let n = h.0 in let d = h.2 in let b = drawn_by_both v w in let vs = set s.views seat b in
    let mine = d.3 seat v at in let theirs = d.3 other w (sym (set_else s.views seat other b two) ∙ at') in
    let fair : IsFair n b = (
      (let e = length-append v.numbers w.numbers in omega arith),
      All-append (λ x. x < n) v.numbers w.numbers mine.1 theirs.1,
    ) in (
      n,
      h.1,
      (
        (let e = sum_set (λ u. u.parts) s.views seat v b at in let f = sum_set (λ u. u.parts) vs other w spent at' in
            let p = d.0 in omega arith),
        (let e = sum_set (λ u. length u.numbers) s.views seat v b at in let f = sum_set (λ u. length u.numbers) vs other
            w spent at' in let p = d.1 in let q = length-append v.numbers w.numbers in omega arith),
        (λ x. let e = sum_set (λ u. times x u.numbers) s.views seat v b at in
            let f = sum_set (λ u. times x u.numbers) vs other w spent at' in let p = d.2 x in let q =
            times-append x v.numbers w.numbers in omega arith),
        each_set (IsFair n) vs other spent (omega arith, none_below n) (each_set (IsFair n) s.views seat b fair d.3),
      ),
    )

no_numbers : (x : ℕ) (xs : List ℕ) → length xs ≤ 0 → times x xs ≡ 0
no_numbers x [] h = refl
no_numbers x (y ∷ xs) h = absurd (omega arith)

sum_at : (f : Drawn → ℕ) (views : List Drawn) (p : ℕ) (v : Drawn) → get_elem? views p ≡ some v → f v ≤ sum_by f views
sum_at f [] p v e = absurd (some-ne-none v (sym e))
sum_at f (y ∷ ys) zero v e = let same = ap f (some-injective y v e) in omega (arith, sum_by-cons f y ys)
sum_at f (y ∷ ys) (suc p) v e = let h = sum_at f ys p v e in omega (arith, sum_by-cons f y ys)

-- seats with no part have drawn nothing
sum_none : (x n : ℕ) (views : List Drawn) → Each (IsFair n) views → sum_by (λ v. v.parts) views ≡ 0
    → sum_by (λ v. times x v.numbers) views ≡ 0
sum_none x n [] h e = refl
sum_none x n (y ∷ ys) h e =
    let p = sum_by-cons (λ (v : Drawn). v.parts) y ys in let t = sum_by-cons (λ (v : Drawn). times x v.numbers) y ys in
    let a = no_numbers x y.numbers (let f = (h zero y refl).0 in omega arith) in let b =
    sum_none x n ys (λ p v q. h (suc p) v q) (omega arith) in omega arith

-- where one seat has every part, it drew what all seats drew
sum_one : (x n : ℕ) (views : List Drawn) (seat : ℕ) (v : Drawn) → Each (IsFair n) views → get_elem? views seat ≡ some v
    → sum_by (λ v. v.parts) views ≡ v.parts
    → sum_by (λ v. times x v.numbers) views ≡ times x v.numbers
sum_one x n [] seat v h at e = absurd (some-ne-none v (sym at))
sum_one x n (y ∷ ys) zero v h at e =
    let same = some-injective y v at in let p = ap (λ (u : Drawn). u.parts) same in let q =
    ap (λ (u : Drawn). times x u.numbers) same in
    let r = sum_by-cons (λ (v : Drawn). v.parts) y ys in let t = sum_by-cons (λ (v : Drawn). times x v.numbers) y ys in
    let a = sum_none x n ys (λ p v q. h (suc p) v q) (omega arith) in omega arith
sum_one x n (y ∷ ys) (suc seat) v h at e =
    let r = sum_by-cons (λ (v : Drawn). v.parts) y ys in let t = sum_by-cons (λ (v : Drawn). times x v.numbers) y ys in
    let s = sum_at (λ (u : Drawn). u.parts) ys seat v at in
    let a = no_numbers x y.numbers (let f = (h zero y refl).0 in omega arith) in
    let b = sum_one x n ys seat v (λ p v q. h (suc p) v q) at (omega arith) in omega arith

pub closes : {S : Type 0} (s : State S Drawn) (seat n : ℕ) (v : Drawn) → IsDealt s → get_elem? s.views seat ≡ some v
    → v.parts ≡ all_parts → get_elem? s.words 0 ≡ some n → (x : ℕ) → times x v.numbers ≡ once_below x n
closes s seat n v h at all word x =
    let d = h.2 in let is : h.0 ≡ n = some-injective h.0 n (ap (λ l. get_elem? l 0) (sym h.1) ∙ word) in
    sym (sum_one x h.0 s.views seat v d.3 at (d.0 ∙ sym all)) ∙ d.2 x ∙ ap (λ k. once_below x k) is

abbrev pub drawer_of : TableId → ℕ → ℕ → ℕ → List ℕ → Drawer
drawer_of table number seats limit numbers =
    record { tickets = ticket_source table seats limit; number = number; drawn = numbers }

abbrev pub drawn_more : Drawer → ℕ → Drawer
drawn_more seat n = record { tickets = seat.tickets; number = seat.number; drawn = seat.drawn ++ n ∷ [] }

-- a seat on which one more was drawn
pub drawer_after : (table then : TableId) (numbers more : List ℕ) (n number seats limit : ℕ) (seat : Drawer)
    → then ≡ table → more ≡ numbers ++ n ∷ [] → drawer_of table number seats limit numbers ≡ seat
    → drawer_of then number seats limit more ≡ drawn_more seat n
drawer_after table then numbers more n number seats limit seat same grows is =
    ap (λ t. drawer_of t number seats limit more) same ∙ ap (drawer_of table number seats limit) grows
    ∙ ap (λ d. drawn_more d n) is
