-- Public: other crates cite these lemmas. Lists at one of their places, and what holds of each of their items.
use Rattle.std.proofs.Common.{◌≡◌, ℕ, zero, suc, ◌+◌, ◌<◌, Bool, true, false, cond, List, [], ◌∷◌, ◌++◌, map, filter}
use Rattle.std.proofs.Common.{length, get_or, set, take, drop, slice_get, Some, refl, sym, subst, ap, ◌∙◌}
use Rattle.std.proofs.Common.{append-nil, length-append, arith}
use Rattle.std.specs.List.{AllByRecursion}
use Rattle.std.proofs.lemmas.List.{take_all, take_more, drop_all, drop_more}
use Rattle.std.proofs.lemmas.Option.{same_Some, none-some, slice_get_within, get_or_from_slice_get}

-- ---- one of the places

-- there is an item at each place below the length
pub item_within : {A : Type 0} (xs : List A) (i : ℕ) → i < length xs → (x : A) × (slice_get xs i ≡ Some x)
item_within [] i lt = absurd (omega arith)
item_within (x ∷ xs) zero lt = (x, refl)
item_within (x ∷ xs) (suc i) lt = item_within xs i (omega arith)

-- the prefix with one more item is the prefix, and then the item at that place
pub take_one_more : {A : Type 0} (xs : List A) (i : ℕ) (x : A) → slice_get xs i ≡ Some x → take (i + 1) xs
    ≡ take i xs ++ x ∷ []
take_one_more {A} xs i x at =
    take_more xs i x (slice_get_within xs i x at)
    ∙ ap (λ (y : A). take i xs ++ y ∷ []) (get_or_from_slice_get xs i x x at)

-- what stands from a place on is the item there, and then those after it
pub drop_here : {A : Type 0} (xs : List A) (i : ℕ) (x : A) → slice_get xs i ≡ Some x → drop i xs ≡ x ∷ drop (i + 1) xs
drop_here xs i x at = drop_more xs i x (slice_get_within xs i x at)
    ∙ ap (λ (y : _). y ∷ drop (i + 1) xs) (get_or_from_slice_get xs i x x at)

-- of two lists, one after the other, a place within the first has the first's item
pub slice_get-prefix : {A : Type 0} (xs ys : List A) (i : ℕ) → i < length xs → slice_get (xs ++ ys) i ≡ slice_get xs i
slice_get-prefix [] ys i lt = absurd (omega arith)
slice_get-prefix (x ∷ xs) ys zero lt = refl
slice_get-prefix (x ∷ xs) ys (suc i) lt = slice_get-prefix xs ys i (omega arith)

-- an item of the first of two lists is one of both, at the same place
pub get_in_prefix : {A : Type 0} (xs ys : List A) (i : ℕ) (x : A) → slice_get xs i ≡ Some x
    → slice_get (xs ++ ys) i ≡ Some x
get_in_prefix xs ys i x at = slice_get-prefix xs ys i (slice_get_within xs i x at) ∙ at

-- behind the first of two lists stand the items of the second
pub slice_get-behind : {A : Type 0} (xs ys : List A) (i : ℕ) → slice_get (xs ++ ys) (length xs + i) ≡ slice_get ys i
slice_get-behind [] ys i = (let none : 0 + i ≡ i = omega arith in ap (slice_get ys) none)
slice_get-behind (x ∷ xs) ys i =
    let more : suc (length xs) + i ≡ suc (length xs + i) = omega arith in
    ap (slice_get (x ∷ (xs ++ ys))) more ∙ slice_get-behind xs ys i

-- what a mapped list has at a place is made of the item at that place
pub unmapped : {A B : Type 0} (f : A → B) (xs : List A) (i : ℕ) (y : B) → slice_get (map f xs) i ≡ Some y → (x : A)
    × (slice_get xs i ≡ Some x) × (f x ≡ y)
unmapped f [] i y at = absurd (none-some y at)
unmapped f (x ∷ xs) zero y at = (x, refl, same_Some (f x) y at)
unmapped f (x ∷ xs) (suc i) y at = unmapped f xs i y at

-- where an item was written, it stands
pub get_set_same : {A : Type 0} (xs : List A) (i : ℕ) (x : A) → i < length xs → slice_get (set xs i x) i ≡ Some x
get_set_same [] i x lt = absurd (omega arith)
get_set_same (y ∷ xs) zero x lt = refl
get_set_same (y ∷ xs) (suc i) x lt = get_set_same xs i x (omega arith)

-- as many items, written over those of a list, are all of it: a vector that was sorted as a slice
pub whole_slice : {A : Type 0} (xs ys : List A) (n : ℕ) → length ys ≡ length xs → n ≡ length xs
    → take n (ys ++ drop (length ys) xs) ≡ ys
whole_slice xs ys n same many =
    ap (λ (zs : List _). take n (ys ++ zs)) (drop_all (length ys) xs (omega arith)) ∙ ap (take n) (append-nil ys)
    ∙ take_all n ys (omega arith)

-- ---- the first item and the others

-- equal lists have the same first item
pub same_first : {A : Type 0} (x y : A) (xs ys : List A) → x ∷ xs ≡ y ∷ ys → x ≡ y
same_first x y xs ys same = cc

-- equal lists have the same items after the first
pub same_others : {A : Type 0} (x y : A) (xs ys : List A) → x ∷ xs ≡ y ∷ ys → xs ≡ ys
same_others x y xs ys same = cc

-- a list with an item isn't empty
pub no_item : {A : Type 0} (before : List A) (x : A) (rest : List A) → [] ≡ before ++ x ∷ rest → ⊥
no_item before x rest same = omega (arith, ap length same, length-append before (x ∷ rest))

-- a filter keeps a first item that passes its test
pub filter_kept : {A : Type 0} (test : A → Bool) (x : A) (xs : List A) → test x ≡ true → filter test (x ∷ xs)
    ≡ x ∷ filter test xs
filter_kept test x xs passes = ap (λ (b : Bool). cond b (x ∷ filter test xs) (filter test xs)) passes

-- a filter leaves out a first item that fails its test
pub filter_dropped : {A : Type 0} (test : A → Bool) (x : A) (xs : List A) → test x ≡ false → filter test (x ∷ xs)
    ≡ filter test xs
filter_dropped test x xs fails = ap (λ (b : Bool). cond b (x ∷ filter test xs) (filter test xs)) fails

-- ---- one, two or three items

-- a list of one item is that item
pub one_listed : {A : Type 0} (xs : List A) (a : A) → length xs ≡ 1 → slice_get xs 0 ≡ Some a → a ∷ [] ≡ xs
one_listed [] a one first = absurd (omega arith)
one_listed (x ∷ []) a one first = ap (λ y. y ∷ []) (sym (get_or_from_slice_get (x ∷ []) 0 a a first))
one_listed (x ∷ y ∷ xs) a one first = absurd (omega arith)

-- a list of two items is those two
pub two_listed : {A : Type 0} (xs : List A) (a b : A) → length xs ≡ 2 → slice_get xs 0 ≡ Some a
    → slice_get xs 1 ≡ Some b → a ∷ b ∷ [] ≡ xs
two_listed [] a b two first second = absurd (omega arith)
two_listed (x ∷ xs) a b two first second =
    ap (λ y. y ∷ b ∷ []) (sym (get_or_from_slice_get (x ∷ xs) 0 a a first))
    ∙ ap (λ ys. x ∷ ys) (one_listed xs b (omega arith) second)

-- a list of three items is those three
pub three_listed : {A : Type 0} (xs : List A) (a b c : A) → length xs ≡ 3 → slice_get xs 0 ≡ Some a
    → slice_get xs 1 ≡ Some b → slice_get xs 2 ≡ Some c → a ∷ b ∷ c ∷ [] ≡ xs
three_listed [] a b c three first second third = absurd (omega arith)
three_listed (x ∷ xs) a b c three first second third =
    ap (λ y. y ∷ b ∷ c ∷ []) (sym (get_or_from_slice_get (x ∷ xs) 0 a a first))
    ∙ ap (λ ys. x ∷ ys) (two_listed xs b c (omega arith) second third)

-- ---- what holds of each item

-- what holds of each item holds of the one at a place
pub all-slice_get : {A : Type 0} (P : A → Type 0) (xs : List A) (i : ℕ) (x : A) → AllByRecursion P xs
    → slice_get xs i ≡ Some x → P x
all-slice_get P [] i x all at = absurd (none-some x at)
all-slice_get P (y ∷ xs) zero x all at = subst P (same_Some y x at) all.0
all-slice_get P (y ∷ xs) (suc i) x all at = all-slice_get P xs i x all.1 at

-- the same, of a place below the length, whatever `get_or` is to give elsewhere
pub all-get_or : {A : Type 0} (P : A → Type 0) (xs : List A) (i : ℕ) (d : A) → AllByRecursion P xs → i < length xs
    → P (get_or xs i d)
all-get_or P [] i d all lt = absurd (omega arith)
all-get_or P (x ∷ xs) zero d all lt = all.0
all-get_or P (x ∷ xs) (suc i) d all lt = all-get_or P xs i d all.1 (omega arith)

-- what holds of each item and of one more holds of each with that one behind them
pub all-push : {A : Type 0} (P : A → Type 0) (xs : List A) (x : A) → AllByRecursion P xs → P x
    → AllByRecursion P (xs ++ x ∷ [])
all-push P [] x all last = (last, tt)
all-push P (y ∷ xs) x all last = (all.0, all-push P xs x all.1 last)

-- what holds of each item of two lists holds of each of both together
pub all-append : {A : Type 0} (P : A → Type 0) (xs ys : List A) → AllByRecursion P xs → AllByRecursion P ys
    → AllByRecursion P (xs ++ ys)
all-append P [] ys all more = more
all-append P (x ∷ xs) ys all more = (all.0, all-append P xs ys all.1 more)

-- what holds of each item holds of each that a filter keeps
pub all-filter : {A : Type 0} (P : A → Type 0) (test : A → Bool) (xs : List A) → AllByRecursion P xs
    → AllByRecursion P (filter test xs)
all-filter P test [] all = tt
all-filter P test (x ∷ xs) all = by (test x) (all-filter P test xs all.1)
  where
    by : (b : Bool) → AllByRecursion P (filter test xs)
        → AllByRecursion P (cond b (x ∷ filter test xs) (filter test xs))
    by true rest = (all.0, rest)
    by false rest = rest

-- where P implies Q, and P holds of each item, so does Q
pub all-weaker : {A : Type 0} (P Q : A → Type 0) (xs : List A) → ((x : A) → P x → Q x) → AllByRecursion P xs
    → AllByRecursion Q xs
all-weaker P Q [] weaker all = tt
all-weaker P Q (x ∷ xs) weaker all = (weaker x all.0, all-weaker P Q xs weaker all.1)

-- what holds of each item that is made holds of what each is made of
pub all_unmapped : {A B : Type 0} (P : B → Type 0) (f : A → B) (xs : List A) → AllByRecursion P (map f xs)
    → AllByRecursion (λ x. P (f x)) xs
all_unmapped P f [] all = tt
all_unmapped P f (x ∷ xs) all = (all.0, all_unmapped P f xs all.1)
