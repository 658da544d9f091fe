-- Keys of records, and keys that are sorted.
use Rattle.std.proofs.Common.{◌≡◌, ℕ, suc, ◌+◌, ◌<◌, ◌≤◌, ◌==◌, Bool, true, false, cond, ltb, List, [], ◌∷◌, ◌++◌}
use Rattle.std.proofs.Common.{length, get_or, refl, sym, subst, ap, ap₂, ◌∙◌, append_assoc}
use Rattle.std.proofs.Common.{add-one, is_lt, nat_cmp, arith}
use Rattle.std.proofs.Math.Seq.{get_or-append_seam}
use Rattle.std.specs.declared.cmp.Ordering.{Ordering}
use Rattle.std.specs.declared.cmp.Ordering.TheVariants.{Less, Equal, Greater}
use Rattle.std.specs.Ordering.{ordering_then}
use Rattle.std.proofs.lemmas.Bool.{ltb-false, eqb-false, false≢true}
use Rattle.std.specs.List.{AllByRecursion}
use Rattle.std.proofs.lemmas.List.{length_push}
use Rattle.eve_stamps.specs.Applied.{Applied}
use Rattle.eve_attempts.specs.inner.RecordKeys.{Key, keys_from, no_record, record_of, records_in, IsKeyOf}
use Rattle.eve_attempts.specs.inner.RecordKeys.{IsNoLaterRecord}
use Rattle.eve_attempts.specs.inner.RecordKeys.{TicksDontFall}

longer : (prefix rs : List Applied) (r : Applied) → length prefix < length (prefix ++ r ∷ rs)
longer [] rs r = omega arith
longer (x ∷ prefix) rs r = let h = longer prefix rs r in omega arith

-- the records of the keys of the records after a prefix
pub records_of_keys : (prefix rs : List Applied) → records_in (prefix ++ rs) (keys_from (length prefix) rs) ≡ rs
records_of_keys prefix [] = refl
records_of_keys prefix (r ∷ rs) =
    ap₂ (λ (x : Applied) (xs : List Applied). x ∷ xs) (get_or-append_seam prefix r rs no_record)
    (ap₂ (λ (all : List Applied) (n : ℕ). records_in all (keys_from n rs)) (sym (append_assoc prefix (r ∷ []) rs))
    (sym (length_push prefix r)) ∙ records_of_keys (prefix ++ r ∷ []) rs)

pub are_keys : (prefix rs : List Applied) → AllByRecursion (IsKeyOf (prefix ++ rs)) (keys_from (length prefix) rs)
are_keys prefix [] = tt
are_keys prefix (r ∷ rs) = (
  record {
    there = longer prefix rs r;
    tick = ap (λ (x : Applied). x.tick) (sym (get_or-append_seam prefix r rs no_record));
    index = ap (λ (x : Applied). x.index) (sym (get_or-append_seam prefix r rs no_record));
  },
  subst (λ (all : List Applied). AllByRecursion (IsKeyOf all) (keys_from (length prefix + 1) rs))
      (append_assoc prefix (r ∷ []) rs)
      (subst (λ (n : ℕ). AllByRecursion (IsKeyOf ((prefix ++ r ∷ []) ++ rs)) (keys_from n rs)) (length_push prefix r)
      (are_keys (prefix ++ r ∷ []) rs)),
)

-- ---- sorted keys

-- the one doesn't come after the other, by tick and index
pub record KeyLe (k j : Key) : Type 0 where
  pub tick : k.0 ≤ j.0
  pub index : j.0 ≤ k.0 → k.1 ≤ j.1

-- each key and the next
pub AreStepwise : List Key → Type 0
AreStepwise [] = Unit {0}
AreStepwise (k ∷ []) = Unit {0}
AreStepwise (k ∷ j ∷ keys) = KeyLe k j × AreStepwise (j ∷ keys)

le_trans : (i j k : Key) → KeyLe i j → KeyLe j k → KeyLe i k
le_trans i j k a b = record {
  tick = omega (arith, a.tick, b.tick);
  index = λ back. let x = a.index (omega (arith, b.tick)) in let y = b.index (omega (arith, a.tick)) in omega arith;
}

all_after : (i k : Key) (keys : List Key) → KeyLe i k → AllByRecursion (KeyLe k) keys → AllByRecursion (KeyLe i) keys
all_after i k [] le all = tt
all_after i k (j ∷ keys) le all = (le_trans i k j le all.0, all_after i k keys le all.1)

-- no key is after one that comes later
abbrev pub KeysDontFall : List Key → Type 0
KeysDontFall [] = Unit {0}
KeysDontFall (k ∷ keys) = AllByRecursion (KeyLe k) keys × KeysDontFall keys

pub stepwise_all : (keys : List Key) → AreStepwise keys → KeysDontFall keys
unfolding AreStepwise
stepwise_all [] steps = tt
stepwise_all (k ∷ []) steps = (tt, tt)
stepwise_all (k ∷ j ∷ keys) steps = let rest = stepwise_all (j ∷ keys) steps.1 in
    ((steps.0, all_after k j keys steps.0 rest.0), rest)

-- from what each place tells
pub stepwise_places : (keys : List Key) (d : Key)
    → ((i : ℕ) → suc i < length keys → KeyLe (get_or keys i d) (get_or keys (suc i) d)) → AreStepwise keys
unfolding AreStepwise
stepwise_places [] d each = tt
stepwise_places (k ∷ []) d each = tt
stepwise_places (k ∷ j ∷ keys) d each =
    (each 0 (omega arith), stepwise_places (j ∷ keys) d (λ i lt. each (suc i) (omega arith)))

step_of : (k j : Key) → is_lt (ordering_then (ordering_then (nat_cmp j.0 k.0) (nat_cmp j.1 k.1)) (nat_cmp j.2 k.2))
    ≡ false → KeyLe k j
step_of k j h = by (ltb j.0 k.0) (j.0 == k.0) (ltb j.1 k.1) (j.1 == k.1) (nat_cmp j.2 k.2) refl refl refl h
  where
    by : (a b m n : Bool) (o : Ordering) → ltb j.0 k.0 ≡ a → (j.0 == k.0) ≡ b → ltb j.1 k.1 ≡ m
        → is_lt (ordering_then (ordering_then (cond a Less (cond b Equal Greater)) (cond m Less (cond n Equal Greater)))
        o) ≡ false → KeyLe k j
    by true b m n o e f g h = absurd (false≢true (sym h))
    by false true true n o e f g h = absurd (false≢true (sym h))
    by false true false n o e f g h =
        let tick : k.0 ≤ j.0 = ltb-false j.0 k.0 e in
        let index : k.1 ≤ j.1 = ltb-false j.1 k.1 g in
        record { tick = tick; index = λ _. index }
    by false false m n o e f g h =
        let tick : k.0 ≤ j.0 = ltb-false j.0 k.0 e in
        record { tick = tick; index = λ back. absurd (eqb-false j.0 k.0 f (omega arith)) }

-- keys that the sort's order leaves as they are
pub sorted_keys : (keys : List Key) (d : Key)
    → ((i : ℕ) → i + 1 < length keys
    → is_lt (ordering_then (ordering_then (nat_cmp (get_or keys (i + 1) d).0 (get_or keys i d).0)
    (nat_cmp (get_or keys (i + 1) d).1 (get_or keys i d).1))
    (nat_cmp (get_or keys (i + 1) d).2 (get_or keys i d).2)) ≡ false)
    → KeysDontFall keys
sorted_keys keys d each =
    stepwise_all keys (stepwise_places keys d
    (λ i lt. subst (λ (n : ℕ). KeyLe (get_or keys i d) (get_or keys n d)) (add-one i)
    (step_of (get_or keys i d) (get_or keys (i + 1) d) (each i (omega arith)))))

not_after : (records : List Applied) (k j : Key) → IsKeyOf records k → IsKeyOf records j → KeyLe k j
    → IsNoLaterRecord (record_of records k) (record_of records j)
not_after records k j a b le = record {
  tick = omega (arith, a.tick, b.tick, le.tick);
  index = λ back. let h = le.index (omega (arith, a.tick, b.tick)) in omega (arith, a.index, b.index);
}

all_not_after : (records : List Applied) (k : Key) (keys : List Key) → IsKeyOf records k
    → AllByRecursion (IsKeyOf records) keys → AllByRecursion (KeyLe k) keys
    → AllByRecursion (IsNoLaterRecord (record_of records k)) (records_in records keys)
all_not_after records k [] a all le = tt
all_not_after records k (j ∷ keys) a all le =
    (not_after records k j a all.0 le.0, all_not_after records k keys a all.1 le.1)

pub ticks_dont_fall : (records : List Applied) (keys : List Key) → AllByRecursion (IsKeyOf records) keys
    → KeysDontFall keys → TicksDontFall (records_in records keys)
ticks_dont_fall records [] all up = tt
ticks_dont_fall records (k ∷ keys) all up =
    (all_not_after records k keys all.0 all.1 up.0, ticks_dont_fall records keys all.1 up.1)
