-- What is kept of how each number was reached gives what it changed.
use Rattle.std.proofs.Common.{◌≡◌, ℕ, ℤ, zero, suc, ◌-◌, ◌*◌, ◌<◌, ◌≤◌, true, List, [], ◌∷◌, ◌++◌}
use Rattle.std.proofs.Common.{map, length, slice_get, get_or, Option, Some, None, refl, sym, subst, ap}
use Rattle.std.proofs.Common.{◌∙◌, append_assoc}
use Rattle.std.proofs.Common.{length-append, arith}
use Rattle.std.specs.List.{AllByRecursion, AllZip}
use Rattle.std.proofs.lemmas.Option.{same_Some}
use Rattle.eve_grammar.specs.Trace.{Trace, Transfer}
use Rattle.eve_frames.specs.declared.transfer.TransferView.{TransferView}
use Rattle.eve_history.specs.declared.how_reached.HowReached as told
use Rattle.eve_history.specs.declared.how_reached.HowReached.TheVariants as how_reached
use Rattle.eve_history.specs.Section.{HowReached, ByAttempt, ByTransfer, Skipped, transfers_by}
use Rattle.eve_history.specs.SectionHistory.{SectionHistory, section_history, history, IsToldOf}
use Rattle.eve_history.specs.SectionHistory.{ToldReached, ReachedBy, ReachedFrom, NotReached, told_reached_from}
use Rattle.eve_chains.specs.declared.numbered.Numbered.{Numbered}
use Rattle.eve_chains.specs.Changes.{changes_below, changes_in_ranges, ranges_by_number}
use Rattle.eve_chains.specs.ReachedChanges.{transfer_at, values_decoded, transferred_values, change_in, changes_in}
use Rattle.eve_chains.specs.ReachedChanges.{IsStateAmong}
use Rattle.eve_chains.specs.ReachedChanges.{AreWaysReached}
use Rattle.eve_chains.specs.CommittedValues.{Change, Wrote, TransferredValues, Nothing, Settling, change_at, settling}
use Rattle.eve_chains.specs.CommittedValues.{is_change}
use Rattle.eve_chains.specs.CommittedValues.{defined}
use Rattle.eve_chains.proofs.ByNumber.{ranges_counted, ranges_at}
use Rattle.eve_chains.proofs.CommittedChanges.{entries_by, entries_of_all}
use Rattle.eve_chains.proofs.LinkedPaths.{none≢some}

-- ---- a state that is there

state_at : (states : List TransferView) (i : ℕ) → i < length states
    → (v : TransferView) × (slice_get states i ≡ Some v)
state_at [] i lt = absurd (omega (arith, lt))
state_at (v ∷ states) zero lt = (v, refl)
state_at (v ∷ states) (suc i) lt = state_at states i (omega (arith, lt))

-- ---- of each number

pub changes_counted : (states : List TransferView) (ls : List told.HowReached) (css : List (List (ℕ × ℤ)))
    → length ls ≡ length css → length (changes_in states ls css) ≡ length ls
changes_counted states [] css many = refl
changes_counted states (l ∷ ls) [] many = absurd (omega (arith, many))
changes_counted states (l ∷ ls) (cs ∷ css) many = ap suc (changes_counted states ls css (omega (arith, many)))

pub change_found : (states : List TransferView) (ls : List told.HowReached) (css : List (List (ℕ × ℤ))) (n : ℕ)
    (l : told.HowReached) (cs : List (ℕ × ℤ)) → slice_get ls n ≡ Some l → slice_get css n ≡ Some cs
    → slice_get (changes_in states ls css) n ≡ Some (change_in states l cs)
change_found states [] css n l cs at its = none≢some l at
change_found states (k ∷ ls) [] n l cs at its = none≢some cs its
change_found states (k ∷ ls) (ds ∷ css) zero l cs at its =
    λ i. Some (change_in states (same_Some k l at i) (same_Some ds cs its i))
change_found states (k ∷ ls) (ds ∷ css) (suc n) l cs at its = change_found states ls css n l cs at its

at_place : {A : Type 0} (xs : List A) (i : ℕ) (x : A) → i < length xs → x ≡ get_or xs i x → slice_get xs i ≡ Some x
at_place [] i x lt is = absurd (omega (arith, lt))
at_place (y ∷ xs) zero x lt is = ap Some (sym is)
at_place (y ∷ xs) (suc i) x lt is = at_place xs i x (omega (arith, lt)) is

-- what is kept of a number
pub change_kept : (rows count : ℕ) (states : List TransferView) (ls : List told.HowReached) (xs : List Numbered) (n : ℕ)
    (l k : told.HowReached) → AreWaysReached rows count states ls → n < count → l ≡ get_or ls n l → l ≡ k
    → slice_get (changes_in states ls (ranges_by_number count xs)) n
    ≡ Some (change_in states k (changes_in_ranges n xs))
change_kept rows count states ls xs n l k known lt is same =
    change_found states ls (ranges_by_number count xs) n l (changes_in_ranges n xs)
    (at_place ls n l (omega (arith, lt, known.many)) is) (ranges_at count xs n lt)
    ∙ ap (λ (x : told.HowReached). Some (change_in states x (changes_in_ranges n xs))) same

pub kept_counted : (rows count : ℕ) (states : List TransferView) (ls : List told.HowReached) (xs : List Numbered)
    → AreWaysReached rows count states ls → length (changes_in states ls (ranges_by_number count xs)) ≡ count
kept_counted rows count states ls xs known =
    changes_counted states ls (ranges_by_number count xs) (known.many ∙ sym (ranges_counted count xs)) ∙ known.many

-- a state by which a number was reached is there
pub state_among : (rows count : ℕ) (states : List TransferView) (ls : List told.HowReached) (n i : ℕ)
    (l : told.HowReached)
    → AreWaysReached rows count states ls → n < count → l ≡ get_or ls n l → l ≡ how_reached.Transfer i → i
    < length states
state_among rows count states ls n i l known lt is same =
    subst (IsStateAmong (length states)) same
    (subst (IsStateAmong (length states)) (sym is) (known.there n l (omega (arith, lt, known.many))))

pub state_is : (states : List TransferView) (i : ℕ) (v : TransferView) → i < length states → v ≡ get_or states i v
    → transferred_values (slice_get states i) ≡ TransferredValues (values_decoded v)
state_is states i v lt is = ap transferred_values (at_place states i v lt is)

-- ---- whether there are balances

pub defined_at : (s : Settling) (n : ℕ) (o : Option Change) → 1 ≤ n → slice_get s.numbers (n - 1) ≡ o
    → defined s n ≡ is_change o
defined_at s zero o one is = absurd (omega (arith, one))
defined_at s (suc n) o one is =
    let same : n ≡ suc n - 1 = omega arith in
    ap is_change (ap (slice_get s.numbers) same ∙ is)

pub transferred_is_change : (states : List TransferView) (i : ℕ) → i < length states
    → is_change (Some (transferred_values (slice_get states i))) ≡ true
transferred_is_change states i lt =
    ap (λ (o : Option TransferView). is_change (Some (transferred_values o))) (state_at states i lt).1

-- past the last nothing is changed
pub none_past : (states : List TransferView) (ls : List told.HowReached) (css : List (List (ℕ × ℤ))) (n : ℕ)
    → length ls ≤ n → slice_get (changes_in states ls css) n ≡ None
none_past states [] css n past = refl
none_past states (l ∷ ls) [] n past = refl
none_past states (l ∷ ls) (cs ∷ css) zero past = absurd (omega (arith, past))
none_past states (l ∷ ls) (cs ∷ css) (suc n) past = none_past states ls css n (omega (arith, past))

-- it is what it says
state_of : (states : List TransferView) (k : ℕ) (y : ℕ × Transfer) → slice_get (map transfer_at states) k ≡ Some y
    → (v : TransferView) × (slice_get states k ≡ Some v) × (transfer_at v ≡ y)
state_of [] k y at = none≢some y at
state_of (v ∷ states) zero y at = (v, refl, same_Some (transfer_at v) y at)
state_of (v ∷ states) (suc k) y at = state_of states k y at

item_behind : {A : Type 0} (xs : List A) (x : A) (ys : List A) → slice_get (xs ++ x ∷ ys) (length xs) ≡ Some x
item_behind [] x ys = refl
item_behind (y ∷ xs) x ys = item_behind xs x ys

pub zip_more : {A B : Type 0} (P : A → B → Type 0) (xs : List A) (ys : List B) (x : A) (y : B) → AllZip P xs ys → P x y
    → AllZip P (xs ++ x ∷ []) (ys ++ y ∷ [])
zip_more P [] [] x y each last = (last, tt)
zip_more P [] (z ∷ ys) x y each last = absurd each
zip_more P (w ∷ xs) [] x y each last = absurd each
zip_more P (w ∷ xs) (z ∷ ys) x y each last = (each.0, zip_more P xs ys x y each.1 last)

-- ---- of a history

pub told_counted : (h : SectionHistory) (ls : List told.HowReached) (ms : List ToldReached) → AllZip (IsToldOf h) ls ms
    → length ls ≡ length ms
told_counted h [] [] each = refl
told_counted h [] (m ∷ ms) each = absurd each
told_counted h (l ∷ ls) [] each = absurd each
told_counted h (l ∷ ls) (m ∷ ms) each = ap suc (told_counted h ls ms each.1)

pub told_among : (h : SectionHistory) (count : ℕ) (ls : List told.HowReached) (ms : List ToldReached)
    → AllZip (IsToldOf h) ls ms → length h.transfers ≡ count → AllByRecursion (IsStateAmong count) ls
told_among h count [] ms each many = tt
told_among h count (l ∷ ls) [] each many = absurd each
told_among h count (l ∷ ls) (m ∷ ms) each many = (one l each.0, told_among h count ls ms each.1 many)
  where
    one : (k : told.HowReached) → IsToldOf h k m → IsStateAmong count k
    one (how_reached.Attempt i) is = tt
    one (how_reached.Transfer i) is = subst (λ (n : ℕ). i < n) many is.1
    one how_reached.Skipped is = tt

module _ (t : Trace) (h : SectionHistory) (states : List TransferView) where
  abbrev rows : ℕ
  rows = 2 * length t.customers

  abbrev written_by : List HowReached → List (List (ℕ × ℤ))
  written_by ls = map (changes_below rows) (entries_of_all ls)

  one_transferred : (prefix : List (ℕ × Transfer)) (at : ℕ) (x : Transfer) (rest : List (ℕ × Transfer))
      (l : told.HowReached)
      (cs : List (ℕ × ℤ)) → map transfer_at states ≡ prefix ++ (at, x) ∷ rest
      → IsToldOf h l (ReachedFrom (length prefix))
      → change_in states l cs ≡ TransferredValues (map (λ v. v.value) x.rows)
  one_transferred prefix at x rest (how_reached.Attempt i) cs are is = absurd (other is.0 (length prefix) is.1)
    where
      other : (r : _) (n : ℕ) → ReachedFrom n ≡ ReachedBy r → ⊥
      other r n e = cc
  one_transferred prefix at x rest (how_reached.Transfer i) cs are is =
      let found = state_of states (length prefix) (at, x)
      (ap (λ (ys : List (ℕ × Transfer)). slice_get ys (length prefix)) are ∙ item_behind prefix (at, x) rest) in
      ap (λ (k : ℕ). transferred_values (slice_get states k)) (sym (same (length prefix) i is.0))
      ∙ ap transferred_values found.1
      ∙ ap (λ (y : ℕ × Transfer). TransferredValues (map (λ v. v.value) y.1.rows)) found.2
    where
      same : (m n : ℕ) → ReachedFrom m ≡ ReachedFrom n → m ≡ n
      same m n e = cc
  one_transferred prefix at x rest how_reached.Skipped cs are is = absurd (other (length prefix) is)
    where
      other : (n : ℕ) → ReachedFrom n ≡ NotReached → ⊥
      other n e = cc

  one_ran : (r : _) (l : told.HowReached) (cs : List (ℕ × ℤ)) → IsToldOf h l (ReachedBy r) → change_in states l cs ≡
      Wrote cs
  one_ran r (how_reached.Attempt i) cs is = refl
  one_ran r (how_reached.Transfer i) cs is = absurd (other i is.0)
    where
      other : (n : ℕ) → ReachedBy r ≡ ReachedFrom n → ⊥
      other n e = cc
  one_ran r how_reached.Skipped cs is = absurd (other is)
    where
      other : ReachedBy r ≡ NotReached → ⊥
      other e = cc

  one_skipped : (l : told.HowReached) (cs : List (ℕ × ℤ)) → IsToldOf h l NotReached → change_in states l cs ≡ Nothing
  one_skipped (how_reached.Attempt i) cs is = absurd (other is.0 is.1)
    where
      other : (r : _) → NotReached ≡ ReachedBy r → ⊥
      other r e = cc
  one_skipped (how_reached.Transfer i) cs is = absurd (other i is.0)
    where
      other : (n : ℕ) → NotReached ≡ ReachedFrom n → ⊥
      other n e = cc
  one_skipped how_reached.Skipped cs is = refl

  same_changes : (prefix : List (ℕ × Transfer)) (Ls : List HowReached) (ls : List told.HowReached)
      → map transfer_at states ≡ prefix ++ transfers_by Ls
      → AllZip (IsToldOf h) ls (told_reached_from (length prefix) Ls)
      → changes_in states ls (written_by Ls) ≡ map (change_at t) Ls
  same_changes prefix [] [] are each = refl
  same_changes prefix [] (l ∷ ls) are each = absurd each
  same_changes prefix (ByAttempt p ∷ Ls) [] are each = absurd each
  same_changes prefix (ByTransfer at x ∷ Ls) [] are each = absurd each
  same_changes prefix (Skipped ∷ Ls) [] are each = absurd each
  same_changes prefix (ByAttempt p ∷ Ls) (l ∷ ls) are each =
      λ i. one_ran _ l (changes_below rows (entries_by (ByAttempt p))) each.0 i ∷ same_changes prefix Ls ls are each.1 i
  same_changes prefix (ByTransfer at x ∷ Ls) (l ∷ ls) are each =
      let next : length (prefix ++ (at, x) ∷ []) ≡ suc (length prefix) =
      length-append prefix ((at, x) ∷ []) ∙ omega arith in
      λ i. one_transferred prefix at x (transfers_by Ls) l (changes_below rows []) are each.0 i
      ∷ same_changes (prefix ++ (at, x) ∷ []) Ls ls (are ∙ sym (append_assoc prefix ((at, x) ∷ []) (transfers_by Ls)))
      (subst (λ (n : ℕ). AllZip (IsToldOf h) ls (told_reached_from n Ls)) (sym next) each.1) i
  same_changes prefix (Skipped ∷ Ls) (l ∷ ls) are each =
      λ i. one_skipped l (changes_below rows []) each.0 i ∷ same_changes prefix Ls ls are each.1 i

  -- of a section's history
  pub numbers_told : (e : ℕ) (ls : List told.HowReached) (css : List (List (ℕ × ℤ))) → h ≡ section_history t e
      → map transfer_at states ≡ h.transfers → AllZip (IsToldOf h) ls h.ways_reached
      → css ≡ written_by (history t e).ways_reached → changes_in states ls css ≡ (settling t e).numbers
  unfolding section_history settling history
  numbers_told e ls css is are each wrote =
      ap (changes_in states ls) wrote
      ∙ same_changes [] (history t e).ways_reached ls (are ∙ ap (λ (k : SectionHistory). k.transfers) is)
      (subst (λ (k : SectionHistory). AllZip (IsToldOf h) ls k.ways_reached) is each)
