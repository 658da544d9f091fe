-- Requests and fates, counted one after another.
use Rattle.std.proofs.Common.{◌≡◌, ℕ, ◌+◌, ◌<◌, ◌≤◌, Bool, cond, count_by, slice_set}
use Rattle.std.proofs.Common.{List, length, take, slice_get, Some, sym, ap}
use Rattle.std.proofs.Common.{◌∙◌, arith, zero, suc, [], ◌∷◌}
use Rattle.std.specs.List.{sum_by}
use Rattle.std.proofs.lemmas.List.Sums.{sum_by_more}
use Rattle.std.proofs.lemmas.Option.{slice_get_within, get_or_from_slice_get}
use Rattle.eve_frames.specs.Decoded.{batch_decoded}
use Rattle.eve_evidence_outcomes.specs.Places.{HoldsEach}
use Rattle.eve_frames.specs.declared.batch.BatchView.{BatchView}
use Rattle.eve_frames.proofs.BatchPlaces.{batch_few, batch_total}

pub sum_more : {A : Type 0} (f : A → ℕ) (xs : List A) (i : ℕ) (x : A) → slice_get xs i ≡ Some x
    → sum_by f (take i xs) + f x ≡ sum_by f (take (i + 1) xs)
sum_more f xs i x got =
    sym (sum_by_more f xs i x (slice_get_within xs i x got)
    ∙ ap (λ y. sum_by f (take i xs) + f y) (get_or_from_slice_get xs i x x got))

pub count_more : {A : Type 0} (p : A → Bool) (xs : List A) (i : ℕ) (x : A) → slice_get xs i ≡ Some x
    → count_by p (take i xs) + cond (p x) 1 0 ≡ count_by p (take (i + 1) xs)
count_more p xs i x got = sum_more (λ y. cond (p y) 1 0) xs i x got

pub requests_few : (b : BatchView) → length (batch_decoded b).1.requests ≤ 256
requests_few b =
    let few = batch_few b.bytes.now b.whole in
    let total = batch_total b.bytes.now b.whole in
    omega (arith, few, total)

-- each of the first places holds what it must, and so does the next once it is written
pub each_put : {A : Type 0} (P : ℕ → A → Type 0) (xs : List A) (i : ℕ) (x : A) → i < length xs
    → HoldsEach i P xs → P i x → HoldsEach (i + 1) P (slice_set xs i x)
each_put P [] i x there all own u low = absurd (omega (arith, there))
each_put P (z ∷ xs) zero x there all own zero low = own
each_put P (z ∷ xs) zero x there all own (suc u) low = absurd (omega (arith, low))
each_put P (z ∷ xs) (suc i) x there all own zero low = all zero (omega arith)
each_put P (z ∷ xs) (suc i) x there all own (suc u) low =
    each_put (λ k. P (suc k)) xs i x (omega (arith, there)) (λ v l. all (suc v) (omega (arith, l))) own u
    (omega (arith, low))
