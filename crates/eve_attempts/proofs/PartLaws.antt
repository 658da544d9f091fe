-- What is made of records before a row changes.
use Rattle.std.proofs.Common.{◌≡◌, ℕ, ◌<◌, ◌≤◌, Bool, true, false, IsTrue, List, [], ◌∷◌, map, length, refl, sym, subst}
use Rattle.std.proofs.Common.{ap, ap₂, ◌∙◌, arith}
use Rattle.std.specs.List.{AllByRecursion}
use Rattle.std.specs.List.Sorted.{IsPermutation}
use Rattle.std.proofs.lemmas.Bool.{and_parts, false≢true}
use Rattle.std.proofs.lemmas.List.{length-map}
use Rattle.std.proofs.lemmas.List.Sorted.{length_permutation}
use Rattle.eve_grammar.specs.Trace.{Batch}
use Rattle.eve_grammar.specs.Limits.{is_batch}
use Rattle.eve_grammar.specs.Certificate.{is_permutation, keeps_groups, is_certificate}
use Rattle.eve_grammar.proofs.GroupOrder.{few_requests}
use Rattle.eve_smallbank.specs.declared.rows.Touched.{Touched}
use Rattle.eve_stamps.specs.Applied.{Applied}
use Rattle.eve_attempts.specs.declared.taken.Taken.{Taken}
use Rattle.eve_attempts.specs.ClosedAttempts.{IsByTicks, indexes_of, AreNoted}
use Rattle.eve_attempts.specs.inner.RecordKeys.{Key, record_of, records_in, IsKeyOf}
use Rattle.eve_attempts.specs.inner.AttemptParts.{IsTakenOf}
use Rattle.eve_attempts.proofs.TickOrder.{distinct_permutation, same_order, rises}
use Rattle.eve_attempts.proofs.NotedRecords.{accesses_below}

pub indexes_are : (records : List Applied) (keys : List Key) → AllByRecursion (IsKeyOf records) keys
    → map (λ k. k.1) keys ≡ indexes_of (records_in records keys)
indexes_are records [] all = refl
indexes_are records (k ∷ keys) all = ap₂ (λ (i : ℕ) (is : List ℕ). i ∷ is) all.0.index (indexes_are records keys all.1)

pub length_order : (records : List Applied) (keys : List Key) → IsPermutation records (records_in records keys)
    → length keys ≡ length records
length_order records keys same = sym (length-map keys (record_of records))
    ∙ length_permutation records (records_in records keys) same

pub length_certificate : (records : List Applied) (t : Taken) → IsTakenOf records t → length t.certificate.items
    ≡ length records
length_certificate records t taken =
    ap (λ (is : List ℕ). length is) taken.certificate ∙ length-map (records_in records t.order.items) (λ r. r.index)
    ∙ length_permutation records (records_in records t.order.items) taken.same

module _ (workers rows : ℕ) (b : Batch) (touched : List Touched) (records : List Applied)
    (noted : AreNoted workers rows b touched records) (right : IsTrue (is_batch b)) where
  pub few_records : length records ≤ 256
  few_records = let few = few_requests b right in let one = few.0 in let two = few.1 in omega (arith, noted.many)

  pub small_indexes : AllByRecursion (λ r. r.index < length records) records
  small_indexes = subst (λ (n : ℕ). AllByRecursion (λ r. r.index < n) records) (sym noted.many)
      (accesses_below workers (length b.requests) [] records noted.accesses)

permutes : (sizes : List ℕ) (r : ℕ) (serial : Bool) (order : List ℕ) → is_certificate sizes r serial order ≡ true
    → is_permutation r order ≡ true
permutes sizes r serial order h =
    (and_parts (is_permutation r order) _ (and_parts (keeps_groups sizes r order) _ h).0).0

-- in no order of their ticks may the indexes of the records be a certificate, where they are none in this one
pub no_certificate : (sizes : List ℕ) (r : ℕ) (serial : Bool) (records ordered : List Applied) (t : Taken)
    → IsTakenOf records t → IsByTicks records ordered
    → is_certificate sizes r serial t.certificate.items ≡ false
    → IsTrue (is_certificate sizes r serial (indexes_of ordered)) → ⊥
no_certificate sizes r serial records ordered t taken by wrong right =
    let is : records_in records t.order.items ≡ ordered =
    same_order records ordered (records_in records t.order.items) by.same by.rising
    (distinct_permutation r ordered (permutes sizes r serial (indexes_of ordered) right)) taken.same taken.rising in
    false≢true (sym wrong ∙ ap (is_certificate sizes r serial) (taken.certificate ∙ ap indexes_of is) ∙ right)

-- the same in this one, of which the records are those of every order of their ticks
pub order_rises : (sizes : List ℕ) (r : ℕ) (serial : Bool) (records : List Applied) (t : Taken) → IsTakenOf records t
    → IsTrue (is_certificate sizes r serial t.certificate.items)
    → IsByTicks records (records_in records t.order.items)
order_rises sizes r serial records t taken right = record {
  same = taken.same;
  rising = rises (records_in records t.order.items) taken.rising
      (distinct_permutation r (records_in records t.order.items)
      (permutes sizes r serial (indexes_of (records_in records t.order.items))
      (ap (is_certificate sizes r serial) (sym taken.certificate) ∙ right)));
}

pub one_with : (sizes : List ℕ) (r : ℕ) (serial : Bool) (records ordered : List Applied) (t : Taken)
    → IsTakenOf records t → IsByTicks records ordered
    → IsTrue (is_certificate sizes r serial (indexes_of ordered)) → records_in records t.order.items ≡ ordered
one_with sizes r serial records ordered t taken by right =
    same_order records ordered (records_in records t.order.items) by.same by.rising
    (distinct_permutation r ordered (permutes sizes r serial (indexes_of ordered) right)) taken.same taken.rising
