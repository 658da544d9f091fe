-- What right access records tell, and replies at their indexes.
use Rattle.std.proofs.Common.{◌≡◌, ◌≢◌, ℕ, zero, suc, ◌-◌, ◌<◌, ◌==◌, Bool, true, false, ltb, List, [], ◌∷◌, ◌++◌, map}
use Rattle.std.proofs.Common.{length, get_or, set, take, replicate, slice_get, Some, refl, sym, subst, ap, ap₂, ◌∙◌}
use Rattle.std.proofs.Common.{append_assoc, arith}
use Rattle.std.specs.Bool.{Decides}
use Rattle.std.specs.List.{AllByRecursion, list_any, list_all}
use Rattle.std.proofs.lemmas.List.{length-map, length-set}
use Rattle.std.proofs.lemmas.Bool.{and_parts, not-true, or_parts, ltb-true, eqb-false, false≢true}
use Rattle.eve_smallbank.specs.declared.request.Reply.{Reply}
use Rattle.eve_smallbank.specs.declared.request.Reply.TheVariants.{Done}
use Rattle.eve_smallbank.specs.declared.rows.Touched.{Touched}
use Rattle.eve_smallbank.specs.Access.{Fits}
use Rattle.eve_smallbank.specs.Touch.{touched_of}
use Rattle.eve_grammar.specs.Trace.{Access, Asked, Batch, no_request}
use Rattle.eve_grammar.specs.Limits.{is_access}
use Rattle.eve_grammar.specs.Accesses.{is_new_access, is_right_place}
use Rattle.eve_grammar.proofs.Lists.{get_set_same}
use Rattle.eve_write.specs.declared.batch.BatchData.{BatchData}
use Rattle.eve_write.specs.declared.request.RequestData.{RequestData}
use Rattle.eve_write.specs.Data.{batch as plain, asked}
use Rattle.eve_stamps.specs.Applied.{Applied}
use Rattle.eve_attempts.specs.ClosedAttempts.{touched_in_batch, access_noted, executed}
use Rattle.eve_grammar.specs.Trace.{request_with}
use Rattle.eve_attempts.specs.ClosedAttempts.{are_right_records}
use Rattle.eve_attempts.specs.ClosedAttempts.{AreNoted}
use Rattle.eve_attempts.specs.inner.RecordKeys.{replies_placed}
use Rattle.eve_attempts.proofs.Lists.{mapped_at}

pub accesses_below : (workers count : ℕ) (before : List Access) (rs : List Applied)
    → are_right_records workers count before (map access_noted rs) ≡ true → AllByRecursion (λ r. r.index < count) rs
accesses_below workers count before [] right = tt
accesses_below workers count before (r ∷ rs) right =
    let one = and_parts (is_new_access workers count before (access_noted r)) _ right in
    let two = and_parts (is_right_place before (access_noted r)) _ one.1 in
    let parts = and_parts (ltb r.worker workers) _ one.0 in
    let small = and_parts (ltb r.index count) _ parts.1 in
    (ltb-true r.index count small.0, accesses_below workers count (before ++ access_noted r ∷ []) rs two.1)

-- no record has the index of an access before it
apart : (workers count : ℕ) (x : Access) (prefix back : List Access) (rs : List Applied)
    → are_right_records workers count (prefix ++ x ∷ back) (map access_noted rs) ≡ true
    → AllByRecursion (λ r. r.index ≢ x.index) rs
apart workers count x prefix back [] right = tt
apart workers count x prefix back (r ∷ rs) right =
    let one = and_parts (is_new_access workers count (prefix ++ x ∷ back) (access_noted r)) _ right in
    let two = and_parts (is_right_place (prefix ++ x ∷ back) (access_noted r)) _ one.1 in
    let parts = and_parts (ltb r.worker workers) _ one.0 in
    let small = and_parts (ltb r.index count) _ parts.1 in
    let new = not-true (list_any (λ (y : Access). y.index == r.index) (prefix ++ x ∷ back)) small.1 in (
      other r.index prefix new,
      apart workers count x prefix (back ++ access_noted r ∷ []) rs
          (subst (λ (b : List Access). are_right_records workers count b (map access_noted rs) ≡ true)
          (append_assoc prefix (x ∷ back) (access_noted r ∷ [])) two.1),
    )
  where
    other : (i : ℕ) (ys : List Access) → list_any (λ (y : Access). y.index == i) (ys ++ x ∷ back) ≡ false → i ≢ x.index
    other i [] none = λ same. eqb-false x.index i (or_parts (x.index == i) _ none).0 (sym same)
    other i (y ∷ ys) none = other i ys (or_parts (y.index == i) _ none).1

-- the reply at an index that no record has
kept_reply : (replies : List Reply) (i : ℕ) (rs : List Applied) → AllByRecursion (λ r. r.index ≢ i) rs
    → slice_get (replies_placed replies rs) i ≡ slice_get replies i
kept_reply replies i [] apart = refl
kept_reply replies i (r ∷ rs) apart = kept_reply (set replies r.index r.reply) i rs apart.1
    ∙ other_set replies r.index i r.reply apart.0
  where
    other_set : (xs : List Reply) (j i : ℕ) (x : Reply) → j ≢ i → slice_get (set xs j x) i ≡ slice_get xs i
    other_set [] j i x other = refl
    other_set (y ∷ xs) zero zero x other = absurd (other refl)
    other_set (y ∷ xs) zero (suc i) x other = refl
    other_set (y ∷ xs) (suc j) zero x other = refl
    other_set (y ∷ xs) (suc j) (suc i) x other = other_set xs j i x (λ e. other (ap suc e))

pub length-placed : (replies : List Reply) (rs : List Applied) → length (replies_placed replies rs) ≡ length replies
length-placed replies [] = refl
length-placed replies (r ∷ rs) = length-placed (set replies r.index r.reply) rs ∙ length-set replies r.index r.reply

-- each reply stands at its index
pub all_placed : (workers count : ℕ) (before : List Access) (replies : List Reply) (rs : List Applied)
    → are_right_records workers count before (map access_noted rs) ≡ true → count ≡ length replies
    → AllByRecursion (λ r. slice_get (replies_placed replies rs) r.index ≡ Some r.reply) rs
all_placed workers count before replies [] right many = tt
all_placed workers count before replies (r ∷ rs) right many =
    let one = and_parts (is_new_access workers count before (access_noted r)) _ right in
    let two = and_parts (is_right_place before (access_noted r)) _ one.1 in
    let small = (accesses_below workers count before (r ∷ rs) right).0 in (
      kept_reply (set replies r.index r.reply) r.index rs (apart workers count (access_noted r) before [] rs two.1)
          ∙ get_set_same replies r.index r.reply (omega arith),
      all_placed workers count (before ++ access_noted r ∷ []) (set replies r.index r.reply) rs two.1
          (many ∙ sym (length-set replies r.index r.reply)),
    )

-- ---- a batch and what its requests touch

pub request_found : (b : BatchData) (i : ℕ) (x : RequestData) → i < length b.requests.items
    → x ≡ get_or b.requests.items i x → request_with (plain b) i ≡ (asked x).request
request_found b i x within is =
    ap (λ (a : Asked). a.request) (mapped_at asked b.requests.items i x no_request within is)

pub touched_found : (names : List (List ℕ)) (b : BatchData) (touched : List Touched) (i : ℕ) (x : RequestData)
    (t : Touched) → touched ≡ touched_in_batch names (plain b) → i < length b.requests.items
    → x ≡ get_or b.requests.items i x → t ≡ get_or touched i t → t ≡ touched_of names (asked x).request
touched_found names b touched i x t by within is at =
    at ∙ ap (λ (ts : List Touched). get_or ts i t) by
    ∙ mapped_at (λ (a : Asked). touched_of names a.request) (map asked b.requests.items) i (asked x) t
    (subst (λ n. i < n) (sym (length-map b.requests.items asked)) within)
    (sym (mapped_at asked b.requests.items i x (asked x) within is))

-- ---- what is decided of records whatever their order

module _ (workers rows : ℕ) (b : Batch) (touched : List Touched) (records : List Applied)
    (known : (names : List (List ℕ)) × (touched ≡ touched_in_batch names b)) (many : length records ≡ length b.requests)
    (accesses : are_right_records workers (length b.requests) [] (map access_noted records) ≡ true) where
  pub decides_noted : (f : Bool) → list_all (is_access rows) (map access_noted records) ≡ true
      → ((names : List (List ℕ)) → touched ≡ touched_in_batch names b
      → Decides f (AllByRecursion (Fits names) (map (executed b) records)))
      → Decides f (AreNoted workers rows b touched records)
  decides_noted f limits fit = (
    (λ e. record { many = many; accesses = accesses; limits = limits; fit = λ names is. (fit names is).0 e }),
    (λ noted. (fit known.0 known.1).1 (noted.fit known.0 known.1)),
  )

pub not_noted : (workers rows : ℕ) (b : Batch) (touched : List Touched) (records : List Applied)
    → (AreNoted workers rows b touched records → ⊥) → Decides false (AreNoted workers rows b touched records)
not_noted workers rows b touched records fails = ((λ e. absurd (false≢true e)), (λ h. absurd (fails h)))

-- replies that were filled up
pub filled : (old items : List Reply) (n l : ℕ) → items ≡ take n old ++ replicate (n - l) Done → old ≡ [] → l ≡ 0
    → items ≡ replicate n Done
filled old items n l is none zero_is =
    is ∙ ap₂ (λ (xs : List Reply) (m : ℕ). take n xs ++ replicate (n - m) Done) none zero_is
    ∙ ap₂ (λ (xs : List Reply) (m : ℕ). xs ++ replicate m Done) (take_nil n) (less n)
  where
    take_nil : (n : ℕ) → take {A = Reply} n [] ≡ []
    take_nil zero = refl
    take_nil (suc n) = refl

    less : (n : ℕ) → n - 0 ≡ n
    less n = omega arith
