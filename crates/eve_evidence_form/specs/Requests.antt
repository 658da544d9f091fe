-- What shows that a request stands twice. docs/MODEL.md, "Evidence".
use Rattle.std.specs.Prelude.{◌≡◌, ◌≢◌, ◌↔◌, ℕ, ◌++◌, Bool, IsTrue, List, map}
use Rattle.std.specs.List.{AllByRecursion, flat_map, enumerate_from}
use Rattle.std.specs.Ordering.{nat_cmp, ordering_then}
use Rattle.std.specs.BTreeSet.{BTreeSet, contains}
use Rattle.eve_grammar.specs.Trace.{Asked, Batch, RequestId, request_id, Trace}
use Rattle.eve_grammar.specs.Bodies.{borrowed_asked}
use Rattle.eve_grammar.specs.Spelling.{batches_at}
use Rattle.eve_views.specs.Form.{SomePlace}
use Rattle.eve_evidence.specs.declared.evidence.ToldRequest.{ToldRequest}

-- a request where it stands: its batch's number, the byte at which that frame begins, its index there, and what it asks
pub record Listed : Type 0 where
  pub batch : ℕ
  pub at : ℕ
  pub index : ℕ
  pub asked : Asked

-- the requests of a batch, in their order
abbrev pub requests_listed : ℕ × (ℕ × Batch) → List Listed
requests_listed b = map (λ x. record { batch = b.1.0; at = b.0; index = x.0; asked = x.1 })
    (enumerate_from 0 b.1.1.requests)

-- the request is told
abbrev pub IsListed : Listed → ToldRequest → Type 0
IsListed x r = (r.batch ≡ x.batch) × (r.index ≡ x.index) × (borrowed_asked r.asked ≡ x.asked)

-- none of these requests has the client and the number
abbrev pub NoneAsked : RequestId → List Listed → Type 0
NoneAsked id xs = AllByRecursion (λ x. request_id x.asked ≢ id) xs

-- the first of them that has the client and the number is told, and the byte at which its batch begins
abbrev pub IsFirstAsked : RequestId → List Listed → ToldRequest → ℕ → Type 0
IsFirstAsked id xs r at =
    SomePlace xs (λ before x. (request_id x.asked ≡ id) × IsListed x r × (at ≡ x.at) × NoneAsked id before)

-- whether the set has the id; ids are in the order of their clients, and of their numbers
abbrev pub is_in_set : BTreeSet RequestId → RequestId → Bool
is_in_set ids id = contains (λ p q. ordering_then (nat_cmp p.0 q.0) (nat_cmp p.1 q.1)) ids id

-- the new set has the ids of the old one that none of these requests has
abbrev pub LeavesUnasked : BTreeSet RequestId → List Listed → BTreeSet RequestId → Type 0
LeavesUnasked old xs new = (id : RequestId) → IsTrue (is_in_set new id) ↔ (IsTrue (is_in_set old id) × NoneAsked id xs)

-- of the ids that requests have, the set has those that none of the requests before them has
abbrev pub HasUnasked : List Listed → List Listed → BTreeSet RequestId → Type 0
HasUnasked before own ids = (id : RequestId) → ¬ NoneAsked id own → IsTrue (is_in_set ids id) ↔ NoneAsked id before

-- none of these requests, which follow others, has the client and the number of an earlier one, of its own or of those
abbrev pub NoneAgain : List Listed → List Listed → Type 0
NoneAgain before own = ¬ SomePlace own (λ earlier x. ¬ NoneAsked (request_id x.asked) (before ++ earlier))

-- Of the batch's requests behind others the first whose client and number stand earlier, and the earliest that has
-- them.
abbrev pub IsFirstAgain : List Listed → List Listed → ToldRequest → ToldRequest → ℕ → Type 0
IsFirstAgain before own request first first_at =
    SomePlace own (λ earlier x. IsListed x request × NoneAgain before earlier
    × IsFirstAsked (request_id x.asked) (before ++ earlier) first first_at)

-- that of the batch whose frame begins at this byte
abbrev pub IsRequestAgain : Trace → ℕ → ToldRequest → ToldRequest → ℕ → Type 0
IsRequestAgain t at request first first_at =
    SomePlace (batches_at t) (λ before b. (b.0 ≡ at) × IsFirstAgain (flat_map requests_listed before)
    (requests_listed b) request first first_at)
