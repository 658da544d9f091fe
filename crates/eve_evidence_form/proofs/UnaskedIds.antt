-- Ids taken out of a set, request by request.
use Rattle.std.proofs.Common.{◌≡◌, ◌≢◌, ℕ, zero, suc, ◌+◌, true, false, List, [], ◌∷◌, ◌++◌, Some, map, inl, inr}
use Rattle.std.proofs.Common.{slice_get, sym, ap, ◌∙◌, arith}
use Rattle.std.specs.Prelude.{◌↔◌, Bool, IsFalse, if◌then◌else◌}
use Rattle.std.specs.List.{AllByRecursion, enumerate_from}
use Rattle.std.specs.Ordering.{nat_cmp, is_eq, ordering_then}
use Rattle.std.specs.BTreeSet.{BTreeSet}
use Rattle.std.proofs.lemmas.Bool.{cases_Bool, false≢true}
use Rattle.std.proofs.lemmas.Bool.Decides.{nat_tests}
use Rattle.std.proofs.lemmas.Option.{same_Some}
use Rattle.eve_grammar.specs.Trace.{Asked, Batch, RequestId, request_id}
use Rattle.eve_evidence_form.specs.Requests.{Listed, requests_listed, NoneAsked, is_in_set, LeavesUnasked, HasUnasked}
use Rattle.eve_grammar.proofs.Lists.{all-append}
use Rattle.eve_evidence_form.proofs.RequestSearches.{listed_as}

-- ---- ids that are the same

-- whether the order of ids says that two are the same
abbrev pub same_id : RequestId → RequestId → Bool
same_id p q = is_eq (ordering_then (nat_cmp p.0 q.0) (nat_cmp p.1 q.1))

pub same_id-true : (p q : RequestId) → same_id p q ≡ true → p ≡ q
same_id-true p q h =
    let client : p.0 ≡ q.0 = grind (arith, nat_tests) in
    let number : p.1 ≡ q.1 = grind (arith, nat_tests) in
    (λ k. (client k, number k))

pub same_id-itself : (p q : RequestId) → p ≡ q → same_id p q ≡ true
same_id-itself p q e =
    let client : p.0 ≡ q.0 = (λ k. (e k).0) in
    let number : p.1 ≡ q.1 = (λ k. (e k).1) in
    grind (arith, nat_tests)

-- ---- requests that don't have an id

-- none of these requests has the id
abbrev pub NoneOf : RequestId → List Asked → Type 0
NoneOf id own = AllByRecursion (λ a. request_id a ≢ id) own

pub none_listed : (id : RequestId) (b : ℕ × (ℕ × Batch)) → NoneOf id b.1.1.requests ↔ NoneAsked id (requests_listed b)
none_listed id b = (there 0 b.1.1.requests, back 0 b.1.1.requests)
  where
    there : (n : ℕ) (own : List Asked) → NoneOf id own
        → NoneAsked id (map (λ (x : ℕ × Asked). listed_as b x.0 x.1) (enumerate_from n own))
    there n [] none = tt
    there n (a ∷ own) none = (none.0, there (n + 1) own none.1)

    back : (n : ℕ) (own : List Asked)
        → NoneAsked id (map (λ (x : ℕ × Asked). listed_as b x.0 x.1) (enumerate_from n own)) → NoneOf id own
    back n [] none = tt
    back n (a ∷ own) none = (none.0, back (n + 1) own none.1)

-- a request has its own id
pub none_itself : (xs : List Listed) (i : ℕ) (x : Listed) → slice_get xs i ≡ Some x
    → NoneAsked (request_id x.asked) xs → ⊥
none_itself [] i x e none = cc
none_itself (y ∷ xs) zero x e none = none.0 (ap (λ (z : Listed). request_id z.asked) (same_Some y x e))
none_itself (y ∷ xs) (suc i) x e none = none_itself xs i x e none.1

none_parts : (id : RequestId) (xs ys : List Listed) → NoneAsked id (xs ++ ys) → NoneAsked id xs × NoneAsked id ys
none_parts id [] ys none = (tt, none)
none_parts id (x ∷ xs) ys none =
    let more = none_parts id xs ys none.1 in
    ((none.0, more.0), more.1)

-- ---- sets

-- an id put in is there, and so is each that was there
pub put_in : (id other : RequestId) (new old : Bool) → new ≡ (if same_id id other then true else old) → new ≡ false
    → (old ≡ false) × (id ≢ other)
put_in id other new old is lacks =
    elim (cases_Bool (same_id id other)) [
      | inl same ↦
          absurd (false≢true (sym lacks ∙ is ∙ ap (λ (t : Bool). if t then true else old) same))
      | inr apart ↦ (
        sym (ap (λ (t : Bool). if t then true else old) apart) ∙ sym is ∙ lacks,
        λ same. false≢true (sym apart ∙ same_id-itself id other same),
      )
    ]

-- one that is taken out leaves the others
pub taken_out : (id other : RequestId) (new old : Bool) → new ≡ (if same_id id other then false else old)
    → (new ≡ true) ↔ ((old ≡ true) × (id ≢ other))
taken_out id other new old is =
    elim (cases_Bool (same_id id other)) [
      | inl same ↦ (
        λ has. absurd (false≢true (sym (ap (λ (t : Bool). if t then false else old) same) ∙ sym is ∙ has)),
        λ had. absurd (had.1 (same_id-true id other same)),
      )
      | inr apart ↦ (
        λ has. (
          sym (ap (λ (t : Bool). if t then false else old) apart) ∙ sym is ∙ has,
          λ same. false≢true (sym apart ∙ same_id-itself id other same),
        ),
        λ had. is ∙ ap (λ (t : Bool). if t then false else old) apart ∙ had.0,
      )
    ]

-- what is left behind one list of requests, and then behind another
pub left_behind_both : (a b c : BTreeSet RequestId) (xs ys : List Listed) → LeavesUnasked a xs b → LeavesUnasked b ys c
    → LeavesUnasked a (xs ++ ys) c
left_behind_both a b c xs ys first second id = (
  λ has.
      let later = (second id).0 has in
      let early = (first id).0 later.0 in
      (early.0, all-append (λ (x : Listed). request_id x.asked ≢ id) xs ys early.1 later.1),
  λ had.
      let parts = none_parts id xs ys had.1 in
      (second id).1 ((first id).1 (had.0, parts.0), parts.1),
)

-- what is left of the ids of requests is what none before has
pub unasked_left : (before own : List Listed) (ids left : BTreeSet RequestId)
    → ((id : RequestId) → IsFalse (is_in_set ids id) → NoneAsked id own) → LeavesUnasked ids before left
    → HasUnasked before own left
unasked_left before own ids left all leaves = λ id some. (
  λ has. ((leaves id).0 has).1,
  λ none.
      elim (cases_Bool (is_in_set ids id)) [
        | inl there ↦ (leaves id).1 (there, none)
        | inr lacks ↦ absurd (some (all id lacks))
      ],
)
