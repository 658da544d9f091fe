-- Request ids that were met, and numbers that rise.
use Rattle.std.proofs.Common.{◌≡◌, ℕ, ◌+◌, ◌%◌, ◌<◌, true, false, List, [], ◌∷◌, ◌++◌, All, Option, Some, None, Vec}
use Rattle.std.proofs.Common.{map, take, length, inl, inr, sym, subst, ap, ◌∙◌, arith}
use Rattle.std.specs.Prelude.{slice_set, slice_index_or}
use Rattle.std.specs.List.{list_any}
use Rattle.std.proofs.lemmas.Bool.{cases_Bool, cases_eq}
use Rattle.std.proofs.lemmas.Bool.Decides.{nat_tests}
use Rattle.std.specs.declared.alloc.Global.{Global}
use Rattle.std.proofs.lemmas.List.{get_or-set_same, get_or-set_other, map_push, map_more, append-nil, map-append}
use Rattle.std.proofs.lemmas.List.Concat.{flat_map-append}
use Rattle.std.proofs.lemmas.List.Folds.{list_any_none}
use Rattle.std.proofs.lemmas.List.Elements.{All-push}
use Rattle.eve_write.specs.Data.{asked}
use Rattle.eve_write.specs.declared.request.RequestData.{RequestData}
use Rattle.eve_grammar.specs.Trace.{Asked, RequestId, request_id}
use Rattle.eve_workload.specs.Batches.{asked_lists}
use Rattle.eve_workload.specs.Workload.{requests_of}
use Rattle.eve_workload.specs.inner.RequestIds.{same_id, ids_of, ids_in, at_place, Follows, ReachesNumber, IsUpToLast}

-- ---- ids that are the same

pub same_id-true : (p q : RequestId) → same_id p q ≡ true → p ≡ q
same_id-true p q h =
    let client : p.0 ≡ q.0 = grind (arith, nat_tests) in
    let number : p.1 ≡ q.1 = grind (arith, nat_tests) in
    (λ k. (client k, number k))

pub same_id-itself : (p q : RequestId) → p ≡ q → same_id p q ≡ true
same_id-itself p q e =
    let client : p.0 ≡ q.0 = (λ k. (e k).0) in
    let number : p.1 ≡ q.1 = (λ k. (e k).1) in
    grind (arith, nat_tests)

-- ---- numbers that rise

below : (last : Option ℕ) (number other : ℕ) → Follows last number → ReachesNumber last other → other < number
below None number other follows reached = absurd reached
below (Some last) number other follows reached = omega (arith, follows, reached)

module _ (last : List (Option ℕ)) (id : RequestId) (there : id.0 % 256 < length last)
    (follows : Follows (at_place last id.0) id.1) where
  -- of the ids that were met, those of its place are below it
  seen_below : (other : RequestId) → IsUpToLast last other → other.0 % 256 ≡ id.0 % 256
      → other.1 < id.1
  seen_below other reached same =
      below (at_place last id.0) id.1 other.1 follows
      (subst (λ (place : ℕ). ReachesNumber (slice_index_or last place None) other.1) same reached)

  is_other : (other : RequestId) → IsUpToLast last other → same_id id other ≡ false
  is_other other reached =
      elim (cases_Bool (same_id id other)) [
        | inl same ↦
            let is : id ≡ other = same_id-true id other same in
            let under = seen_below other reached (ap (λ (r : RequestId). r.0 % 256) (sym is)) in
            absurd (omega (arith, under, ap (λ (r : RequestId). r.1) is))
        | inr other ↦ other
      ]

  pub is_new : (seen : List RequestId) → All (IsUpToLast last) seen → list_any (same_id id) seen ≡ false
  is_new seen all = list_any_none (same_id id) seen (λ k d within. is_other _ (all k d within))

  abbrev pub risen : List (Option ℕ)
  risen = slice_set last (id.0 % 256) (Some id.1)

  itself : at_place risen id.0 ≡ Some id.1
  itself = get_or-set_same last (id.0 % 256) (Some id.1) None there

  stays : (other : RequestId) → IsUpToLast last other → IsUpToLast risen other
  stays other reached =
      elim (cases_eq (other.0 % 256) (id.0 % 256)) [
        | inl same ↦
            let under = seen_below other reached same in
            let here : at_place risen other.0 ≡ Some id.1 =
            ap (λ (place : ℕ). slice_index_or risen place None) same ∙ itself in
            subst (λ (o : Option ℕ). ReachesNumber o other.1) (sym here) (omega (arith, under))
        | inr apart ↦
            subst (λ (o : Option ℕ). ReachesNumber o other.1)
            (sym (get_or-set_other last (id.0 % 256) (other.0 % 256) (Some id.1) None apart)) reached
      ]

  pub still_reached : (seen : List RequestId) → All (IsUpToLast last) seen → All (IsUpToLast risen) (seen ++ id ∷ [])
  still_reached seen all =
      All-push (IsUpToLast risen) seen id (λ k d within. stays _ (all k d within))
      (subst (λ (o : Option ℕ). ReachesNumber o id.1) (sym itself) (omega arith))

-- ---- the ids of requests

-- those of one request more
pub ids_more : (requests : List RequestData) (i : ℕ) (d r : RequestData) → r ≡ slice_index_or requests i d
    → i < length requests → ids_of (take (i + 1) requests) ≡ ids_of (take i requests) ++ request_id (asked r) ∷ []
ids_more requests i d r is there =
    ap (map request_id) (map_more asked requests i d there)
    ∙ map_push request_id (map asked (take i requests)) (asked (slice_index_or requests i d))
    ∙ (λ k. ids_of (take i requests) ++ request_id (asked (sym is k)) ∷ [])

-- those of one batch more
pub ids_in_more : (batches : List (Vec RequestData Global)) (i : ℕ) (d b : Vec RequestData Global)
    → b ≡ slice_index_or batches i d → i < length batches
    → ids_in (take (i + 1) batches) ≡ ids_in (take i batches) ++ ids_of b.items
ids_in_more batches i d b is there =
    let list : Vec RequestData Global → List Asked = λ one. map asked one.items in
    ap (λ lists. map request_id (requests_of lists)) (map_more list batches i d there)
    ∙ ap (map request_id) (flat_map-append (λ (one : List Asked). one) (asked_lists (take i batches))
    (list (slice_index_or batches i d) ∷ []) ∙ ap (λ rs. requests_of (asked_lists (take i batches)) ++ rs)
    (append-nil (list (slice_index_or batches i d))))
    ∙ map-append request_id (requests_of (asked_lists (take i batches))) (list (slice_index_or batches i d))
    ∙ (λ k. ids_in (take i batches) ++ ids_of (sym is k).items)
