-- Items put into groups, of any kind of item.
use Rattle.std.proofs.Common.{◌≡◌, ℕ, ◌+◌, Bool, true, false, List, [], ◌∷◌, ◌++◌, map, length, sum, All, refl, sym, ap}
use Rattle.std.proofs.Common.{subst, ◌∙◌, append_assoc}
use Rattle.std.specs.Prelude.{if◌then◌else◌, IsPermutation, ◌||◌}
use Rattle.std.specs.List.{list_any, flat_map}
use Rattle.std.proofs.lemmas.List.{append-nil, map-append, length-map, length-append}
use Rattle.std.proofs.lemmas.List.Elements.{All-nil, All-cons, All-head, All-tail}
use Rattle.std.proofs.lemmas.List.Sorted.{IsPermutation-refl, IsPermutation-sym, IsPermutation-trans}
use Rattle.std.proofs.lemmas.List.Sorted.{IsPermutation-middle, IsPermutation-append_left, IsPermutation-append_right}
use Rattle.std.proofs.lemmas.List.Sums.{sum_by-cons}
use Rattle.eve_workload.specs.Mixers.{placed, first_fit}
use Rattle.eve_workload.specs.inner.Groups.{AreGroups}

-- items of one group after another
abbrev flat : {A : Type 0} → List (List A) → List A
flat groups = flat_map (λ group. group) groups

-- ---- one more item

pub first_fit-push : {A : Type 0} (clash : A → A → Bool) (groups : List (List A)) (items : List A) (item : A)
    → first_fit clash groups (items ++ item ∷ []) ≡ placed clash (first_fit clash groups items) item
first_fit-push clash groups [] item = refl
first_fit-push clash groups (first ∷ items) item = first_fit-push clash (placed clash groups first) items item

-- ---- each item once

module _ {A : Type 0} (clash : A → A → Bool) where
  pub placed_keeps : (groups : List (List A)) (item : A)
      → IsPermutation (item ∷ flat groups) (flat (placed clash groups item))
  placed_keeps [] item = IsPermutation-refl (item ∷ [])
  placed_keeps (group ∷ groups) item =
      let P : List (List A) → Type 0 = λ after. IsPermutation (item ∷ flat (group ∷ groups)) (flat after) in
      let to_middle : IsPermutation (item ∷ (group ++ flat groups)) (group ++ item ∷ flat groups) =
      IsPermutation-sym (group ++ item ∷ flat groups) (item ∷ (group ++ flat groups))
      (IsPermutation-middle group item (flat groups)) in
      elim (list_any (clash item) group) as
      (λ b. P (if b then group ∷ placed clash groups item else (group ++ item ∷ []) ∷ groups)) [
        | true ↦ IsPermutation-trans (item ∷ flat (group ∷ groups)) (group ++ item ∷ flat groups)
            (flat (group ∷ placed clash groups item)) to_middle
            (IsPermutation-append_right group (item ∷ flat groups) (flat (placed clash groups item))
            (placed_keeps groups item))
        | false ↦ subst (IsPermutation (item ∷ flat (group ∷ groups)))
            (sym (append_assoc group (item ∷ []) (flat groups))) to_middle
      ]

  pub first_fit_keeps : (groups : List (List A)) (items : List A)
      → IsPermutation (flat groups ++ items) (flat (first_fit clash groups items))
  first_fit_keeps groups [] = subst (λ xs. IsPermutation xs (flat groups)) (sym (append-nil (flat groups)))
      (IsPermutation-refl (flat groups))
  first_fit_keeps groups (item ∷ items) =
      IsPermutation-trans (flat groups ++ item ∷ items) (flat (placed clash groups item) ++ items)
      (flat (first_fit clash (placed clash groups item) items))
      (IsPermutation-trans (flat groups ++ item ∷ items) ((item ∷ flat groups) ++ items)
      (flat (placed clash groups item) ++ items)
      (IsPermutation-middle (flat groups) item items)
      (IsPermutation-append_left items (item ∷ flat groups) (flat (placed clash groups item))
      (placed_keeps groups item)))
      (first_fit_keeps (placed clash groups item) items)

  -- ---- what holds of each group

  module _ (P : List A → Type 0) (one : (item : A) → P (item ∷ [])) (more : (group : List A) (item : A)
      → list_any (clash item) group ≡ false → P group → P (group ++ item ∷ [])) where
    all_placed : (groups : List (List A)) (item : A) → All P groups → All P (placed clash groups item)
    all_placed [] item all = All-cons P (item ∷ []) [] (one item) (All-nil P)
    all_placed (group ∷ groups) item all =
        let cases : (b : Bool) → list_any (clash item) group ≡ b
        → All P (if b then group ∷ placed clash groups item else (group ++ item ∷ []) ∷ groups) =
        λ b is. elim b as (λ v. list_any (clash item) group ≡ v
        → All P (if v then group ∷ placed clash groups item else (group ++ item ∷ []) ∷ groups)) [
          | true ↦ λ hit. All-cons P group (placed clash groups item) (All-head P group groups all)
              (all_placed groups item (All-tail P group groups all))
          | false ↦ λ free. All-cons P (group ++ item ∷ []) groups (more group item free (All-head P group groups all))
              (All-tail P group groups all)
        ] is in
        cases (list_any (clash item) group) refl

    pub all_first_fit : (groups : List (List A)) (items : List A) → All P groups → All P (first_fit clash groups items)
    all_first_fit groups [] all = all
    all_first_fit groups (item ∷ items) all = all_first_fit (placed clash groups item) items
        (all_placed groups item all)

-- ---- items that stand for others

module _ {A B : Type 0} (h : A → B) (clash : A → A → Bool) (clash' : B → B → Bool)
    (same : (x y : A) → clash' (h x) (h y) ≡ clash x y) where
  any_same : (item : A) (group : List A) → list_any (clash' (h item)) (map h group) ≡ list_any (clash item) group
  any_same item [] = refl
  any_same item (x ∷ group) = λ i. same item x i || any_same item group i

  placed_same : (groups : List (List A)) (item : A) → map (map h) (placed clash groups item)
      ≡ placed clash' (map (map h) groups) (h item)
  placed_same [] item = refl
  placed_same (group ∷ groups) item =
      let after : Bool → List (List B) =
      λ b. if b then map h group ∷ placed clash' (map (map h) groups) (h item) else (map h group ++ h item ∷ []) ∷ map
      (map h) groups in
      let here : map (map h) (placed clash (group ∷ groups) item) ≡ after (list_any (clash item) group) =
      elim (list_any (clash item) group) as
      (λ b. map (map h) (if b then group ∷ placed clash groups item else (group ++ item ∷ []) ∷ groups) ≡ after b) [
        | true ↦ ap (λ gs. map h group ∷ gs) (placed_same groups item)
        | false ↦ ap (λ g. g ∷ map (map h) groups) (map-append h group (item ∷ []))
      ] in
      here ∙ ap after (sym (any_same item group))

  pub first_fit_same : (groups : List (List A)) (items : List A) → map (map h) (first_fit clash groups items)
      ≡ first_fit clash' (map (map h) groups) (map h items)
  first_fit_same groups [] = refl
  first_fit_same groups (item ∷ items) =
      first_fit_same (placed clash groups item) items
      ∙ ap (λ gs. first_fit clash' gs (map h items)) (placed_same groups item)

module _ {A B : Type 0} (h : A → B) where
  lengths_same : (groups : List (List A)) → map length groups ≡ map length (map (map h) groups)
  lengths_same [] = refl
  lengths_same (group ∷ groups) = λ i. sym (length-map group h) i ∷ lengths_same groups i

  flat_same : (groups : List (List A)) → map h (flat groups) ≡ flat (map (map h) groups)
  flat_same [] = refl
  flat_same (group ∷ groups) = map-append h group (flat groups) ∙ ap (λ xs. map h group ++ xs) (flat_same groups)

  pub groups_same : (sizes : List ℕ) (order : List A) (groups : List (List A)) → AreGroups sizes order groups
      → AreGroups sizes (map h order) (map (map h) groups)
  groups_same sizes order groups are =
      record { sizes_are = are.sizes_are ∙ lengths_same groups; order_is = ap (map h) are.order_is ∙ flat_same groups }

-- ---- sizes

pub sum_of_lengths : {A : Type 0} (groups : List (List A)) → sum (map length groups) ≡ length (flat groups)
sum_of_lengths [] = refl
sum_of_lengths (group ∷ groups) =
    sum_by-cons (λ (n : ℕ). n) (length group) (map length groups) ∙ ap (λ n. length group + n) (sum_of_lengths groups)
    ∙ sym (length-append group (flat groups))
