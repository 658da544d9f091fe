-- What attempts noted, one after another.
use Rattle.std.proofs.Common.{◌≡◌, ℕ, zero, suc, ◌+◌, ◌-◌, ◌≤◌, List, [], ◌∷◌, ◌++◌, take, drop, slice_get}
use Rattle.std.proofs.Common.{Some, refl, sym, ap, ◌∙◌, append-nil, arith}
use Rattle.std.specs.List.{AllByRecursion, flat_map}
use Rattle.std.proofs.lemmas.Grind.{flat_map-append}
use Rattle.eve_smallbank.specs.declared.entry.Entry.{Entry}
use Rattle.eve_grammar.proofs.Lists.{all-slice_get, take_one_more}
use Rattle.eve_history.specs.SectionHistory.{ExecutedAttempt}
use Rattle.eve_chains.specs.Along.{entries_along, AreWithin}
use Rattle.eve_agree.specs.Marks.{Marking, marked, noted_between}
use Rattle.eve_agree.proofs.MarkLaws.{marked-append}

pub executed_attempt_within : (rows : ℕ) (rs : List ExecutedAttempt) (i : ℕ) (r : ExecutedAttempt)
    → AllByRecursion (λ q. AreWithin rows q.ordered) rs → slice_get rs i ≡ Some r → AreWithin rows r.ordered
executed_attempt_within rows rs i r within at =
    all-slice_get (λ (q : ExecutedAttempt). AreWithin rows q.ordered) rs i r within at

get-drop : {A : Type 0} (xs : List A) (first k : ℕ) → slice_get (drop first xs) k ≡ slice_get xs (first + k)
get-drop xs zero k = let same : 0 + k ≡ k = omega arith in ap (slice_get xs) (sym same)
get-drop [] (suc first) k = none (suc first + k)
  where
    none : {A : Type 0} (n : ℕ) → slice_get {X = A} [] k ≡ slice_get [] n
    none n = refl
get-drop (x ∷ xs) (suc first) k =
    let same : suc first + k ≡ suc (first + k) = omega arith in
    get-drop xs first k ∙ ap (slice_get (x ∷ xs)) (sym same)

-- one attempt more
pub noted_more : (base old new : Marking) (rs : List ExecutedAttempt) (first i : ℕ) (r : ExecutedAttempt) → first ≤ i
    → slice_get rs i ≡ Some r → old ≡ marked base (noted_between rs first i)
    → new ≡ marked old (entries_along r.ordered) → new ≡ marked base (noted_between rs first (i + 1))
noted_more base old new rs first i r le at so step =
    let along : ExecutedAttempt → List Entry = λ q. entries_along q.ordered in
    let there : slice_get (drop first rs) (i - first) ≡ Some r = get-drop rs first (i - first)
    ∙ (let same : first + (i - first) ≡ i = omega arith in ap (slice_get rs) same) ∙ at in
    let more : i + 1 - first ≡ i - first + 1 = omega arith in
    step ∙ ap (λ (marks : Marking). marked marks (along r)) so
    ∙ sym (marked-append base (noted_between rs first i) (along r))
    ∙ ap (marked base) (sym (ap (λ (n : ℕ). flat_map along (take n (drop first rs))) more
    ∙ ap (flat_map along) (take_one_more (drop first rs) (i - first) r there)
    ∙ flat_map-append along (take (i - first) (drop first rs)) (r ∷ [])
    ∙ ap (λ (es : List Entry). noted_between rs first i ++ es) (append-nil (along r))))
