-- The two least views in which a batch is decided, and the batches of a trace.
use Rattle.std.proofs.Common.{◌≡◌, ℕ, ◌+◌, ◌<◌, ◌≤◌, Bool, true, List, [], ◌∷◌, length, slice_get, Some, inl, inr}
use Rattle.std.proofs.Common.{arith}
use Rattle.std.specs.List.{AllByRecursion, list_all}
use Rattle.std.proofs.lemmas.Bool.{and_parts, cases_lt}
use Rattle.std.proofs.lemmas.Option.{slice_get_within}
use Rattle.eve_grammar.specs.Trace.{Batch, Trace}
use Rattle.eve_grammar.specs.Frames.{batches_of}
use Rattle.eve_grammar.specs.Spelling.{batch_text, batches_at, batches_start}
use Rattle.eve_grammar.proofs.Numbered.{numbered_get}
use Rattle.eve_views.specs.Form.{SomePlace}
use Rattle.eve_views.proofs.FrameOffsets.{located_get}
use Rattle.eve_votes.proofs.Places.{get_place}
use Rattle.eve_votes.specs.Votes.{IsDecided}
use Rattle.eve_votes.specs.Faults.{HasTwoDecisions}
use Rattle.eve_votes.specs.NextDecision.{IsNextDecision}
use Rattle.eve_votes.specs.declared.decided.Decided.{Decided}

-- ---- tests of all

pub all_true : {A : Type 0} (p : A → Bool) (xs : List A) → list_all p xs ≡ true → AllByRecursion (λ x. p x ≡ true) xs
all_true p [] e = tt
all_true p (x ∷ xs) e = (let parts = and_parts (p x) _ e in (parts.0, all_true p xs parts.1))

-- ---- two of them

module _ (t : Trace) (n : ℕ) where
  pub no_first : ((view : ℕ) (token : List ℕ) → 0 ≤ view → ¬ IsDecided t n view token) → ¬ HasTwoDecisions t n
  no_first none (view, other, token, other_token, apart, one, two) = none view token (omega arith) one

  pub no_second : (d : Decided) (from : ℕ) → IsNextDecision t n 0 d → from ≡ d.view + 1
      → ((view : ℕ) (token : List ℕ) → from ≤ view → ¬ IsDecided t n view token) → ¬ HasTwoDecisions t n
  no_second d from next is none (view, other, token, other_token, apart, one, two) =
      let low = next.least view token (omega arith) one in
      let also = next.least other other_token (omega arith) two in
      elim (cases_lt d.view view) [
        | inl lt ↦ none view token (omega arith) one
        | inr le ↦ elim (cases_lt d.view other) [
          | inl lt ↦ none other other_token (omega arith) two
          | inr more ↦ apart (omega arith)
        ]
      ]

-- ---- batches

pub batch_there : (t : Trace) (i : ℕ) (b : ℕ × (ℕ × Batch)) → slice_get (batches_at t) i ≡ Some b
    → slice_get t.batches i ≡ Some b.1.1
unfolding batches_at
batch_there t i b e = numbered_get 1 t.batches i b.1 (located_get batch_text (batches_start t) (batches_of t) i b e)

-- the batch that stands there is one of them
pub batch_stands : (t : Trace) (P : List (ℕ × (ℕ × Batch)) → ℕ × (ℕ × Batch) → Type 0)
    → (place : SomePlace (batches_at t) P) → length place.before < length t.batches
batch_stands t P place =
    slice_get_within t.batches (length place.before) place.item.1.1
    (batch_there t (length place.before) place.item (get_place (batches_at t) place))
