-- Public: other crates cite these lemmas. Batches and access records, where they are looked up.
use Rattle.std.proofs.Common.{◌≡◌, ℕ, zero, suc, ◌+◌, ◌-◌, ◌<◌, ◌≤◌, ◌==◌, Bool, true, ◌&&◌, List, [], ◌∷◌, map}
use Rattle.std.proofs.Common.{length, get_or, take, drop, slice_get, Some, refl, sym, ap, subst, ◌∙◌, inl, inr}
use Rattle.std.proofs.Common.{IsTrue, arith}
use Rattle.std.specs.List.{AllByRecursion, list_any}
use Rattle.std.proofs.lemmas.Bool.{cases_Bool, or_cases, eqb-true, cond-true, cond-false}
use Rattle.std.proofs.lemmas.Bool.{false≢true}
use Rattle.std.proofs.lemmas.List.{length-take-le, length-drop}
use Rattle.std.proofs.lemmas.Option.{same_Some, get_or_from_slice_get}
use Rattle.std.specs.Cmp.Lexicographic.{pointwise}
use Rattle.eve_grammar.specs.Trace.{Access, Attempt, Batch, Commit, Trace}
use Rattle.eve_grammar.specs.Frames.{batches_of, without_accesses}
use Rattle.eve_grammar.specs.Spelling.{batch_text, batches_start, batches_at}
use Rattle.eve_grammar.specs.Limits.{is_batch, HasLimits}
use Rattle.eve_history.specs.declared.access_marks.AccessMarks.{AccessMarks}
use Rattle.eve_grammar.specs.Certificate.{is_certificate}
use Rattle.eve_history.specs.Section.{Placed, SectionState, no_batch, batch_at, commits_first}
use Rattle.eve_history.specs.Section.{request_count, is_right_certificate, is_right_commit}
use Rattle.eve_history.specs.SectionHistory.{access_with}
use Rattle.eve_history.specs.Structure.{accesses_of}
use Rattle.eve_history.specs.inner.MarkedRecords.{AreMarked}
use Rattle.eve_history.specs.KeptSections.{KeptAttempt, KeptSection, StandsAt}
use Rattle.eve_grammar.proofs.GroupOrder.{all_at}
use Rattle.eve_grammar.proofs.Lists.{drop_here}
use Rattle.eve_grammar.proofs.Numbered.{numbered_get}
use Rattle.eve_views.proofs.FrameOffsets.{located_get}

-- ---- batches

batch_there : (t : Trace) (i : ℕ) (b : ℕ × (ℕ × Batch)) → slice_get (batches_at t) i ≡ Some b → slice_get t.batches i
    ≡ Some b.1.1
unfolding batches_at
batch_there t i b e = numbered_get 1 t.batches i b.1 (located_get batch_text (batches_start t) (batches_of t) i b e)

pub batch_is : (t : Trace) (n : ℕ) (b : ℕ × (ℕ × Batch)) → slice_get (batches_at t) (n - 1) ≡ Some b → batch_at t n
    ≡ b.1.1
batch_is t n b e = get_or_from_slice_get t.batches (n - 1) b.1.1 no_batch (batch_there t (n - 1) b e)

-- the same of a number that was read
pub named_batch : (t : Trace) (n read : ℕ) (b : ℕ × (ℕ × Batch)) → read ≡ n
    → slice_get (batches_at t) (read - 1) ≡ Some b → batch_at t n ≡ b.1.1
named_batch t n read b is e = batch_is t n b (ap (λ (k : ℕ). slice_get (batches_at t) (k - 1)) (sym is) ∙ e)

pub batch_fits : (t : Trace) (n : ℕ) (b : ℕ × (ℕ × Batch)) → HasLimits t → slice_get (batches_at t) (n - 1) ≡ Some b
    → is_batch b.1.1 ≡ true
batch_fits t n b limits e = all_at is_batch t.batches (n - 1) b.1.1 limits.batches (batch_there t (n - 1) b e)

-- ---- an attempt, where its batch is found

module _ (t : Trace) (a : Attempt) (b : Batch) (batch : batch_at t a.seq ≡ b) where
  pub named_count : (length a.certificate == length b.requests) ≡ (length a.certificate == request_count t a)
  named_count = rw (batch) refl

  pub named_certificate : is_certificate b.sizes (length b.requests) a.serial a.certificate ≡ is_right_certificate t a
  named_certificate = rw (batch) refl

-- ---- the first open attempt

pub get_mapped : {A B : Type 0} (f : A → B) (xs : List A) (i : ℕ) (x : A) → slice_get xs i ≡ Some x
    → slice_get (map f xs) i ≡ Some (f x)
get_mapped f [] i x e = absurd (cc)
get_mapped f (y ∷ xs) zero x e = ap Some (ap f (same_Some y x e))
get_mapped f (y ∷ xs) (suc i) x e = get_mapped f xs i x e

abbrev without : Placed → Attempt
without p = without_accesses p.attempt

first_pending : (pending : List Placed) (f : Attempt) (rest : List Attempt) (c : Commit) → map without pending
    ≡ f ∷ rest → commits_first pending c ≡ ((f.view == c.view) && pointwise ◌==◌ f.token c.token)
first_pending [] f rest c e = absurd (none f rest e)
  where
    none : (f : Attempt) (rest : List Attempt) → ◌≡◌ {A = List Attempt} [] (f ∷ rest) → ⊥
    none f rest e = cc
first_pending (p ∷ ps) f rest c e = ap (λ (g : Attempt). (g.view == c.view) && pointwise ◌==◌ g.token c.token)
    (same (without p) (map without ps) f rest e)
  where
    same : (x : Attempt) (xs : List Attempt) (y : Attempt) (ys : List Attempt)
        → ◌≡◌ {A = List Attempt} (x ∷ xs) (y ∷ ys) → x ≡ y
    same x xs y ys e = cc

pub commit_is : (s : SectionState) (k : KeptSection) (f : KeptAttempt) (c : Commit) → StandsAt s k
    → slice_get k.attempts (length k.fates) ≡ Some f
    → is_right_commit s c ≡ ((c.seq == k.last + 1) &&
    ((f.attempt.view == c.view) && pointwise ◌==◌ f.attempt.token c.token))
commit_is s k f c stands at =
    let open_is = stands.pending ∙ drop_here (map (λ (a : KeptAttempt). a.attempt) k.attempts)
    (length k.fates) f.attempt (get_mapped (λ (a : KeptAttempt). a.attempt) k.attempts (length k.fates) f at) in
    ap (λ (b : Bool). (c.seq == s.last + 1) && b) (first_pending s.pending f.attempt _ c open_is)
    ∙ ap (λ (n : ℕ). (c.seq == n + 1) && ((f.attempt.view == c.view) && pointwise ◌==◌ f.attempt.token c.token))
    (sym stands.last)

-- ---- an access record by its index

pub found_offset : (xs : List (ℕ × Access)) (m : AccessMarks) (i : ℕ) → AreMarked xs m
    → list_any (λ y. y.index == i) (accesses_of xs) ≡ true → get_or m.offsets i 0 ≡ (access_with xs i).0
found_offset xs m i marked some =
    let found = first xs some in
    by found.1 found.3 (marked.offsets found.0 found.1 found.2).1 found.4
  where
    by : (x : ℕ × Access) → x.1.index ≡ i → get_or m.offsets x.1.index 0 ≡ x.0 → x ≡ access_with xs i
        → get_or m.offsets i 0 ≡ (access_with xs i).0
    by x same kept is =
        ap {B = ℕ} (λ (j : ℕ). get_or m.offsets j 0) (sym same) ∙ kept ∙ ap {B = ℕ} (λ (y : ℕ × Access). y.0) is

    first : (ys : List (ℕ × Access)) → list_any (λ y. y.index == i) (accesses_of ys) ≡ true
        → (k : ℕ) × (x : ℕ × Access) × (slice_get ys k ≡ Some x) × (x.1.index ≡ i) × (x ≡ access_with ys i)
    first [] h = absurd (false≢true h)
    first (y ∷ ys) h = elim (cases_Bool (y.1.index == i)) [
      | inl here ↦ (0, y, refl, eqb-true y.1.index i here, sym (cond-true (y.1.index == i) y (access_with ys i) here))
      | inr other ↦
          let later = first ys (elim (or_cases (y.1.index == i) (list_any (λ z. z.index == i) (accesses_of ys)) h)
          [ inl here ↦ absurd (false≢true (sym other ∙ here)) | inr there ↦ there ]) in (
            suc later.0,
            later.1,
            later.2,
            later.3,
            later.4
                ∙ sym (cond-false (y.1.index == i) y (access_with ys i) other),
          )
    ]

-- those of an order
pub found_offsets : (xs : List (ℕ × Access)) (m : AccessMarks) (order : List ℕ) → AreMarked xs m
    → AllByRecursion (λ i. (i < 256) × IsTrue (list_any (λ y. y.index == i) (accesses_of xs))) order
    → map (λ i. get_or m.offsets i 0) order ≡ map (λ i. (access_with xs i).0) order
found_offsets xs m [] marked there = refl
found_offsets xs m (i ∷ order) marked there =
    λ j. found_offset xs m i marked there.0.1 j ∷ found_offsets xs m order marked there.1 j

pub listed_small : (xs : List (ℕ × Access)) (order : List ℕ)
    → AllByRecursion (λ i. (i < 256) × IsTrue (list_any (λ y. y.index == i) (accesses_of xs))) order
    → AllByRecursion (λ i. i < 256) order
listed_small xs [] there = tt
listed_small xs (i ∷ order) there = (there.0.0, listed_small xs order there.1)

-- what was read at a place
pub get_is : {A : Type 0} (xs : List A) (i : ℕ) (x : A) → i < length xs → x ≡ get_or xs i x → slice_get xs i ≡ Some x
get_is [] i x lt e = absurd (omega arith)
get_is (y ∷ xs) zero x lt e = ap Some (sym e)
get_is (y ∷ xs) (suc i) x lt e = get_is xs i x (omega arith) e

-- a place in a part of a list
pub get_in_part : {A : Type 0} (xs : List A) (from count place : ℕ) (x : A) → place < count
    → slice_get xs (from + place) ≡ Some x → slice_get (take count (drop from xs)) place ≡ Some x
get_in_part {A = A} xs from count place x lt e = in_prefix (drop from xs) count place lt (behind xs from e)
  where
    behind : (xs : List A) (from : ℕ) → slice_get xs (from + place) ≡ Some x → slice_get (drop from xs) place ≡ Some x
    behind xs zero e = let same : 0 + place ≡ place = omega arith in subst (λ (n : ℕ). slice_get xs n ≡ Some x) same e
    behind [] (suc from) e = absurd (cc)
    behind (y ∷ xs) (suc from) e = let same : suc from + place ≡ suc (from + place) = omega arith in
        behind xs from (subst (λ (n : ℕ). slice_get (y ∷ xs) n ≡ Some x) same e)

    in_prefix : (ys : List A) (count place : ℕ) → place < count → slice_get ys place ≡ Some x
        → slice_get (take count ys) place ≡ Some x
    in_prefix ys zero place lt e = absurd (omega arith)
    in_prefix [] (suc count) place lt e = e
    in_prefix (y ∷ ys) (suc count) zero lt e = e
    in_prefix (y ∷ ys) (suc count) (suc place) lt e = in_prefix ys count place (omega arith) e

pub part_length : {A : Type 0} (xs : List A) (from count : ℕ) → from + count ≤ length xs
    → length (take count (drop from xs)) ≡ count
part_length xs from count le = length-take-le count (drop from xs) (omega (arith, length-drop from xs))
