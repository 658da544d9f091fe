-- Access records of an attempt, marked one after another.
use Rattle.std.proofs.Common.{◌≡◌, ◌≢◌, ℕ, zero, suc, ◌+◌, ◌<◌, ◌≤◌, ◌==◌, Bool, true, false, ◌||◌, cond, eqb, ltb}
use Rattle.std.proofs.Common.{List, [], ◌∷◌, ◌++◌, length, get_or, set, replicate, take, drop, slice_get, count_by}
use Rattle.std.proofs.Common.{Option, Some, None, refl, sym, ap, subst, ◌∙◌, inl, inr, ◌⊎◌, add-zero, arith}
use Rattle.std.specs.List.{list_any}
use Rattle.std.proofs.lemmas.Bool.{cases_eq, and_from, and_left, and_right, or_parts, or_right, not_from_true}
use Rattle.std.proofs.lemmas.Bool.{not_from_false, eq-eqb, ne_eqb, eqb-false, lt-ltb, le-ltb, cond-true, cond-false}
use Rattle.std.proofs.lemmas.List.{length-set, length-replicate, get_or-replicate, get_or-set_same, get_or-set_other}
use Rattle.std.proofs.lemmas.List.{take_all, drop_all}
use Rattle.std.proofs.lemmas.List.Recursion.{or_push}
use Rattle.std.proofs.lemmas.List.Sums.{sum_by_push}
use Rattle.std.proofs.lemmas.Option.{same_Some}
use Rattle.eve_grammar.specs.Trace.{Access}
use Rattle.eve_views.specs.declared.fault.Code.{Code}
use Rattle.eve_views.specs.declared.fault.Code.TheVariants as code
use Rattle.eve_history.specs.declared.access_marks.AccessMarks.{AccessMarks}
use Rattle.eve_grammar.specs.Accesses.{is_new_access, is_right_place}
use Rattle.eve_grammar.proofs.Lists.{drop_here, take_one_more}
use Rattle.eve_history.specs.Structure.{accesses_of}
use Rattle.eve_history.specs.inner.FirstWrong.{found_or, wrong_accesses}
use Rattle.eve_history.specs.inner.MarkedRecords.{AreMarked, IsMarkedIfRight, AreMarkedIfRight}
use Rattle.eve_history.proofs.StructureLaws.{accesses_of-append}

-- ---- lists

pub pushed : {A : Type 0} (xs : List A) (x : A) (k : ℕ) (y : A) → slice_get (xs ++ x ∷ []) k ≡ Some y
    → (slice_get xs k ≡ Some y) ⊎ ((k ≡ length xs) × (x ≡ y))
pushed [] x zero y e = inr (refl, same_Some x y e)
pushed [] x (suc k) y e = absurd (cc)
pushed (z ∷ xs) x zero y e = inl e
pushed (z ∷ xs) x (suc k) y e = elim (pushed xs x k y e) [
  | inl before ↦ inl before
  | inr last ↦ inr (ap suc last.0, last.1)
]

none_at : {A : Type 0} (p : A → Bool) (xs : List A) (k : ℕ) (y : A) → list_any p xs ≡ false → slice_get xs k ≡ Some y
    → p y ≡ false
none_at p [] k y none e = absurd (cc)
none_at p (x ∷ xs) zero y none e = ap p (sym (same_Some x y e)) ∙ (or_parts (p x) (list_any p xs) none).0
none_at p (x ∷ xs) (suc k) y none e = none_at p xs k y (or_parts (p x) (list_any p xs) none).1 e

transferred_at : (xs : List (ℕ × Access)) (k : ℕ) (y : ℕ × Access) → slice_get xs k ≡ Some y
    → slice_get (accesses_of xs) k ≡ Some y.1
transferred_at [] k y e = absurd (cc)
transferred_at (x ∷ xs) zero y e = ap Some (ap (λ (z : ℕ × Access). z.1) (same_Some x y e))
transferred_at (x ∷ xs) (suc k) y e = transferred_at xs k y e

-- ---- one record

pub marked_none : AreMarked []
    (record { seen = replicate 256 false; offsets = replicate 256 0; places = replicate 8 0 })
marked_none = record {
  indexes = length-replicate {A = Bool} 256 false;
  slots = length-replicate {A = ℕ} 256 0;
  workers = length-replicate {A = ℕ} 8 0;
  seen = λ i lt. get_or-replicate {A = Bool} 256 i false false lt;
  places = λ w lt. get_or-replicate {A = ℕ} 8 w 0 0 lt;
  offsets = λ k y e. absurd (none k y e);
}
  where
    none : (k : ℕ) (y : ℕ × Access) → ◌≡◌ {A = Option (ℕ × Access)} None (Some y) → ⊥
    none k y e = cc

abbrev pub with_mark : AccessMarks → ℕ × Access → AccessMarks
with_mark m x = record {
  seen = set m.seen x.1.index true;
  offsets = set m.offsets x.1.index x.0;
  places = set m.places x.1.worker (get_or m.places x.1.worker 0 + 1);
}

pub marked_one : (before : List (ℕ × Access)) (m : AccessMarks) (x : ℕ × Access) → AreMarked before m
    → x.1.index < 256 → x.1.worker < 8 → list_any (λ y. y.index == x.1.index) (accesses_of before) ≡ false
    → AreMarked (before ++ x ∷ []) (with_mark m x)
marked_one before m (at, x) marked index worker new = record {
  indexes = length-set m.seen x.index true ∙ marked.indexes;
  slots = length-set m.offsets x.index at ∙ marked.slots;
  workers = length-set m.places x.worker (get_or m.places x.worker 0 + 1) ∙ marked.workers;
  seen = λ i lt. seen_one i lt
      ∙ ap (list_any (λ (y : Access). y.index == i)) (sym (accesses_of-append before ((at, x) ∷ [])));
  places = λ w lt. places_one w lt
      ∙ ap (count_by (λ (y : Access). y.worker == w)) (sym (accesses_of-append before ((at, x) ∷ [])));
  offsets = offsets_one;
}
  where
    seen_one : (i : ℕ) → i < 256 → get_or (set m.seen x.index true) i false
        ≡ list_any (λ y. y.index == i) (accesses_of before ++ x ∷ [])
    seen_one i lt =
        let split = or_push (list_any (λ (y : Access). y.index == i)) (λ (y : Access). y.index == i) refl
        (λ _ _. refl) (accesses_of before) x in
        elim (cases_eq i x.index) [
          | inl same ↦
              let long : x.index < length m.seen = omega (arith, marked.indexes) in
              ap (λ (j : ℕ). get_or (set m.seen x.index true) j false) same
              ∙ get_or-set_same m.seen x.index true false long
              ∙ sym (split ∙ or_right (list_any (λ y. y.index == i) (accesses_of before)) (eqb x.index i)
              (eq-eqb x.index i (sym same)))
          | inr other ↦
              get_or-set_other m.seen x.index i true false other ∙ marked.seen i lt
              ∙ sym (split ∙ ap (λ (b : Bool). list_any (λ y. y.index == i) (accesses_of before) || b)
              (ne_eqb x.index i (λ e. other (sym e))) ∙ or_none (list_any (λ y. y.index == i) (accesses_of before)))
        ]
      where
        or_none : (b : Bool) → (b || false) ≡ b
        or_none true = refl
        or_none false = refl

    places_one : (w : ℕ) → w < 8 → get_or (set m.places x.worker (get_or m.places x.worker 0 + 1)) w 0
        ≡ count_by (λ y. y.worker == w) (accesses_of before ++ x ∷ [])
    places_one w lt =
        let split = sum_by_push (λ (y : Access). cond (y.worker == w) 1 0) (accesses_of before) x in
        elim (cases_eq w x.worker) [
          | inl same ↦
              let long : x.worker < length m.places = omega (arith, marked.workers) in
              ap (λ (j : ℕ). get_or (set m.places x.worker (get_or m.places x.worker 0 + 1)) j 0) same
              ∙ get_or-set_same m.places x.worker (get_or m.places x.worker 0 + 1) 0 long
              ∙ ap (λ (j : ℕ). get_or m.places j 0 + 1) (sym same) ∙ ap (λ (n : ℕ). n + 1) (marked.places w lt)
              ∙ sym (split ∙ ap (λ (n : ℕ). count_by (λ y. y.worker == w) (accesses_of before) + n)
              (cond-true (eqb x.worker w) 1 0 (eq-eqb x.worker w (sym same))))
          | inr other ↦
              get_or-set_other m.places x.worker w (get_or m.places x.worker 0 + 1) 0 other ∙ marked.places w lt
              ∙ sym (split ∙ ap (λ (n : ℕ). count_by (λ y. y.worker == w) (accesses_of before) + n)
              (cond-false (eqb x.worker w) 1 0 (ne_eqb x.worker w (λ e. other (sym e))))
              ∙ add-zero (count_by (λ y. y.worker == w) (accesses_of before)))
        ]

    offsets_one : (k : ℕ) (y : ℕ × Access) → slice_get (before ++ (at, x) ∷ []) k ≡ Some y → (y.1.index < 256)
        × (get_or (set m.offsets x.index at) y.1.index 0 ≡ y.0)
    offsets_one k y e = elim (pushed before (at, x) k y e) [
      | inl earlier ↦
          let old = marked.offsets k y earlier in
          let other : y.1.index ≢ x.index =
          eqb-false y.1.index x.index (none_at (λ (z : Access). z.index == x.index) (accesses_of before) k y.1 new
          (transferred_at before k y earlier)) in
          (old.0, get_or-set_other m.offsets x.index y.1.index at 0 other ∙ old.1)
      | inr last ↦
          let long : x.index < length m.offsets = omega (arith, marked.slots) in
          let same : x.index ≡ y.1.index = ap (λ (z : ℕ × Access). z.1.index) last.1 in
          let offset : at ≡ y.0 = ap (λ (z : ℕ × Access). z.0) last.1 in (
            subst (λ (j : ℕ). j < 256) same index,
            ap (λ (j : ℕ). get_or (set m.offsets x.index at) j 0) (sym same)
                ∙ get_or-set_same m.offsets x.index at 0 long ∙ offset,
          )
    ]

-- ---- what is wrong with one

pub no_worker : (workers count : ℕ) (before : List Access) (x : Access) → workers ≤ x.worker
    → is_new_access workers count before x ≡ false
no_worker workers count before x le = and_left (ltb x.worker workers) _ (le-ltb x.worker workers le)

pub no_index : (workers count : ℕ) (before : List Access) (x : Access) → count ≤ x.index
    → is_new_access workers count before x ≡ false
no_index workers count before x le =
    and_right (ltb x.worker workers) _ (and_left (ltb x.index count) _ (le-ltb x.index count le))

pub old_index : (workers count : ℕ) (before : List Access) (x : Access) → list_any (λ y. y.index == x.index) before
    ≡ true → is_new_access workers count before x ≡ false
old_index workers count before x old =
    and_right (ltb x.worker workers) _
    (and_right (ltb x.index count) _ (not_from_true (list_any (λ y. y.index == x.index) before) old))

pub new_index : (workers count : ℕ) (before : List Access) (x : Access) → x.worker < workers → x.index < count
    → list_any (λ y. y.index == x.index) before ≡ false → is_new_access workers count before x ≡ true
new_index workers count before x worker index new =
    and_from (ltb x.worker workers) _ (lt-ltb x.worker workers worker)
    (and_from (ltb x.index count) _ (lt-ltb x.index count index)
    (not_from_false (list_any (λ y. y.index == x.index) before) new))

pub judged_access : (workers count : ℕ) (before : List (ℕ × Access)) (x : ℕ × Access) (m : AccessMarks)
    → is_new_access workers count (accesses_of before) x.1 ≡ false
    → IsMarkedIfRight workers count before x (Some code.Access) m
judged_access workers count before x m wrong = record { answer = rw wrong refl; marked = tt }

pub judged_place : (workers count : ℕ) (before : List (ℕ × Access)) (x : ℕ × Access) (m : AccessMarks)
    → is_new_access workers count (accesses_of before) x.1 ≡ true → is_right_place (accesses_of before) x.1 ≡ false
    → IsMarkedIfRight workers count before x (Some code.WorkerOrder) m
judged_place workers count before x m right wrong = record { answer = rw (right, wrong) refl; marked = tt }

pub judged_right : (workers count : ℕ) (before : List (ℕ × Access)) (x : ℕ × Access) (m : AccessMarks)
    → is_new_access workers count (accesses_of before) x.1 ≡ true → is_right_place (accesses_of before) x.1 ≡ true
    → AreMarked (before ++ x ∷ []) m → IsMarkedIfRight workers count before x None m
judged_right workers count before x m right place marked = record { answer = rw (right, place) refl; marked = marked }

-- the answers, where the worker and the index stand in variables
module _ (workers count : ℕ) (before : List (ℕ × Access)) (x : ℕ × Access) (m : AccessMarks) (worker index : ℕ)
    (worker_is : worker ≡ x.1.worker) (index_is : index ≡ x.1.index) (marked : AreMarked before m) where
  abbrev others : List Access
  others = accesses_of before

  pub refused_worker : workers ≤ worker → IsMarkedIfRight workers count before x (Some code.Access) m
  refused_worker le = judged_access workers count before x m (no_worker workers count others x.1 (omega arith))

  pub refused_index : count ≤ index → IsMarkedIfRight workers count before x (Some code.Access) m
  refused_index le = judged_access workers count before x m (no_index workers count others x.1 (omega arith))

  seen_is : (b : Bool) → index < 256 → get_or m.seen index false ≡ b → list_any (λ y. y.index == x.1.index) others ≡ b
  seen_is b lt e =
      let small : x.1.index < 256 = omega arith in
      sym (marked.seen x.1.index small) ∙ ap (λ (j : ℕ). get_or m.seen j false) (sym index_is) ∙ e

  pub refused_again : index < 256 → get_or m.seen index false ≡ true
      → IsMarkedIfRight workers count before x (Some code.Access) m
  refused_again lt old =
      judged_access workers count before x m (old_index workers count others x.1 (seen_is true lt old))

  is_new : worker < workers → index < count → count ≤ 256 → get_or m.seen index false ≡ false
      → is_new_access workers count others x.1 ≡ true
  is_new few below small new = new_index workers count others x.1 (omega arith) (omega arith)
      (seen_is false (omega arith) new)

  places_are : workers ≤ 8 → worker < workers → get_or m.places worker 0 ≡ count_by (λ y. y.worker == x.1.worker) others
  places_are eight few = let lt : x.1.worker < 8 = omega arith in ap (λ (w : ℕ). get_or m.places w 0) worker_is
      ∙ marked.places x.1.worker lt

  pub refused_place : workers ≤ 8 → count ≤ 256 → worker < workers → index < count → get_or m.seen index false ≡ false
      → x.1.place ≢ get_or m.places worker 0 → IsMarkedIfRight workers count before x (Some code.WorkerOrder) m
  refused_place eight small few below new other =
      judged_place workers count before x m (is_new few below small new)
      (ne_eqb x.1.place _ (λ e. other (e ∙ sym (places_are eight few))))

  pub transferred_right : (offset : ℕ) → offset ≡ x.0 → workers ≤ 8 → count ≤ 256 → worker < workers → index < count
      → get_or m.seen index false ≡ false → x.1.place ≡ get_or m.places worker 0
      → IsMarkedIfRight workers count before x None
      (record {
        seen = set m.seen index true;
        offsets = set m.offsets index offset;
        places = set m.places worker
            (get_or m.places worker 0 + 1);
      })
  transferred_right offset offset_is eight small few below new same =
      let one = marked_one before m x marked (omega arith) (omega arith) (seen_is false (omega arith) new) in
      judged_right workers count before x _ (is_new few below small new)
      (eq-eqb x.1.place _ (same ∙ places_are eight few))
      (subst (λ (at : ℕ). AreMarked (before ++ x ∷ [])
      (record {
        seen = set m.seen index true;
        offsets = set m.offsets index at;
        places = set m.places worker
            (get_or m.places worker 0 + 1);
      })) (sym offset_is)
      (subst (λ (i : ℕ). AreMarked (before ++ x ∷ [])
      (record {
        seen = set m.seen i true;
        offsets = set m.offsets i x.0;
        places = set m.places worker
            (get_or m.places worker 0 + 1);
      })) (sym index_is)
      (subst (λ (w : ℕ). AreMarked (before ++ x ∷ [])
      (record {
        seen = set m.seen x.1.index true;
        offsets = set m.offsets x.1.index x.0;
        places = set m.places w
            (get_or m.places w 0 + 1);
      })) (sym worker_is) one)))

-- ---- record by record

-- so many are marked, and nothing was wrong with them
pub record Marking (workers count : ℕ) (xs : List (ℕ × Access)) (i : ℕ) (m : AccessMarks) : Type 0 where
  pub marked : AreMarked (take i xs) m
  pub rest : wrong_accesses workers count [] xs ≡ wrong_accesses workers count (accesses_of (take i xs)) (drop i xs)

pub marking_start : (workers count : ℕ) (xs : List (ℕ × Access)) (m : AccessMarks) → AreMarked [] m
    → Marking workers count xs 0 m
marking_start workers count xs m marked = record { marked = marked; rest = refl }

prefix_more : (xs : List (ℕ × Access)) (i : ℕ) (x : ℕ × Access) → slice_get xs i ≡ Some x
    → accesses_of (take (i + 1) xs)
    ≡ accesses_of (take i xs) ++ x.1 ∷ []
prefix_more xs i x e = ap accesses_of (take_one_more xs i x e) ∙ accesses_of-append (take i xs) (x ∷ [])

pub marking_more : (workers count : ℕ) (xs : List (ℕ × Access)) (i : ℕ) (m after : AccessMarks) (x : ℕ × Access)
    → Marking workers count xs i m → slice_get xs i ≡ Some x
    → IsMarkedIfRight workers count (take i xs) x None after → Marking workers count xs (i + 1) after
marking_more workers count xs i m after x marking at judged = record {
  marked = subst (λ (ys : List (ℕ × Access)). AreMarked ys after) (sym (take_one_more xs i x at)) judged.marked;
  rest = marking.rest ∙ ap (wrong_accesses workers count (accesses_of (take i xs))) (drop_here xs i x at)
      ∙ ap (λ (o : Option Code). found_or x.0 o
      (wrong_accesses workers count (accesses_of (take i xs) ++ x.1 ∷ []) (drop (i + 1) xs))) (sym judged.answer)
      ∙ ap (λ (b : List Access). wrong_accesses workers count b (drop (i + 1) xs)) (sym (prefix_more xs i x at));
}

pub marking_wrong : (workers count : ℕ) (xs : List (ℕ × Access)) (i : ℕ) (m after : AccessMarks) (x : ℕ × Access)
    (c : Code) → Marking workers count xs i m → slice_get xs i ≡ Some x
    → IsMarkedIfRight workers count (take i xs) x (Some c) after
    → AreMarkedIfRight workers count xs (Some (record { code = c; offset = x.0 })) after
marking_wrong workers count xs i m after x c marking at judged = record {
  answer = sym (marking.rest ∙ ap (wrong_accesses workers count (accesses_of (take i xs))) (drop_here xs i x at)
      ∙ ap (λ (o : Option Code). found_or x.0 o
      (wrong_accesses workers count (accesses_of (take i xs) ++ x.1 ∷ []) (drop (i + 1) xs))) (sym judged.answer));
  marked = tt;
}

pub marking_end : (workers count : ℕ) (xs : List (ℕ × Access)) (i : ℕ) (m : AccessMarks) → Marking workers count xs i m
    → length xs ≤ i → AreMarkedIfRight workers count xs None m
marking_end workers count xs i m marking le = record {
  answer = sym (marking.rest ∙ ap (wrong_accesses workers count (accesses_of (take i xs))) (drop_all i xs le));
  marked = subst (λ (ys : List (ℕ × Access)). AreMarked ys m) (take_all i xs le) marking.marked;
}
