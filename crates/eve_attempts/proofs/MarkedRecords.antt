-- Records as access frames, marked one after another.
use Rattle.std.proofs.Common.{◌≡◌, ◌≢◌, ℕ, ◌+◌, ◌<◌, ◌≤◌, ◌==◌, Bool, true, false, ◌||◌, ◌&&◌, cond, eqb, ltb, List, []}
use Rattle.std.proofs.Common.{◌∷◌, ◌++◌, map, length, get_or, set, replicate, drop, count_by, refl, sym, ap, ◌∙◌, inl}
use Rattle.std.proofs.Common.{inr, add-zero, arith}
use Rattle.std.specs.List.{list_any}
use Rattle.std.proofs.Math.Bool.{or-false}
use Rattle.std.proofs.lemmas.Bool.{cases_eq, and_from, and_left, and_right, or_right, not_from_true, not_from_false}
use Rattle.std.proofs.lemmas.Bool.{eq-eqb, ne_eqb, lt-ltb, le-ltb, cond-true, cond-false}
use Rattle.std.proofs.lemmas.List.{length-set, length-replicate, get_or-replicate, get_or-set_same, get_or-set_other}
use Rattle.std.proofs.lemmas.List.{drop_all, length_push}
use Rattle.std.proofs.lemmas.List.Recursion.{or_push}
use Rattle.std.proofs.lemmas.List.Sums.{sum_by_push, count_by-le-length}
use Rattle.eve_grammar.specs.Trace.{Access}
use Rattle.eve_grammar.specs.Accesses.{is_new_access, is_right_place}
use Rattle.eve_stamps.specs.Applied.{Applied}
use Rattle.eve_attempts.specs.ClosedAttempts.{access_noted, are_right_records}
use Rattle.eve_attempts.proofs.Lists.{drop_read}

-- the indexes and the workers of the records are marked
pub record AreMarked (before : List Access) (flags : List Bool) (counts : List ℕ) : Type 0 where
  pub indexes : length flags ≡ 256
  pub workers : length counts ≡ 256
  pub seen : (i : ℕ) → i < 256 → get_or flags i false ≡ list_any (λ y. y.index == i) before
  pub places : (w : ℕ) → w < 256 → get_or counts w 0 ≡ count_by (λ y. y.worker == w) before

pub marked_none : AreMarked [] (replicate 256 false) (replicate 256 0)
marked_none = record {
  indexes = length-replicate {A = Bool} 256 false;
  workers = length-replicate {A = ℕ} 256 0;
  seen = λ i lt. get_or-replicate {A = Bool} 256 i false false lt;
  places = λ w lt. get_or-replicate {A = ℕ} 256 w 0 0 lt;
}

pub marked_one : (before : List Access) (seen : List Bool) (places : List ℕ) (x : Access) → AreMarked before seen places
    → x.index < 256 → x.worker < 256
    → AreMarked (before ++ x ∷ []) (set seen x.index true) (set places x.worker (get_or places x.worker 0 + 1))
marked_one before seen places x marked index worker = record {
  indexes = length-set seen x.index true ∙ marked.indexes;
  workers = length-set places x.worker (get_or places x.worker 0 + 1) ∙ marked.workers;
  seen = seen_one;
  places = places_one;
}
  where
    seen_one : (i : ℕ) → i < 256 → get_or (set seen x.index true) i false
        ≡ list_any (λ y. y.index == i) (before ++ x ∷ [])
    seen_one i lt =
        let split = or_push (list_any (λ (y : Access). y.index == i)) (λ (y : Access). y.index == i) refl
        (λ _ _. refl) before x in
        elim (cases_eq i x.index) [
          | inl same ↦
              let long : x.index < length seen = omega (arith, marked.indexes) in
              ap (λ (j : ℕ). get_or (set seen x.index true) j false) same ∙ get_or-set_same seen x.index true false long
              ∙ sym (split ∙ or_right (list_any (λ y. y.index == i) before) (eqb x.index i)
              (eq-eqb x.index i (sym same)))
          | inr other ↦
              get_or-set_other seen x.index i true false other ∙ marked.seen i lt
              ∙ sym (split ∙ ap (λ (b : Bool). list_any (λ y. y.index == i) before || b)
              (ne_eqb x.index i (λ e. other (sym e))) ∙ or-false (list_any (λ y. y.index == i) before))
        ]

    places_one : (w : ℕ) → w < 256 → get_or (set places x.worker (get_or places x.worker 0 + 1)) w 0
        ≡ count_by (λ y. y.worker == w) (before ++ x ∷ [])
    places_one w lt =
        let split = sum_by_push (λ (y : Access). cond (y.worker == w) 1 0) before x in
        elim (cases_eq w x.worker) [
          | inl same ↦
              let long : x.worker < length places = omega (arith, marked.workers) in
              ap (λ (j : ℕ). get_or (set places x.worker (get_or places x.worker 0 + 1)) j 0) same
              ∙ get_or-set_same places x.worker (get_or places x.worker 0 + 1) 0 long
              ∙ ap (λ (j : ℕ). get_or places j 0 + 1) (sym same) ∙ ap (λ (n : ℕ). n + 1) (marked.places w lt)
              ∙ sym (split ∙ ap (λ (n : ℕ). count_by (λ y. y.worker == w) before + n)
              (cond-true (eqb x.worker w) 1 0 (eq-eqb x.worker w (sym same))))
          | inr other ↦
              get_or-set_other places x.worker w (get_or places x.worker 0 + 1) 0 other ∙ marked.places w lt
              ∙ sym (split ∙ ap (λ (n : ℕ). count_by (λ y. y.worker == w) before + n)
              (cond-false (eqb x.worker w) 1 0 (ne_eqb x.worker w (λ e. other (sym e))))
              ∙ add-zero (count_by (λ y. y.worker == w) before))
        ]

-- so many records have been marked, and the others are still to be judged
pub record Marking (workers count : ℕ) (records : List Applied) (k : ℕ) (seen : List Bool) (places : List ℕ) : Type 0
  where
    pub before : List Access
    pub many : length before ≡ k
    pub marked : AreMarked before seen places
    pub rest : are_right_records workers count before (map access_noted (drop k records))
        ≡ are_right_records workers count [] (map access_noted records)

pub marking_start : (workers count : ℕ) (records : List Applied) → Marking workers count records 0 (replicate 256 false)
    (replicate 256 0)
marking_start workers count records = record { before = []; many = refl; marked = marked_none; rest = refl }

module _ (workers count : ℕ) (records : List Applied) (k : ℕ) (seen : List Bool) (places : List ℕ)
    (m : Marking workers count records k seen places) (r : Applied) (within : k < length records)
    (is : r ≡ get_or records k r) where
  next_is : are_right_records workers count [] (map access_noted records)
      ≡ (is_new_access workers count m.before (access_noted r) &&
      (is_right_place m.before (access_noted r) && are_right_records workers count (m.before ++ access_noted r ∷ [])
      (map access_noted (drop (k + 1) records))))
  next_is = sym m.rest ∙ ap (λ (rs : List Applied). are_right_records workers count m.before (map access_noted rs))
      (drop_read records k r within is)

  stop : is_new_access workers count m.before (access_noted r) ≡ false
      → false ≡ are_right_records workers count [] (map access_noted records)
  stop wrong = sym (next_is ∙ and_left _ _ wrong)

  pub stop_worker : workers ≤ r.worker → false ≡ are_right_records workers count [] (map access_noted records)
  stop_worker le = stop (and_left (ltb r.worker workers) _ (le-ltb r.worker workers le))

  pub stop_index : count ≤ r.index → false ≡ are_right_records workers count [] (map access_noted records)
  stop_index le = stop (and_right (ltb r.worker workers) _ (and_left (ltb r.index count) _ (le-ltb r.index count le)))

  pub stop_again : r.index < 256 → get_or seen r.index false ≡ true
      → false ≡ are_right_records workers count [] (map access_noted records)
  stop_again lt old =
      stop (and_right (ltb r.worker workers) _
      (and_right (ltb r.index count) _
      (not_from_true (list_any (λ y. y.index == r.index) m.before) (sym (m.marked.seen r.index lt) ∙ old))))

  new : r.worker < workers → r.index < count → r.index < 256 → get_or seen r.index false ≡ false
      → is_new_access workers count m.before (access_noted r) ≡ true
  new worker index lt fresh =
      and_from (ltb r.worker workers) _ (lt-ltb r.worker workers worker)
      (and_from (ltb r.index count) _ (lt-ltb r.index count index)
      (not_from_false (list_any (λ y. y.index == r.index) m.before) (sym (m.marked.seen r.index lt) ∙ fresh)))

  pub stop_place : r.worker < workers → r.index < count → r.index < 256 → r.worker < 256 → get_or seen r.index false
      ≡ false → r.place ≢ get_or places r.worker 0
      → false ≡ are_right_records workers count [] (map access_noted records)
  stop_place worker index lt small fresh other =
      sym (next_is ∙ and_right (is_new_access workers count m.before (access_noted r)) _
      (and_left (is_right_place m.before (access_noted r)) _
      (ne_eqb r.place (count_by (λ y. y.worker == r.worker) m.before)
      (λ e. other (e ∙ sym (m.marked.places r.worker small))))))

  pub marking_more : r.worker < workers → r.index < count → r.index < 256 → r.worker < 256 → get_or seen r.index false
      ≡ false → r.place ≡ get_or places r.worker 0
      → Marking workers count records (k + 1) (set seen r.index true)
      (set places r.worker (get_or places r.worker 0 + 1))
  marking_more worker index lt small fresh same = record {
    before = m.before ++ access_noted r ∷ [];
    many = length_push m.before (access_noted r) ∙ ap (λ (n : ℕ). n + 1) m.many;
    marked = marked_one m.before seen places (access_noted r) m.marked lt small;
    rest = sym (next_is ∙ ap
        (λ b. b && (is_right_place m.before (access_noted r) && are_right_records workers count
        (m.before ++ access_noted r ∷ []) (map access_noted (drop (k + 1) records))))
        (new worker index lt fresh)
        ∙ ap (λ b. b && are_right_records workers count (m.before ++ access_noted r ∷ [])
        (map access_noted (drop (k + 1) records)))
        (eq-eqb r.place (count_by (λ y. y.worker == r.worker) m.before) (same ∙ m.marked.places r.worker small)));
  }

  pub place_room : r.worker < 256 → get_or places r.worker 0 ≤ k
  place_room small = let a = m.marked.places r.worker small in let b =
      count_by-le-length (λ (y : Access). y.worker == r.worker) m.before in let d = m.many in omega arith

pub marking_end : (workers count : ℕ) (records : List Applied) (k : ℕ) (seen : List Bool) (places : List ℕ)
    → Marking workers count records k seen places → length records ≤ k
    → true ≡ are_right_records workers count [] (map access_noted records)
marking_end workers count records k seen places m all =
    sym (sym m.rest ∙ ap (λ (rs : List Applied). are_right_records workers count m.before (map access_noted rs))
    (drop_all k records all))
