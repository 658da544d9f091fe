-- A row walked by itself meets what is visible to its entries.
use Rattle.std.proofs.Common.{◌≡◌, ℕ, ◌≤◌, ◌<◌, ◌==◌, inl, inr, ◌&&◌, Bool, true, false, cond, ◌||◌, List, [], ◌∷◌}
use Rattle.std.proofs.Common.{◌++◌, map, filter, fold, refl, sym, subst, ap, ◌∙◌, append_assoc, append-nil, arith}
use Rattle.std.specs.List.{AllByRecursion}
use Rattle.std.proofs.lemmas.Bool.{eqb-true, eq-eqb, ne_eqb, cases_lt, false≢true}
use Rattle.std.proofs.lemmas.List.{map-append}
use Rattle.std.proofs.lemmas.List.Elements.{filter-append}
use Rattle.eve_smallbank.specs.declared.entry.Entry.{Entry}
use Rattle.eve_smallbank.specs.Access.{is_write, writes_row}
use Rattle.eve_smallbank.specs.Chain.{Table, after_own, left_by, table_after}
use Rattle.eve_smallbank.specs.declared.versioned.Versioned.{Versioned}
use Rattle.eve_chains.specs.Rows.{Noted, Pair, kept_by, due_on_row, next_pair, at_first, pair_after}
use Rattle.eve_grammar.proofs.Lists.{all-append}

-- ---- what counts

-- of the entries behind as many states that were transferred, those that are committed, or of this view
abbrev pub counts : ℕ → ℕ → Noted → Bool
counts transferred view n = (n.transferred == transferred) && (n.commits || (n.view == view))

-- those that are committed
abbrev stays : ℕ → Noted → Bool
stays transferred n = (n.transferred == transferred) && n.commits

abbrev pub entries : List Noted → List Entry
entries ns = map (λ n. n.entry) ns

-- the row after these entries of it
abbrev pub after_all : Versioned → List Entry → Versioned
after_all v es = fold after_own v es

-- in no number the one is past the other
abbrev pub IsUpTo : Noted → Noted → Type 0
IsUpTo n m = (n.transferred ≤ m.transferred) × (n.view ≤ m.view)

-- neither number falls
abbrev pub AreRising : List Noted → Type 0
AreRising [] = Unit {0}
AreRising (n ∷ ns) = AllByRecursion (IsUpTo n) ns × AreRising ns

-- up to these numbers
abbrev pub IsWithin : ℕ → ℕ → Noted → Type 0
IsWithin transferred view n = (n.transferred ≤ transferred) × (n.view ≤ view)

pub fold_more : {A B : Type 0} (f : A → B → A) (a : A) (xs : List B) (x : B) → fold f a (xs ++ x ∷ []) ≡ f
    (fold f a xs) x
fold_more f a [] x = refl
fold_more f a (y ∷ xs) x = fold_more f (f a y) xs x

-- tests that say the same of each
same_filter : (one other : Noted → Bool) (P : Noted → Type 0) → ((n : Noted) → P n → one n ≡ other n)
    → (ns : List Noted) → AllByRecursion P ns → filter one ns ≡ filter other ns
same_filter one other P same [] all = refl
same_filter one other P same (n ∷ ns) all =
    (λ i. cond (same n all.0 i) (n ∷ same_filter one other P same ns all.1 i) (same_filter one other P same ns all.1 i))

none_of : (test : Noted → Bool) (P : Noted → Type 0) → ((n : Noted) → P n → test n ≡ false)
    → (ns : List Noted) → AllByRecursion P ns → filter test ns ≡ []
none_of test P not [] all = refl
none_of test P not (n ∷ ns) all =
    (λ i. cond (not n all.0 i) (n ∷ none_of test P not ns all.1 i) (none_of test P not ns all.1 i))

or-false : (b : Bool) → (b || false) ≡ b
or-false true = refl
or-false false = refl

-- in a later view only what is committed counts
counts_later : (transferred up view : ℕ) (ns : List Noted) → up < view → AllByRecursion (IsWithin transferred up) ns
    → filter (counts transferred view) ns ≡ filter (stays transferred) ns
counts_later transferred up view ns less all =
    same_filter (counts transferred view) (stays transferred) (IsWithin transferred up)
    (λ n within. ap (λ (b : Bool). (n.transferred == transferred) && (n.commits || b))
    (ne_eqb n.view view (other n within.1))
    ∙ ap (λ (b : Bool). (n.transferred == transferred) && b) (or-false n.commits)) ns all
  where
    other : (n : Noted) → n.view ≤ up → n.view ≡ view → ⊥
    other n le is = omega arith

-- and behind one state more nothing does yet
counts_none : (up transferred view most : ℕ) (ns : List Noted) → up < transferred → AllByRecursion (IsWithin up most) ns
    → filter (counts transferred view) ns ≡ []
counts_none up transferred view most ns less all =
    none_of (counts transferred view) (IsWithin up most)
    (λ n within. ap (λ (b : Bool). b && (n.commits || (n.view == view)))
    (ne_eqb n.transferred transferred (other n within.0)))
    ns all
  where
    other : (n : Noted) → n.transferred ≤ up → n.transferred ≡ transferred → ⊥
    other n le is = omega arith

stays_none : (up transferred most : ℕ) (ns : List Noted) → up < transferred → AllByRecursion (IsWithin up most) ns
    → filter (stays transferred) ns ≡ []
stays_none up transferred most ns less all =
    none_of (stays transferred) (IsWithin up most)
    (λ n within. ap (λ (b : Bool). b && n.commits) (ne_eqb n.transferred transferred (other n within.0))) ns all
  where
    other : (n : Noted) → n.transferred ≤ up → n.transferred ≡ transferred → ⊥
    other n le is = omega arith

within_more : (transferred view later_transferred later_view : ℕ) (ns : List Noted) → transferred ≤ later_transferred
    → view ≤ later_view
    → AllByRecursion (IsWithin transferred view) ns → AllByRecursion (IsWithin later_transferred later_view) ns
within_more transferred view more late [] up on all = tt
within_more transferred view more late (n ∷ ns) up on all =
    ((omega (arith, all.0.0), omega (arith, all.0.1)), within_more transferred view more late ns up on all.1)

-- ---- the pair, after these entries of the row

module _ (bases : ℕ → Versioned) where
  -- what the row has, of the entries that pass behind as many states
  abbrev left : ℕ → (Noted → Bool) → List Noted → Versioned
  left transferred test ns = after_all (bases transferred) (entries (filter test ns))

  record HasPair (done : List Noted) (p : Pair) : Type 0 where
    committed : p.committed ≡ left p.transferred (stays p.transferred) done
    working : p.working ≡ left p.transferred (counts p.transferred p.view) done
    within : AllByRecursion (IsWithin p.transferred p.view) done

  abbrev Follows : Pair → Noted → Type 0
  Follows p n = (p.transferred ≤ n.transferred) × (p.view ≤ n.view)

  -- the number is the same, or it has risen
  same_or_more : (m n : ℕ) → m ≤ n → (n == m) ≡ false → m < n
  same_or_more m n up not = elim (cases_lt m n) [
    | inl less ↦ less
    | inr more ↦ absurd (false≢true (sym not ∙ eq-eqb n m (same up more)))
  ]
    where
      same : m ≤ n → n ≤ m → n ≡ m
      same a b = omega arith

  -- what is kept where the next entry comes
  keeps : (done : List Noted) (p : Pair) (n : Noted) → HasPair done p → Follows p n
      → kept_by bases p n ≡ left n.transferred (stays n.transferred) done
  keeps done p n known follows = by (n.transferred == p.transferred) refl
    where
      by : (b : Bool) → (n.transferred == p.transferred) ≡ b → cond b p.committed (bases n.transferred)
          ≡ left n.transferred (stays n.transferred) done
      by true e = known.committed ∙ ap (λ (k : ℕ). left k (stays k) done) (sym (eqb-true n.transferred p.transferred e))
      by false e = ap (λ ms. after_all (bases n.transferred) (entries ms))
          (sym (stays_none p.transferred n.transferred p.view done
          (same_or_more p.transferred n.transferred follows.0 e) known.within))

  -- what is met there is what counts
  meets : (done : List Noted) (p : Pair) (n : Noted) → HasPair done p → Follows p n → due_on_row bases p n
      ≡ left n.transferred (counts n.transferred n.view) done
  meets done p n known follows = by (n.transferred == p.transferred) (n.view == p.view) refl refl
    where
      by : (b w : Bool) → (n.transferred == p.transferred) ≡ b → (n.view == p.view) ≡ w
          → cond (b && w) p.working (cond b p.committed (bases n.transferred))
          ≡ left n.transferred (counts n.transferred n.view) done
      by true true e same = known.working
          ∙ (λ i. left (sym (eqb-true n.transferred p.transferred e) i)
          (counts (sym (eqb-true n.transferred p.transferred e) i) (sym (eqb-true n.view p.view same) i)) done)
      by true false e not =
          known.committed ∙ ap (λ (k : ℕ). left k (stays k) done) (sym (eqb-true n.transferred p.transferred e))
          ∙ ap (λ ms. after_all (bases n.transferred) (entries ms))
          (sym (counts_later n.transferred p.view n.view done (same_or_more p.view n.view follows.1 not)
          (within_more p.transferred p.view n.transferred p.view done follows.0 (omega arith) known.within)))
      by false w e not = ap (λ ms. after_all (bases n.transferred) (entries ms))
          (sym (counts_none p.transferred n.transferred n.view p.view done
          (same_or_more p.transferred n.transferred follows.0 e) known.within))

  after_more : (transferred : ℕ) (test : Noted → Bool) (done : List Noted) (n : Noted)
      → left transferred test (done ++ n ∷ [])
      ≡ cond (test n) (after_own (left transferred test done) n.entry) (left transferred test done)
  after_more transferred test done n = ap (λ ms. after_all (bases transferred) (entries ms))
      (filter-append test done (n ∷ []))
      ∙ by (test n)
    where
      by : (b : Bool) → after_all (bases transferred) (entries (filter test done ++ cond b (n ∷ []) []))
          ≡ cond b (after_own (left transferred test done) n.entry) (left transferred test done)
      by true = ap (after_all (bases transferred)) (map-append (λ (m : Noted). m.entry) (filter test done) (n ∷ []))
          ∙ fold_more after_own (bases transferred) (entries (filter test done)) n.entry
      by false = ap (λ ms. after_all (bases transferred) (entries ms)) (append-nil (filter test done))

  stepped : (done : List Noted) (p : Pair) (n : Noted) → HasPair done p → Follows p n
      → HasPair (done ++ n ∷ []) (next_pair bases p n)
  stepped done p n known follows = record {
    committed = ap (λ (v : Versioned). cond n.commits (after_own v n.entry) v) (keeps done p n known follows)
        ∙ sym (after_more n.transferred (stays n.transferred) done n
        ∙ ap (λ (b : Bool). cond b (after_own (left n.transferred (stays n.transferred) done) n.entry)
        (left n.transferred (stays n.transferred) done)) own);
    working = ap (λ (v : Versioned). after_own v n.entry) (meets done p n known follows)
        ∙ sym (after_more n.transferred (counts n.transferred n.view) done n
        ∙ ap (λ (b : Bool). cond b (after_own (left n.transferred (counts n.transferred n.view) done) n.entry)
        (left n.transferred (counts n.transferred n.view) done)) (counts_own n));
    within = all-append (IsWithin n.transferred n.view) done (n ∷ [])
        (within_more p.transferred p.view n.transferred n.view done follows.0 follows.1 known.within)
        ((omega arith, omega arith), tt);
  }
    where
      own : ((n.transferred == n.transferred) && n.commits) ≡ n.commits
      own = ap (λ (b : Bool). b && n.commits) (eq-eqb n.transferred n.transferred refl)

      counts_own : (m : Noted) → counts m.transferred m.view m ≡ true
      counts_own m = ap (λ (b : Bool). b && (m.commits || (m.view == m.view))) (eq-eqb m.transferred m.transferred refl)
          ∙ by m.commits
        where
          by : (b : Bool) → (b || (m.view == m.view)) ≡ true
          by true = refl
          by false = eq-eqb m.view m.view refl

  walked : (done ns : List Noted) (p : Pair) → HasPair done p → AllByRecursion (Follows p) ns → AreRising ns
      → HasPair (done ++ ns) (fold (next_pair bases) p ns)
  walked done [] p known up rising = subst (λ ms. HasPair ms p) (sym (append-nil done)) known
  walked done (n ∷ ns) p known up rising =
      subst (λ ms. HasPair ms (fold (next_pair bases) (next_pair bases p n) ns)) (append_assoc done (n ∷ []) ns)
      (walked (done ++ n ∷ []) ns (next_pair bases p n) (stepped done p n known up.0) rising.0 rising.1)

  from_zero : (ns : List Noted) → AllByRecursion (λ n. (0 ≤ n.transferred) × (0 ≤ n.view)) ns
  from_zero [] = tt
  from_zero (n ∷ ns) = ((omega arith, omega arith), from_zero ns)

  pair_is : (ns : List Noted) → AreRising ns → HasPair ns (pair_after bases ns)
  pair_is ns rising = walked [] ns (at_first bases) (record { committed = refl; working = refl; within = tt })
      (from_zero ns) rising

  reached : (ns : List Noted) (p : Pair) (n : Noted) → Follows p n → AllByRecursion (λ m. IsUpTo m n) ns
      → Follows (fold (next_pair bases) p ns) n
  reached [] p n up all = up
  reached (m ∷ ns) p n up all = reached ns (next_pair bases p m) n all.0 all.1

  -- what an entry of the row meets is what counts of the row's entries before it
  pub meets_what_counts : (ns : List Noted) (n : Noted) → AreRising ns → AllByRecursion (λ m. IsUpTo m n) ns
      → due_on_row bases (pair_after bases ns) n
      ≡ after_all (bases n.transferred) (entries (filter (counts n.transferred n.view) ns))
  meets_what_counts ns n rising up = meets ns (pair_after bases ns) n (pair_is ns rising)
      (reached ns (at_first bases) n (omega arith, omega arith) up)

-- ---- a table at one row

abbrev pub own_of : ℕ → List Entry → List Entry
own_of row es = filter (λ e. e.row == row) es

-- a table after entries has in each row what the row's own leave
pub table_row : (table : Table) (row : ℕ) (es : List Entry) → table_after table es row
    ≡ after_all (table row) (own_of row es)
table_row table row [] = refl
table_row table row (e ∷ es) = table_row (λ r. cond (writes_row r e) (left_by e) (table r)) row es
    ∙ by (e.row == row) (is_write e.kind) refl
  where
    by : (b w : Bool) → is_write e.kind ≡ w → after_all (cond (w && b) (left_by e) (table row)) (own_of row es)
        ≡ after_all (table row) (cond b (e ∷ own_of row es) (own_of row es))
    by true true k = ap (λ (c : Bool). after_all (cond c (left_by e) (table row)) (own_of row es)) (sym k)
    by true false k = ap (λ (c : Bool). after_all (cond c (left_by e) (table row)) (own_of row es)) (sym k)
    by false true k = refl
    by false false k = refl
