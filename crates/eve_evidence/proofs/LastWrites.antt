-- The last write of a row among records.
use Rattle.std.proofs.Common.{◌≡◌, ℕ, Bool, true, false, ◌||◌, cond, List, [], ◌∷◌, ◌++◌}
use Rattle.std.proofs.Common.{fold, Option, Some, None, is_some, unwrap_or, refl, sym, ap, subst, ◌∙◌}
use Rattle.std.proofs.Common.{append_assoc, IsTrue}
use Rattle.std.specs.List.{list_any}
use Rattle.std.proofs.lemmas.Bool.{false≢true}
use Rattle.std.proofs.lemmas.List.{append-nil}
use Rattle.eve_smallbank.specs.declared.entry.Entry.{Entry}
use Rattle.eve_smallbank.specs.declared.versioned.Versioned.{Versioned}
use Rattle.eve_smallbank.specs.Access.{writes_row}
use Rattle.eve_smallbank.specs.Chain.{Table, left_by, table_after}
use Rattle.eve_grammar.specs.Trace.{Transfer}
use Rattle.eve_grammar.proofs.Lists.{all-append}
use Rattle.eve_evidence.specs.declared.sources.Left.{Left}
use Rattle.eve_evidence.specs.Sources.{Passed, IsWriter, NoneWrites, IsLeftBy, last_left, table_after_way}
use Rattle.eve_evidence.specs.declared.evidence.Source.TheVariants.{Write}
use Rattle.eve_evidence.specs.inner.Lasts.{IsLeftAlone, IsLast}

module _ (row : ℕ) where
  abbrev pub step : Option Versioned → Entry → Option Versioned
  step last e = cond (writes_row row e) (Some (left_by e)) last

  -- ---- entries

  some_from : (es : List Entry) (o : Option Versioned) → is_some (fold step o es)
      ≡ is_some o || list_any (writes_row row) es
  some_from [] None = refl
  some_from [] (Some v) = refl
  some_from (e ∷ es) o = some_from es (step o e) ∙ by (writes_row row e) o
    where
      by : (b : Bool) (o : Option Versioned) → is_some (cond b (Some (left_by e)) o) || list_any (writes_row row) es
          ≡ is_some o || (b || list_any (writes_row row) es)
      by true None = refl
      by true (Some v) = refl
      by false None = refl
      by false (Some v) = refl

  -- a record writes the row exactly where something is left
  pub left_some : (es : List Entry) → is_some (last_left row es) ≡ list_any (writes_row row) es
  left_some es = some_from es None

  table_from : (es : List Entry) (o : Option Versioned) (table : Table) (base : Versioned) → table row ≡ unwrap_or o
      base
      → table_after table es row ≡ unwrap_or (fold step o es) base
  table_from [] o table base is = is
  table_from (e ∷ es) o table base is =
      table_from es (step o e) (λ r. cond (writes_row r e) (left_by e) (table r)) base (by (writes_row row e))
    where
      by : (b : Bool) → cond b (left_by e) (table row) ≡ unwrap_or (cond b (Some (left_by e)) o) base
      by true = refl
      by false = is

  -- what the row has after entries
  pub left_table : (es : List Entry) (table : Table) → table_after table es row ≡ unwrap_or (last_left row es)
      (table row)
  left_table es table = table_from es None table (table row) refl

  pub left_more : (es : List Entry) (e : Entry) → last_left row (es ++ e ∷ []) ≡ step (last_left row es) e
  left_more es e = by es None
    where
      by : (es : List Entry) (o : Option Versioned) → fold step o (es ++ e ∷ []) ≡ step (fold step o es) e
      by [] o = refl
      by (x ∷ es) o = by es (step o x)

  -- ---- records

  none_left : (b : Bool) (o : Option Versioned) (v : Versioned) → is_some o ≡ b → (IsTrue b → ⊥) → unwrap_or o v ≡ v
  none_left b None v is none = refl
  none_left b (Some w) v is none = absurd (none (sym is))

  pub kept_by : (x : Passed) (table : Table) → (IsWriter row x → ⊥) → table_after table x.entries row ≡ table row
  kept_by x table none =
      left_table x.entries table
      ∙ none_left (list_any (writes_row row) x.entries) (last_left row x.entries) (table row) (left_some x.entries) none

  pub kept_along : (way : List Passed) (table : Table) → NoneWrites row way → table_after_way table way row ≡ table row
  kept_along [] table none = refl
  kept_along (x ∷ way) table none =
      kept_along way (table_after table x.entries) none.1 ∙ kept_by x table none.0

  pub along-append : (table : Table) (xs ys : List Passed) → table_after_way table (xs ++ ys)
      ≡ table_after_way (table_after_way table xs) ys
  along-append table [] ys = refl
  along-append table (x ∷ xs) ys = along-append (table_after table x.entries) xs ys

  -- what the last write left is what the row has
  pub last_table : (way : List Passed) (l : Left) (table : Table) → IsLast row way l → table_after_way table way row
      ≡ l.has
  last_table way l table last =
      let x = last.found in
      let n = last.nearest in
      let before = table_after_way table n.before in
      ap (λ (w : List Passed). table_after_way table w row) n.is
      ∙ ap (λ (t : Table). t row) (along-append table n.before (x ∷ n.behind))
      ∙ kept_along n.behind (table_after before x.entries) n.none
      ∙ left_table x.entries before
      ∙ ap (λ (o : Option Versioned). unwrap_or o (before row)) last.own.left

  -- a way that goes on without a write, behind another
  pub last_inside : (prefix way behind : List Passed) (l : Left) → IsLast row way l → NoneWrites row behind
      → IsLast row (prefix ++ (way ++ behind)) l
  last_inside prefix way behind l last none =
      let n = last.nearest in
      record {
        found = last.found;
        nearest = record {
          before = prefix ++ n.before;
          behind = n.behind ++ behind;
          is = ap (λ (w : List Passed). prefix ++ (w ++ behind)) n.is
              ∙ ap (λ (w : List Passed). prefix ++ w) (append_assoc n.before (last.found ∷ n.behind) behind)
              ∙ sym (append_assoc prefix n.before (last.found ∷ (n.behind ++ behind)));
          writes = n.writes;
          none = all-append (λ (x : Passed). ¬ IsWriter row x) n.behind behind n.none none;
        };
        own = last.own;
      }

  pub last_behind : (prefix way : List Passed) (l : Left) → IsLast row way l → IsLast row (prefix ++ way) l
  last_behind prefix way l last =
      subst (λ (w : List Passed). IsLast row (prefix ++ w) l) (append-nil way) (last_inside prefix way [] l last tt)

  -- a record that writes, before others that don't
  pub last_here : (prefix behind : List Passed) (x : Passed) (l : Left) → IsLeftAlone row x l → NoneWrites row behind
      → IsLast row (prefix ++ x ∷ behind) l
  last_here prefix behind x l own none = record {
    found = x;
    nearest = record { before = prefix; behind = behind; is = refl; writes = own.writes; none = none };
    own = own;
  }

  -- ---- one record alone

  pub left_alone : (x : Passed) (l : Left) → last_left row x.entries ≡ Some l.has → l.by ≡ Write x.index x.batch x.at
      → IsLeftAlone row x l
  left_alone x l left by_is = record {
    writes = sym (left_some x.entries) ∙ ap is_some left;
    by_is = by_is;
    left = left;
  }

  pub none_alone : (x : Passed) → last_left row x.entries ≡ None → IsWriter row x → ⊥
  none_alone x none writes = false≢true (sym (ap is_some none) ∙ left_some x.entries ∙ writes)

  -- who left what the row has
  pub left_of_last : (state : Option (ℕ × Transfer)) (way : List Passed) (l : Left) → IsLast row way l
      → IsLeftBy state row way l.by
  left_of_last state way l last =
      subst (IsLeftBy state row way) (sym last.own.by_is) (last.found, last.nearest, refl, refl, refl)
