-- Marks by row: what writes leave marked, and restores that take all marks away.
use Rattle.std.proofs.Common.{◌≡◌, ◌≢◌, ℕ, zero, suc, ◌+◌, ◌<◌, ◌≤◌, ◌==◌, nat_lt, Bool, true, false, cond, not, ◌||◌}
use Rattle.std.proofs.Common.{◌&&◌, List, [], ◌∷◌, ◌++◌, length, get_or, replicate, Option, Some, None, refl, sym, ap}
use Rattle.std.proofs.Common.{◌∙◌, inl, inr, append_assoc, append-nil, arith}
use mathlib.Core.Path.{fun_ext}
use Rattle.std.specs.Prelude.{is_some}
use Rattle.std.proofs.lemmas.List.Sums.{sum_by-cons}
use Rattle.std.specs.List.{AllByRecursion, list_any, list_all}
use Rattle.std.specs.Ordering.{int_eq}
use Rattle.std.proofs.lemmas.Bool.{cases_Bool, and_parts, and_from, and_left, and_right, or_parts, or_cases, or_right}
use Rattle.std.proofs.lemmas.Bool.{eqb-true, ne_eqb, ltb-true, false≢true}
use Rattle.std.proofs.lemmas.List.Folds.{list_any-append}
use Rattle.eve_smallbank.specs.declared.entry.Entry.{Entry}
use Rattle.eve_smallbank.specs.Access.{Executed, is_write, writes_row}
use Rattle.eve_smallbank.specs.Chain.{Table, Sees, table_after}
use Rattle.eve_smallbank.proofs.Chains.{Follows}
use Rattle.eve_smallbank.proofs.Orders.{writes_own, unwritten}
use Rattle.eve_smallbank.specs.declared.versioned.Versioned.{Versioned}
use Rattle.eve_grammar.specs.Limits.{is_rising}
use Rattle.eve_grammar.specs.declared.restore.Restore.{Restore}
use Rattle.eve_agree.specs.Tables.{entries_of, are_written_in}
use Rattle.eve_agree.specs.Marks.{Marking, marking_of, unmarked, marked_count, seen_by, marked_once, marked}
use Rattle.eve_agree.specs.Marks.{written_in, is_marked, restores_row, cleared}

some≢none : {A : Type 0} (x : A) → ◌≡◌ {A = Option A} (Some x) None → ⊥
some≢none x e = cc

-- ---- how many rows are marked

-- a row is marked where the count isn't 0
pub some_marked : (rows : List (Option Versioned)) → (marked_count rows ≡ 0 → ⊥) → (row : ℕ)
    × (marking_of rows row ≢ None)
some_marked [] some = absurd (some refl)
some_marked (None ∷ rows) some = let later = some_marked rows (λ e. some e) in (suc later.0, later.1)
some_marked (Some v ∷ rows) some = (0, λ e. some≢none v e)

abbrev weight : Option Versioned → ℕ
weight m = cond (is_some m) 1 0

count_within : (rows : List (Option Versioned)) → marked_count rows ≤ length rows
count_within [] = omega arith
count_within (m ∷ rows) = by (is_some m) refl (sum_by-cons (λ (x : Option Versioned). cond (is_some x) 1 0) m rows)
    (count_within rows)
  where
    by : (b : Bool) → is_some m ≡ b → marked_count (m ∷ rows) ≡ weight m + marked_count rows
        → marked_count rows ≤ length rows → marked_count (m ∷ rows) ≤ suc (length rows)
    by true is more later = let own : weight m ≡ 1 = ap (λ (b : Bool). cond b 1 0) is in omega arith
    by false is more later = let own : weight m ≡ 0 = ap (λ (b : Bool). cond b 1 0) is in omega arith

-- a row without a mark isn't counted
pub one_less : (rows : List (Option Versioned)) (row : ℕ) (m : Option Versioned) → row < length rows
    → m ≡ get_or rows row m → is_some m ≡ false → marked_count rows + 1 ≤ length rows
one_less [] row m lt there none = absurd (omega arith)
one_less (n ∷ rows) zero m lt there none =
    let more : marked_count (n ∷ rows) ≡ weight n + marked_count rows =
    sum_by-cons (λ (x : Option Versioned). cond (is_some x) 1 0) n rows in
    let own : weight n ≡ 0 = ap (λ (b : Bool). cond b 1 0) (ap (λ (x : Option Versioned). is_some x) (sym there) ∙ none)
    in
    let later = count_within rows in
    omega arith
one_less (n ∷ rows) (suc row) m lt there none =
    let more : marked_count (n ∷ rows) ≡ weight n + marked_count rows =
    sum_by-cons (λ (x : Option Versioned). cond (is_some x) 1 0) n rows in
    let later = one_less rows row m (omega arith) there none in
    by (is_some n) refl more later
  where
    by : (b : Bool) → is_some n ≡ b → marked_count (n ∷ rows) ≡ weight n + marked_count rows
        → marked_count rows + 1 ≤ length rows → marked_count (n ∷ rows) + 1 ≤ suc (length rows)
    by true is more later = let own : weight n ≡ 1 = ap (λ (b : Bool). cond b 1 0) is in omega arith
    by false is more later = let own : weight n ≡ 0 = ap (λ (b : Bool). cond b 1 0) is in omega arith

-- ---- marks that are made

pub marked-append : (marks : Marking) (es fs : List Entry) → marked marks (es ++ fs) ≡ marked (marked marks es) fs
marked-append marks [] fs = refl
marked-append marks (e ∷ es) fs =
    marked-append (λ row. cond (writes_row row e) (marked_once (marks row) (seen_by e)) (marks row)) es fs

-- what is written nowhere before has what the table has
abbrev IsLeft : Table → Table → List Entry → Type 0
IsLeft base table before = (row : ℕ) → list_any (writes_row row) before ≡ false → table row ≡ base row

-- one entry marks its row as the table has it
marked_one : (base table : Table) (before : List Entry) (e : Entry) → IsLeft base table before → Sees table e
    → (row : ℕ) → cond (writes_row row e) (marked_once (written_in base before row) (seen_by e))
    (written_in base before row) ≡ written_in base (before ++ e ∷ []) row
marked_one base table before e left sees row =
    by (writes_row row e) (list_any (writes_row row) before) refl refl
    ∙ ap (λ (b : Bool). cond b (Some (base row)) None) (sym (list_any-append (writes_row row) before (e ∷ [])))
  where
    seen : writes_row row e ≡ true → list_any (writes_row row) before ≡ false → seen_by e ≡ base row
    seen writes none =
        let same = eqb-true e.row row (and_parts (is_write e.kind) (e.row == row) writes).1 in
        (λ i. record { version = sees.version i; value = sees.value i }) ∙ ap table same ∙ left row none

    by : (w l : Bool) → writes_row row e ≡ w → list_any (writes_row row) before ≡ l
        → cond (writes_row row e)
        (marked_once (cond (list_any (writes_row row) before) (Some (base row)) None) (seen_by e))
        (cond (list_any (writes_row row) before) (Some (base row)) None)
        ≡ cond (list_any (writes_row row) before || (writes_row row e || false)) (Some (base row)) None
    by true true f g = rw (f, g) refl
    by true false f g = rw (f, g) (ap Some (seen f g))
    by false true f g = rw (f, g) refl
    by false false f g = rw (f, g) refl

-- the entries of a request, which all see what was there before it
marked_request : (base table : Table) (before es : List Entry) → IsLeft base table before
    → AllByRecursion (Sees table) es
    → marked (written_in base before) es ≡ written_in base (before ++ es)
marked_request base table before [] left sees = ap (written_in base) (sym (append-nil before))
marked_request base table before (e ∷ es) left sees =
    ap (λ (marks : Marking). marked marks es) (fun_ext (marked_one base table before e left sees.0))
    ∙ marked_request base table (before ++ e ∷ []) es
    (λ row none. left row (or_parts (list_any (writes_row row) before) (list_any (writes_row row) (e ∷ []))
    (sym (list_any-append (writes_row row) before (e ∷ [])) ∙ none)).0) sees.1
    ∙ ap (written_in base) (append_assoc before (e ∷ []) es)

marked_requests : (base table : Table) (before : List Entry) (xs : List Executed) → IsLeft base table before
    → Follows table xs
    → marked (written_in base before) (entries_of xs) ≡ written_in base (before ++ entries_of xs)
marked_requests base table before [] left follows = ap (written_in base) (sym (append-nil before))
marked_requests base table before (x ∷ xs) left follows =
    marked-append (written_in base before) x.entries (entries_of xs)
    ∙ ap (λ (marks : Marking). marked marks (entries_of xs)) (marked_request base table before x.entries left follows.0)
    ∙ marked_requests base (table_after table x.entries) (before ++ x.entries) xs still follows.1
    ∙ ap (written_in base) (append_assoc before x.entries (entries_of xs))
  where
    still : IsLeft base (table_after table x.entries) (before ++ x.entries)
    still row none =
        let parts = or_parts (list_any (writes_row row) before) (list_any (writes_row row) x.entries)
        (sym (list_any-append (writes_row row) before x.entries) ∙ none) in
        unwritten table x.entries row parts.1 ∙ left row parts.0

-- where each request sees what those before it leave, the first write of a row saw what the table had before them all
pub first_writes : (table : Table) (xs : List Executed) → Follows table xs → marked unmarked (entries_of xs)
    ≡ written_in table (entries_of xs)
first_writes table xs follows = marked_requests table table [] xs (λ row none. refl) follows

-- ---- marks that are taken away

cleared-more : (marks : Marking) (r : Restore) (rs : List Restore) → cleared (cleared marks (r ∷ [])) rs
    ≡ cleared marks (r ∷ rs)
cleared-more marks r rs = fun_ext (λ row. exchange (r.row == row) (restores_row row rs) (marks row))
  where
    exchange : (b c : Bool) (m : Option Versioned) → cond c None (cond (b || false) None m) ≡ cond (b || c) None m
    exchange true true m = refl
    exchange true false m = refl
    exchange false true m = refl
    exchange false false m = refl

-- the rows after are others
still_marked : (marks : Marking) (r : Restore) (rs : List Restore) → list_all (λ q. nat_lt r.row q.row) rs ≡ true
    → list_all (λ q. is_marked (cleared marks (r ∷ []) q.row) q) rs ≡ list_all (λ q. is_marked (marks q.row) q) rs
still_marked marks r [] rising = refl
still_marked marks r (q ∷ rs) rising =
    let parts = and_parts (nat_lt r.row q.row) (list_all (λ p. nat_lt r.row p.row) rs) rising in
    let less = ltb-true r.row q.row parts.0 in
    let other : (r.row == q.row) ≡ false = ne_eqb r.row q.row (λ e. differs e less) in
    let same : cleared marks (r ∷ []) q.row
    ≡ marks q.row = ap (λ (b : Bool). cond (b || false) None (marks q.row)) other
    in
    λ i. is_marked (same i) q && still_marked marks r rs parts.1 i
  where
    differs : r.row ≡ q.row → r.row < q.row → ⊥
    differs e less = omega arith

-- the restores are as their rows are marked
abbrev pub are_marked : Marking → List Restore → Bool
are_marked marks rs = list_all (λ r. is_marked (marks r.row) r) rs

-- while restores take marks away: these are still to come
pub record IsClearing (old now : Marking) (all rest : List Restore) : Type 0 where
  pub rising : is_rising rest ≡ true
  pub right : are_marked old all ≡ are_marked now rest
  pub marks : cleared now rest ≡ cleared old all

pub clearing_next : (old now then : Marking) (all : List Restore) (r : Restore) (rest : List Restore)
    → IsClearing old now all (r ∷ rest) → is_marked (now r.row) r ≡ true → then ≡ cleared now (r ∷ [])
    → IsClearing old then all rest
clearing_next old now then all r rest clearing is e =
    let parts = and_parts (list_all (λ q. nat_lt r.row q.row) rest) (is_rising rest) clearing.rising in
    record {
      rising = parts.1;
      right = clearing.right ∙ ap (λ (b : Bool). b && are_marked now rest) is ∙ sym (still_marked now r rest parts.0)
          ∙ ap (λ (m : Marking). are_marked m rest) (sym e);
      marks = ap (λ (m : Marking). cleared m rest) e ∙ cleared-more now r rest ∙ clearing.marks;
    }

-- ---- exactly the rows that are written

abbrev pub is_covered : List Restore → Entry → Bool
is_covered rs e = not (is_write e.kind) || restores_row e.row rs

covered : (rs : List Restore) (es : List Entry)
    → ((row : ℕ) → list_any (writes_row row) es ≡ true → restores_row row rs ≡ true) → list_all (is_covered rs) es
    ≡ true
covered rs [] h = refl
covered rs (e ∷ es) h = and_from (is_covered rs e) (list_all (is_covered rs) es)
    (elim (cases_Bool (is_write e.kind)) [
      | inl writes ↦ rw writes (h e.row (ap (λ (b : Bool). b || list_any (writes_row e.row) es) (writes_own e writes)))
      | inr reads ↦ rw reads refl
    ])
    (covered rs es (λ row some. h row (or_right (writes_row row e) (list_any (writes_row row) es) some)))

pub not_covered : (rs : List Restore) (row : ℕ) (es : List Entry) → restores_row row rs ≡ false
    → list_any (writes_row row) es ≡ true → list_all (is_covered rs) es ≡ false
not_covered rs row [] none some = absurd (false≢true some)
not_covered rs row (e ∷ es) none some = elim (or_cases (writes_row row e) (list_any (writes_row row) es) some) [
  | inl here ↦
      let parts = and_parts (is_write e.kind) (e.row == row) here in
      and_left (is_covered rs e) (list_all (is_covered rs) es)
      (ap (λ (b : Bool). not b || restores_row e.row rs) parts.0 ∙ ap (λ (n : ℕ). restores_row n rs)
      (eqb-true e.row row parts.1)
      ∙ none)
  | inr there ↦ and_right (is_covered rs e) (list_all (is_covered rs) es) (not_covered rs row es none there)
]

module _ (table : Table) (es : List Entry) where
  abbrev is_written : Restore → Bool
  is_written r = list_any (writes_row r.row) es &&
      ((r.version == (table r.row).version) && int_eq r.value (table r.row).value)

  marked_as_written : (r : Restore) → is_marked (written_in table es r.row) r ≡ is_written r
  marked_as_written r = by (list_any (writes_row r.row) es)
    where
      by : (b : Bool) → is_marked (cond b (Some (table r.row)) None) r
          ≡ (b && ((r.version == (table r.row).version) && int_eq r.value (table r.row).value))
      by true = refl
      by false = refl

  all_written : (rs : List Restore) → are_marked (written_in table es) rs ≡ list_all is_written rs
  all_written [] = refl
  all_written (r ∷ rs) = λ i. marked_as_written r i && all_written rs i

  -- a restore isn't as its row is marked
  pub wrong_restore : (rs : List Restore) → are_marked (written_in table es) rs ≡ false → are_written_in table es rs
      ≡ false
  wrong_restore rs wrong = and_left (list_all is_written rs) (list_all (is_covered rs) es)
      (sym (all_written rs) ∙ wrong)

  -- a row is left out
  pub left_out : (rs : List Restore) (row : ℕ) → cleared (written_in table es) rs row ≢ None
      → are_written_in table es rs
      ≡ false
  left_out rs row still = and_right (list_all is_written rs) (list_all (is_covered rs) es)
      (by (restores_row row rs) (list_any (writes_row row) es) refl refl)
    where
      by : (b c : Bool) → restores_row row rs ≡ b → list_any (writes_row row) es ≡ c → list_all (is_covered rs) es
          ≡ false
      by true c f g = absurd (still (ap (λ (x : Bool). cond x None (written_in table es row)) f))
      by false true f g = not_covered rs row es f g
      by false false f g = absurd
          (still (ap (λ (x : Bool). cond x None (written_in table es row)) f
          ∙ ap (λ (x : Bool). cond x (Some (table row)) None) g))

  -- all are as their rows are marked, and no mark is left
  pub all_right : (rs : List Restore) → are_marked (written_in table es) rs ≡ true → cleared (written_in table es) rs
      ≡ unmarked → are_written_in table es rs ≡ true
  all_right rs right none = and_from (list_all is_written rs) (list_all (is_covered rs) es)
      (sym (all_written rs) ∙ right) (covered rs es (λ row some. by row (restores_row row rs) refl some))
    where
      by : (row : ℕ) (b : Bool) → restores_row row rs ≡ b → list_any (writes_row row) es ≡ true
          → restores_row row rs ≡ true
      by row true f g = f
      by row false f g = absurd (some≢none (table row)
          (ap (λ (x : Bool). cond x (Some (table row)) None) (sym g)
          ∙ ap (λ (x : Bool). cond x None (written_in table es row)) (sym f) ∙ ap (λ (m : Marking). m row) none))

-- what was found of restores that took their marks away
module _ (old now : Marking) (all : List Restore) where
  pub found_wrong : (r : Restore) (rest : List Restore) → IsClearing old now all (r ∷ rest) → is_marked (now r.row) r
      ≡ false
      → (table : Table) (es : List Entry) → old ≡ written_in table es → false ≡ are_written_in table es all
  found_wrong r rest clearing wrong table es e =
      sym (wrong_restore table es all (ap (λ (m : Marking). are_marked m all) (sym e) ∙ clearing.right
      ∙ and_left (is_marked (now r.row) r) (are_marked now rest) wrong))

  pub found_left : (row : ℕ) → IsClearing old now all [] → now row ≢ None → (table : Table) (es : List Entry)
      → old ≡ written_in table es → false ≡ are_written_in table es all
  found_left row clearing some table es e =
      sym (left_out table es all row
      (λ none. some (ap (λ (m : Marking). m row) (clearing.marks ∙ ap (λ (m : Marking). cleared m all) e) ∙ none)))

  pub found_right : IsClearing old now all [] → now ≡ unmarked → (table : Table) (es : List Entry)
      → old ≡ written_in table es → true ≡ are_written_in table es all
  found_right clearing none table es e =
      sym (all_right table es all (ap (λ (m : Marking). are_marked m all) (sym e) ∙ clearing.right)
      (ap (λ (m : Marking). cleared m all) (sym e) ∙ sym clearing.marks ∙ none))

-- rows without marks
pub none_marked : (count : ℕ) → marking_of (replicate count None) ≡ unmarked
none_marked count = fun_ext (by count)
  where
    by : (n row : ℕ) → marking_of (replicate n None) row ≡ None
    by zero row = refl
    by (suc n) zero = refl
    by (suc n) (suc row) = by n row
