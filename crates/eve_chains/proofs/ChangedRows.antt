-- What each row's entries change, put together by number, is what the batches change.
use Rattle.std.proofs.Common.{◌≡◌, ℕ, ℤ, zero, suc, ◌+◌, ◌<◌, ◌≤◌, ◌==◌, Bool, true, false, cond, ◌&&◌, List, []}
use Rattle.std.proofs.Common.{◌∷◌, ◌++◌, map, length, take, fold, slice_get, Option, Some, None}
use Rattle.std.proofs.Common.{append_assoc, append-nil, refl, sym, ap, ◌∙◌, arith, inl, inr, ◌⊎◌}
use Rattle.std.specs.List.{AllByRecursion, flat_map}
use Rattle.std.proofs.lemmas.Bool.{cases_eq, cases_lt, eqb-true, eq-eqb, ne_eqb}
use Rattle.std.proofs.lemmas.List.Elements.{filter-append}
use Rattle.std.proofs.lemmas.Option.{same_Some}
use Rattle.std.proofs.lemmas.List.Sums.{fold-append}
use Rattle.eve_smallbank.specs.declared.entry.Entry.{Entry}
use Rattle.eve_smallbank.specs.declared.entry.Kind.{Kind}
use Rattle.eve_smallbank.specs.declared.entry.Kind.TheVariants.{Read, Write}
use Rattle.eve_smallbank.specs.Access.{is_write, writes_row, values_after}
use Rattle.eve_grammar.specs.Trace.{Access}
use Rattle.eve_chains.specs.Along.{entries_along}
use Rattle.eve_chains.specs.Rows.{Noted, noted_by, of_row}
use Rattle.eve_chains.specs.declared.changed.Changed.{Changed}
use Rattle.eve_chains.specs.Changes.{last_written, change_to, changes_below, values_changed, with_change, change_by}
use Rattle.eve_chains.specs.Changes.{changes_along, of_number, by_number}
use Rattle.eve_chains.proofs.ChangeLists.{is_of_same}
use Rattle.eve_chains.proofs.ByNumber.{of_number-append, one_is, one_other}

and-false : (b : Bool) → b && false ≡ false
and-false true = refl
and-false false = refl

and-true : (b : Bool) → b && true ≡ b
and-true true = refl
and-true false = refl

-- ---- one row, one batch

-- the row's change by the batch with this number, if there is one
abbrev pub change_in : ℕ → ℕ → Option ℤ → List Changed
change_in k row None = []
change_in k row (Some z) = record { number = k; row = row; value = z } ∷ []

-- the last written after one entry more
abbrev written_next : ℕ → Option ℤ → Entry → Option ℤ
written_next row last e = cond (writes_row row e) (Some e.after) last

-- an earlier change: of an earlier row, or of the row's earlier batches
abbrev pub IsEarlier : ℕ → ℕ → Changed → Type 0
IsEarlier k row c = (c.row < row) ⊎ (c.number < k)

not_same : (k row : ℕ) (x c : Changed) → IsEarlier k row x → c.number ≡ k → c.row ≡ row → is_of_same x c ≡ false
not_same k row x c earlier number at = elim earlier [
  | inl less ↦ ap (λ (b : Bool). (x.number == c.number) && b) (ne_eqb x.row c.row (λ is. omega arith))
      ∙ and-false (x.number == c.number)
  | inr less ↦ ap (λ (b : Bool). b && (x.row == c.row)) (ne_eqb x.number c.number (λ is. omega arith))
]

-- one change more behind earlier ones, and behind one of the same batch and row or none
changed_behind : (k row : ℕ) (cs : List Changed) (o : Option ℤ) (c : Changed) → AllByRecursion (IsEarlier k row) cs
    → c.number ≡ k → c.row ≡ row → with_change (cs ++ change_in k row o) c ≡ cs ++ c ∷ []
changed_behind k row [] None c all number at = refl
changed_behind k row [] (Some z) c all number at =
    let same : is_of_same (record { number = k; row = row; value = z }) c ≡ true =
    (λ i. eq-eqb k c.number (sym number) i && eq-eqb row c.row (sym at) i) in
    ap (λ (b : Bool). cond b (c ∷ []) (record { number = k; row = row; value = z } ∷ c ∷ [])) same
changed_behind k row (x ∷ []) None c all number at =
    ap (λ (b : Bool). cond b (c ∷ []) (x ∷ c ∷ [])) (not_same k row x c all.0 number at)
changed_behind k row (x ∷ []) (Some z) c all number at =
    ap (λ (zs : List Changed). x ∷ zs) (changed_behind k row [] (Some z) c tt number at)
changed_behind k row (x ∷ y ∷ cs) o c all number at =
    ap (λ (zs : List Changed). x ∷ zs) (changed_behind k row (y ∷ cs) o c all.1 number at)

module _ (k row : ℕ) (cs : List Changed) (earlier : AllByRecursion (IsEarlier k row) cs) where
  -- an entry of the row
  entry_own : (o : Option ℤ) (e : Entry) (kind : Kind) → e.row ≡ row
      → cond (is_write kind) (with_change (cs ++ change_in k row o)
      (record { number = k; row = e.row; value = e.after }))
      (cs ++ change_in k row o) ≡ cs ++ change_in k row (cond (is_write kind) (Some e.after) o)
  entry_own o e Read at = refl
  entry_own o e Write at =
      changed_behind k row cs o (record { number = k; row = e.row; value = e.after }) earlier refl at
      ∙ ap (λ (r : ℕ). cs ++ record { number = k; row = r; value = e.after } ∷ []) at

  along_entries : (offset transferred view : ℕ) (o : Option ℤ) (es : List Entry)
      → changes_along (cs ++ change_in k row o)
      (of_row row (map (λ e. record
      { offset = offset; transferred = transferred; view = view; number = k; commits = true; entry = e }) es))
      ≡ cs ++ change_in k row (fold (written_next row) o es)
  along_entries offset transferred view o [] = refl
  along_entries offset transferred view o (e ∷ es) =
      by (e.row == row) refl (λ (last : Option ℤ). along_entries offset transferred view last es)
    where
      rest : List Noted
      rest = of_row row (map (λ e. record
          { offset = offset; transferred = transferred; view = view; number = k; commits = true; entry = e }) es)

      here : Noted
      here = record { offset = offset; transferred = transferred; view = view; number = k; commits = true; entry = e }

      by : (b : Bool) → (e.row == row) ≡ b
          → ((last : Option ℤ) → changes_along (cs ++ change_in k row last) rest
          ≡ cs ++ change_in k row (fold (written_next row) last es))
          → changes_along (cs ++ change_in k row o) (cond b (here ∷ rest) rest)
          ≡ cs ++ change_in k row (fold (written_next row) (cond (is_write e.kind && b) (Some e.after) o) es)
      by true is next =
          ap (λ (xs : List Changed). changes_along xs rest) (entry_own o e e.kind (eqb-true e.row row is))
          ∙ ap (λ (b : Bool). changes_along (cs ++ change_in k row (cond b (Some e.after) o)) rest)
          (sym (and-true (is_write e.kind)))
          ∙ next (cond (is_write e.kind && true) (Some e.after) o)
      by false is next =
          ap (λ (b : Bool). changes_along (cs ++ change_in k row (cond b (Some e.after) o)) rest)
          (sym (and-false (is_write e.kind)))
          ∙ next (cond (is_write e.kind && false) (Some e.after) o)

  along_records : (transferred view : ℕ) (o : Option ℤ) (xs : List (ℕ × Access))
      → changes_along (cs ++ change_in k row o) (of_row row (flat_map (noted_by transferred view k true) xs))
      ≡ cs ++ change_in k row (fold (written_next row) o (entries_along xs))
  along_records transferred view o [] = refl
  along_records transferred view o (x ∷ xs) =
      ap (changes_along (cs ++ change_in k row o))
      (filter-append (λ (n : Noted). n.entry.row == row) (noted_by transferred view k true x)
      (flat_map (noted_by transferred view k true) xs))
      ∙ fold-append change_by (cs ++ change_in k row o) (of_row row (noted_by transferred view k true x))
      (of_row row (flat_map (noted_by transferred view k true) xs))
      ∙ ap (λ (ds : List Changed). changes_along ds (of_row row (flat_map (noted_by transferred view k true) xs)))
      (along_entries x.0 transferred view o x.1.entries)
      ∙ along_records transferred view (fold (written_next row) o x.1.entries) xs
      ∙ ap (λ (last : Option ℤ). cs ++ change_in k row last)
      (sym (fold-append (written_next row) o x.1.entries (entries_along xs)))

  -- what a committed batch changes of the row
  pub along_batch : (transferred view : ℕ) (xs : List (ℕ × Access))
      → changes_along cs (of_row row (flat_map (noted_by transferred view k true) xs))
      ≡ cs ++ change_in k row (last_written row (entries_along xs))
  along_batch transferred view xs = ap (λ (ds : List Changed). changes_along ds
      (of_row row (flat_map (noted_by transferred view k true) xs)))
      (sym (append-nil cs)) ∙ along_records transferred view None xs

-- ---- all rows, all batches

-- what batches with these entries, the first of which has this number, change of a row
abbrev pub row_changes : ℕ → ℕ → List (List Entry) → List Changed
row_changes row k [] = []
row_changes row k (es ∷ ess) = change_in k row (last_written row es) ++ row_changes row (suc k) ess

-- and of the given number of rows, from this one on
abbrev pub rows_changes : ℕ → ℕ → List (List Entry) → List Changed
rows_changes from zero ess = []
rows_changes from (suc count) ess = rows_changes from count ess ++ row_changes (from + count) 1 ess

pub rows_more : (from m n : ℕ) (ess : List (List Entry))
    → rows_changes from (m + n) ess ≡ rows_changes from m ess ++ rows_changes (from + m) n ess
rows_more from m zero ess =
    let none : m + 0 ≡ m = omega arith in
    ap (λ (k : ℕ). rows_changes from k ess) none ∙ sym (append-nil (rows_changes from m ess))
rows_more from m (suc n) ess =
    let one : m + suc n ≡ suc (m + n) = omega arith in
    let row : from + (m + n) ≡ from + m + n = omega arith in
    ap (λ (k : ℕ). rows_changes from k ess) one
    ∙ (λ i. rows_more from m n ess i ++ row_changes (row i) 1 ess)
    ∙ append_assoc (rows_changes from m ess) (rows_changes (from + m) n ess) (row_changes (from + m + n) 1 ess)

-- ---- by number

in_other : (k m row : ℕ) (o : Option ℤ) → (m ≡ k → ⊥) → of_number k (change_in m row o) ≡ []
in_other k m row None not = refl
in_other k m row (Some z) not = one_other k (record { number = m; row = row; value = z }) not

in_own : (k row : ℕ) (o : Option ℤ) → of_number k (change_in k row o) ≡ change_to row o
in_own k row None = refl
in_own k row (Some z) = one_is k (record { number = k; row = row; value = z }) refl

row_before : (k m row : ℕ) (ess : List (List Entry)) → k < m → of_number k (row_changes row m ess) ≡ []
row_before k m row [] lt = refl
row_before k m row (es ∷ ess) lt =
    of_number-append k (change_in m row (last_written row es)) (row_changes row (suc m) ess)
    ∙ (λ i. in_other k m row (last_written row es) (λ is. omega arith) i
    ++ row_before k (suc m) row ess (omega arith) i)

row_number : (m row n : ℕ) (ess : List (List Entry)) (es : List Entry) → slice_get ess n ≡ Some es
    → of_number (m + n) (row_changes row m ess) ≡ change_to row (last_written row es)
row_number m row n [] es at = absurd (none-some at)
  where
    none-some : ◌≡◌ {A = Option (List Entry)} None (Some es) → ⊥
    none-some e = absurd cc
row_number m row zero (fs ∷ ess) es at =
    let is : m + 0 ≡ m = omega arith in
    ap (λ (k : ℕ). of_number k (row_changes row m (fs ∷ ess))) is
    ∙ of_number-append m (change_in m row (last_written row fs)) (row_changes row (suc m) ess)
    ∙ (λ i. in_own m row (last_written row fs) i ++ row_before m (suc m) row ess (omega arith) i)
    ∙ append-nil (change_to row (last_written row fs))
    ∙ ap (λ (gs : List Entry). change_to row (last_written row gs)) (same_Some fs es at)
row_number m row (suc n) (fs ∷ ess) es at =
    let is : m + suc n ≡ suc m + n = omega arith in
    of_number-append (m + suc n) (change_in m row (last_written row fs)) (row_changes row (suc m) ess)
    ∙ (λ i. in_other (m + suc n) m row (last_written row fs) (λ same. omega arith) i
    ++ of_number (is i) (row_changes row (suc m) ess))
    ∙ row_number (suc m) row n ess es at

rows_number : (rows n : ℕ) (ess : List (List Entry)) (es : List Entry) → slice_get ess n ≡ Some es
    → of_number (suc n) (rows_changes 0 rows ess) ≡ changes_below rows es
rows_number zero n ess es at = refl
rows_number (suc rows) n ess es at =
    let row : 0 + rows ≡ rows = omega arith in
    let k : suc n ≡ 1 + n = omega arith in
    ap (λ (r : ℕ). of_number (suc n) (rows_changes 0 rows ess ++ row_changes r 1 ess)) row
    ∙ of_number-append (suc n) (rows_changes 0 rows ess) (row_changes rows 1 ess)
    ∙ (λ i. rows_number rows n ess es at i ++ of_number (k i) (row_changes rows 1 ess))
    ∙ ap (λ (cs : List (ℕ × ℤ)). changes_below rows es ++ cs) (row_number 1 rows n ess es at)

-- of all batches
pub numbers_are : (rows : ℕ) (ess : List (List Entry)) (n : ℕ) → n ≤ length ess
    → by_number n (rows_changes 0 rows ess) ≡ map (changes_below rows) (take n ess)
numbers_are rows ess zero le = refl
numbers_are rows ess (suc n) le =
    let got = at_place ess n (omega arith) in
    (λ i. numbers_are rows ess n (omega arith) i ++ rows_number rows n ess got.0 got.1 i ∷ [])
    ∙ sym (map_push (changes_below rows) (take n ess) got.0)
    ∙ ap (map (changes_below rows)) (sym (take_one ess n got.0 got.1))
  where
    at_place : (xs : List (List Entry)) (n : ℕ) → n < length xs → (x : List Entry) × (slice_get xs n ≡ Some x)
    at_place [] n lt = absurd (omega arith)
    at_place (x ∷ xs) zero lt = (x, refl)
    at_place (x ∷ xs) (suc n) lt = at_place xs n (omega arith)

    map_push : {A B : Type 0} (f : A → B) (xs : List A) (x : A) → map f (xs ++ x ∷ []) ≡ map f xs ++ f x ∷ []
    map_push f [] x = refl
    map_push f (y ∷ xs) x = ap (λ zs. f y ∷ zs) (map_push f xs x)

    take_one : (xs : List (List Entry)) (n : ℕ) (x : List Entry) → slice_get xs n ≡ Some x → take (suc n) xs
        ≡ take n xs ++ x ∷ []
    take_one [] n x e = absurd cc
    take_one (y ∷ xs) zero x e = ap (λ z. z ∷ []) (same_Some y x e)
    take_one (y ∷ xs) (suc n) x e = ap (λ zs. y ∷ zs) (take_one xs n x e)

-- ---- where the changes are, and of which batches

earlier_change : (k row m r : ℕ) (o : Option ℤ) → (r < row) ⊎ ((r ≡ row) × (m < k))
    → AllByRecursion (IsEarlier k row) (change_in m r o)
earlier_change k row m r None is = tt
earlier_change k row m r (Some z) is = (elim is [ inl less ↦ inl less | inr same ↦ inr same.1 ], tt)

all_append : {A : Type 0} (P : A → Type 0) (xs ys : List A) → AllByRecursion P xs → AllByRecursion P ys
    → AllByRecursion P (xs ++ ys)
all_append P [] ys xs-all ys-all = ys-all
all_append P (x ∷ xs) ys xs-all ys-all = (xs-all.0, all_append P xs ys xs-all.1 ys-all)

-- of the batches that come before this one
row_earlier : (k row m r : ℕ) (ess : List (List Entry)) → r < row → AllByRecursion (IsEarlier k row)
    (row_changes r m ess)
row_earlier k row m r [] lt = tt
row_earlier k row m r (es ∷ ess) lt =
    all_append (IsEarlier k row) (change_in m r (last_written r es)) (row_changes r (suc m) ess)
    (earlier_change k row m r (last_written r es) (inl lt)) (row_earlier k row (suc m) r ess lt)

pub rows_earlier : (k from count : ℕ) (ess : List (List Entry))
    → AllByRecursion (IsEarlier k (from + count)) (rows_changes from count ess)
rows_earlier k from count ess = up_to count (omega arith)
  where
    up_to : (n : ℕ) → n ≤ count → AllByRecursion (IsEarlier k (from + count)) (rows_changes from n ess)
    up_to zero le = tt
    up_to (suc n) le = all_append (IsEarlier k (from + count)) (rows_changes from n ess)
        (row_changes (from + n) 1 ess) (up_to n (omega arith))
        (row_earlier k (from + count) 1 (from + n) ess (omega arith))

-- they are of these rows and numbers
pub record IsOneOf (rows count : ℕ) (c : Changed) : Type 0 where
  pub row : c.row < rows
  pub one : 1 ≤ c.number
  pub there : c.number ≤ count

one_of_change : (rows count m r : ℕ) (o : Option ℤ) → r < rows → 1 ≤ m → m ≤ count
    → AllByRecursion (IsOneOf rows count) (change_in m r o)
one_of_change rows count m r None row one there = tt
one_of_change rows count m r (Some z) row one there = (record { row = row; one = one; there = there }, tt)

one_of_row : (rows count m r : ℕ) (ess : List (List Entry)) → r < rows → 1 ≤ m → m + length ess ≤ count + 1
    → AllByRecursion (IsOneOf rows count) (row_changes r m ess)
one_of_row rows count m r [] row one there = tt
one_of_row rows count m r (es ∷ ess) row one there =
    all_append (IsOneOf rows count) (change_in m r (last_written r es)) (row_changes r (suc m) ess)
    (one_of_change rows count m r (last_written r es) row one (omega (arith, there)))
    (one_of_row rows count (suc m) r ess row (omega arith) (omega (arith, there)))

pub ones_of_rows : (rows from : ℕ) (ess : List (List Entry)) (n : ℕ) → from + n ≤ rows
    → AllByRecursion (IsOneOf rows (length ess)) (rows_changes from n ess)
ones_of_rows rows from ess zero le = tt
ones_of_rows rows from ess (suc n) le =
    all_append (IsOneOf rows (length ess)) (rows_changes from n ess) (row_changes (from + n) 1 ess)
    (ones_of_rows rows from ess n (omega arith))
    (one_of_row rows (length ess) 1 (from + n) ess (omega arith) (omega arith) (omega arith))

-- ---- values

abbrev or_value : Option ℤ → ℤ → ℤ
or_value None z = z
or_value (Some y) z = y

-- what the writes among entries leave of a row is the last written, or what was there
values_last : (values : ℕ → ℤ) (row : ℕ) (was : ℤ) (o : Option ℤ) (es : List Entry) → values row ≡ or_value o was
    → values_after values es row ≡ or_value (fold (written_next row) o es) was
values_last values row was o [] same = same
values_last values row was o (e ∷ es) same =
    values_last (λ r. cond (writes_row r e) e.after (values r)) row was (cond (writes_row row e) (Some e.after) o) es
    (by (writes_row row e))
  where
    by : (b : Bool) → cond b e.after (values row) ≡ or_value (cond b (Some e.after) o) was
    by true = refl
    by false = same

changed-append : (values : ℕ → ℤ) (cs ds : List (ℕ × ℤ))
    → values_changed values (cs ++ ds) ≡ values_changed (values_changed values cs) ds
changed-append values cs ds = fold-append (λ now c row. cond (c.0 == row) c.1 (now row)) values cs ds

change_here : (values : ℕ → ℤ) (row : ℕ) (o : Option ℤ) → values_changed values (change_to row o) row
    ≡ or_value o (values row)
change_here values row None = refl
change_here values row (Some z) = ap (λ (b : Bool). cond b z (values row)) (eq-eqb row row refl)

change_elsewhere : (values : ℕ → ℤ) (r row : ℕ) (o : Option ℤ) → (r ≡ row → ⊥)
    → values_changed values (change_to r o) row ≡ values row
change_elsewhere values r row None not = refl
change_elsewhere values r row (Some z) not = ap (λ (b : Bool). cond b z (values row)) (ne_eqb r row not)

changed_outside : (values : ℕ → ℤ) (es : List Entry) (rows row : ℕ) → rows ≤ row
    → values_changed values (changes_below rows es) row ≡ values row
changed_outside values es zero row le = refl
changed_outside values es (suc rows) row le =
    (λ i. changed-append values (changes_below rows es) (change_to rows (last_written rows es)) i row)
    ∙ change_elsewhere (values_changed values (changes_below rows es)) rows row (last_written rows es)
    (λ is. omega arith)
    ∙ changed_outside values es rows row (omega arith)

changed_inside : (values : ℕ → ℤ) (es : List Entry) (rows row : ℕ) → row < rows
    → values_changed values (changes_below rows es) row ≡ or_value (last_written row es) (values row)
changed_inside values es zero row lt = absurd (omega arith)
changed_inside values es (suc rows) row lt =
    (λ i. changed-append values (changes_below rows es) (change_to rows (last_written rows es)) i row)
    ∙ elim (cases_eq rows row) [
      | inl same ↦
          ap (λ (r : ℕ). values_changed (values_changed values (changes_below r es))
          (change_to r (last_written r es)) row)
          same
          ∙ change_here (values_changed values (changes_below row es)) row (last_written row es)
          ∙ ap (or_value (last_written row es)) (changed_outside values es row row (omega arith))
      | inr other ↦
          change_elsewhere (values_changed values (changes_below rows es)) rows row (last_written rows es) other
          ∙ changed_inside values es rows row (omega arith)
    ]

-- entries of the rows below this number leave of the others what was there
values_outside : (values : ℕ → ℤ) (es : List Entry) (rows row : ℕ) → AllByRecursion (λ e. e.row < rows) es → rows ≤ row
    → values_after values es row ≡ values row
values_outside values [] rows row all le = refl
values_outside values (e ∷ es) rows row all le =
    values_outside (λ r. cond (writes_row r e) e.after (values r)) es rows row all.1 le
    ∙ ap (λ (b : Bool). cond (is_write e.kind && b) e.after (values row)) (ne_eqb e.row row (λ is. omega arith))
    ∙ ap (λ (b : Bool). cond b e.after (values row)) (and-false (is_write e.kind))

-- what the entries change is what they write
pub values_same : (values : ℕ → ℤ) (es : List Entry) (rows : ℕ) → AllByRecursion (λ e. e.row < rows) es
    → values_changed values (changes_below rows es) ≡ values_after values es
values_same values es rows all = λ i row. at row i
  where
    at : (row : ℕ) → values_changed values (changes_below rows es) row ≡ values_after values es row
    at row = elim (cases_lt row rows) [
      | inl lt ↦ changed_inside values es rows row lt ∙ sym (values_last values row (values row) None es refl)
      | inr le ↦ changed_outside values es rows row le ∙ sym (values_outside values es rows row all le)
    ]
