-- Rows that are marked, and what the marks of the others still say.
use Rattle.std.proofs.Common.{◌≡◌, ◌≢◌, ℕ, zero, suc, ◌≤◌, Bool, true, false, List, [], ◌∷◌, ◌++◌, length}
use Rattle.std.proofs.Common.{get_or, take, take_all, Some, inl, inr, refl, sym, ap, ◌∙◌, arith}
use Rattle.std.specs.Prelude.{◌==◌, ◌&&◌, ◌||◌, replicate, slice_get, slice_set, slice_index_or}
use Rattle.std.proofs.lemmas.Bool.{cases_eq, eq-eqb, ne_eqb}
use Rattle.std.proofs.Math.Bool.{or-false}
use Rattle.std.proofs.lemmas.Option.{same_Some, slice_get_within, slice_get_past, get_or_from_slice_get}
use Rattle.eve_smallbank.specs.declared.entry.Kind.{Kind}
use Rattle.eve_smallbank.specs.declared.entry.Kind.TheVariants.{Read, Write}
use Rattle.eve_smallbank.specs.Access.{is_write}
use Rattle.eve_grammar.proofs.Lists.{get_set_same}
use Rattle.eve_workload.specs.declared.marks.Marks.{Marks}
use Rattle.eve_workload.specs.declared.marks.RowMarks.{RowMarks}
use Rattle.eve_workload.specs.inner.GroupSets.{has}
use Rattle.eve_workload.specs.Mixers.{collide}
use Rattle.eve_workload.specs.inner.Marks.{groups_barred, bars, place_of, is_barred, HasMarksAt}
use Rattle.eve_workload.proofs.ListReads.{get_behind, get_set_other}

own : (it : Marks) (row : ℕ × Kind) (group : ℕ) → it.row ≡ row.0
    → bars (Some it) row group ≡ has (groups_barred it row.1) group
own it row group is = ap (λ b. b && has (groups_barred it row.1) group) (eq-eqb it.row row.0 is)

-- marks of another row bar nothing
not_own : (it : Marks) (row : ℕ × Kind) (group : ℕ) → it.row ≢ row.0 → bars (Some it) row group ≡ false
not_own it row group apart = ap (λ b. b && has (groups_barred it row.1) group) (ne_eqb it.row row.0 apart)

-- ---- what the marks at a row's place say

-- they are the row's
pub barred_by : (m : RowMarks) (row : ℕ) (kind : Kind) (place : ℕ) (it : Marks) → HasMarksAt m row place
    → it ≡ get_or m.marks.items place it → (group : ℕ)
    → is_barred m (row, kind) group ≡ has (groups_barred it kind) group
barred_by m row kind place it stands is group =
    ap (λ p. bars (slice_get m.marks.items p) (row, kind) group) stands.found
    ∙ ap (λ o. bars o (row, kind) group) stands.own.1
    ∙ own stands.own.0 (row, kind) group stands.own.2
    ∙ ap (λ (marks : Marks). has (groups_barred marks kind) group)
    (sym (is ∙ get_or_from_slice_get m.marks.items place stands.own.0 it stands.own.1))

-- there are none
pub none_past : (m : RowMarks) (row : ℕ) (kind : Kind) (place group : ℕ) → place_of m row ≡ place
    → length m.marks.items ≤ place → is_barred m (row, kind) group ≡ false
none_past m row kind place group found past =
    ap (λ p. bars (slice_get m.marks.items p) (row, kind) group) found
    ∙ ap (λ o. bars o (row, kind) group) (slice_get_past m.marks.items place past)

-- they are another row's
pub none_of_another : (m : RowMarks) (row : ℕ) (kind : Kind) (place group : ℕ) (it : Marks) → place_of m row ≡ place
    → slice_get m.marks.items place ≡ Some it → it.row ≢ row → is_barred m (row, kind) group ≡ false
none_of_another m row kind place group it found is apart =
    ap (λ p. bars (slice_get m.marks.items p) (row, kind) group) found
    ∙ ap (λ o. bars o (row, kind) group) is ∙ not_own it (row, kind) group apart

-- ---- one row more has marks

zeros : (m k : ℕ) → slice_index_or (replicate m 0) k 0 ≡ zero
zeros zero k = refl
zeros (suc m) zero = refl
zeros (suc m) (suc k) = zeros m k

more_zeros : (xs : List ℕ) (m k : ℕ) → slice_index_or (xs ++ replicate m 0) k 0 ≡ slice_index_or xs k 0
more_zeros [] m k = zeros m k
more_zeros (x ∷ xs) m zero = refl
more_zeros (x ∷ xs) m (suc k) = more_zeros xs m k

-- a table that grew by places of 0
pub grown : (old new : List ℕ) (n m : ℕ) → length old ≤ n → new ≡ take n old ++ replicate m 0
    → (k : ℕ) → slice_index_or new k 0 ≡ slice_index_or old k 0
grown old new n m more is k =
    (λ i. slice_index_or (is i) k 0)
    ∙ (λ i. slice_index_or (take_all n old more i ++ replicate m 0) k 0) ∙ more_zeros old m k

more_marks : (ms : List Marks) (added : Marks) (k : ℕ) (row : ℕ × Kind) (group : ℕ) → added.row ≢ row.0
    → bars (slice_get (ms ++ added ∷ []) k) row group ≡ bars (slice_get ms k) row group
more_marks [] added zero row group apart = not_own added row group apart
more_marks [] added (suc k) row group apart = refl
more_marks (m ∷ ms) added zero row group apart = refl
more_marks (m ∷ ms) added (suc k) row group apart = more_marks ms added k row group apart

-- the marks of no group, for a row that had none, leave what all marks say
pub seen_more : (old new : RowMarks) (none : Marks) → new.marks.items ≡ old.marks.items ++ none ∷ []
    → ((g : ℕ) → has none.touched g ≡ false) → ((g : ℕ) → has none.written g ≡ false)
    → ((kind : Kind) (group : ℕ) → is_barred old (none.row, kind) group ≡ false)
    → place_of new none.row ≡ length old.marks.items
    → ((other : ℕ) → other ≢ none.row → place_of new other ≡ place_of old other)
    → (row : ℕ × Kind) (group : ℕ) → is_barred new row group ≡ is_barred old row group
seen_more old new none pushed touched written absent at_end stay row group =
    elim (cases_eq row.0 none.row) [
      | inl same ↦
          (λ i. bars (slice_get (pushed i) (place_of new (same i))) row group)
          ∙ ap (λ o. bars o row group) (get_behind old.marks.items (none ∷ []) (place_of new none.row) 0
          (omega (arith, at_end)))
          ∙ own none row group (sym same) ∙ by row.1
          ∙ sym (absent row.1 group)
          ∙ (λ i. is_barred old (sym same i, row.1) group)
      | inr apart ↦
          (λ i. bars (slice_get (pushed i) (stay row.0 apart i)) row group)
          ∙ more_marks old.marks.items none (place_of old row.0) row group (λ e. apart (sym e))
    ]
  where
    by : (kind : Kind) → has (groups_barred none kind) group ≡ false
    by Read = written group
    by Write = touched group

-- ---- a row is marked

-- the row's marks are changed, at their place
pub marked_at : (m : RowMarks) (place g row : ℕ) (was now : Marks) (done : Kind) (writes : Bool)
    → slice_get m.marks.items place ≡ Some was → HasMarksAt m row place → now.row ≡ was.row → is_write done ≡ writes
    → ((k : ℕ) → has now.touched k ≡ (has was.touched k || (k == g)))
    → ((k : ℕ) → has now.written k ≡ (has was.written k || (writes && (k == g))))
    → (other : ℕ × Kind) (k : ℕ) → bars (slice_get (slice_set m.marks.items place now) (place_of m other.0)) other k
    ≡ (is_barred m other k || (collide other (row, done) && (k == g)))
marked_at m place g row was now done writes is stands same_row is_writes touched written other k =
    elim (cases_eq other.0 row) [
      | inl same ↦
          let here : place_of m other.0 ≡ place = ap (place_of m) same ∙ stands.found in
          ap (λ p. bars (slice_get (slice_set m.marks.items place now) p) other k) here
          ∙ set ∙ own now other k (same_row ∙ was_row ∙ sym same) ∙ by other.1
          ∙ ap (λ b. b || ((is_write other.1 || is_write done) && (k == g)))
          (sym (own was other k (was_row ∙ sym same)) ∙ at_place here)
          ∙ and_collide true (sym (eq-eqb other.0 row same))
      | inr apart ↦
          (elim (cases_eq (place_of m other.0) place) [
            | inl here ↦
                ap (λ p. bars (slice_get (slice_set m.marks.items place now) p) other k) here
                ∙ set ∙ not_own now other k (λ e. apart (sym e ∙ same_row ∙ was_row))
                ∙ sym (not_own was other k (λ e. apart (sym e ∙ was_row))) ∙ at_place here
            | inr away ↦ ap (λ o. bars o other k) (get_set_other m.marks.items place (place_of m other.0) now away)
          ])
          ∙ sym (or-false (is_barred m other k))
          ∙ and_collide false (sym (ne_eqb other.0 row apart))
    ]
  where
    was_row : was.row ≡ row
    was_row = ap (λ (it : Marks). it.row) (same_Some was stands.own.0 (sym is ∙ stands.own.1)) ∙ stands.own.2

    set : bars (slice_get (slice_set m.marks.items place now) place) other k ≡ bars (Some now) other k
    set = ap (λ o. bars o other k) (get_set_same m.marks.items place now (slice_get_within m.marks.items place was is))

    at_place : place_of m other.0 ≡ place → bars (Some was) other k ≡ is_barred m other k
    at_place here = ap (λ o. bars o other k) (sym is) ∙ ap (λ p. bars (slice_get m.marks.items p) other k) (sym here)

    by : (kind : Kind) → has (groups_barred now kind) k
        ≡ (has (groups_barred was kind) k || ((is_write kind || is_write done) && (k == g)))
    by Read = written k ∙ ap (λ w. has was.written k || (w && (k == g))) (sym is_writes)
    by Write = touched k

    and_collide : (b : Bool) → b ≡ (other.0 == row)
        → (is_barred m other k || ((b && (is_write other.1 || is_write done)) && (k == g)))
        ≡ (is_barred m other k || (collide other (row, done) && (k == g)))
    and_collide b tested =
        ap (λ t. is_barred m other k || ((t && (is_write other.1 || is_write done)) && (k == g))) tested
