-- Each rollback of a run restores what it must: the rows that open attempts wrote, each as it is committed.
use Rattle.std.proofs.Common.{◌≡◌, ℕ, Bool, true, false, cond, not, ◌&&◌, ◌||◌, ◌==◌, IsTrue, List, [], ◌∷◌, ◌++◌, map}
use Rattle.std.proofs.Common.{filter, refl, sym, subst, ap, ◌∙◌}
use Rattle.std.specs.Ordering.{int_eq}
use Rattle.std.specs.List.{AllByRecursion, list_all, list_any}
use Rattle.std.proofs.lemmas.Bool.{and_parts, and_from, eq-eqb}
use Rattle.std.proofs.lemmas.Bool.Decides.{Decides-int_eq}
use Rattle.std.proofs.lemmas.List.Elements.{filter-append}
use Rattle.std.proofs.lemmas.Grind.{flat_map-append}
use Rattle.std.proofs.lemmas.Map.Views.{any-filter_same}
use Rattle.eve_smallbank.specs.declared.entry.Entry.{Entry}
use Rattle.eve_smallbank.specs.Access.{Executed, is_write, writes_row}
use Rattle.eve_smallbank.specs.Chain.{Table}
use Rattle.eve_grammar.specs.Trace.{Attempt, Step, Attempts, Commits, RollsBack, Transfers, Trace}
use Rattle.eve_grammar.specs.declared.restore.Restore.{Restore}
use Rattle.eve_history.specs.Section.{SectionState, next}
use Rattle.eve_chains.specs.Visible.{execution, executions}
use Rattle.eve_chains.specs.Committed.{attempts_of}
use Rattle.eve_agree.specs.Tables.{committed_rows, entries_of, open_entries, is_written_in, are_right_restores}
use Rattle.eve_agree.specs.Tables.{restores_rightly, all_restore_rightly}
use Rattle.eve_attempts.specs.Ledgers.{Ledger, writes_in, open_writes, rows_committed}
use Rattle.eve_attempts.specs.CommitsAndRollbacks.{restore_in, AreRestores}
use Rattle.eve_attempts.proofs.TableLaws.{writes_among}
use Rattle.eve_replica.specs.Sections.{RunPlan, MakesOf, GoesThrough}
use Rattle.eve_run_laws.proofs.LedgersAlike.{AreAlike, opened_of, written_by}

-- ---- tests of lists

-- each passes the one test or fails the other, where those that pass the other pass the one
passes_where : {A : Type 0} (p q : A → Bool) (xs : List A) → AllByRecursion (λ x. IsTrue (q x)) (filter p xs)
    → list_all (λ x. not (p x) || q x) xs ≡ true
passes_where p q [] all = refl
passes_where p q (x ∷ xs) all = by (p x) all (passes_where p q xs)
  where
    by : (b : Bool) → AllByRecursion (λ y. IsTrue (q y)) (cond b (x ∷ filter p xs) (filter p xs))
        → (AllByRecursion (λ y. IsTrue (q y)) (filter p xs) → list_all (λ y. not (p y) || q y) xs ≡ true)
        → ((not b || q x) && list_all (λ y. not (p y) || q y) xs) ≡ true
    by true both rest = and_from (q x) (list_all (λ y. not (p y) || q y) xs) both.0 (rest both.1)
    by false both rest = rest both

-- ---- what is open

-- what the open attempts wrote is the writes among all that they noted
written_among : (t : Trace) (attempts : List Attempt) → writes_in (map (opened_of t) attempts)
    ≡ writes_among (entries_of (executions t attempts))
written_among t [] = refl
written_among t (a ∷ attempts) =
    ap (λ (es : List Entry). written_by t a ++ es) (written_among t attempts)
    ∙ sym (filter-append (λ (e : Entry). is_write e.kind) (entries_of (execution t a))
    (entries_of (executions t attempts)))
    ∙ ap writes_among
    (sym (flat_map-append (λ (x : Executed). x.entries) (execution t a) (executions t attempts)))

-- ---- restores

module _ (t : Trace) (s : SectionState) (old : Ledger) (alike : AreAlike t s old) where
  open_written : open_writes old ≡ writes_among (open_entries t s)
  open_written = ap writes_in alike.opened ∙ written_among t (attempts_of s.pending)

  -- a row is written by an open attempt of the section where it is written by one of the ledger
  row_written : (row : ℕ) → list_any (writes_row row) (open_writes old) ≡ list_any (writes_row row) (open_entries t s)
  row_written row =
      ap (list_any (writes_row row)) open_written
      ∙ any-filter_same (writes_row row) (λ e. is_write e.kind) true
      (λ e writes. (and_parts (is_write e.kind) (e.row == row) writes).0) (open_entries t s)

  right_restore : (r : Restore) → IsTrue (list_any (writes_row r.row) (open_writes old))
      → r ≡ restore_in (rows_committed old) r.row → IsTrue (is_written_in (committed_rows t s) (open_entries t s) r)
  right_restore r written is =
      and_from (list_any (writes_row r.row) (open_entries t s)) _ (sym (row_written r.row) ∙ written)
      (and_from (r.version == (committed_rows t s r.row).version) (int_eq r.value (committed_rows t s r.row).value)
      (eq-eqb r.version (committed_rows t s r.row).version
      (ap (λ (q : Restore). q.version) is ∙ ap (λ (table : Table). (table r.row).version) alike.committed))
      ((Decides-int_eq r.value (committed_rows t s r.row).value).1
      (ap (λ (q : Restore). q.value) is ∙ ap (λ (table : Table). (table r.row).value) alike.committed)))

  each_right : (rs : List Restore)
      → AllByRecursion (λ r. IsTrue (list_any (writes_row r.row) (open_writes old))) rs
      → AllByRecursion (λ r. r ≡ restore_in (rows_committed old) r.row) rs
      → list_all (is_written_in (committed_rows t s) (open_entries t s)) rs ≡ true
  each_right [] written are = refl
  each_right (r ∷ rs) written are =
      and_from (is_written_in (committed_rows t s) (open_entries t s) r)
      (list_all (is_written_in (committed_rows t s) (open_entries t s)) rs) (right_restore r written.0 are.0)
      (each_right rs written.1 are.1)

pub restores_right : (t : Trace) (s : SectionState) (old : Ledger) (rs : List Restore) → AreAlike t s old
    → AreRestores old rs → IsTrue (are_right_restores t s rs)
restores_right t s old rs alike restores =
    and_from (list_all (is_written_in (committed_rows t s) (open_entries t s)) rs) _
    (each_right t s old alike rs restores.written restores.committed)
    (passes_where (λ e. is_write e.kind) (λ e. list_any (λ r. r.row == e.row) rs) (open_entries t s)
    (subst (AllByRecursion (λ e. IsTrue (list_any (λ r. r.row == e.row) rs))) (open_written t s old alike)
    restores.all))

step_restores : (p : RunPlan) (t : Trace) (s : SectionState) (old new : Ledger) (x : Step) → AreAlike t s old
    → MakesOf p x old new → IsTrue (restores_rightly t s x)
step_restores p t s old new (Attempts a) alike made = refl
step_restores p t s old new (Commits c) alike made = refl
step_restores p t s old new (RollsBack r) alike made = restores_right t s old r.restores alike made.rolled_back.restores
step_restores p t s old new (Transfers x) alike made = refl

-- along all steps, where the section follows the ledger
pub restores_along : (p : RunPlan) (t : Trace)
    → ((s : SectionState) (old new : Ledger) (at : ℕ) (x : Step) → AreAlike t s old → MakesOf p x old new
    → AreAlike t (next s (at, x)) new)
    → (steps : List (ℕ × Step)) (s : SectionState) (old new : Ledger) → GoesThrough p (map (λ x. x.1) steps) old new
    → AreAlike t s old → IsTrue (all_restore_rightly t s steps)
restores_along p t step_alike [] s old new goes alike = refl
restores_along p t step_alike (x ∷ steps) s old new goes alike =
    and_from (restores_rightly t s x.1) (all_restore_rightly t (next s x) steps)
    (step_restores p t s old goes.0 x.1 alike goes.1)
    (restores_along p t step_alike steps (next s x) goes.0 new goes.2 (step_alike s old goes.0 x.0 x.1 alike goes.1))
