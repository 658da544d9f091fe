-- After a rollback that restores what it must a replica works on what is committed.
use Rattle.std.proofs.Common.{◌≡◌, ℕ, zero, suc, true, false, cond, ◌==◌, List, [], ◌∷◌, ◌++◌, map, take, slice_get}
use Rattle.std.proofs.Common.{Some, refl, sym, ap, ◌∙◌, inl, inr, append-nil, ◌+◌, ◌-◌}
use Rattle.std.specs.Prelude.{replicate}
use mathlib.Core.Path.{fun_ext}
use Rattle.std.specs.List.{list_all, list_any, flat_map}
use Rattle.std.specs.Ordering.{int_eq}
use Rattle.std.proofs.lemmas.Bool.{cases_Bool, and_parts, or_cases, or_parts, eqb-true, false≢true}
use Rattle.std.proofs.lemmas.Bool.Decides.{Decides-int_eq}
use Rattle.std.proofs.lemmas.Option.{same_Some, none-some}
use Rattle.std.proofs.lemmas.List.Folds.{list_any-append}
use Rattle.eve_smallbank.specs.Access.{Executed, writes_row}
use Rattle.eve_smallbank.specs.Chain.{Table, table_after, table_after_all}
use Rattle.eve_smallbank.proofs.Members.{In, here, there, all_of_list_all}
use Rattle.eve_smallbank.proofs.Orders.{unwritten}
use Rattle.eve_smallbank.specs.declared.versioned.Versioned.{Versioned}
use Rattle.eve_grammar.specs.Trace.{Attempt, Commit, Rollback, Transfer, Step, Attempts, Commits, RollsBack, Transfers}
use Rattle.eve_grammar.specs.Trace.{Trace}
use Rattle.eve_grammar.specs.Spelling.{steps_at}
use Rattle.eve_grammar.specs.declared.restore.Restore.{Restore}
use Rattle.eve_history.specs.Section.{Ran, Placed, HowReached, ByTransfer, Skipped, came_by, SectionState, start}
use Rattle.eve_history.specs.Section.{path_of}
use Rattle.eve_history.specs.Section.{committing, next, state_after}
use Rattle.eve_chains.specs.Visible.{opening_table, transferred_table, execution, executions, rows_after}
use Rattle.eve_chains.specs.Committed.{attempts_of}
use Rattle.eve_agree.specs.Marks.{restores_row}
use Rattle.eve_agree.specs.Tables.{restored, worked, committed_rows, working_table, committed_table, IsRestored}
use Rattle.eve_agree.specs.Tables.{entries_of, open_entries, is_written_in, are_right_restores, all_restore_rightly}
use Rattle.eve_agree.specs.Tables.{RestoresAreRight}
use Rattle.eve_chains.proofs.LeftByRecords.{rows_after-push, rows_after-placed, rows_after-transferred}
use Rattle.eve_agree.proofs.MarkLaws.{is_covered, not_covered}
use Rattle.eve_agree.proofs.SectionPaths.{path_committed, path_attempted, path_transferred}

-- ---- one rollback

-- a row that is not restored
restored_not : (table : Table) (row : ℕ) (rs : List Restore) → restores_row row rs ≡ false → restored table rs row
    ≡ table row
restored_not table row [] h = refl
restored_not table row (r ∷ rs) h =
    let parts = or_parts (r.row == row) (restores_row row rs) h in
    restored_not (λ q. cond (r.row == q) (record { version = r.version; value = r.value }) (table q)) row rs parts.1
    ∙ ap (λ b. cond b (record { version = r.version; value = r.value }) (table row)) parts.0

-- a restored row has what some restore of it says
restored_row : (table : Table) (row : ℕ) (rs : List Restore) → restores_row row rs ≡ true
    → (r : Restore) × In r rs × (r.row ≡ row)
    × (restored table rs row ≡ record { version = r.version; value = r.value })
restored_row table row [] h = absurd (false≢true h)
restored_row table row (r ∷ rs) h =
    let set : Table = λ q. cond (r.row == q) (record { version = r.version; value = r.value }) (table q) in
    elim (cases_Bool (restores_row row rs)) [
      | inl later ↦
          let rest = restored_row set row rs later in
          (rest.0, there rest.1, rest.2, rest.3)
      | inr none ↦ elim (or_cases (r.row == row) (restores_row row rs) h) [
        | inl same ↦ (
          r,
          here,
          eqb-true r.row row same,
          restored_not set row rs none ∙ ap (λ b. cond b (record { version = r.version; value = r.value }) (table row))
              same,
        )
        | inr later ↦ absurd (false≢true (sym none ∙ later))
      ]
    ]

unwritten_all : (table : Table) (row : ℕ) (xs : List Executed) → list_any (writes_row row) (entries_of xs) ≡ false
    → table_after_all table xs row ≡ table row
unwritten_all table row [] h = refl
unwritten_all table row (x ∷ xs) h =
    let parts = or_parts (list_any (writes_row row) x.entries) (list_any (writes_row row) (entries_of xs))
    (sym (list_any-append (writes_row row) x.entries (entries_of xs)) ∙ h) in
    unwritten_all (table_after table x.entries) row xs parts.1 ∙ unwritten table x.entries row parts.0

same_versioned : (r : Restore) (v : Versioned) → r.version ≡ v.version → r.value ≡ v.value
    → ◌≡◌ {A = Versioned} (record { version = r.version; value = r.value }) v
same_versioned r v e f = λ i. record { version = e i; value = f i }

module _ (t : Trace) (s : SectionState) (rs : List Restore) (right : are_right_restores t s rs ≡ true) where
  exact : list_all (is_written_in (committed_rows t s) (open_entries t s)) rs ≡ true
  exact =
      (and_parts (list_all (is_written_in (committed_rows t s) (open_entries t s)) rs)
      (list_all (is_covered rs) (open_entries t s)) right).0

  covers : list_all (is_covered rs) (open_entries t s) ≡ true
  covers =
      (and_parts (list_all (is_written_in (committed_rows t s) (open_entries t s)) rs)
      (list_all (is_covered rs) (open_entries t s)) right).1

  -- a row without a restore was not written
  not_written : (row : ℕ) → restores_row row rs ≡ false → list_any (writes_row row) (open_entries t s) ≡ false
  not_written row none = elim (cases_Bool (list_any (writes_row row) (open_entries t s))) [
    | inl some ↦ absurd (false≢true (sym (not_covered rs row (open_entries t s) none some) ∙ covers))
    | inr nowhere ↦ nowhere
  ]

  restored_rows : restored (table_after_all (committed_rows t s) (executions t (attempts_of s.pending))) rs
      ≡ committed_rows t s
  restored_rows = fun_ext (λ row.
      let work : Table = table_after_all (committed_rows t s) (executions t (attempts_of s.pending)) in
      elim (cases_Bool (restores_row row rs)) [
        | inl some ↦
            let found = restored_row work row rs some in
            let own = and_parts (found.0.version == (committed_rows t s found.0.row).version)
            (int_eq found.0.value (committed_rows t s found.0.row).value)
            (and_parts (list_any (writes_row found.0.row) (open_entries t s)) _
            (all_of_list_all (is_written_in (committed_rows t s) (open_entries t s)) rs exact found.1)).1 in
            found.3
            ∙ same_versioned found.0 (committed_rows t s found.0.row)
            (eqb-true found.0.version (committed_rows t s found.0.row).version own.0)
            ((Decides-int_eq found.0.value (committed_rows t s found.0.row).value).0 own.1)
            ∙ ap (committed_rows t s) found.2
        | inr none ↦ restored_not work row rs none
            ∙ unwritten_all (committed_rows t s) row (executions t (attempts_of s.pending)) (not_written row none)
      ])

-- ---- along a section

-- what is left of all that came, but for what was discarded
abbrev along : Trace → SectionState → Table
along t s = rows_after t (path_of s)

along_committing : (t : Trace) (s : SectionState) (pending : List Placed) → s.pending ≡ pending → along t s
    ≡ along t (committing s pending)
along_committing t s [] e = refl
along_committing t s (p ∷ ps) e = ap (rows_after t)
    (ap (λ (qs : List Placed). flat_map came_by s.ways_reached ++ map (λ q. Ran q.attempt) qs) e
    ∙ path_committed s.ways_reached p ps)

along_pushed : (t : Trace) (s : SectionState) (at : ℕ) (a : Attempt) → table_after_all (along t s) (execution t a)
    ≡ along t (next s (at, Attempts a))
along_pushed t s at a =
    sym (ap (rows_after t) (path_attempted s.ways_reached s.pending
    (record { offset = at; attempt = a; path = path_of s }))
    ∙ rows_after-push t (path_of s) a)

along_restored : (t : Trace) (s : SectionState) (rs : List Restore) → are_right_restores t s rs ≡ true
    → restored (along t s) rs ≡ committed_rows t s
along_restored t s rs right =
    ap (λ (table : Table). restored table rs) (rows_after-placed t (flat_map came_by s.ways_reached) s.pending)
    ∙ restored_rows t s rs right

found_step : (x y : ℕ × Step) → Some x ≡ Some y → x.1 ≡ y.1
found_step x y e = ap (λ (p : ℕ × Step). p.1) (same_Some x y e)

no_rollback : (a : Attempt) (r : Rollback) → Attempts a ≡ RollsBack r → ⊥
no_rollback a r e = cc

no_rollback_commit : (c : Commit) (r : Rollback) → Commits c ≡ RollsBack r → ⊥
no_rollback_commit c r e = cc

no_rollback_transfer : (x : Transfer) (r : Rollback) → Transfers x ≡ RollsBack r → ⊥
no_rollback_transfer x r e = cc

-- a state that is transferred is all that is left
along_transferred : (t : Trace) (s : SectionState) (at : ℕ) (x : Transfer) → transferred_table x.rows
    ≡ along t (next s (at, Transfers x))
along_transferred t s at x =
    let skips : List HowReached = replicate (x.seq - (s.last + 1)) Skipped in
    sym (ap (rows_after t)
    (append-nil (flat_map came_by (s.ways_reached ++ (skips ++ ByTransfer at x ∷ [])))
    ∙ path_transferred s.ways_reached (x.seq - (s.last + 1)) at x)
    ∙ rows_after-transferred t (flat_map came_by s.ways_reached) x.rows [])

-- what the replica works on is what its attempts leave that are not discarded
works_along : (t : Trace) (s : SectionState) (table : Table) (steps : List (ℕ × Step)) (k at : ℕ) (r : Rollback)
    → all_restore_rightly t s steps ≡ true → table ≡ along t s
    → slice_get steps k ≡ Some (at, RollsBack r) → worked t table (take (suc k) steps)
    ≡ committed_rows t (state_after s (take (suc k) steps))
works_along t s table [] k at r right e found = absurd (none-some (at, RollsBack r) found)
works_along t s table ((o, Attempts a) ∷ steps) zero at r right e found =
    absurd (no_rollback a r (found_step (o, Attempts a) (at, RollsBack r) found))
works_along t s table ((o, Commits c) ∷ steps) zero at r right e found =
    absurd (no_rollback_commit c r (found_step (o, Commits c) (at, RollsBack r) found))
works_along t s table ((o, Transfers x) ∷ steps) zero at r right e found =
    absurd (no_rollback_transfer x r (found_step (o, Transfers x) (at, RollsBack r) found))
works_along t s table ((o, RollsBack q) ∷ steps) zero at r right e found =
    ap (λ (old : Table). restored old q.restores) e
    ∙ along_restored t s q.restores
    (and_parts (are_right_restores t s q.restores) (all_restore_rightly t (next s (o, RollsBack q)) steps) right).0
works_along t s table ((o, Attempts a) ∷ steps) (suc k) at r right e found =
    works_along t (next s (o, Attempts a)) (table_after_all table (execution t a)) steps k at r right
    (ap (λ (old : Table). table_after_all old (execution t a)) e ∙ along_pushed t s o a) found
works_along t s table ((o, Commits c) ∷ steps) (suc k) at r right e found =
    works_along t (next s (o, Commits c)) table steps k at r right (e ∙ along_committing t s s.pending refl) found
works_along t s table ((o, Transfers x) ∷ steps) (suc k) at r right e found =
    works_along t (next s (o, Transfers x)) (transferred_table x.rows) steps k at r right (along_transferred t s o x)
    found
works_along t s table ((o, RollsBack q) ∷ steps) (suc k) at r right e found =
    let parts = and_parts (are_right_restores t s q.restores) (all_restore_rightly t (next s (o, RollsBack q)) steps)
    right in
    works_along t (next s (o, RollsBack q)) (restored table q.restores) steps k at r parts.1
    (ap (λ (old : Table). restored old q.restores) e ∙ along_restored t s q.restores parts.0
    ∙ ap (rows_after t) (sym (append-nil (flat_map came_by s.ways_reached)))) found

pub restored_after : (t : Trace) (e : ℕ) → RestoresAreRight t e → (k : ℕ) → IsRestored t e k
unfolding working_table committed_table
restored_after t e right k at r found = works_along t start (opening_table t) (steps_at t e) k at r right refl found
