-- Public: other crates cite these lemmas. What an attempt's records leave in the rows, one after another in its
-- certificate's order.
use Rattle.std.proofs.Common.{◌≡◌, ℕ, ◌+◌, ◌==◌, List, [], ◌∷◌, ◌++◌, map, fold, flat_map, length, refl, sym, subst}
use Rattle.std.proofs.Common.{ap, ◌∙◌}
use Rattle.std.proofs.lemmas.Bool.{eq-eqb, ne_eqb, cond-true, cond-false}
use Rattle.std.proofs.lemmas.List.Sums.{fold-append}
use Rattle.eve_smallbank.specs.declared.entry.Entry.{Entry}
use Rattle.eve_smallbank.specs.Access.{Executed}
use Rattle.eve_smallbank.specs.declared.versioned.Versioned.{Versioned}
use Rattle.eve_smallbank.specs.Chain.{Table, table_after, table_after_all}
use Rattle.eve_smallbank.proofs.Members.{In, here, there, all_in, in_prefix, in_middle}
use Rattle.eve_smallbank.proofs.Chains.{table_after-append}
use Rattle.eve_grammar.specs.Trace.{Access, Attempt, Trace}
use Rattle.eve_grammar.specs.Limits.{HasLimits}
use Rattle.eve_grammar.specs.Frames.{OfAccess, OfAttempt}
use Rattle.eve_grammar.specs.Spelling.{frame_text, accesses_at}
use Rattle.eve_history.specs.Section.{Came, Ran, Transferred, Placed, settled, request_count}
use Rattle.eve_history.specs.SectionHistory.{access_with, history, IsRightSection}
use Rattle.eve_chains.specs.Visible.{opening_table, entries_with, executed_at, execution, executions}
use Rattle.eve_chains.specs.Visible.{transferred_table, with_came, rows_after, before_index, visible_to}
use Rattle.eve_chains.specs.Committed.{attempts_of}
use Rattle.eve_chains.specs.Along.{entries_along}
use Rattle.eve_chains.proofs.AlongLaws.{table_after_all-append}
use Rattle.eve_chains.proofs.Attempts.{found_in, located_in}
use Rattle.eve_chains.proofs.AttemptRecords.{own}
use Rattle.eve_chains.proofs.Cuts.{map_cut}
use Rattle.eve_chains.proofs.Distinct.{Distinct, distinct_permutation}
use Rattle.eve_chains.proofs.Faultless.{in_located}
use Rattle.eve_chains.proofs.SettledAttempts.{IsRightAlone, IsComplete, settled_right, settled_complete}
use Rattle.eve_chains.proofs.Soundness.{permutes, distinct_indexes, its_record, as_executed}

-- ---- the rows after a longer path

pub rows_after-push : (t : Trace) (path : List Came) (a : Attempt) → rows_after t (path ++ Ran a ∷ [])
    ≡ table_after_all (rows_after t path) (execution t a)
rows_after-push t path a = fold-append (with_came t) (opening_table t) path (Ran a ∷ [])

-- what stands before a state that was transferred doesn't matter
pub rows_after-transferred : (t : Trace) (before : List Came) (rows : List Versioned) (path : List Came)
    → rows_after t (before ++ Transferred rows ∷ path) ≡ fold (with_came t) (transferred_table rows) path
rows_after-transferred t before rows path = fold-append (with_came t) (opening_table t) before (Transferred rows ∷ path)

pub with_attempts : (t : Trace) (table : Table) (attempts : List Attempt) → fold (with_came t) table (map Ran attempts)
    ≡ table_after_all table (executions t attempts)
with_attempts t table [] = refl
with_attempts t table (a ∷ attempts) =
    with_attempts t (table_after_all table (execution t a)) attempts
    ∙ sym (table_after_all-append table (execution t a) (executions t attempts))

-- attempts, as what happened to the rows
pub ran_attempts : (ps : List Placed) → map (λ p. Ran p.attempt) ps ≡ map Ran (attempts_of ps)
ran_attempts [] = refl
ran_attempts (p ∷ ps) = ap (λ (cs : List Came). Ran p.attempt ∷ cs) (ran_attempts ps)

-- by more attempts
pub rows_after-append : (t : Trace) (path : List Came) (attempts : List Attempt) → rows_after t
    (path ++ map Ran attempts)
    ≡ table_after_all (rows_after t path) (executions t attempts)
rows_after-append t path attempts =
    fold-append (with_came t) (opening_table t) path (map Ran attempts)
    ∙ with_attempts t (rows_after t path) attempts

-- by placed ones
pub rows_after-placed : (t : Trace) (path : List Came) (ps : List Placed)
    → rows_after t (path ++ map (λ p. Ran p.attempt) ps)
    ≡ table_after_all (rows_after t path) (executions t (attempts_of ps))
rows_after-placed t path ps = ap (λ (cs : List Came). rows_after t (path ++ cs)) (ran_attempts ps)
    ∙ rows_after-append t path (attempts_of ps)

-- ---- the table between the records

-- along indexes whose records have these entries
table_between : (table : Table) (f : ℕ → Executed) (g : ℕ → ℕ × Access) (order : List ℕ)
    → ((i : ℕ) → In i order → (g i).1.entries ≡ (f i).entries)
    → table_after table (entries_along (map g order)) ≡ table_after_all table (map f order)
table_between table f g [] same = refl
table_between table f g (i ∷ order) same =
    table_after-append table (g i).1.entries (entries_along (map g order))
    ∙ ap (λ (es : List Entry). table_after (table_after table es) (entries_along (map g order))) (same i here)
    ∙ table_between (table_after table (f i).entries) f g order (λ j k. same j (there k))

before_itself : (prefix : List ℕ) (i : ℕ) (back : List ℕ) → Distinct (prefix ++ i ∷ back)
    → before_index i (prefix ++ i ∷ back) ≡ prefix
before_itself [] i back d = cond-true (i == i) [] (i ∷ before_index i back) (eq-eqb i i refl)
before_itself (j ∷ prefix) i back d =
    cond-false (j == i) [] (j ∷ before_index i (prefix ++ i ∷ back))
    (ne_eqb j i (λ e. d.0 (subst (λ k. In k (prefix ++ i ∷ back)) (sym e) (in_middle i prefix back))))
    ∙ ap (λ (ks : List ℕ). j ∷ ks) (before_itself prefix i back d.1)

-- ---- one attempt

module _ (t : Trace) (p : Placed) (right : IsRightAlone t p.attempt) (complete : IsComplete p.attempt) where
  unfoldable pub record_at : ℕ → ℕ × Access
  record_at = access_with (accesses_at p.offset p.attempt)

  -- what stands for an index of the certificate
  record_there : (i : ℕ) → In i p.attempt.certificate
      → In (record_at i) (accesses_at p.offset p.attempt) × ((record_at i).1.index ≡ i)
  unfolding record_at
  record_there i member =
      let s = its_record t p right complete i member in
      let o = located_in (p.offset + length (frame_text (OfAttempt p.attempt))) p.attempt.accesses s.there_is in
      let found = found_in (p.offset + length (frame_text (OfAttempt p.attempt))) p.attempt.accesses (o.0, s.item)
      (distinct_indexes t p.attempt [] p.attempt.accesses right.accesses) o.1 in
      let is : record_at i ≡ (o.0, s.item) = ap record_at s.is ∙ found in (
        subst (λ (x : ℕ × Access). In x (accesses_at p.offset p.attempt)) (sym is) o.1,
        ap (λ (x : ℕ × Access). x.1.index) is ∙ sym s.is,
      )

  pub same_entries : (i : ℕ) → In i p.attempt.certificate → (record_at i).1.entries ≡
      (executed_at t p.attempt i).entries
  unfolding record_at
  same_entries i member =
      let there_is = record_there i member in
      let x : ℕ × Access = record_at i in
      sym (ap (λ (n : ℕ). entries_with p.attempt.accesses n) (sym there_is.1)
      ∙ ap (λ (y : Executed). y.entries)
      (as_executed t p right x.1
      (in_located (λ y. frame_text (OfAccess y)) (p.offset + length (frame_text (OfAttempt p.attempt)))
      p.attempt.accesses x there_is.0)))

  -- all of them leave what the attempt leaves
  pub left_by_records : (table : Table) → table_after_all table (execution t p.attempt)
      ≡ table_after table (entries_along (own p))
  unfolding record_at
  left_by_records table =
      sym (table_between table (executed_at t p.attempt) (access_with (accesses_at p.offset p.attempt))
      p.attempt.certificate same_entries)

  -- what a record's entries must see is what the records before it leave
  pub left_before : (xs : List (ℕ × Access)) (x : ℕ × Access) (zs : List (ℕ × Access)) → own p ≡ xs ++ x ∷ zs
      → table_after (rows_after t p.path) (entries_along xs) ≡ visible_to t p x.1.index
  unfolding record_at
  left_before xs x zs is =
      let m = map_cut (access_with (accesses_at p.offset p.attempt)) p.attempt.certificate xs x zs is in
      let member : In m.item p.attempt.certificate = subst (In m.item) (sym m.is)
      (in_middle m.item m.earlier m.later) in
      let prefix : before_index m.item p.attempt.certificate ≡ m.earlier = ap (before_index m.item) m.is
      ∙ before_itself m.earlier m.item m.later
      (subst Distinct m.is (distinct_permutation (request_count t p.attempt) p.attempt.certificate
      (permutes t p.attempt right.certificate))) in
      ap (λ (ys : List (ℕ × Access)). table_after (rows_after t p.path) (entries_along ys)) m.same
      ∙ table_between (rows_after t p.path) (executed_at t p.attempt) (access_with (accesses_at p.offset p.attempt))
      m.earlier
      (λ j k. same_entries j (subst (In j) (sym m.is) (in_prefix (m.item ∷ m.later) k)))
      ∙ ap (λ (ks : List ℕ). table_after_all (rows_after t p.path) (map (executed_at t p.attempt) ks)) (sym prefix)
      ∙ ap (visible_to t p) (sym (record_there m.item member).1 ∙ ap (λ (y : ℕ × Access). y.1.index) (sym m.it))

-- ---- settled attempts

pub right_one : (t : Trace) (e : ℕ) (p : Placed) → IsRightSection t e → In p (settled (history t e))
    → IsRightAlone t p.attempt
right_one t e p right i = all_in (λ q. IsRightAlone t q.attempt) (settled_right t e right) i

pub complete_one : (t : Trace) (e : ℕ) (p : Placed) → HasLimits t → In p (settled (history t e)) → IsComplete p.attempt
complete_one t e p limits i = all_in (λ q. IsComplete q.attempt) (settled_complete t e limits) i

-- one after another they leave what all their records leave
pub left_by_all : (t : Trace) (e : ℕ) (table : Table) (ps : List Placed) → HasLimits t → IsRightSection t e
    → ((p : Placed) → In p ps → In p (settled (history t e)))
    → fold (with_came t) table (map (λ p. Ran p.attempt) ps)
    ≡ table_after table (flat_map (λ p. entries_along (own p)) ps)
left_by_all t e table [] limits right settles = refl
left_by_all t e table (p ∷ ps) limits right settles =
    let i = settles p here in
    ap (λ (now : Table). fold (with_came t) now (map (λ q. Ran q.attempt) ps))
    (left_by_records t p (right_one t e p right i) (complete_one t e p limits i) table)
    ∙ left_by_all t e (table_after table (entries_along (own p))) ps limits right (λ q j. settles q (there j))
    ∙ sym (table_after-append table (entries_along (own p)) (flat_map (λ q. entries_along (own q)) ps))
