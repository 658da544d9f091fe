-- Each step of a replica's section is right where its ledger stands, and leads to where the ledger goes.
use Rattle.std.proofs.Common.{◌≡◌, ℕ, zero, suc, ◌+◌, ◌<◌, ◌≤◌, ◌==◌, nat_le, nat_lt, Bool, true, false, ◌&&◌}
use Rattle.std.proofs.Common.{IsTrue, List, [], ◌∷◌, ◌++◌, map, length, replicate, slice_get, Some, refl, sym}
use Rattle.std.proofs.Common.{subst, ap, ◌∙◌, append-nil, arith, length-append, ◌-◌}
use mathlib.Core.Path.{fun_ext}
use Rattle.std.specs.Prelude.{if◌then◌else◌, slice_index_or}
use Rattle.std.specs.List.{flat_map}
use Rattle.std.specs.Bool.{beq}
use Rattle.std.specs.Cmp.Lexicographic.{bytes_decides, pointwise}
use Rattle.std.proofs.lemmas.Bool.{and_from, eq-eqb, le-leb, lt-ltb}
use Rattle.std.proofs.lemmas.List.{length-map, map-append}
use Rattle.std.proofs.lemmas.List.Sorted.{length_permutation}
use Rattle.std.proofs.lemmas.Option.{slice_get_within}
use Rattle.eve_smallbank.specs.Access.{Executed}
use Rattle.eve_smallbank.specs.Chain.{Table, table_after, table_after_all}
use Rattle.eve_smallbank.specs.declared.versioned.Versioned.{Versioned}
use Rattle.eve_smallbank.proofs.Chains.{table_after-append}
use Rattle.eve_grammar.specs.Trace.{Access, Attempt, Batch, Commit, Rollback, Step, Attempts, Commits, RollsBack}
use Rattle.eve_grammar.specs.Trace.{Transfer, Transfers, Trace, opening_rows}
use Rattle.eve_grammar.specs.Accesses.{is_new_access, is_right_place}
use Rattle.eve_grammar.specs.Certificate.{is_certificate}
use Rattle.eve_grammar.proofs.OpeningRows.{length-opening_rows}
use Rattle.eve_grammar.proofs.Lists.{same_first, same_others, no_item}
use Rattle.eve_history.specs.Section.{Ran, Placed, HowReached, ByTransfer, Skipped, came_by, SectionState, start}
use Rattle.eve_history.specs.Section.{path_of, committing, after_transfer, next}
use Rattle.eve_history.specs.Section.{batch_at, request_count, worker_count, is_due, is_right_attempt}
use Rattle.eve_history.specs.Section.{is_right_certificate, are_right_accesses, commits_first}
use Rattle.eve_history.specs.Section.{is_right_commit, is_right_rollback, is_right_transfer, is_right}
use Rattle.eve_chains.specs.Visible.{opening_of, opening_table, execution, transferred_table, rows_after}
use Rattle.eve_chains.specs.Committed.{attempts_of}
use Rattle.eve_agree.specs.Tables.{entries_of}
use Rattle.eve_agree.proofs.SectionPaths.{came_by_push, path_committed, path_attempted, path_transferred}
use Rattle.eve_chains.proofs.LeftByRecords.{rows_after-push, rows_after-transferred}
use Rattle.eve_attempts.specs.Ledgers.{Opened, Ledger, ledger_rows, opening, rows_at_first, table_of_rows, table_now}
use Rattle.eve_attempts.specs.Ledgers.{values_before, writes_in}
use Rattle.eve_attempts.specs.ClosedAttempts.{are_right_records}
use Rattle.eve_attempts.specs.CommitsAndRollbacks as ledgers
use Rattle.eve_attempts.specs.Transfers.{rows_of_state}
use Rattle.eve_attempts.proofs.TableLaws.{table_after-writes}
use Rattle.eve_replica.specs.Sections.{RunPlan, AttemptsNext, TransfersNext, MakesOf, place_due}
use Rattle.eve_replica.specs.Replicas.{attempt_head_of}
use Rattle.eve_run_laws.proofs.LedgersAlike.{IsPlanOf, written_by, opened_of, AreAlike}
use Rattle.eve_run_laws.proofs.Executions.{batch_due, executes, opens_as}

-- ---- tables

table_after_all-entries : (table : Table) (xs : List Executed) → table_after_all table xs
    ≡ table_after table (entries_of xs)
table_after_all-entries table [] = refl
table_after_all-entries table (x ∷ xs) = table_after_all-entries (table_after table x.entries) xs
    ∙ sym (table_after-append table x.entries (entries_of xs))

-- the writes of an attempt leave what its requests do
writes_leave : (t : Trace) (table : Table) (a : Attempt) → table_after table (written_by t a)
    ≡ table_after_all table (execution t a)
writes_leave t table a = table_after-writes table (entries_of (execution t a))
    ∙ sym (table_after_all-entries table (execution t a))

attempts_of-push : (ps : List Placed) (q : Placed) → attempts_of (ps ++ q ∷ []) ≡ attempts_of ps ++ q.attempt ∷ []
attempts_of-push ps q = map-append (λ (p : Placed). p.attempt) ps (q ∷ [])

-- rows as a state lists them
state_now : (rows : List Versioned) → table_of_rows (rows_of_state rows) ≡ transferred_table rows
state_now rows = fun_ext (λ row. each rows row)
  where
    each : (rows : List Versioned) (row : ℕ) → table_of_rows (rows_of_state rows) row ≡ transferred_table rows row
    each [] row = refl
    each (r ∷ rows) zero = refl
    each (r ∷ rows) (suc row) = each rows row

-- ---- where a section and a ledger begin

version_first : (n row : ℕ) → ◌≡◌ {A = ℕ} (slice_index_or (replicate n 0) row 0) 0
version_first zero row = refl
version_first (suc n) zero = refl
version_first (suc n) (suc row) = version_first n row

opening_now : (t : Trace) → table_of_rows (rows_at_first (opening_rows t.customers)) ≡ opening_table t
opening_now t = fun_ext (λ row. ap (λ (n : ℕ). record { version = n; value = opening_of t row })
    (version_first (length (opening_rows t.customers)) row))

alike_opening : (t : Trace)
    → AreAlike t start (opening t.head.version (opening_rows t.customers) t.head.workers t.head.window)
alike_opening t = record {
  version = refl;
  view = refl;
  last = refl;
  serial = refl;
  workers = refl;
  window = refl;
  rows = length-opening_rows t.customers;
  opened = refl;
  due = omega arith;
  now = opening_now t;
  committed = opening_now t;
}

-- ---- why steps are right

same_mode : (x y : Bool) → x ≡ y → beq x y ≡ true
same_mode true y same = ap (beq true) (sym same)
same_mode false y same = ap (beq false) (sym same)

due_from : (t : Trace) (s : SectionState) (a : Attempt) → a.seq ≡ s.last + 1 + length s.pending
    → a.seq ≤ length t.batches → a.seq ≤ s.last + t.head.window → a.view ≡ s.view → a.serial ≡ s.rolled_back
    → is_due t s a ≡ true
due_from t s a number there room view mode =
    and_from (a.seq == s.last + 1 + length s.pending) _ (eq-eqb a.seq (s.last + 1 + length s.pending) number)
    (and_from (nat_le a.seq (length t.batches)) _ (le-leb a.seq (length t.batches) there)
    (and_from (nat_le a.seq (s.last + t.head.window)) _ (le-leb a.seq (s.last + t.head.window) room)
    (and_from (a.view == s.view) (beq a.serial s.rolled_back) (eq-eqb a.view s.view view)
    (same_mode a.serial s.rolled_back mode))))

-- the accesses are right by the same tests as the records
same_tests : (t : Trace) (a : Attempt) (before xs : List Access)
    → are_right_accesses t a before xs ≡ are_right_records (worker_count t a) (request_count t a) before xs
same_tests t a before [] = refl
same_tests t a before (x ∷ xs) =
    ap (λ (b : Bool). is_new_access (worker_count t a) (request_count t a) before x && (is_right_place before x && b))
    (same_tests t a (before ++ x ∷ []) xs)

first_committed : (t : Trace) (pending : List Placed) (first : Opened) (others : List Opened) (c : Commit)
    → map (opened_of t) (attempts_of pending) ≡ first ∷ others → first.view ≡ c.view → first.token ≡ c.token
    → commits_first pending c ≡ true
first_committed t [] first others c opened view token = absurd (no_item [] first others opened)
first_committed t (q ∷ ps) first others c opened view token =
    let own = same_first (opened_of t q.attempt) first (map (opened_of t) (attempts_of ps)) others opened in
    and_from (q.attempt.view == c.view) (pointwise ◌==◌ q.attempt.token c.token)
    (eq-eqb q.attempt.view c.view (ap (λ (o : Opened). o.view) own ∙ view))
    ((bytes_decides q.attempt.token c.token).1 (ap (λ (o : Opened). o.token) own ∙ token))

-- ---- where a section and a ledger are alike

module _ (t : Trace) (s : SectionState) (old : Ledger) (alike : AreAlike t s old) where
  as_many_open : length old.opened ≡ length s.pending
  as_many_open = ap length alike.opened ∙ length-map (attempts_of s.pending) (opened_of t)
      ∙ length-map s.pending (λ (p : Placed). p.attempt)

  right_commit : (new : Ledger) (c : Commit) → ledgers.Commits old new c → is_right_commit s c ≡ true
  right_commit new c made =
      and_from (c.seq == s.last + 1) (commits_first s.pending c)
      (eq-eqb c.seq (s.last + 1) (ap (λ (d : Commit). d.seq) made.commit ∙ ap (λ (n : ℕ). n + 1) (sym alike.last)))
      (first_committed t s.pending made.first made.others c (sym alike.opened ∙ made.opened)
      (ap (λ (d : Commit). d.view) (sym made.commit)) (ap (λ (d : Commit). d.token) (sym made.commit)))

  right_rollback : (new : Ledger) (r : Rollback) → old.committed < length t.batches → ledgers.RollsBack old new r
      → is_right_rollback t s r ≡ true
  right_rollback new r left made =
      let last = alike.last in
      and_from (r.to == s.last) _ (eq-eqb r.to s.last (made.to ∙ sym alike.last))
      (and_from (nat_lt s.last (length t.batches)) (r.view == s.view + 1)
      (lt-ltb s.last (length t.batches) (omega arith))
      (eq-eqb r.view (s.view + 1) (made.view ∙ ap (λ (n : ℕ). n + 1) (sym alike.view))))

  alike_rolled_back : (new : Ledger) (at : ℕ) (r : Rollback) → ledgers.RollsBack old new r
      → AreAlike t (next s (at, RollsBack r)) new
  alike_rolled_back new at r made =
      let now : table_now new ≡ rows_after t (flat_map came_by s.ways_reached) = made.rows ∙ alike.committed in
      let due = alike.due in
      record {
        version = ap (λ (l : Ledger). l.version) made.changed ∙ alike.version;
        view = made.view ∙ sym (ap (λ (l : Ledger). l.view) made.changed);
        last = alike.last ∙ sym (ap (λ (l : Ledger). l.committed) made.changed);
        serial = sym (ap (λ (l : Ledger). l.is_next_serial) made.changed);
        workers = ap (λ (l : Ledger). l.workers) made.changed ∙ alike.workers;
        window = ap (λ (l : Ledger). l.window) made.changed ∙ alike.window;
        rows = made.as_many ∙ alike.rows;
        opened = ap (λ (l : Ledger). l.opened) made.changed;
        due = omega arith;
        now = now ∙ ap (rows_after t) (sym (append-nil (flat_map came_by s.ways_reached)));
        committed = ap (λ (os : List Opened). values_before (table_now new) (writes_in os))
            (ap (λ (l : Ledger). l.opened) made.changed) ∙ now;
      }

  alike_committed : (new : Ledger) (c : Commit) (pending : List Placed) → s.pending ≡ pending
      → ledgers.Commits old new c → AreAlike t (committing s pending) new
  alike_committed new c [] open_is made =
      absurd (no_item [] made.first made.others
      (ap (λ (ps : List Placed). map (opened_of t) (attempts_of ps)) (sym open_is) ∙ sym alike.opened ∙ made.opened))
  alike_committed new c (q ∷ ps) open_is made =
      let opened : map (opened_of t) (attempts_of (q ∷ ps)) ≡ made.first ∷ made.others =
      ap (λ (qs : List Placed). map (opened_of t) (attempts_of qs)) (sym open_is) ∙ sym alike.opened ∙ made.opened in
      let own : opened_of t q.attempt ≡ made.first = same_first _ made.first _ made.others opened in
      let many : length s.pending ≡ suc (length ps) = ap length open_is in
      let due = alike.due in
      record {
        version = ap (λ (l : Ledger). l.version) made.changed ∙ alike.version;
        view = alike.view ∙ sym (ap (λ (l : Ledger). l.view) made.changed);
        last = ap (λ (n : ℕ). n + 1) alike.last ∙ sym (ap (λ (l : Ledger). l.committed) made.changed);
        serial = alike.serial ∙ sym (ap (λ (l : Ledger). l.is_next_serial) made.changed);
        workers = ap (λ (l : Ledger). l.workers) made.changed ∙ alike.workers;
        window = ap (λ (l : Ledger). l.window) made.changed ∙ alike.window;
        rows = ap ledger_rows made.changed ∙ alike.rows;
        opened = ap (λ (l : Ledger). l.opened) made.changed ∙ sym (same_others _ made.first _ made.others opened);
        due = omega arith;
        now = ap table_now made.changed ∙ alike.now
            ∙ ap (rows_after t)
            (ap (λ (qs : List Placed). flat_map came_by s.ways_reached ++ map (λ r. Ran r.attempt) qs)
            open_is ∙ path_committed s.ways_reached q ps);
        committed = made.committed
            ∙ (λ i. table_after (alike.committed i) (sym own i).written)
            ∙ writes_leave t (rows_after t (flat_map came_by s.ways_reached)) q.attempt
            ∙ sym (rows_after-push t (flat_map came_by s.ways_reached) q.attempt)
            ∙ ap (rows_after t) (sym (came_by_push s.ways_reached q));
      }

  -- ---- a state that is transferred

  module _ (p : RunPlan) (plan : IsPlanOf p t) (new : Ledger) (x : Transfer) (made : TransfersNext p old new x) where
    left : old.committed < length t.batches
    left = subst (λ (n : ℕ). old.committed < n) (ap length plan.batches) made.left

    right_transferred : is_right_transfer t s x ≡ true
    right_transferred =
        let last = alike.last in
        let next = made.next in
        let some = left in
        let view = alike.view in
        let own = made.view in
        and_from (nat_lt s.last x.seq) _ (lt-ltb s.last x.seq (omega arith))
        (and_from (nat_le x.seq (length t.batches)) (nat_le s.view x.view)
        (le-leb x.seq (length t.batches) (omega arith)) (le-leb s.view x.view (omega arith)))

    alike_transferred : (at : ℕ) → AreAlike t (after_transfer s at x) new
    alike_transferred at =
        let changed = made.transferred.changed in
        let skips : List HowReached = replicate (x.seq - (s.last + 1)) Skipped in
        let came = flat_map came_by s.ways_reached in
        let now : table_now new ≡ rows_after t (flat_map came_by (s.ways_reached ++ (skips ++ ByTransfer at x ∷ []))) =
        ap table_now changed ∙ state_now x.rows ∙ sym (rows_after-transferred t came x.rows [])
        ∙ ap (rows_after t) (sym (path_transferred s.ways_reached (x.seq - (s.last + 1)) at x)) in
        let next = made.next in
        let some = left in
        record {
          version = ap (λ (l : Ledger). l.version) changed ∙ alike.version;
          view = sym (ap (λ (l : Ledger). l.view) changed);
          last = sym (ap (λ (l : Ledger). l.committed) changed);
          serial = sym (ap (λ (l : Ledger). l.is_next_serial) changed);
          workers = ap (λ (l : Ledger). l.workers) changed ∙ alike.workers;
          window = ap (λ (l : Ledger). l.window) changed ∙ alike.window;
          rows = ap ledger_rows changed ∙ length-map x.rows (λ (r : Versioned). r.value) ∙ made.transferred.many
              ∙ alike.rows;
          opened = ap (λ (l : Ledger). l.opened) changed;
          due = omega arith;
          now = now
              ∙ ap (rows_after t)
              (sym (append-nil (flat_map came_by (s.ways_reached ++ (skips ++ ByTransfer at x ∷ [])))));
          committed = ap (λ (os : List Opened). values_before (table_now new) (writes_in os))
              (ap (λ (l : Ledger). l.opened) changed) ∙ now;
        }

  -- ---- an attempt

  module _ (p : RunPlan) (plan : IsPlanOf p t) (new : Ledger) (a : Attempt) (made : AttemptsNext p old new a) where
    number : a.seq ≡ old.committed + 1 + length old.opened
    number = made.closed.attempt.seq

    batch_there : slice_get t.batches (place_due old) ≡ Some made.batch
    batch_there = ap (λ (bs : List Batch). slice_get bs (place_due old)) (sym plan.batches) ∙ made.due

    batch_found : batch_at t a.seq ≡ made.batch
    batch_found = batch_due p t old new a plan made

    is_within : place_due old < length t.batches
    is_within = slice_get_within t.batches (place_due old) made.batch batch_there

    mode : a.serial ≡ old.is_next_serial
    mode = made.closed.attempt.serial

    right_due : is_due t s a ≡ true
    right_due =
        let many = as_many_open in
        let seq = number in
        let last = alike.last in
        let within = is_within in
        let room = made.room in
        let window = alike.window in
        due_from t s a (omega arith) (omega arith) (omega arith) (made.closed.attempt.view ∙ sym alike.view)
        (mode ∙ sym alike.serial)

    same_count : length a.certificate ≡ request_count t a
    same_count =
        ap length made.closed.attempt.certificate
        ∙ length-map made.closed.ordered (λ r. r.index)
        ∙ length_permutation made.records made.closed.ordered made.closed.by_ticks.same
        ∙ made.closed.right.noted.many
        ∙ ap (λ (b : Batch). length b.requests) (sym batch_found)

    right_certificate : is_right_certificate t a ≡ true
    right_certificate =
        (λ i. is_certificate (batch_found i).sizes (length (batch_found i).requests) (mode i)
        (made.closed.attempt.certificate i)) ∙ made.closed.right.certificate

    right_accesses : are_right_accesses t a [] a.accesses ≡ true
    right_accesses =
        same_tests t a [] a.accesses
        ∙ (λ i. are_right_records (if mode i then 1 else sym alike.workers i) (length (batch_found i).requests) []
        (made.closed.attempt.accesses i))
        ∙ made.closed.right.noted.accesses

    right_attempt : is_right t s (Attempts a) ≡ true
    right_attempt =
        and_from (is_right_attempt t s a) _
        (and_from (is_due t s a) (length a.certificate == request_count t a) right_due
        (eq-eqb (length a.certificate) (request_count t a) same_count))
        (and_from (is_right_certificate t a) (are_right_accesses t a [] a.accesses) right_certificate right_accesses)

    alike_attempted : (at : ℕ) → AreAlike t (next s (at, Attempts a)) new
    alike_attempted at =
        let q : Placed = record { offset = at; attempt = a; path = path_of s } in
        let opens = made.closed.opens in
        let many = as_many_open in
        let last = alike.last in
        let within = is_within in
        record {
          version = ap (λ (l : Ledger). l.version) opens.changed ∙ alike.version;
          view = alike.view ∙ sym (ap (λ (l : Ledger). l.view) opens.changed);
          last = alike.last ∙ sym (ap (λ (l : Ledger). l.committed) opens.changed);
          serial = sym (ap (λ (l : Ledger). l.is_next_serial) opens.changed);
          workers = ap (λ (l : Ledger). l.workers) opens.changed ∙ alike.workers;
          window = ap (λ (l : Ledger). l.window) opens.changed ∙ alike.window;
          rows = opens.as_many ∙ alike.rows;
          opened = ap (λ (l : Ledger). l.opened) opens.changed
              ∙ (λ i. alike.opened i
              ++ opens_as t (attempt_head_of old old.view old.is_next_serial) old new made.batch _ made.records a
              batch_found
              made.closed i ∷ [])
              ∙ sym (map-append (opened_of t) (attempts_of s.pending) (a ∷ []))
              ∙ ap (map (opened_of t)) (sym (attempts_of-push s.pending q));
          due = rw (length-append s.pending (q ∷ [])) (omega arith);
          now = opens.rows
              ∙ (λ i. table_after_all (alike.now i)
              (sym (executes t (attempt_head_of old old.view old.is_next_serial) old new made.batch _ made.records a
              batch_found made.closed) i))
              ∙ sym (rows_after-push t (path_of s) a)
              ∙ ap (rows_after t) (sym (path_attempted s.ways_reached s.pending q));
          committed = opens.committed ∙ alike.committed;
        }

-- ---- a step

module _ (p : RunPlan) (t : Trace) (plan : IsPlanOf p t) where
  pub alike_first : AreAlike t start p.first
  alike_first = subst (AreAlike t start) (sym plan.first) (alike_opening t)

  pub step_right : (s : SectionState) (old new : Ledger) (x : Step) → AreAlike t s old → MakesOf p x old new
      → IsTrue (is_right t s x)
  step_right s old new (Attempts a) alike made = right_attempt t s old alike p plan new a made
  step_right s old new (Commits c) alike made = right_commit t s old alike new c made
  step_right s old new (RollsBack r) alike made =
      right_rollback t s old alike new r (subst (λ (n : ℕ). old.committed < n) (ap length plan.batches) made.left)
      made.rolled_back
  step_right s old new (Transfers x) alike made = right_transferred t s old alike p plan new x made

  pub step_alike : (s : SectionState) (old new : Ledger) (at : ℕ) (x : Step) → AreAlike t s old → MakesOf p x old new
      → AreAlike t (next s (at, x)) new
  step_alike s old new at (Attempts a) alike made = alike_attempted t s old alike p plan new a made at
  step_alike s old new at (Commits c) alike made = alike_committed t s old alike new c s.pending refl made
  step_alike s old new at (RollsBack r) alike made = alike_rolled_back t s old alike new at r made.rolled_back
  step_alike s old new at (Transfers x) alike made = alike_transferred t s old alike p plan new x made at
