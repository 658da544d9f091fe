use Rattle.std.proofs.Common.{◌≡◌, ◌+◌, ◌≤◌, IsTrue, List, [], ◌++◌, length, drop, refl, sym, subst, ap, ◌∙◌}
use Rattle.std.proofs.Common.{append-nil, arith}
use Rattle.std.specs.List.{AllByRecursion, list_all}
use Rattle.std.proofs.lemmas.List.{drop_all}
use Rattle.eve_smallbank.specs.declared.entry.Entry.{Entry}
use Rattle.eve_smallbank.specs.Chain.{Sees, table_after}
use Rattle.eve_grammar.specs.Limits.{is_entry}
use Rattle.eve_stamps.specs.Applied.{Applied}
use Rattle.eve_attempts.specs.Ledgers.{table_of_rows, values_before, is_write_in}
use Rattle.eve_attempts.specs.inner.RecordKeys.{records_in}
use Rattle.eve_attempts.proofs.Lists.{fails_by}
use Rattle.eve_attempts.proofs.TableLaws.{same_rows, same_kept, writes_among}
use Rattle.eve_attempts.proofs.RecordWalks.{Walking, walking_start, walking_more, walking_stop, walking_at, limits_in}
use Rattle.eve_attempts.proofs.RecordWalks.{written_more}
use Rattle.eve_attempts.proofs.walk.write_along.Goals as goal

pub are_seen-requires : goal.are_seen-requires
are_seen-requires c =
    let limits = limits_in c.args.records.now c.args.order.now c.loop-key.key-index c.index-records-key.result
    c.requires.there c.loop-key-test.true c.index-records-key.is (length c.args.rows.now.rows.balances)
    c.entries-entries.result.now c.requires.limits c.entries-entries.ensures in
    subst (λ n. IsTrue (list_all (is_entry n) c.entries-entries.result.now)) (sym c.loop-key.invariant.as_many) limits.1

pub undo-requires : goal.undo-requires
undo-requires c =
    subst (λ n. IsTrue (list_all (is_write_in n) c.as_slice.result.now)) (sym c.loop-key.invariant.as_many)
    (subst (λ (es : List Entry). IsTrue (list_all (is_write_in (length c.args.rows.now.rows.balances)) es))
    (sym c.as_slice.ensures.value) c.loop-key.invariant.right)

pub write_all-requires-clause-entries : goal.write_all-requires-clause-entries
write_all-requires-clause-entries c =
    let limits = limits_in c.args.records.now c.args.order.now c.loop-key.key-index c.index-records-key.result
    c.requires.there c.loop-key-test.true c.index-records-key.is (length c.args.rows.now.rows.balances)
    c.entries-entries.result.now c.requires.limits c.entries-entries.ensures in
    subst (λ n. IsTrue (list_all (is_entry n) c.entries-entries.result.now)) (sym c.loop-key.invariant.as_many) limits.1

pub write_all-requires-clause-room : goal.write_all-requires-clause-room
write_all-requires-clause-room c =
    let limits = limits_in c.args.records.now c.args.order.now c.loop-key.key-index c.index-records-key.result
    c.requires.there c.loop-key-test.true c.index-records-key.is (length c.args.rows.now.rows.balances)
    c.entries-entries.result.now c.requires.limits c.entries-entries.ensures in
    let few : length c.entries-entries.result.now ≤ 3 = limits.0 in
    omega (arith, c.loop-key.invariant.len, c.loop-key.invariant.room, c.requires.room, c.loop-key-test.true)

pub loop-key-init : goal.loop-key-init
loop-key-init c = record {
  walking = walking_start (table_of_rows c.args.rows.now.rows) (records_in c.args.records.now c.args.order.now)
      c.args.written.now.items c.requires.none;
  as_many = refl;
  versions = refl;
  version = refl;
  right = ap (list_all (is_write_in (length c.args.rows.now.rows.balances))) c.requires.none;
  len = omega (arith, c.requires.empty);
  room = refl;
}

pub returns-then-not-are_seen-clause-seen : goal.returns-then-not-are_seen-clause-seen
returns-then-not-are_seen-clause-seen c =
    let all = records_in c.args.records.now c.args.order.now in
    walking_stop (table_of_rows c.args.rows.now.rows) all (table_of_rows c.loop-key.rows.rows)
    c.index-records-key.result (records_in c.args.records.now (drop (c.loop-key.key-index + 1) c.args.order.now))
    c.loop-key.written.items
    (walking_at c.args.records.now c.args.order.now c.loop-key.key-index c.index-records-key.result c.requires.there
    c.loop-key-test.true c.index-records-key.is (table_of_rows c.args.rows.now.rows) all
    (table_of_rows c.loop-key.rows.rows) c.loop-key.written.items c.loop-key.invariant.walking)
    (λ seen. fails_by c.are_seen.result c.are_seen.ensures c.if-not-are_seen.true
    (subst (AllByRecursion (Sees (table_of_rows c.loop-key.rows.rows))) (sym c.entries-entries.ensures) seen))

pub returns-then-not-are_seen-clause-kept : goal.returns-then-not-are_seen-clause-kept
returns-then-not-are_seen-clause-kept c =
    same_kept c.undo.new.self c.args.rows.now (c.undo.ensures.version ∙ c.loop-key.invariant.version)
    (same_rows c.undo.new.self.rows c.args.rows.now.rows (c.undo.ensures.versions ∙ c.loop-key.invariant.versions)
    (c.undo.ensures.as_many ∙ c.loop-key.invariant.as_many)
    (c.undo.ensures.table ∙ ap (values_before (table_of_rows c.loop-key.rows.rows)) c.as_slice.ensures.value
    ∙ c.loop-key.invariant.walking.back))

pub loop-key-preserved : goal.loop-key-preserved
loop-key-preserved c =
    let all = records_in c.args.records.now c.args.order.now in
    let limits = limits_in c.args.records.now c.args.order.now c.loop-key.key-index c.index-records-key.result
    c.requires.there c.loop-key-test.true c.index-records-key.is (length c.args.rows.now.rows.balances)
    c.entries-entries.result.now c.requires.limits c.entries-entries.ensures in
    let few : length c.entries-entries.result.now ≤ 3 = limits.0 in
    let seen : AllByRecursion (Sees (table_of_rows c.loop-key.rows.rows)) c.index-records-key.result.entries =
    subst (AllByRecursion (Sees (table_of_rows c.loop-key.rows.rows))) c.entries-entries.ensures
    (c.are_seen.ensures.0 c.if-not-are_seen.false) in
    record {
      walking = walking_more (table_of_rows c.args.rows.now.rows) all (table_of_rows c.loop-key.rows.rows)
          (table_of_rows c.write_all.new.rows.rows)
          c.index-records-key.result
          (records_in c.args.records.now (drop (c.loop-key.key-index + 1) c.args.order.now)) c.loop-key.written.items
          c.write_all.new.written.items
          (walking_at c.args.records.now c.args.order.now c.loop-key.key-index c.index-records-key.result
          c.requires.there c.loop-key-test.true c.index-records-key.is (table_of_rows c.args.rows.now.rows) all
          (table_of_rows c.loop-key.rows.rows) c.loop-key.written.items c.loop-key.invariant.walking)
          seen
          (c.write_all.ensures.table ∙ ap (table_after (table_of_rows c.loop-key.rows.rows)) c.entries-entries.ensures)
          (c.write_all.ensures.written
          ∙ ap (λ (es : List Entry). c.loop-key.written.items ++ writes_among es) c.entries-entries.ensures);
      as_many = c.write_all.ensures.as_many ∙ c.loop-key.invariant.as_many;
      versions = c.write_all.ensures.versions ∙ c.loop-key.invariant.versions;
      version = c.write_all.ensures.version ∙ c.loop-key.invariant.version;
      right = written_more (length c.args.rows.now.rows.balances) c.loop-key.written.items c.write_all.new.written.items
          c.entries-entries.result.now c.loop-key.invariant.right limits.1 c.write_all.ensures.written;
      len = omega (arith, c.write_all.ensures.len, c.loop-key.invariant.len);
      room = c.write_all.ensures.capacity ∙ c.loop-key.invariant.room;
    }

pub returns : goal.returns
returns c =
    let none : records_in c.args.records.now (drop c.loop-key.key-index c.args.order.now) ≡ [] =
    ap (records_in c.args.records.now) (drop_all c.loop-key.key-index c.args.order.now c.loop-key-test.false) in
    let all = records_in c.args.records.now c.args.order.now in
    let w : Walking (table_of_rows c.args.rows.now.rows) all (table_of_rows c.loop-key.rows.rows) []
    c.loop-key.written.items =
    subst (λ (rest : List Applied). Walking (table_of_rows c.args.rows.now.rows) all
    (table_of_rows c.loop-key.rows.rows) rest c.loop-key.written.items) none c.loop-key.invariant.walking in
    record {
      seen = ((λ _. w.from tt), (λ _. refl));
      as_many = c.loop-key.invariant.as_many;
      versions = c.loop-key.invariant.versions;
      version = c.loop-key.invariant.version;
      table = w.table;
      written = sym (append-nil c.loop-key.written.items) ∙ w.noted;
      right = subst (λ n. IsTrue (list_all (is_write_in n) c.loop-key.written.items)) (sym c.loop-key.invariant.as_many)
          c.loop-key.invariant.right;
      undone = w.back;
      kept = tt;
    }
