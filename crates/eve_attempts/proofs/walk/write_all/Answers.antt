use Rattle.std.proofs.Common.{◌+◌, ◌∷◌, [], ◌++◌, IsTrue, List, length, drop, refl, sym, ap, subst, ◌∙◌, append_assoc}
use Rattle.std.proofs.Common.{◌≡◌, ◌≤◌, append-nil, arith, vec_len, vec_capacity}
use Rattle.std.proofs.lemmas.List.{drop_all}
use Rattle.eve_smallbank.specs.declared.entry.Entry.{Entry}
use Rattle.eve_smallbank.specs.Access.{is_write}
use Rattle.eve_smallbank.specs.Chain.{Table, table_after}
use Rattle.eve_grammar.specs.Limits.{is_entry}
use Rattle.eve_grammar.proofs.GroupOrder.{all_at}
use Rattle.eve_grammar.proofs.Lists.{drop_here}
use Rattle.eve_attempts.specs.Ledgers.{table_of_rows}
use Rattle.std.proofs.lemmas.List.Elements.{filter-append}
use Rattle.eve_attempts.proofs.TableLaws.{writes_among}
use Rattle.eve_attempts.specs.inner.KeptRows.{KeptRows}
use Rattle.eve_attempts.proofs.walk.write_all.Goals.{then-place-count, else-place-count}
use Rattle.eve_attempts.proofs.walk.write_all.Goals as goal

pub write_one-requires-clause-entry : goal.write_one-requires-clause-entry
write_one-requires-clause-entry c =
    subst (λ n. IsTrue (is_entry n c.at.result)) (sym c.loop-place.invariant.as_many)
    (all_at (is_entry (length c.args.rows.now.rows.balances)) c.args.entries.now c.loop-place.place c.at.result
    c.requires.entries c.at.ensures)

pub write_one-requires-clause-room : goal.write_one-requires-clause-room
write_one-requires-clause-room c =
    omega (
      arith,
      c.loop-place.invariant.len,
      c.loop-place.invariant.capacity,
      c.requires.room,
      c.len-count.ensures.len,
      c.if-place-count.true,
    )

pub loop-place-init : goal.loop-place-init
loop-place-init c = record {
  as_many = refl;
  versions = refl;
  version = refl;
  table = refl;
  written = refl;
  len = omega arith;
  capacity = refl;
}

pub loop-place-preserved : goal.loop-place-preserved
loop-place-preserved c =
    let es = c.args.entries.now in
    let place = c.loop-place.place in
    let so_far = c.loop-place.invariant in
    elim c.if-place-count.branch [
      | then-place-count w ↦
          let is = drop_here es place w.at.result w.at.ensures in
          record {
            as_many = ap (λ (r : KeptRows). length r.rows.balances) w.rows-is ∙ w.write_one.ensures.as_many
                ∙ so_far.as_many;
            versions = ap (λ (r : KeptRows). length r.rows.versions) w.rows-is ∙ w.write_one.ensures.versions
                ∙ so_far.versions;
            version = ap (λ (r : KeptRows). r.version) w.rows-is ∙ w.write_one.ensures.version ∙ so_far.version;
            table = ap (λ (r : KeptRows). table_after (table_of_rows r.rows) (drop (place + 1) es)) w.rows-is
                ∙ ap (λ (t : Table). table_after t (drop (place + 1) es)) w.write_one.ensures.table
                ∙ ap (table_after (table_of_rows c.loop-place.rows.rows)) (sym is) ∙ so_far.table;
            written = ap (λ (v : _). v.items ++ writes_among (drop (place + 1) es)) w.written-is
                ∙ ap (λ (ws : List Entry). ws ++ writes_among (drop (place + 1) es)) w.write_one.ensures.written
                ∙ append_assoc c.loop-place.written.items (writes_among (w.at.result ∷ []))
                (writes_among (drop (place + 1) es))
                ∙ ap (λ (ws : List Entry). c.loop-place.written.items ++ ws)
                (sym (filter-append (λ e. is_write e.kind) (w.at.result ∷ []) (drop (place + 1) es))
                ∙ ap writes_among (sym is))
                ∙ so_far.written;
            len = omega (
              arith,
              ap vec_len w.written-is,
              w.write_one.ensures.len,
              so_far.len,
              c.len-count.ensures.len,
              w.if-place-count.true,
            );
            capacity = ap vec_capacity w.written-is ∙ w.write_one.ensures.capacity ∙ so_far.capacity;
          }
      | else-place-count w ↦
          let past : length es ≤ place = omega (arith, c.len-count.ensures.len, w.if-place-count.false) in
          let none : drop (place + 1) es ≡ drop place es =
          drop_all (place + 1) es (omega (arith, past)) ∙ sym (drop_all place es past) in
          record {
            as_many = ap (λ (r : KeptRows). length r.rows.balances) w.rows-is ∙ so_far.as_many;
            versions = ap (λ (r : KeptRows). length r.rows.versions) w.rows-is ∙ so_far.versions;
            version = ap (λ (r : KeptRows). r.version) w.rows-is ∙ so_far.version;
            table = ap (λ (r : KeptRows). table_after (table_of_rows r.rows) (drop (place + 1) es)) w.rows-is
                ∙ ap (table_after (table_of_rows c.loop-place.rows.rows)) none ∙ so_far.table;
            written = ap (λ (v : _). v.items ++ writes_among (drop (place + 1) es)) w.written-is
                ∙ ap (λ (some : List Entry). c.loop-place.written.items ++ writes_among some) none ∙ so_far.written;
            len = omega (arith, ap vec_len w.written-is, so_far.len, past);
            capacity = ap vec_capacity w.written-is ∙ so_far.capacity;
          }
    ]

pub returns-clause-table : goal.returns-clause-table
returns-clause-table c =
    ap (table_after (table_of_rows c.loop-place.rows.rows))
    (sym (drop_all c.loop-place.place c.args.entries.now (omega arith)))
    ∙ c.loop-place.invariant.table

pub returns-clause-written : goal.returns-clause-written
returns-clause-written c =
    sym (append-nil c.loop-place.written.items)
    ∙ ap (λ (es : List Entry). c.loop-place.written.items ++ writes_among es)
    (sym (drop_all c.loop-place.place c.args.entries.now (omega arith)))
    ∙ c.loop-place.invariant.written
