use Rattle.std.proofs.Common.{◌≤◌, ◌+◌, ◌∙◌, length, sym, ap, subst, take, arith}
use Rattle.std.proofs.lemmas.List.{take_all}
use Rattle.eve_smallbank.specs.Chain.{table_after}
use Rattle.eve_grammar.proofs.Lists.{all-slice_get}
use Rattle.eve_stamps.specs.Stripes.{table_in, rows_in_table, RowsRise, IsEntryIn}
use Rattle.eve_stamps.proofs.RowLaws.{rows_in_table-self, RowsRise-rows}
use Rattle.eve_stamps.proofs.WrittenRows.{still_in, write_more}
use Rattle.eve_stamps.proofs.rows.write.Goals.{then-place-count, else-place-count}
use Rattle.eve_stamps.proofs.rows.write.Goals as goal

pub loop-place-init : goal.loop-place-init
loop-place-init c = sym (rows_in_table-self c.args.rows.now c.requires.rise)

pub write_one-requires-clause-rise : goal.write_one-requires-clause-rise
write_one-requires-clause-rise c =
    subst RowsRise (sym c.loop-place.invariant)
    (RowsRise-rows (table_after (table_in c.args.rows.now) (take c.loop-place.place c.args.entries.now)) c.args.rows.now
    c.requires.rise)

pub write_one-requires-clause-entry : goal.write_one-requires-clause-entry
write_one-requires-clause-entry c =
    subst (λ rows. IsEntryIn rows c.at.result) (sym c.loop-place.invariant)
    (still_in c.args.rows.now (table_after (table_in c.args.rows.now) (take c.loop-place.place c.args.entries.now))
    c.at.result
    (all-slice_get (IsEntryIn c.args.rows.now) c.args.entries.now c.loop-place.place c.at.result c.requires.entries
    c.at.ensures))

pub loop-place-preserved : goal.loop-place-preserved
loop-place-preserved c =
    let rows = c.args.rows.now in
    let entries = c.args.entries.now in
    let place = c.loop-place.place in
    elim c.if-place-count.branch [
      | then-place-count w ↦
          w.rows-is
          ∙ write_more rows c.loop-place.rows w.write_one.new.rows entries place w.at.result c.requires.entries
          w.at.ensures c.loop-place.invariant w.write_one.ensures
      | else-place-count w ↦
          let past : length entries ≤ place = omega (arith, c.len-count.ensures.len, w.if-place-count.false) in
          w.rows-is ∙ c.loop-place.invariant
          ∙ ap (λ es. rows_in_table (table_after (table_in rows) es) rows)
          (take_all place entries past ∙ sym (take_all (place + 1) entries (omega (arith, past))))
    ]
