use Rattle.std.proofs.Common.{map, sym, ◌∙◌}
use Rattle.eve_smallbank.specs.declared.entry.Entry.{Entry}
use Rattle.eve_frames.specs.Decoded.{access_decoded}
use Rattle.eve_evidence.specs.Record.{rows_noted}
use Rattle.eve_evidence.proofs.Lists.{same_more, get_mapped}
use Rattle.eve_evidence.proofs.DueRecords.{other_row}
use Rattle.eve_evidence.proofs.record.row_fault.Goals as goal

pub returns-then-number-wanted-clause-told : goal.returns-then-number-wanted-clause-told
returns-then-number-wanted-clause-told c = λ names x is rows.
    other_row c.args.trace.now names x (access_decoded c.args.access.now).entries c.args.rows.now c.loop-i.i
    c.entry-entry.result c.at-due.result _ _ is rows c.requires c.loop-i.invariant c.entry-entry.ensures
    c.at-due.ensures
    (λ e. c.if-number-wanted.true (c.number-number.ensures.number ∙ e ∙ sym c.number-wanted.ensures.number))
    c.told_row.ensures c.told_row-then-number-wanted.ensures

pub loop-i-preserved : goal.loop-i-preserved
loop-i-preserved c =
    let es = (access_decoded c.args.access.now).entries in
    same_more (rows_noted es) (map (λ r. r.0) c.args.rows.now) c.loop-i.i c.entry-entry.result.row c.at-due.result.0
    (get_mapped (λ (e : Entry). e.row) es c.loop-i.i c.entry-entry.result c.entry-entry.ensures)
    (get_mapped (λ r. r.0) c.args.rows.now c.loop-i.i c.at-due.result c.at-due.ensures)
    (sym c.number-number.ensures.number ∙ c.if-number-wanted.false ∙ c.number-wanted.ensures.number) c.loop-i.invariant
