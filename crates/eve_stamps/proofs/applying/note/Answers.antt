use Rattle.eve_stamps.proofs.StripeLaws.{rows_rise, entries_in_rows, held_noted}
use Rattle.eve_stamps.proofs.applying.note.Goals as goal

pub write-requires-clause-rise : goal.write-requires-clause-rise
write-requires-clause-rise c =
    rows_rise c.args.base.now c.args.rows.now c.args.journal.now.items c.args.greatest c.requires.held

pub write-requires-clause-entries : goal.write-requires-clause-entries
write-requires-clause-entries c =
    entries_in_rows c.args.base.now c.args.rows.now c.args.journal.now.items c.args.greatest c.args.entries.now
    c.requires.held c.requires.noted

pub returns-clause-held : goal.returns-clause-held
returns-clause-held c =
    held_noted c.args.base.now c.args.rows.now c.write.new.rows c.args.journal.now.items
    c.push_back_reserved.new.self.items c.args.greatest c.args.tick c.args.entries.now c.requires.held c.requires.above
    c.requires.noted c.write.ensures c.push_back_reserved.ensures.items
