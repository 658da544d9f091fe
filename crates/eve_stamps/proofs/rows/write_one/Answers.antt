use Rattle.eve_stamps.proofs.RowLaws.{write_at, read_kept}
use Rattle.eve_stamps.proofs.rows.write_one.Goals as goal

pub returns-in-Read : goal.returns-in-Read
returns-in-Read c = read_kept c.args.rows.now c.args.entry.now c.requires.rise c.in-Read.is

pub returns-in-Some : goal.returns-in-Some
returns-in-Some c =
    write_at c.args.rows.now c.in-Some.place c.in-Some.ensures.0 c.args.entry.now c.requires.rise c.in-Some.ensures.1
    c.in-Some.ensures.2 c.in-Write.is
