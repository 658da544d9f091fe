use Rattle.eve_reasons.specs.Counts.{count_lines}
use Rattle.eve_reasons.proofs.Keeping.{kept_line}
use Rattle.eve_reasons.proofs.counts.count_line.Goals as goal

pub returns : goal.returns
returns c =
    rw (c.kept.ensures, c.say_counts.ensures, c.keeping-lines.ensures)
    (kept_line (count_lines c.args.counts.now) c.args.i)
