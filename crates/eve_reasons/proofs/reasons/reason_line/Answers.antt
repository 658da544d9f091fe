use Rattle.eve_reasons.specs.Reasons.{reason_lines}
use Rattle.eve_reasons.proofs.Keeping.{kept_line}
use Rattle.eve_reasons.proofs.reasons.reason_line.Goals as goal

pub returns : goal.returns
returns c =
    rw (c.kept.ensures, c.say_evidence.ensures, c.keeping-lines.ensures)
    (kept_line (reason_lines c.args.evidence.now) c.args.i)
