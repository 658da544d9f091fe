use Rattle.std.proofs.Common.{arith}
use Rattle.eve_write.specs.Data.{attempt}
use Rattle.eve_write.proofs.Lengths.{IsCounted-from_test, length-results}
use Rattle.eve_write.proofs.attempt.AttemptData.body_len.Goals as goal

pub returns : goal.returns
returns c =
    let a = attempt c.args.self.now in
    let counted = IsCounted-from_test a c.requires in
    omega (arith, length-results a.certificate a.replies a.token counted.replies counted.token, c.len.ensures)
