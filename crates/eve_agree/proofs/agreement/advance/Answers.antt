use Rattle.std.proofs.Common.{◌∙◌, arith, length, ◌<◌}
use Rattle.eve_agree.proofs.Outcomes.{values_past}
use Rattle.eve_agree.proofs.agreement.advance.Goals as goal

pub returns-else-n-committed : goal.returns-else-n-committed
returns-else-n-committed c =
    let past : length c.args.settled.now.numbers < c.args.n = omega arith in
    record {
      rows = c.requires.before.rows;
      values = c.requires.before.values
          ∙ values_past c.args.settled.now c.args.n past;
    }
