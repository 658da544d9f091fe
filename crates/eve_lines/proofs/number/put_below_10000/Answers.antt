use Rattle.std.proofs.Common.{arith}
use Rattle.eve_lines.proofs.Digits.{decimal_pair, put_two}
use Rattle.eve_lines.proofs.number.put_below_10000.Goals as goal

pub returns-clause-items : goal.returns-clause-items
returns-clause-items c =
    put_two _ _ _ _ _ _ c.put_below_100-2.ensures.items c.put_pair.ensures.items
    (decimal_pair c.args.number (omega arith) (omega arith))
