use Rattle.std.proofs.Common.{◌/◌, ◌%◌, ◌++◌, refl, arith}
use Rattle.eve_lines.proofs.Digits.{decimal_four, pair, put_two}
use Rattle.eve_lines.proofs.number.put_number.Goals as goal

pub returns-clause-items : goal.returns-clause-items
returns-clause-items c =
    let n = c.args.number in
    let last = put_two _ _ _ _ _ (pair (n % 10000 / 100) ++ pair (n % 100)) c.put_pair.ensures.items
    c.put_pair-2.ensures.items refl in
    put_two _ _ _ _ _ _ c.put_below_10000-2.ensures.items last (decimal_four n (omega arith) (omega arith))
