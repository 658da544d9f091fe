use Rattle.std.proofs.Common.{◌++◌, ◌∙◌, ap, sym, arith}
use Rattle.std.proofs.lemmas.Fmt.{decimal_digit}
use Rattle.eve_lines.proofs.Digits.{decimal_two}
use Rattle.eve_lines.proofs.number.put_below_100.Goals as goal

pub returns-then-number-lt10-clause-items : goal.returns-then-number-lt10-clause-items
returns-then-number-lt10-clause-items c =
    c.push.ensures.items
    ∙ ap (λ text. c.args.line.now.items ++ text) (sym (decimal_digit c.args.number c.if-number-lt10.true))

pub returns-clause-items : goal.returns-clause-items
returns-clause-items c =
    c.put_pair.ensures.items
    ∙ ap (λ text. c.args.line.now.items ++ text) (sym (decimal_two c.args.number (omega arith) c.requires.small))
