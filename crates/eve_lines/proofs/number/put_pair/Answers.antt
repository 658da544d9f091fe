use Rattle.std.proofs.Common.{◌+◌, ◌/◌, ◌%◌, [], ◌∷◌, refl}
use Rattle.eve_lines.proofs.Digits.{PAIRS_at, put_two}
use Rattle.eve_lines.proofs.number.put_pair.Goals as goal

pub returns-clause-items : goal.returns-clause-items
returns-clause-items c =
    let digits = PAIRS_at c.args.pair c.requires.small in
    put_two _ _ _ _ _ ((48 + c.args.pair / 10) ∷ (48 + c.args.pair % 10) ∷ []) c.push.ensures.items
    c.push-2.ensures.items (rw (digits.0, digits.1) refl)
