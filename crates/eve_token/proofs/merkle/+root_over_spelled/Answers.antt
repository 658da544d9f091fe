use Rattle.std.proofs.Common.{◌≡◌, ◌-◌, ◌*◌, length, take, drop, sym, ap, subst, ◌∙◌, arith, length-drop}
use Rattle.std.proofs.lemmas.List.{length-take-le}
use Rattle.eve_smallbank.specs.Spelling.{reply_text}
use Rattle.eve_token.specs.Merkle.{IsGreatestPowerBelow}
use Rattle.eve_token.proofs.Leaves.{leaves-root}
use Rattle.eve_token.proofs.SpelledReplies.{spelled-one, spelled-take, spelled-drop}
use Rattle.eve_token.proofs.merkle.+root_over_spelled.Goals as goal

pub returns-then-leaves-eq1 : goal.returns-then-leaves-eq1
returns-then-leaves-eq1 t c replies count is =
    let one : length replies ≡ 1 = omega arith in
    c.hash_text.ensures ∙ spelled-one c.args.number c.args.spelled.now replies one is

pub returns : goal.returns
returns t c replies count is =
    let part = c.left_part-part.result in
    let power : IsGreatestPowerBelow part (length replies) =
    subst (IsGreatestPowerBelow part) (sym count) c.left_part-part.ensures in
    let below = power.below in
    let rest : length (drop part replies) ≡ c.args.leaves - part = omega (arith, length-drop part replies) in
    let left = c.root_over_spelled-left_root.ensures (take part replies) (length-take-le part replies (omega arith))
    (c.split_at.ensures.front ∙ ap (take (9 * part)) is ∙ spelled-take part replies) in
    let right = c.root_over_spelled-right_root.ensures (drop part replies) rest
    (c.split_at.ensures.back ∙ ap (drop (9 * part)) is ∙ spelled-drop part replies) in
    c.hash_node.ensures ∙ rw (left, right) (sym (leaves-root _ reply_text part c.args.number replies power))
