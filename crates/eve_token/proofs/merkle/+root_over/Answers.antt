use Rattle.std.proofs.Common.{◌≡◌, length, sym, ◌∙◌, arith}
use Rattle.eve_token.proofs.Leaves.{leaves-one-root, leaves-root}
use Rattle.eve_token.proofs.merkle.+root_over.Goals as goal

pub returns-in-len1 : goal.returns-in-len1
returns-in-len1 g t c =
    let one : length c.args.leaves.now ≡ 1 = omega arith in
    c.hash_leaf.ensures ∙ sym (leaves-one-root _ g.T.Spell.text c.args.number c.args.leaves.now c.leaf-item.result one
    c.leaf-item.is)

pub returns : goal.returns
returns g t c =
    c.hash_node.ensures
    ∙ rw (
      c.root_over-left_root.ensures,
      c.root_over-right_root.ensures,
      c.split_at.ensures.front,
      c.split_at.ensures.back,
    )
    (sym (leaves-root _ g.T.Spell.text c.left_part-part.result c.args.number c.args.leaves.now
    c.left_part-part.ensures))
