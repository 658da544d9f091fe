use Rattle.std.proofs.Common.{◌∙◌, ap, refl, replicate}
use Rattle.sha2.specs.Sha256.{sha256}
use Rattle.eve_token.proofs.Messages.{node-message}
use Rattle.eve_token.proofs.merkle.hash_node.Goals as goal

pub returns : goal.returns
returns c =
    c.digest.ensures
    ∙ ap sha256 (node-message c.args.left.now c.args.right.now _ _
    (replicate 32 1) c.copy_from_slice.ensures.after c.copy_from_slice-2.ensures.after c.told-left refl)
