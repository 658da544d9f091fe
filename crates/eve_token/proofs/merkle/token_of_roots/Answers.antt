use Rattle.std.proofs.Common.{◌∙◌, ap}
use Rattle.sha2.specs.Sha256.{sha256}
use Rattle.eve_token.proofs.Messages.{token-message}
use Rattle.eve_token.proofs.merkle.token_of_roots.Goals as goal

pub returns : goal.returns
returns c =
    c.digest.ensures
    ∙ ap sha256 (token-message c.args.seq c.args.root.now c.args.replies_root.now c.copy_from_slice.new.self
    c.write_u32.new.buf c.copy_from_slice-2.new.self c.copy_from_slice-3.new.self
    c.copy_from_slice.ensures.after c.write_u32.ensures c.copy_from_slice-2.ensures.after
    c.copy_from_slice-3.ensures.after c.told-root)
