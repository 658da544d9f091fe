use Rattle.std.proofs.Common.{◌++◌, List, ℕ, codes, ap, ◌∙◌}
use Rattle.byteorder.specs.Endian.{big_bytes}
use Rattle.sha2.specs.Sha256.{sha256}
use Rattle.eve_token.specs.Token.{token_from_root}
use Rattle.eve_token.proofs.merkle.token_of.Goals as goal

pub returns : goal.returns
unfolding token_from_root
returns c =
    c.token_of_roots.ensures ∙ ap (λ (replies : List ℕ).
    sha256 (codes "EVESB2" ++ (big_bytes 4 c.args.seq ++ (c.args.root.now ++ replies)))) c.root_over.ensures
