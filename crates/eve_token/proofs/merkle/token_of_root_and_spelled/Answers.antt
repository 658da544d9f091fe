use Rattle.std.proofs.Common.{◌++◌, List, ℕ, codes, ap, ◌∙◌, arith}
use Rattle.byteorder.specs.Endian.{big_bytes}
use Rattle.sha2.specs.Sha256.{sha256}
use Rattle.eve_token.specs.Token.{token_from_root}
use Rattle.eve_token.proofs.SpelledReplies.{spelled-count}
use Rattle.eve_token.proofs.merkle.token_of_root_and_spelled.Goals as goal

pub root_over_spelled-requires-clause-some : goal.root_over_spelled-requires-clause-some
root_over_spelled-requires-clause-some c =
    let some = c.requires.some.1 in
    let count = spelled-count c.args.spelled.now c.requires.some.0 c.requires.some.2 in
    omega arith

pub returns : goal.returns
unfolding token_from_root
returns c replies is =
    c.token_of_roots.ensures ∙ ap (λ (root : List ℕ).
    sha256 (codes "EVESB2" ++ (big_bytes 4 c.args.seq ++ (c.args.root.now ++ root))))
    (c.root_over_spelled.ensures replies (spelled-count c.args.spelled.now replies is) is)
