use Rattle.std.proofs.Common.{List, ◌++◌, codes, ℕ, ap, ◌∙◌}
use Rattle.std.specs.List.{flat_map}
use Rattle.byteorder.specs.Endian.{big_bytes}
use Rattle.sha2.specs.Sha256.{sha256}
use Rattle.eve_smallbank.specs.Spelling.{money_text}
use Rattle.eve_token.specs.Token.{flat_token, token_of}
use Rattle.eve_token.proofs.token_of_spelled.Goals as goal

pub returns : goal.returns
unfolding flat_token token_of
returns c = λ replies spelled.
    c.finalize.ensures _ (c.update.ensures _ c.hash_balances-hasher.ensures)
    ∙ ap (λ (r : List ℕ). sha256
    (codes "EVESB1" ++ (big_bytes 4 c.args.seq ++ (flat_map money_text c.args.balances.now ++ r)))) spelled
