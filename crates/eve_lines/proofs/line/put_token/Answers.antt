use Rattle.std.proofs.Common.{◌≡◌, ◌∙◌, ◌++◌, ap, take, min, length, List, ℕ}
use Rattle.std.proofs.Math.Nat.{min_comm}
use Rattle.std.proofs.lemmas.List.{take_min}
use Rattle.hex.specs.Hex.{encode_lower}
use Rattle.eve_lines.specs.declared.line.TheConstants.{TOKEN_LEN}
use Rattle.eve_lines.proofs.line.put_token.Goals as goal

prefix_of : (token : List ℕ) → take (min (length token) TOKEN_LEN) token ≡ take TOKEN_LEN token
prefix_of token = rw (min_comm (length token) TOKEN_LEN) (take_min TOKEN_LEN token)

pub returns-clause-items : goal.returns-clause-items
returns-clause-items c =
    let token = c.args.token.now in
    let prefix : take c.min-len.result token ≡ take TOKEN_LEN token = ap (λ n. take n token) c.min-len.ensures
    ∙ prefix_of token in
    c.put_bytes.ensures.items ∙ ap (λ t. c.args.line.now.items ++ t) (c.in-Ok.ensures.written ∙ ap encode_lower prefix)
