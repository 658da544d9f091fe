use Rattle.std.proofs.Common.{◌≡◌, ◌≢◌, ◌∙◌, eq-eqb, arith}
use Rattle.std.proofs.lemmas.Bool.{ne_eqb}
use Rattle.eve_token.specs.Token.{token_of}
use Rattle.eve_token.proofs.token.Goals as goal

pub returns-then-version-eq1 : goal.returns-then-version-eq1
unfolding token_of
returns-then-version-eq1 c =
    let one : c.args.version ≡ 1 = omega arith in
    rw (eq-eqb c.args.version 1 one) c.hash_flat.ensures

pub returns-else-version-eq1 : goal.returns-else-version-eq1
unfolding token_of
returns-else-version-eq1 c =
    let other : c.args.version ≢ 1 = omega arith in
    rw (ne_eqb c.args.version 1 other) (c.token_of.ensures ∙ rw (c.root_over.ensures, c.as_slice.ensures))
