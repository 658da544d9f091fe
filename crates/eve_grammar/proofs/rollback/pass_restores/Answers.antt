use Rattle.eve_grammar.proofs.PassedParts.{restores_passed}
use Rattle.eve_grammar.proofs.rollback.pass_restores.Goals as goal

pub returns : goal.returns
returns c = restores_passed (λ x. x.now) c.pass_rising.result c.args.rows c.in-Some.count c.args.bytes.now
    c.in-Some.restores.now c.in-Some.ensures c.pass_rising.ensures
