use Rattle.std.proofs.Common.{ap, nat_le}
use Rattle.eve_grammar.specs.declared.head.Head.{Head}
use Rattle.eve_votes.proofs.majority.is_quorum.Goals as goal

pub returns : goal.returns
returns c = ap (λ (h : Head). nat_le h.quorum c.args.votes) c.head.ensures
