use Rattle.std.proofs.Common.{sym, ap, ◌∙◌}
use Rattle.eve_replica.specs.Decisions.{is_some_of}
use Rattle.eve_replica.proofs.server.Server.has_next.Goals as goal

pub returns-in-None : goal.returns-in-None
returns-in-None c = sym (ap (is_some_of c.args.token) (sym c.next_token.ensures.is ∙ c.in-None.is))
