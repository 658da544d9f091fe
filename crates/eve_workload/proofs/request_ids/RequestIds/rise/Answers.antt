use Rattle.std.proofs.Common.{rules}
use Rattle.eve_workload.proofs.KnownIds.{is_new, still_reached}
use Rattle.eve_workload.proofs.request_ids.RequestIds.rise.Goals as goal

pub returns-clause-new : goal.returns-clause-new
returns-clause-new c = λ _ seen all. is_new c.args.self.now.last c.args.id (search rules)
    (c.follows.ensures c.if-not-follows.false) seen all

pub returns-clause-reached : goal.returns-clause-reached
returns-clause-reached c = λ _ seen all. still_reached c.args.self.now.last c.args.id (search rules)
    (c.follows.ensures c.if-not-follows.false) seen all
