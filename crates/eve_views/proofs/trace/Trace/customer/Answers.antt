use Rattle.eve_views.proofs.PartLaws.{customers_within, customer_lent, lent_there}
use Rattle.eve_views.proofs.trace.Trace.customer.Goals as goal

pub frame-frame-requires : goal.frame-frame-requires
frame-frame-requires c = customers_within c.args.self.now c.args.i c.requires

pub new-requires : goal.new-requires
new-requires c =
    (customer_lent c.args.self.now c.args.i c.frame-frame.result.offset c.frame-frame.result.bytes.now
    c.recall_limits.ensures c.requires c.frame-frame.ensures.frame c.frame-frame.ensures.offset).readable

pub returns-clause-says : goal.returns-clause-says
returns-clause-says c =
    (customer_lent c.args.self.now c.args.i c.frame-frame.result.offset c.frame-frame.result.bytes.now
    c.recall_limits.ensures c.requires c.frame-frame.ensures.frame c.frame-frame.ensures.offset).item
    c.new.result.offset c.new.result.bytes.now c.new.ensures.offset c.new.ensures.bytes

pub returns-clause-text : goal.returns-clause-text
returns-clause-text c =
    (customer_lent c.args.self.now c.args.i c.frame-frame.result.offset c.frame-frame.result.bytes.now
    c.recall_limits.ensures c.requires c.frame-frame.ensures.frame c.frame-frame.ensures.offset).text
    c.new.result.bytes.now c.new.ensures.bytes

pub returns-clause-stands : goal.returns-clause-stands
returns-clause-stands c =
    lent_there c.args.self.now c.frame-frame.result.offset c.new.result.offset c.frame-frame.result.bytes.now
    c.new.result.bytes.now c.frame-frame.ensures.stands c.new.ensures.offset c.new.ensures.bytes
