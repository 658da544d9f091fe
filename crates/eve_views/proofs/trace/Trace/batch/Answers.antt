use Rattle.std.proofs.Common.{◌+◌, ◌-◌, arith}
use Rattle.eve_views.proofs.PartLaws.{batch_held, batch_lent, batches_within, lent_there}
use Rattle.eve_views.proofs.trace.Trace.batch.Goals as goal

pub frame-frame-requires : goal.frame-frame-requires
frame-frame-requires c =
    let held = batch_held c.self.inside.bytes.now c.self.inside.head c.self.inside.index _ c.args.self.now
    c.args.n c.self.view_is c.self.invariant c.requires.from_one in
    batches_within c.args.self.now (c.self.inside.head.customers + c.args.n - 1) (c.args.n - 1)
    (omega (arith, c.requires.from_one, c.requires.there)) held.1

pub new-requires : goal.new-requires
new-requires c =
    let held = batch_held c.self.inside.bytes.now c.self.inside.head c.self.inside.index _ c.args.self.now
    c.args.n c.self.view_is c.self.invariant c.requires.from_one in
    (batch_lent c.args.self.now (c.self.inside.head.customers + c.args.n - 1) (c.args.n - 1)
    c.frame-frame.result.offset c.frame-frame.result.bytes.now held.0
    (omega (arith, c.requires.from_one, c.requires.there)) held.1 c.frame-frame.ensures.frame
    c.frame-frame.ensures.offset).readable

pub returns-clause-says : goal.returns-clause-says
returns-clause-says c =
    let held = batch_held c.self.inside.bytes.now c.self.inside.head c.self.inside.index _ c.args.self.now
    c.args.n c.self.view_is c.self.invariant c.requires.from_one in
    (batch_lent c.args.self.now (c.self.inside.head.customers + c.args.n - 1) (c.args.n - 1)
    c.frame-frame.result.offset c.frame-frame.result.bytes.now held.0
    (omega (arith, c.requires.from_one, c.requires.there)) held.1 c.frame-frame.ensures.frame
    c.frame-frame.ensures.offset).item
    c.new.result.offset c.new.result.bytes.now c.new.ensures.offset c.new.ensures.bytes

pub returns-clause-text : goal.returns-clause-text
returns-clause-text c =
    let held = batch_held c.self.inside.bytes.now c.self.inside.head c.self.inside.index _ c.args.self.now
    c.args.n c.self.view_is c.self.invariant c.requires.from_one in
    (batch_lent c.args.self.now (c.self.inside.head.customers + c.args.n - 1) (c.args.n - 1)
    c.frame-frame.result.offset c.frame-frame.result.bytes.now held.0
    (omega (arith, c.requires.from_one, c.requires.there)) held.1 c.frame-frame.ensures.frame
    c.frame-frame.ensures.offset).text
    c.new.result.bytes.now c.new.ensures.bytes

pub returns-clause-stands : goal.returns-clause-stands
returns-clause-stands c =
    lent_there c.args.self.now c.frame-frame.result.offset c.new.result.offset c.frame-frame.result.bytes.now
    c.new.result.bytes.now c.frame-frame.ensures.stands c.new.ensures.offset c.new.ensures.bytes
