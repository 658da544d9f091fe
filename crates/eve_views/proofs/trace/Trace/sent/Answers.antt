use Rattle.std.proofs.Common.{◌≡◌, ◌+◌, ◌<◌, ◌^◌, arith, rules, length}
use Rattle.eve_views.specs.inner.FramesBefore.{before_sent}
use Rattle.eve_views.proofs.PartLaws.{frames_many, sent_lent, lent_there}
use Rattle.eve_views.proofs.trace.Trace.sent.Goals as goal

pub overflow_add-sent_from : goal.overflow_add-sent_from
overflow_add-sent_from c =
    let small : c.frame_count.result < 2 ^ 64 = search rules in
    let many = frames_many c.args.self.now in
    record { fits = omega (arith, small, many, c.frame_count.ensures, c.sent_from.ensures, c.requires) }

pub prove-unreachable-requires : goal.prove-unreachable-requires
prove-unreachable-requires c =
    absurd (omega (arith, frames_many c.args.self.now, c.frame_count.ensures, c.requires, c.if-prove.true))

pub frame-frame-requires : goal.frame-frame-requires
frame-frame-requires c = omega (arith, frames_many c.args.self.now, c.sent_from.ensures, c.requires)

pub new-requires : goal.new-requires
new-requires c =
    let number : c.sent_from.result + c.args.i ≡ length (before_sent c.args.self.now) + c.args.i =
    omega (arith, c.sent_from.ensures) in
    (sent_lent c.args.self.now (c.sent_from.result + c.args.i) c.args.i c.frame-frame.result.offset
    c.frame-frame.result.bytes.now c.recall_limits.ensures c.requires number c.frame-frame.ensures.frame
    c.frame-frame.ensures.offset).readable

pub returns-clause-says : goal.returns-clause-says
returns-clause-says c =
    let number : c.sent_from.result + c.args.i ≡ length (before_sent c.args.self.now) + c.args.i =
    omega (arith, c.sent_from.ensures) in
    (sent_lent c.args.self.now (c.sent_from.result + c.args.i) c.args.i c.frame-frame.result.offset
    c.frame-frame.result.bytes.now c.recall_limits.ensures c.requires number c.frame-frame.ensures.frame
    c.frame-frame.ensures.offset).item
    c.new.result.offset c.new.result.bytes.now c.new.ensures.offset c.new.ensures.bytes

pub returns-clause-text : goal.returns-clause-text
returns-clause-text c =
    let number : c.sent_from.result + c.args.i ≡ length (before_sent c.args.self.now) + c.args.i =
    omega (arith, c.sent_from.ensures) in
    (sent_lent c.args.self.now (c.sent_from.result + c.args.i) c.args.i c.frame-frame.result.offset
    c.frame-frame.result.bytes.now c.recall_limits.ensures c.requires number c.frame-frame.ensures.frame
    c.frame-frame.ensures.offset).text
    c.new.result.bytes.now c.new.ensures.bytes

pub returns-clause-stands : goal.returns-clause-stands
returns-clause-stands c =
    lent_there c.args.self.now c.frame-frame.result.offset c.new.result.offset c.frame-frame.result.bytes.now
    c.new.result.bytes.now c.frame-frame.ensures.stands c.new.ensures.offset c.new.ensures.bytes
