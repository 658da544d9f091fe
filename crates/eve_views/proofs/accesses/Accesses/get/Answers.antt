use Rattle.std.proofs.Common.{◌<◌, ◌^◌, arith, rules}
use Rattle.eve_grammar.specs.Frames.{frames_of}
use Rattle.eve_views.proofs.PartLaws.{accesses_many, access_lent}
use Rattle.eve_views.proofs.accesses.Accesses.get.Goals as goal

pub overflow_add-self-inside : goal.overflow_add-self-inside
overflow_add-self-inside c =
    let many = accesses_many (frames_of c.self.inside.trace.now) c.self.inside.from c.self.inside.to c.args.self.now
    c.self.invariant c.self.view_is in
    let small : c.self.inside.to < 2 ^ 64 = search rules in
    record { fits = omega (arith, many, small, c.requires) }

pub frame-frame-requires : goal.frame-frame-requires
frame-frame-requires c =
    let many = accesses_many (frames_of c.self.inside.trace.now) c.self.inside.from c.self.inside.to c.args.self.now
    c.self.invariant c.self.view_is in
    let within = c.self.invariant.within in
    omega (arith, many, within, c.requires)

pub new-requires : goal.new-requires
new-requires c = (access_lent (frames_of c.self.inside.trace.now) c.self.inside.from c.self.inside.to c.args.i
    c.frame-frame.result.offset c.frame-frame.result.bytes.now c.args.self.now c.self.invariant c.self.view_is
    c.requires c.frame-frame.ensures.frame c.frame-frame.ensures.offset).readable

pub returns-clause-says : goal.returns-clause-says
returns-clause-says c = (access_lent (frames_of c.self.inside.trace.now) c.self.inside.from c.self.inside.to c.args.i
    c.frame-frame.result.offset c.frame-frame.result.bytes.now c.args.self.now c.self.invariant c.self.view_is
    c.requires c.frame-frame.ensures.frame c.frame-frame.ensures.offset).item
    c.new.result.offset c.new.result.bytes.now c.new.ensures.offset c.new.ensures.bytes

pub returns-clause-text : goal.returns-clause-text
returns-clause-text c = (access_lent (frames_of c.self.inside.trace.now) c.self.inside.from c.self.inside.to c.args.i
    c.frame-frame.result.offset c.frame-frame.result.bytes.now c.args.self.now c.self.invariant c.self.view_is
    c.requires c.frame-frame.ensures.frame c.frame-frame.ensures.offset).text
    c.new.result.bytes.now c.new.ensures.bytes
