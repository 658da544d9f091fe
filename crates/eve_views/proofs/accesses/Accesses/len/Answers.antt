use Rattle.std.proofs.Common.{sym}
use Rattle.eve_grammar.specs.Frames.{frames_of}
use Rattle.eve_views.proofs.PartLaws.{accesses_many}
use Rattle.eve_views.proofs.accesses.Accesses.len.Goals as goal

pub returns : goal.returns
returns c = sym
    (accesses_many (frames_of c.self.inside.trace.now) c.self.inside.from c.self.inside.to c.args.self.now
    c.self.invariant c.self.view_is)
