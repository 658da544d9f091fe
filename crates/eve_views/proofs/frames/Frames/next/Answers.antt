use Rattle.std.proofs.Common.{sym, ◌∙◌, arith}
use Rattle.eve_grammar.specs.Frames.{frames_of}
use Rattle.eve_views.proofs.FrameOffsets.{none_from, next_from}
use Rattle.eve_views.proofs.frames.Frames.next.Goals as goal

pub returns-then-self-frame_count-clause-none : goal.returns-then-self-frame_count-clause-none
returns-then-self-frame_count-clause-none c =
    sym c.self.view_is ∙ none_from (frames_of c.self.inside.trace.now) c.self.inside.at
    (omega (arith, c.if-self-frame_count.true, c.frame_count.ensures))

pub returns-clause-some : goal.returns-clause-some
returns-clause-some c =
    let fs = frames_of c.self.inside.trace.now in
    let f = c.frame-frame.ensures.frame in (
      f.0,
      sym c.self.view_is ∙ next_from fs c.self.inside.at f.0 c.frame-frame.result.offset f.1
          c.frame-frame.ensures.offset,
      f.2,
    )
