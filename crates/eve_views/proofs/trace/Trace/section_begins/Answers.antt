use Rattle.std.proofs.Common.{◌+◌, ℕ, List, length, take, ap, ◌∙◌, arith}
use Rattle.eve_grammar.specs.Frames.{Frame, frames_of}
use Rattle.eve_grammar.specs.Spelling.{frames_text}
use Rattle.eve_views.proofs.FrameOffsets.{section_prefix, section_begins}
use Rattle.eve_views.proofs.trace.Trace.section_begins.Goals as goal

pub start_of-requires : goal.start_of-requires
start_of-requires c =
    let prefix = section_prefix c.args.self.now c.args.e in
    omega (arith, prefix.0, c.section_from.ensures)

pub returns : goal.returns
returns c =
    let prefix = section_prefix c.args.self.now c.args.e in
    c.start_of.ensures
    ∙ ap (λ (n : ℕ). 32 + length (frames_text (take n (frames_of c.args.self.now)))) c.section_from.ensures
    ∙ ap (λ (fs : List Frame). 32 + length (frames_text fs)) prefix.1 ∙ section_begins c.args.self.now c.args.e
