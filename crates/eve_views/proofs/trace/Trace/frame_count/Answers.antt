use Rattle.std.proofs.Common.{◌≡◌, length, ap, ◌∙◌, rules}
use Rattle.eve_grammar.specs.Frames.{frames_of}
use Rattle.eve_views.proofs.WalkSteps.{length-offsets_of}
use Rattle.eve_views.proofs.trace.Trace.frame_count.Goals as goal

pub returns : goal.returns
returns c =
    let count : c.len.result ≡ length c.self.inside.index.offsets.items = search rules in
    count ∙ ap length c.self.invariant.offsets ∙ length-offsets_of _ 32
    ∙ ap (λ t. length (frames_of t)) c.self.view_is
