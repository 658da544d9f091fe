use Rattle.std.proofs.Common.{sym, ◌∙◌}
use Rattle.eve_grammar.specs.Kinds.{kind_byte}
use Rattle.eve_views.proofs.UnjudgedFrames.{framed_unjudged}
use Rattle.eve_views.proofs.progress.frame_unjudged.Goals as goal

pub returns : goal.returns
returns c =
    framed_unjudged c.args.at.now.head c.args.at.now.place c.args.bytes.now
    (kind_byte c.in_ok-kind.kind) c.in_ok-accesses.accesses c.in_ok-kind.body.now c.in_ok-kind.ensures.some
    (sym c.allows.ensures ∙ c.if-not-allows.false) c.in_ok-accesses.ensures
