use Rattle.std.proofs.Common.{ap}
use Rattle.eve_grammar.specs.Kinds.{kind_byte}
use Rattle.eve_views.proofs.UnjudgedFrames.{access_framed}
use Rattle.eve_views.proofs.progress.access_unjudged.Goals as goal

pub returns-in-Access : goal.returns-in-Access
returns-in-Access c = λ h p allowed.
    access_framed h p c.args.bytes.now (kind_byte c.in_ok-kind.kind) c.in_ok-kind.body.now (ap kind_byte c.in-Access.is)
    c.in_ok-kind.ensures.some allowed
