use Rattle.std.proofs.Common.{◌+◌, refl}
use Rattle.eve_evidence.proofs.LastSources.{prefix_attempt}
use Rattle.eve_evidence.proofs.prefix.after_attempt.Goals as goal

pub returns : goal.returns
returns c = λ t row left before at a is own.
    prefix_attempt row before at a t left c.args.prefix c.args.found (c.args.prefix.pending + 1) c.last_found.result
    refl
    c.last_found.ensures is own
