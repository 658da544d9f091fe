use Rattle.eve_evidence.proofs.LastSources.{prefix_commit}
use Rattle.eve_evidence.proofs.prefix.after_commit.Goals as goal

pub returns : goal.returns
returns c = λ t row left before at d is.
    prefix_commit row before at d t left c.args.prefix c.saturating_sub.result c.last_after_commit.result
    c.saturating_sub.ensures c.last_after_commit.ensures is
