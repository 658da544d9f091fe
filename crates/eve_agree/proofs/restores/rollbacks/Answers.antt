use Rattle.std.proofs.lemmas.Result.{MatchResult-weaker}
use Rattle.eve_agree.proofs.RestoresInOrder.{faultless}
use Rattle.eve_agree.proofs.restores.rollbacks.Goals as goal

pub returns-clause-none : goal.returns-clause-none
returns-clause-none c =
    MatchResult-weaker c.judge.result (c.judge.ensures.right c.requires.sound)
    (λ _ right. faultless c.args.trace.now c.args.history.now.replica right) (λ _ h. h)
