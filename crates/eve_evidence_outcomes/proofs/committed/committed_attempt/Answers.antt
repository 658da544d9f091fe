use Rattle.std.proofs.Common.{sym, ◌∙◌}
use Rattle.eve_agree.specs.ByNumber.{told_at}
use Rattle.eve_agree.proofs.ByNumber.{told_none, not_there}
use Rattle.eve_evidence_outcomes.proofs.CommittedAttempts.{committed_by}
use Rattle.eve_evidence_outcomes.proofs.committed.committed_attempt.Goals as goal

pub returns-then-not-has_committed-clause-none : goal.returns-then-not-has_committed-clause-none
returns-then-not-has_committed-clause-none c = λ t e is.
    told_none t e c.args.history.now c.args.n is
    (not_there (told_at c.args.history.now c.args.n) (sym c.has_committed.ensures ∙ c.if-not-has_committed.true))

pub returns-clause-some : goal.returns-clause-some
returns-clause-some c = λ t e is.
    committed_by t e c.args.n c.args.history.now c.committed_attempt.result is c.committed_attempt.ensures
