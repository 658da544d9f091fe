use Rattle.eve_agree.proofs.MajorityFaults.{commit_located, rollback_located, transfer_located}
use Rattle.eve_agree.proofs.majority.unbacked.Goals as goal

pub returns-then-is_decided-clause-backed : goal.returns-then-is_decided-clause-backed
returns-then-is_decided-clause-backed c = λ next step.
    commit_located c.args.tally.now c.args.step c.in-Commit.commit next c.in-Commit.is step
    (c.is_decided.ensures.0 c.if-is_decided.true)

pub returns-then-is_rolled_back-clause-backed : goal.returns-then-is_rolled_back-clause-backed
returns-then-is_rolled_back-clause-backed c = λ next step.
    rollback_located c.args.tally.now c.args.step c.in-Rollback.rollback next c.in-Rollback.is step
    (c.is_rolled_back.ensures.0 c.if-is_rolled_back.true)

pub returns-then-is_some_decided-clause-backed : goal.returns-then-is_some_decided-clause-backed
returns-then-is_some_decided-clause-backed c = λ next step.
    transfer_located c.args.tally.now c.args.step c.in-Transfer.transfer next c.in-Transfer.is step
    (c.is_some_decided.ensures.0 c.if-is_some_decided.true)
