use Rattle.std.proofs.Common.{subst}
use Rattle.std.proofs.lemmas.Result.{MatchResult-weaker, on_ok_weaker}
use Rattle.eve_views.specs.StepKinds.{IsStep}
use Rattle.eve_history.specs.KeptSections.{kept_section}
use Rattle.eve_history.proofs.StepHandlers.{weaker_found, comes_next, commit_next, rollback_next, transfer_next}
use Rattle.eve_history.proofs.StepHandlers.{come_as}
use Rattle.eve_history.proofs.structure.take.Goals as goal

pub take_attempt-requires-clause-comes : goal.take_attempt-requires-clause-comes
take_attempt-requires-clause-comes c =
    let comes = c.requires.comes in
    let found = comes_next c.args.trace.now c.args.e comes.0 comes.1
    (kept_section c.args.notes.now) c.in-Attempt.attempt c.in-Attempt.accesses
    (subst (λ s. IsStep s comes.1) c.in-Attempt.is comes.3) comes.2 in
    (comes.0, found.0, found.1)

pub returns-in-Attempt-clause-handled : goal.returns-in-Attempt-clause-handled
returns-in-Attempt-clause-handled c =
    on_ok_weaker c.take_attempt.result (λ transferred rest next come is.
    let found = comes_next c.args.trace.now c.args.e rest next (kept_section c.args.notes.now) c.in-Attempt.attempt
    c.in-Attempt.accesses (subst (λ s. IsStep s next) c.in-Attempt.is is) come in
    transferred rest found.0 found.1) c.take_attempt.ensures.handled

pub returns-in-Attempt-clause-wrong : goal.returns-in-Attempt-clause-wrong
returns-in-Attempt-clause-wrong c =
    MatchResult-weaker c.take_attempt.result c.take_attempt.ensures.wrong (λ _ h. h)
    (λ x h. weaker_found x _ _ (λ f wrong rest next come is.
    let found = comes_next c.args.trace.now c.args.e rest next (kept_section c.args.notes.now) c.in-Attempt.attempt
    c.in-Attempt.accesses (subst (λ s. IsStep s next) c.in-Attempt.is is) come in
    wrong rest found.0 found.1) h)

pub take_commit-requires-clause-comes : goal.take_commit-requires-clause-comes
take_commit-requires-clause-comes c =
    let comes = c.requires.comes in (
      c.args.trace.now,
      comes.0,
      c.requires.noted,
      come_as c.args.trace.now c.args.e comes.0 (kept_section c.args.notes.now) comes.1 _
          (commit_next comes.1 c.in-Commit.commit (subst (λ s. IsStep s comes.1) c.in-Commit.is comes.3)) comes.2,
    )

pub returns-in-Commit-clause-handled : goal.returns-in-Commit-clause-handled
returns-in-Commit-clause-handled c =
    on_ok_weaker c.take_commit.result (λ transferred rest next come is.
    transferred c.args.trace.now rest
    (come_as c.args.trace.now c.args.e rest (kept_section c.args.notes.now) next _
    (commit_next next c.in-Commit.commit (subst (λ s. IsStep s next) c.in-Commit.is is)) come))
    c.take_commit.ensures.handled

pub returns-in-Commit-clause-wrong : goal.returns-in-Commit-clause-wrong
returns-in-Commit-clause-wrong c =
    MatchResult-weaker c.take_commit.result c.take_commit.ensures.wrong (λ _ h. h)
    (λ x h. weaker_found x _ _ (λ f wrong rest next come is.
    wrong c.args.trace.now rest
    (come_as c.args.trace.now c.args.e rest (kept_section c.args.notes.now) next _
    (commit_next next c.in-Commit.commit (subst (λ s. IsStep s next) c.in-Commit.is is)) come)) h)

pub take_rollback-requires-clause-comes : goal.take_rollback-requires-clause-comes
take_rollback-requires-clause-comes c =
    let comes = c.requires.comes in (
      comes.0,
      come_as c.args.trace.now c.args.e comes.0 (kept_section c.args.notes.now) comes.1 _
          (rollback_next comes.1 c.in-Rollback.rollback (subst (λ s. IsStep s comes.1) c.in-Rollback.is comes.3))
          comes.2,
    )

pub returns-in-Rollback-clause-handled : goal.returns-in-Rollback-clause-handled
returns-in-Rollback-clause-handled c =
    on_ok_weaker c.take_rollback.result (λ transferred rest next come is.
    transferred rest
    (come_as c.args.trace.now c.args.e rest (kept_section c.args.notes.now) next _
    (rollback_next next c.in-Rollback.rollback (subst (λ s. IsStep s next) c.in-Rollback.is is)) come))
    c.take_rollback.ensures.handled

pub returns-in-Rollback-clause-wrong : goal.returns-in-Rollback-clause-wrong
returns-in-Rollback-clause-wrong c =
    MatchResult-weaker c.take_rollback.result c.take_rollback.ensures.wrong (λ _ h. h)
    (λ x h. weaker_found x _ _ (λ f wrong rest next come is.
    wrong rest
    (come_as c.args.trace.now c.args.e rest (kept_section c.args.notes.now) next _
    (rollback_next next c.in-Rollback.rollback (subst (λ s. IsStep s next) c.in-Rollback.is is)) come)) h)

pub take_transfer-requires-clause-comes : goal.take_transfer-requires-clause-comes
take_transfer-requires-clause-comes c =
    let comes = c.requires.comes in (
      comes.0,
      come_as c.args.trace.now c.args.e comes.0 (kept_section c.args.notes.now) comes.1 _
          (transfer_next comes.1 c.in-Transfer.transfer (subst (λ s. IsStep s comes.1) c.in-Transfer.is comes.3))
          comes.2,
    )

pub returns-in-Transfer-clause-handled : goal.returns-in-Transfer-clause-handled
returns-in-Transfer-clause-handled c =
    on_ok_weaker c.take_transfer.result (λ transferred rest next come is.
    transferred rest
    (come_as c.args.trace.now c.args.e rest (kept_section c.args.notes.now) next _
    (transfer_next next c.in-Transfer.transfer (subst (λ s. IsStep s next) c.in-Transfer.is is)) come))
    c.take_transfer.ensures.handled

pub returns-in-Transfer-clause-wrong : goal.returns-in-Transfer-clause-wrong
returns-in-Transfer-clause-wrong c =
    MatchResult-weaker c.take_transfer.result c.take_transfer.ensures.wrong (λ _ h. h)
    (λ x h. weaker_found x _ _ (λ f wrong rest next come is.
    wrong rest
    (come_as c.args.trace.now c.args.e rest (kept_section c.args.notes.now) next _
    (transfer_next next c.in-Transfer.transfer (subst (λ s. IsStep s next) c.in-Transfer.is is)) come)) h)
