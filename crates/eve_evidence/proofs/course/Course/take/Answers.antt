use Rattle.std.proofs.Common.{subst, arith}
use Rattle.eve_views.specs.StepKinds.{IsStep}
use Rattle.eve_evidence.proofs.CourseSteps.{attempt_comes, commit_comes, rollback_comes, state_comes}
use Rattle.eve_evidence.proofs.course.Course.take.Goals as goal

pub returns-in_ok-push-in-Attempt : goal.returns-in_ok-push-in-Attempt
returns-in_ok-push-in-Attempt c = λ s step is stands.
    attempt_comes s c.args.self.now step c.in-Attempt.attempt c.in-Attempt.accesses c.push.new.self is
    (subst (λ met. IsStep met step) c.in-Attempt.is stands) c.in_ok-push-in-Attempt.ensures.items

pub returns-then-self-len : goal.returns-then-self-len
returns-then-self-len c = λ s step is stands.
    commit_comes s c.args.self.now step c.in-Commit.field-0 is
    (subst (λ met. IsStep met step) c.in-Commit.is stands) (omega (arith, c.if-self-len.true, c.len.ensures))

pub returns-in-Rollback : goal.returns-in-Rollback
returns-in-Rollback c = λ s step is stands.
    rollback_comes s c.args.self.now step c.in-Rollback.rollback c.view-self.result c.truncate.new.self is
    (subst (λ met. IsStep met step) c.in-Rollback.is stands) c.view-self.ensures c.truncate.ensures.items

pub returns-in-Transfer : goal.returns-in-Transfer
returns-in-Transfer c = λ s step is stands.
    state_comes s step c.in-Transfer.state c.view-self-in-Transfer.result c.truncate-in-Transfer.new.self
    (subst (λ met. IsStep met step) c.in-Transfer.is stands) c.view-self-in-Transfer.ensures
    c.truncate-in-Transfer.ensures.items
