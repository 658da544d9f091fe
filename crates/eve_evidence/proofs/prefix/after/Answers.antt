use Rattle.std.proofs.Common.{ℕ, [], ◌∷◌, ◌++◌, subst}
use Rattle.eve_grammar.specs.Trace.{Step}
use Rattle.eve_frames.specs.Decoded.{attempt_decoded}
use Rattle.eve_views.specs.StepKinds.{IsStep}
use Rattle.eve_evidence.specs.inner.LastSource.{IsPrefix}
use Rattle.eve_evidence.proofs.RecordsMet.{source_found}
use Rattle.eve_evidence.proofs.CourseSteps.{on_attempt, on_commit, on_rollback, on_state}
use Rattle.eve_evidence.proofs.prefix.after.Goals as goal

pub returns-in-Attempt : goal.returns-in-Attempt
returns-in-Attempt c = λ t before is prefix stands.
    on_attempt c.in-Attempt.attempt c.in-Attempt.accesses is
    (λ (y : ℕ × Step). IsPrefix t c.args.row c.args.left.now (before ++ y ∷ []) c.after_attempt.result)
    (subst (λ met. IsStep met is) c.in-Attempt.is stands)
    (λ a decoded xs. c.after_attempt.ensures t c.args.row c.args.left.now before c.in-Attempt.attempt.offset a prefix
    (source_found c.args.row c.args.left.now c.in-Attempt.attempt.offset (attempt_decoded c.in-Attempt.attempt) a
    c.in-Attempt.accesses c.len.result c.last_found_in.result decoded xs c.len.ensures.certificate
    c.last_found_in.ensures.last
    c.last_found_in.ensures.none))

pub returns-in-Commit : goal.returns-in-Commit
returns-in-Commit c = λ t before is prefix stands.
    on_commit c.in-Commit.field-0 is
    (λ (y : ℕ × Step). IsPrefix t c.args.row c.args.left.now (before ++ y ∷ []) c.after_commit.result)
    (subst (λ met. IsStep met is) c.in-Commit.is stands)
    (λ at d. c.after_commit.ensures t c.args.row c.args.left.now before at d prefix)

pub returns-in-Rollback : goal.returns-in-Rollback
returns-in-Rollback c = λ t before is prefix stands.
    on_rollback c.in-Rollback.rollback is
    (λ (y : ℕ × Step). IsPrefix t c.args.row c.args.left.now (before ++ y ∷ []) c.after_rollback.result)
    (subst (λ met. IsStep met is) c.in-Rollback.is stands) (c.after_rollback.ensures t before prefix)

pub returns-in-Transfer : goal.returns-in-Transfer
returns-in-Transfer c = λ t before is prefix stands.
    on_state c.in-Transfer.state is
    (λ (y : ℕ × Step). IsPrefix t c.args.row c.args.left.now (before ++ y ∷ []) c.after_state.result)
    (subst (λ met. IsStep met is) c.in-Transfer.is stands) (c.after_state.ensures t before prefix)
