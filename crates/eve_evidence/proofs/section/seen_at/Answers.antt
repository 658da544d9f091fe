use Rattle.std.proofs.Common.{◌≡◌, ℕ, ◌∷◌, ◌++◌, None, subst}
use Rattle.eve_grammar.specs.Trace.{Step}
use Rattle.eve_grammar.specs.Spelling.{steps_at}
use Rattle.eve_views.specs.StepKinds.{IsStep}
use Rattle.eve_evidence.specs.inner.Places.{HasLook, TellsSeenWith}
use Rattle.eve_evidence.proofs.CourseSteps.{on_attempt, on_commit, on_rollback, on_state}
use Rattle.eve_evidence.proofs.section.seen_at.Goals as goal

pub seen_in-requires-clause-look : goal.seen_in-requires-clause-look
seen_in-requires-clause-look c =
    let t = c.args.trace.now in
    let is = c.requires.look in
    on_attempt c.in-Attempt.attempt c.in-Attempt.accesses is.1
    (λ (y : ℕ × Step). steps_at t c.args.e ≡ is.0 ++ y ∷ is.2
    → HasLook t c.args.e c.args.course.now c.in-Attempt.attempt c.in-Attempt.accesses)
    (subst (λ met. IsStep met is.1) c.in-Attempt.is is.4)
    (λ a decoded xs split. (is.0, is.2, a, split, is.5, decoded, xs)) is.3

pub returns-in-Attempt : goal.returns-in-Attempt
returns-in-Attempt c = λ prefix is behind split stands course.
    let t = c.args.trace.now in
    on_attempt c.in-Attempt.attempt c.in-Attempt.accesses is
    (λ (y : ℕ × Step). steps_at t c.args.e ≡ prefix ++ y ∷ behind
    → TellsSeenWith t prefix y behind c.args.evidence.now c.seen_in.result)
    (subst (λ met. IsStep met is) c.in-Attempt.is stands)
    (λ a decoded xs here. c.seen_in.ensures prefix behind a here course decoded xs) split

pub returns-in-Commit : goal.returns-in-Commit
returns-in-Commit c = λ prefix is behind split stands course.
    on_commit c.in-Commit.field-0 is (λ (y : ℕ × Step). TellsSeenWith c.args.trace.now prefix y behind
    c.args.evidence.now None)
    (subst (λ met. IsStep met is) c.in-Commit.is stands) (λ at d attempt request o wrong before e. tt)

pub returns-in-Rollback : goal.returns-in-Rollback
returns-in-Rollback c = λ prefix is behind split stands course.
    on_rollback c.in-Rollback.field-0 is (λ (y : ℕ × Step). TellsSeenWith c.args.trace.now prefix y behind
    c.args.evidence.now None)
    (subst (λ met. IsStep met is) c.in-Rollback.is stands) (λ attempt request o wrong before e. tt)

pub returns-in-Transfer : goal.returns-in-Transfer
returns-in-Transfer c = λ prefix is behind split stands course.
    on_state c.in-Transfer.field-0 is (λ (y : ℕ × Step). TellsSeenWith c.args.trace.now prefix y behind
    c.args.evidence.now None)
    (subst (λ met. IsStep met is) c.in-Transfer.is stands) (λ attempt request o wrong before e. tt)
