use Rattle.std.proofs.Common.{◌≡◌, ℕ, ℤ, List, Some, IfSome, Bool, subst, sym, ◌∙◌, refl}
use Rattle.std.specs.Prelude.{Option, IsTrue, ◌↔◌}
use Rattle.std.proofs.lemmas.Bool.{false≢true}
use Rattle.eve_smallbank.specs.declared.request.Reply.{Reply}
use Rattle.eve_frames.specs.Views.{attempt_in}
use Rattle.eve_grammar.specs.Trace.{Trace}
use Rattle.eve_history.specs.SectionHistory.{committed_at}
use Rattle.eve_chains.specs.Committed.{balances_to}
use Rattle.eve_agree.specs.Agreement.{first_to_commit, HaveSameOutcome}
use Rattle.eve_agree.proofs.ByNumber.{some_there, there_some, told_same, replica_there, committed_settled}
use Rattle.eve_agree.proofs.Outcomes.{IsOf, outcome_of, same_outcome, outcome_same, first_committed, first_low}
use Rattle.eve_agree.proofs.EqualBalances.{before_next}
use Rattle.eve_agree.proofs.AtNumber.{first_there}
use Rattle.eve_agree.proofs.agreement.has_outcome_of.Goals as goal

-- what was compared is the outcome
compared : (t : Trace) (e f n o q : ℕ) (rs ss : List Reply) (b d : List ℤ) → first_to_commit t n ≡ Some f
    → IsOf t e n o rs → IsOf t f n q ss → b ≡ balances_to t e n → d ≡ balances_to t f n → (same : Bool)
    → (IsTrue same ↔ ((b ≡ d) × (rs ≡ ss)))
    → IsTrue same ↔ IfSome (first_to_commit t n) (λ g. HaveSameOutcome t e g n)
compared t e f n o q rs ss b d first own its after before so is = (
  λ yes. subst (λ (i : Option ℕ). IfSome i (λ g. HaveSameOutcome t e g n)) (sym first)
      (same_outcome t e f n o q rs ss b d own its after before (is.0 yes)),
  λ same. is.1 (outcome_same t e f n o q rs ss b d own its after before
      (subst (λ (i : Option ℕ). IfSome i (λ g. HaveSameOutcome t e g n)) first same)),
)

pub returns-then-f-e : goal.returns-then-f-e
returns-then-f-e c =
    let t = c.args.trace.now in
    let n = c.args.replicas.number in
    let first = sym c.requires.first ∙ c.in-Some.is in (
      λ _. subst (λ (o : Option ℕ). IfSome o (λ f. HaveSameOutcome t c.args.e f n)) (sym first)
          (subst (λ (i : ℕ). HaveSameOutcome t i c.in-Some.f n) c.if-f-e.true
          (record { balances = refl; replies = refl })),
      λ _. refl,
    )

pub replica_at-own-requires-clause-there : goal.replica_at-own-requires-clause-there
replica_at-own-requires-clause-there c =
    let p = some_there (committed_at c.args.trace.now c.args.e c.args.replicas.number) c.requires.committed in
    replica_there c.args.trace.now c.args.e c.args.replicas.number p.0 p.1

pub replica_at-its-requires-clause-there : goal.replica_at-its-requires-clause-there
replica_at-its-requires-clause-there c =
    first_there c.args.trace.now c.args.replicas c.requires.all c.in-Some.f (sym c.requires.first ∙ c.in-Some.is)

pub committed_attempt-attempt-requires : goal.committed_attempt-attempt-requires
committed_attempt-attempt-requires c = record {
  there = told_same c.args.trace.now c.args.e c.replica_at-own.result.history.now c.args.replicas.number
      c.replica_at-own.ensures.history ∙ c.requires.committed;
}

pub committed_attempt-other-requires : goal.committed_attempt-other-requires
committed_attempt-other-requires c =
    let t = c.args.trace.now in
    let f = c.in-Some.f in
    let n = c.args.replicas.number in
    let q = first_committed t n f (sym c.requires.first ∙ c.in-Some.is) in
    record {
      there = told_same t f c.replica_at-its.result.history.now n c.replica_at-its.ensures.history
          ∙ there_some (committed_at t f n) q.0 q.1;
    }

pub have_same_balances-requires-clause-there : goal.have_same_balances-requires-clause-there
have_same_balances-requires-clause-there c =
    let p = some_there (committed_at c.args.trace.now c.args.e c.args.replicas.number) c.requires.committed in
    committed_settled c.args.trace.now c.args.e c.args.replicas.number p.0 c.replica_at-own.result.settled.now
    c.replica_at-own.ensures.settled p.1

pub have_same_balances-requires-clause-its_there : goal.have_same_balances-requires-clause-its_there
have_same_balances-requires-clause-its_there c =
    let t = c.args.trace.now in
    let n = c.args.replicas.number in
    let q = first_committed t n c.in-Some.f (sym c.requires.first ∙ c.in-Some.is) in
    committed_settled t c.in-Some.f n q.0 c.replica_at-its.result.settled.now c.replica_at-its.ensures.settled q.1

pub have_same_balances-requires-clause-before : goal.have_same_balances-requires-clause-before
have_same_balances-requires-clause-before c = λ _.
    let t = c.args.trace.now in
    let e = c.args.e in
    let f = c.in-Some.f in
    let n = c.args.replicas.number in
    let first = sym c.requires.first ∙ c.in-Some.is in
    let p = some_there (committed_at t e n) c.requires.committed in
    let q = first_committed t n f first in
    before_next t e f n p.0 q.0 c.replica_at-own.result.settled.now c.replica_at-its.result.settled.now
    c.replica_at-own.ensures.settled c.replica_at-its.ensures.settled c.requires.all.right p.1 q.1
    (first_low t n e f p.0 p.1 first) c.requires.before

pub returns-then-replies : goal.returns-then-replies
returns-then-replies c =
    let t = c.args.trace.now in
    let n = c.args.replicas.number in
    let v = c.committed_attempt-attempt.result in
    let w = c.committed_attempt-other.result in
    compared t c.args.e c.in-Some.f n v.offset w.offset _ _ c.replica_at-own.result.balances.now
    c.replica_at-its.result.balances.now (sym c.requires.first ∙ c.in-Some.is)
    (outcome_of t c.args.e n v.offset (attempt_in v.bytes.now) c.replica_at-own.result.history.now
    c.replica_at-own.ensures.history c.committed_attempt-attempt.ensures)
    (outcome_of t c.in-Some.f n w.offset (attempt_in w.bytes.now) c.replica_at-its.result.history.now
    c.replica_at-its.ensures.history c.committed_attempt-other.ensures)
    c.replica_at-own.ensures.balances c.replica_at-its.ensures.balances _ (
      λ same. (c.have_same_balances.ensures.0 same, c.have_same_replies-replies.ensures.0 c.if-replies.true),
      λ both. c.have_same_balances.ensures.1 both.0,
    )

pub returns-else-replies : goal.returns-else-replies
returns-else-replies c =
    let t = c.args.trace.now in
    let n = c.args.replicas.number in
    let v = c.committed_attempt-attempt.result in
    let w = c.committed_attempt-other.result in
    compared t c.args.e c.in-Some.f n v.offset w.offset _ _ c.replica_at-own.result.balances.now
    c.replica_at-its.result.balances.now (sym c.requires.first ∙ c.in-Some.is)
    (outcome_of t c.args.e n v.offset (attempt_in v.bytes.now) c.replica_at-own.result.history.now
    c.replica_at-own.ensures.history c.committed_attempt-attempt.ensures)
    (outcome_of t c.in-Some.f n w.offset (attempt_in w.bytes.now) c.replica_at-its.result.history.now
    c.replica_at-its.ensures.history c.committed_attempt-other.ensures)
    c.replica_at-own.ensures.balances c.replica_at-its.ensures.balances _ (
      λ yes. absurd (false≢true (sym c.if-replies.false ∙ yes)),
      λ both. c.have_same_replies-replies.ensures.1 both.1,
    )
