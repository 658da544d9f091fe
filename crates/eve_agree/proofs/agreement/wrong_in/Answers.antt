use Rattle.std.proofs.Common.{◌≡◌, ℕ, false, Some, subst, sym, ap, ◌∙◌, refl}
use Rattle.std.proofs.lemmas.Bool.{false≢true}
use Rattle.eve_frames.specs.Views.{attempt_in, transfer_in}
use Rattle.eve_history.specs.Section.{ByAttempt, ByTransfer}
use Rattle.eve_history.specs.SectionHistory.{how_reached_at, committed_at}
use Rattle.eve_chains.proofs.LinkedPaths.{how_reached_by, none≢some}
use Rattle.eve_agree.specs.Agreement.{HasCommitted}
use Rattle.eve_agree.specs.inner.NumbersJudged.{IsApart}
use Rattle.eve_agree.proofs.AtNumber.{state_is, is_state}
use Rattle.eve_agree.proofs.AgreementFaults.{agrees_by_attempt, agrees_by_state, agrees_without}
use Rattle.eve_agree.proofs.Outcomes.{outcome_of, replica_told}
use Rattle.eve_agree.proofs.ByNumber.{some_there, not_there, told_same, told_none, state_told, told_state_there}
use Rattle.eve_agree.proofs.agreement.wrong_in.Goals as goal

pub has_outcome_of-requires-clause-committed : goal.has_outcome_of-requires-clause-committed
has_outcome_of-requires-clause-committed c =
    sym (told_same c.args.trace.now c.args.e c.replica_at.result.history.now c.args.replicas.number
    c.replica_at.ensures.history)
    ∙ sym c.has_committed.ensures ∙ c.if-has_committed.true

pub returns-then-has_outcome_of-clause-agrees : goal.returns-then-has_outcome_of-clause-agrees
returns-then-has_outcome_of-clause-agrees c =
    let t = c.args.trace.now in
    let e = c.args.e in
    let n = c.args.replicas.number in
    let p = some_there (committed_at t e n)
    (sym (told_same t e c.replica_at.result.history.now n c.replica_at.ensures.history)
    ∙ sym c.has_committed.ensures ∙ c.if-has_committed.true) in
    agrees_by_attempt t e n p.0 (how_reached_by (how_reached_at t e n) p.0 p.1)
    (c.has_outcome_of.ensures.0 c.if-has_outcome_of.true)

pub returns-then-has_committed-clause-apart : goal.returns-then-has_committed-clause-apart
returns-then-has_committed-clause-apart c =
    let t = c.args.trace.now in
    let e = c.args.e in
    let n = c.args.replicas.number in
    let h = c.replica_at.result.history.now in
    let told = c.replica_at.ensures.history in
    let committed : HasCommitted t e n =
    sym (told_same t e h n told) ∙ sym c.has_committed.ensures ∙ c.if-has_committed.true in
    let v = c.committed_attempt-attempt.result in
    let own = outcome_of t e n v.offset (attempt_in v.bytes.now) h told c.committed_attempt-attempt.ensures in
    let no : c.has_outcome_of.result ≡ false = c.if-has_outcome_of.false in
    subst (IsApart t e n) (sym c.fault_at.ensures)
    (record {
      how_reached = ByAttempt own.item;
      at = how_reached_by (how_reached_at t e n) own.item own.at;
      code = refl;
      offset = ap (λ (o : ℕ). Some o) (sym own.offset_is ∙ sym c.offset.ensures);
      inside = ap (λ (r : ℕ). Some r) (c.replica.ensures ∙ replica_told t e h told);
      apart = λ agrees. false≢true (sym no ∙ c.has_outcome_of.ensures.1 (agrees.outcome committed));
    })

pub returns-in_default-clause-agrees : goal.returns-in_default-clause-agrees
returns-in_default-clause-agrees c =
    let t = c.args.trace.now in
    let e = c.args.e in
    let n = c.args.replicas.number in
    let h = c.replica_at.result.history.now in
    let told = c.replica_at.ensures.history in
    agrees_without t e n
    (told_none t e h n told (not_there _ (sym c.has_committed.ensures ∙ c.if-has_committed.false)))
    (λ at x is.
    let from = c.numbers_are_reached.ensures.told_transfer t e n at x is in
    none≢some (at, x) (sym c.in_default.ensures.none
    ∙ told_state_there t e n h told at from.0 x c.requires.one (from.1, from.2)))

pub returns-then-same-clause-agrees : goal.returns-then-same-clause-agrees
returns-then-same-clause-agrees c =
    let t = c.args.trace.now in
    let e = c.args.e in
    let n = c.args.replicas.number in
    let at = c.in-Some.state.offset in
    let x = transfer_in c.in-Some.state.bytes.now in
    let is = state_told t e n c.replica_at.result.history.now c.replica_at.ensures.history at x
    (λ i one from. c.numbers_are_reached.ensures.tells_transfer t e n i one from) c.in-Some.ensures.some in
    agrees_by_state t e n at x is
    (state_is t c.args.replicas c.requires.all e at x is (c.has_balances_of-same.ensures.0 c.if-same.true))

pub returns-clause-apart : goal.returns-clause-apart
returns-clause-apart c =
    let t = c.args.trace.now in
    let e = c.args.e in
    let n = c.args.replicas.number in
    let h = c.replica_at.result.history.now in
    let told = c.replica_at.ensures.history in
    let at = c.in-Some.state.offset in
    let x = transfer_in c.in-Some.state.bytes.now in
    let is = state_told t e n h told at x (λ i one from. c.numbers_are_reached.ensures.tells_transfer t e n i one from)
    c.in-Some.ensures.some in
    let no : c.has_balances_of-same.result ≡ false = c.if-same.false in
    subst (IsApart t e n) (sym c.fault_at-2.ensures)
    (record {
      how_reached = ByTransfer at x;
      at = is;
      code = refl;
      offset = ap (λ (o : ℕ). Some o) (sym c.offset-2.ensures);
      inside = ap (λ (r : ℕ). Some r) (c.replica-2.ensures ∙ replica_told t e h told);
      apart = λ agrees. false≢true (sym no ∙ c.has_balances_of-same.ensures.1
          (is_state t c.args.replicas c.requires.all e at x is (agrees.state at x is)));
    })
