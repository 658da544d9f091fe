-- What a yes says follows from what the phases find.
use Rattle.std.proofs.Common.{◌≡◌, ℕ, zero, suc, ◌-◌, length, map, slice_get, Some, subst, arith}
use Rattle.std.specs.Prelude.{IsTrue, AllPairs, ◌≢◌}
use Rattle.eve_grammar.specs.Trace.{Transfer, Sent, Transfers, Trace, head_of}
use Rattle.eve_grammar.specs.Limits.{HasHeadLimits}
use Rattle.eve_grammar.specs.Spelling.{steps_at}
use Rattle.eve_grammar.specs.Certificate.{keeps_groups}
use Rattle.eve_history.specs.Section.{Placed, ByTransfer, batch_at}
use Rattle.eve_history.specs.SectionHistory.{how_reached_at, committed_at, is_reached, ByAttemptsTo}
use Rattle.eve_votes.specs.Votes.{IsDecided}
use Rattle.eve_chains.specs.Visible.{execution, executions}
use Rattle.eve_chains.specs.Committed.{opening_bank, bank_after, balances_to, committed_to, Leads}
use Rattle.eve_chains.specs.Committed.{IsSerialBetween, committed_request_ids}
use Rattle.eve_agree.specs.Agreement.{HasBalancesOfFirst}
use Rattle.eve_agree.specs.Majority.{SomeDecided}
use Rattle.eve_agree.specs.Tables.{IsRestored}
use Rattle.eve_agree.specs.SentReplies.{IsReplied}
use Rattle.eve_audit.specs.Accepted.{IsAccepted}
use Rattle.eve_audit.specs.Audited.{IsAudited}
use Rattle.eve_audit.proofs.NumberLaws.{none_there, each_at}
use Rattle.eve_audit.proofs.RisingNumbers.{numbers_rise}
use Rattle.eve_audit.proofs.Outcomes.{replies_agree, all_agree, all_have_firsts, by_firsts}
use Rattle.eve_audit.proofs.Decisions.{committed_decided, commit_backed, rollback_backed, transfer_backed}

module _ (t : Trace) (accepted : IsAccepted t) where
  attempt_decided : (e n : ℕ) (p : Placed) → committed_at t e n ≡ Some p → IsDecided t n p.attempt.view p.attempt.token
  attempt_decided e n p at = committed_decided t e (accepted.right e) (accepted.backed e) n p at

  same_decision : (e f n : ℕ) (p q : Placed) → committed_at t e n ≡ Some p → committed_at t f n ≡ Some q
      → (p.attempt.view ≡ q.attempt.view) × (p.attempt.token ≡ q.attempt.token)
  same_decision e f n p q at also =
      let one = attempt_decided e n p at in
      let two = attempt_decided f n q also in (
        accepted.votes.one_view n p.attempt.view q.attempt.view p.attempt.token q.attempt.token one two,
        accepted.votes.one_token n p.attempt.view q.attempt.view p.attempt.token q.attempt.token one two,
      )

  reply_given : (k : ℕ) (s : Sent) → slice_get t.sent k ≡ Some s → IsReplied t s
  reply_given k s at = each_at (IsReplied t) t.sent k s accepted.replied at

  -- what the laws of the crates below say of a trace that is accepted
  pub record Laws : Type 0 where
    pub head : HasHeadLimits (head_of t)
    pub numbers : (e n : ℕ) (p : Placed) → committed_at t e n ≡ Some p → p.attempt.seq ≡ n
    pub before : (e n : ℕ) (p : Placed) → committed_at t e (suc n) ≡ Some p → IsTrue (is_reached t e n)
    pub reaches : (e k at : ℕ) (x : Transfer) → slice_get (steps_at t e) k ≡ Some (at, Transfers x)
        → how_reached_at t e x.seq ≡ Some (ByTransfer at x)
    pub states : (e n at : ℕ) (x : Transfer) → how_reached_at t e n ≡ Some (ByTransfer at x)
        → balances_to t e n ≡ map (λ v. v.value) x.rows
    pub serial : (e n : ℕ) (p : Placed) → committed_at t e n ≡ Some p
        → IsSerialBetween (bank_after t e (n - 1)) (bank_after t e n) (execution t p.attempt)
    pub from_opening : (e n : ℕ) → ByAttemptsTo t e n
        → Leads (opening_bank t) (executions t (committed_to t e n)) (bank_after t e n)
    pub groups : (e n : ℕ) (p : Placed) → committed_at t e n ≡ Some p
        → IsTrue (keeps_groups (batch_at t n).sizes (length (batch_at t n).requests) p.attempt.certificate)
    pub once : (e : ℕ) → AllPairs (λ a b. a ≢ b) (committed_request_ids t e)
    pub restored : (e k : ℕ) → IsRestored t e k

  module _ (laws : Laws) where
    reached_before : (e n : ℕ) (p : Placed) → committed_at t e n ≡ Some p → IsTrue (is_reached t e (n - 1))
    reached_before e zero p at = none_there p at
    reached_before e (suc n) p at =
        let less : n ≡ suc n - 1 = omega arith in
        subst (λ (m : ℕ). IsTrue (is_reached t e m)) less (laws.before e n p at)

    transferred : (e k at : ℕ) (x : Transfer) → slice_get (steps_at t e) k ≡ Some (at, Transfers x)
        → HasBalancesOfFirst t x.seq x × SomeDecided t x.seq x.view
    transferred e k at x there = (
      accepted.agree.states e x.seq at x (laws.reaches e k at x there),
      transfer_backed t (steps_at t e) k at x (accepted.backed e) there,
    )

    pub audited_with : IsAudited t
    audited_with = record {
      right = accepted.right;
      rise = λ e. numbers_rise t e (accepted.right e);
      numbered = laws.numbers;
      serial = laws.serial;
      before = reached_before;
      from_opening = laws.from_opening;
      by_firsts = λ e n. by_firsts t accepted.agree laws.states laws.before laws.serial n e;
      have_firsts = λ e n m. all_have_firsts t accepted.agree laws.states laws.before n e m;
      keeps_groups = laws.groups;
      agree = all_agree t accepted.agree laws.states;
      same_replies = replies_agree t accepted.agree;
      reached = laws.reaches;
      transferred = transferred;
      restored = laws.restored;
      apart = accepted.apart;
      once = laws.once;
      replied = reply_given;
      majority = laws.head.majority;
      decided = attempt_decided;
      commits = λ e k at c found. commit_backed t (steps_at t e) k at c (accepted.backed e) found;
      rollbacks = λ e k at r found. rollback_backed t (steps_at t e) k at r (accepted.backed e) found;
      tokens = λ e n p at. accepted.tokens e n p at;
      one_decision = same_decision;
    }
