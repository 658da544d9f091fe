-- Replicas agree, since each agrees with the first that committed the batch; and their banks come from the opening
-- balances in the orders of the first.
use Rattle.std.proofs.Common.{◌≡◌, ℕ, zero, suc, ◌-◌, ◌≤◌, List, [], ◌++◌, map, Option, Some, IfSome, refl, sym}
use Rattle.std.proofs.Common.{subst, ap, ◌∙◌, inl, inr, arith}
use Rattle.std.specs.Prelude.{IsTrue}
use Rattle.std.specs.Option.{option_map, is_some}
use Rattle.std.proofs.lemmas.Bool.{cases_lt}
use Rattle.std.proofs.lemmas.Option.{same_Some}
use Rattle.eve_smallbank.specs.declared.request.Reply.{Reply}
use Rattle.eve_smallbank.specs.Access.{Executed}
use Rattle.eve_grammar.specs.Trace.{Transfer, Trace}
use Rattle.eve_history.specs.Section.{Placed, ByTransfer}
use Rattle.eve_history.specs.SectionHistory.{how_reached_at, committed_at, is_reached}
use Rattle.eve_chains.specs.Visible.{execution}
use Rattle.eve_chains.specs.Committed.{opening_bank, bank_after, balances_to, Leads, IsSerialBetween}
use Rattle.eve_agree.specs.Agreement.{first_to_commit, HaveSameOutcome, ReplicasAgree}
use Rattle.eve_chains.proofs.SerialRuns.{leads-append}
use Rattle.eve_audit.specs.Audited.{execution_by, execution_of, first_executions}
use Rattle.eve_audit.proofs.NumberLaws.{IsReachedBy, by_attempt, by_state, reached_by, first_there, first_committed}
use Rattle.eve_audit.proofs.SameBanks.{banks_agree}

-- ---- with the first that committed

same_replies : (o u : Option Placed) (p q : Placed) → o ≡ Some p → u ≡ Some q
    → option_map (λ (r : Placed). r.attempt.replies) o ≡ option_map (λ (r : Placed). r.attempt.replies) u
    → p.attempt.replies ≡ q.attempt.replies
same_replies o u p q e f same =
    let replies : Option Placed → Option (List Reply) = option_map (λ r. r.attempt.replies) in
    same_Some p.attempt.replies q.attempt.replies (sym (ap replies e) ∙ same ∙ ap replies f)

-- some replica committed the batch first, and replica e has the balances of that after it
record HasFirst (t : Trace) (e n : ℕ) : Type 0 where
  first : ℕ
  is : first_to_commit t n ≡ Some first
  item : Placed
  at : committed_at t first n ≡ Some item
  balances : balances_to t e n ≡ balances_to t first n

module _ (t : Trace) (agree : ReplicasAgree t) where
  -- the outcome of the first that committed it
  outcome : (e n : ℕ) (p : Placed) → committed_at t e n ≡ Some p
      → (f : ℕ) × (first_to_commit t n ≡ Some f) × HaveSameOutcome t e f n
  outcome e n p at =
      let first = first_there t e n p at in (
        first.0,
        first.1,
        subst (λ (o : Option ℕ). IfSome o (λ g. HaveSameOutcome t e g n)) first.1 (agree.outcomes e n (ap is_some at)),
      )

  pub replies_agree : (e f n : ℕ) (p q : Placed) → committed_at t e n ≡ Some p → committed_at t f n ≡ Some q
      → p.attempt.replies ≡ q.attempt.replies
  replies_agree e f n p q at also =
      let one = outcome e n p at in
      let two = outcome f n q also in
      let first : one.0 ≡ two.0 = same_Some one.0 two.0 (sym one.1 ∙ two.1) in
      let other = subst (λ (g : ℕ). HaveSameOutcome t f g n) (sym first) two.2 in
      same_replies (committed_at t e n) (committed_at t f n) p q at also (one.2.replies ∙ sym other.replies)

  -- after a number that was reached by a state, the balances are the values of that state
  module _ (states : (e n at : ℕ) (x : Transfer) → how_reached_at t e n ≡ Some (ByTransfer at x)
      → balances_to t e n ≡ map (λ v. v.value) x.rows) where
    has_first : (e n : ℕ) → IsTrue (is_reached t e (suc n)) → HasFirst t e (suc n)
    has_first e n reached = by (reached_by t e n reached)
      where
        made : (f : ℕ) → first_to_commit t (suc n) ≡ Some f → balances_to t e (suc n) ≡ balances_to t f (suc n)
            → HasFirst t e (suc n)
        made f is same =
            let own = first_committed t (suc n) f is in
            record { first = f; is = is; item = own.0; at = own.1; balances = same }

        by : IsReachedBy t e (suc n) → HasFirst t e (suc n)
        by (by_attempt p at) = let own = outcome e (suc n) p at in made own.0 own.1 own.2.balances
        by (by_state at x is) =
            let own = agree.states e (suc n) at x is in
            made own.0 own.1 (states e (suc n) at x is ∙ own.2)

    pub all_agree : (e f n : ℕ) → IsTrue (is_reached t e n) → IsTrue (is_reached t f n)
        → bank_after t e n ≡ bank_after t f n
    all_agree e f zero reached also = banks_agree t e f 0 refl
    all_agree e f (suc n) reached also =
        let one = has_first e n reached in
        let two = has_first f n also in
        let first : one.first ≡ two.first = same_Some one.first two.first (sym one.is ∙ two.is) in
        banks_agree t e f (suc n)
        (one.balances ∙ ap (λ (g : ℕ). balances_to t g (suc n)) first ∙ sym two.balances)

    -- where a replica committed a batch, it had reached the number before it
    module _ (before : (e n : ℕ) (p : Placed) → committed_at t e (suc n) ≡ Some p → IsTrue (is_reached t e n)) where
      pub all_have_firsts : (n e m : ℕ) → IsTrue (is_reached t e n) → 1 ≤ m → m ≤ n
          → IsTrue (is_some (first_to_commit t m))
      all_have_firsts zero e m reached low high = absurd (omega (arith, low, high))
      all_have_firsts (suc n) e m reached low high =
          let one = has_first e n reached in
          elim (cases_lt n m) [
            | inl last ↦ (let same : suc n ≡ m = omega (arith, high, last) in
                subst (λ (k : ℕ). IsTrue (is_some (first_to_commit t k))) same (ap is_some one.is))
            | inr less ↦ all_have_firsts n one.first m (before one.first n one.item one.at) low less
          ]

      -- and each batch leads from the bank before it to the bank after it
      module _ (serial : (e n : ℕ) (p : Placed) → committed_at t e n ≡ Some p
          → IsSerialBetween (bank_after t e (n - 1)) (bank_after t e n) (execution t p.attempt)) where
        next_leads : (e n : ℕ) (p : Placed) → committed_at t e (suc n) ≡ Some p
            → Leads (bank_after t e n) (execution t p.attempt) (bank_after t e (suc n))
        next_leads e n p at =
            let less : suc n - 1 ≡ n = omega arith in
            subst (λ (k : ℕ). Leads (bank_after t e k) (execution t p.attempt) (bank_after t e (suc n))) less
            (serial e (suc n) p at).serial

        opening_leads : (e : ℕ) → Leads (opening_bank t) [] (bank_after t e 0)
        unfolding bank_after opening_bank
        opening_leads e = refl

        pub by_firsts : (n e : ℕ) → IsTrue (is_reached t e n)
            → Leads (opening_bank t) (first_executions t n) (bank_after t e n)
        by_firsts zero e reached = opening_leads e
        by_firsts (suc n) e reached =
            let one = has_first e n reached in
            let prefix = by_firsts n one.first (before one.first n one.item one.at) in
            let whole = leads-append (opening_bank t) (bank_after t one.first n) (bank_after t one.first (suc n))
            (first_executions t n) (execution t one.item.attempt) prefix (next_leads one.first n one.item one.at) in
            let own : execution t one.item.attempt ≡ execution_of t (suc n) (first_to_commit t (suc n)) =
            ap (execution_by t) (sym one.at) ∙ ap (execution_of t (suc n)) (sym one.is) in
            subst (λ (xs : List Executed). Leads (opening_bank t) (first_executions t n ++ xs) (bank_after t e (suc n)))
            own
            (subst (Leads (opening_bank t) (first_executions t n ++ execution t one.item.attempt))
            (sym (banks_agree t e one.first (suc n) one.balances)) whole)
