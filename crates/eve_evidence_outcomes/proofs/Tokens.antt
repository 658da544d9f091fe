-- Balances and tokens of a replica's committed batches.
use Rattle.std.proofs.Common.{◌≡◌, ◌≢◌, ℕ, zero, suc, ℤ, ◌+◌, ◌*◌, ◌^◌, ◌<◌, ◌≤◌, List, length, Some, sym, ap, subst}
use Rattle.std.proofs.Common.{◌∙◌, arith}
use Rattle.std.specs.declared.result.Result.{Result}
use Rattle.std.specs.declared.result.Result.TheVariants.{Ok, Err}
use Rattle.std.specs.Prelude.{IfOk}
use Rattle.eve_smallbank.specs.Access.{balance_of_row}
use Rattle.eve_grammar.specs.Trace.{Attempt, Trace}
use Rattle.eve_frames.specs.Decoded.{attempt_decoded}
use Rattle.eve_frames.specs.declared.attempt.AttemptView.{AttemptView}
use Rattle.eve_token.specs.Token.{token_of}
use Rattle.eve_grammar.specs.Limits.{HasLimits}
use Rattle.eve_grammar.proofs.FrameLaws.{few_batches}
use Rattle.eve_history.specs.Section.{Placed}
use Rattle.eve_history.specs.SectionHistory.{committed_at, IsRightSection}
use Rattle.eve_chains.specs.Committed.{first_rows, values_to, balances_to}
use Rattle.eve_chains.specs.CommittedValues.{Settling, settling, values_in}
use Rattle.eve_chains.proofs.LinkedPaths.{none≢some, linked_number, committed_number}
use Rattle.eve_agree.specs.DueTokens.{due_token, StandsInTokens}
use Rattle.eve_agree.proofs.ByNumber.{committed_settled}
use Rattle.eve_agree.proofs.TokensInOrder.{rows_are, rows_told}
use Rattle.eve_views.specs.declared.fault.Code.TheVariants as code
use Rattle.eve_evidence.specs.declared.evidence.ToldAttempt.{ToldAttempt}
use Rattle.eve_evidence.specs.declared.evidence.TokenMatch.{TokenMatch}
use Rattle.eve_evidence.specs.Told.{told_attempt}
use Rattle.eve_evidence_outcomes.specs.inner.Committed.{IsCommittedBy}
use Rattle.eve_evidence_outcomes.specs.Token.{IsDueAt, IsOtherToken, TellsMatch, tokens_for}

-- the balances after a number, as they were read
balances_are : (t : Trace) (e n : ℕ) (s : Settling) (b : List ℤ) → s ≡ settling t e → length b ≡ length s.opening
    → balance_of_row b ≡ values_in s n → values_in (settling t e) n ≡ values_to t e n → b ≡ balances_to t e n
balances_are t e n s b is long values law =
    let rows : length b ≡ 2 * length t.customers =
    long ∙ ap (λ (x : Settling). length x.opening) is ∙ rows_told t e in
    rows_are b ∙ (λ i. first_rows (rows i) (values i))
    ∙ ap (λ (x : Settling). first_rows (2 * length t.customers) (values_in x n)) is
    ∙ ap (first_rows (2 * length t.customers)) law

pub read_balances : {E : Type 0} (t : Trace) (e n : ℕ) (s : Settling) (r : Result (List ℤ) E) → s ≡ settling t e
    → values_in (settling t e) n ≡ values_to t e n → IfOk r (λ b. length b ≡ length s.opening)
    → IfOk r (λ b. balance_of_row b ≡ values_in s n) → IfOk r (λ b. b ≡ balances_to t e n)
read_balances t e n s (Ok b) is law long values = balances_are t e n s b is long values law
read_balances t e n s (Err x) is law long values = tt

-- a number by which an attempt was committed has room
pub number_few : (t : Trace) (e n : ℕ) (p : Placed) → HasLimits t → IsRightSection t e → committed_at t e n ≡ Some p
    → (1 ≤ n) × (n + 1 < 2 ^ 32)
number_few t e zero p limits right at = none≢some p at
number_few t e (suc n) p limits right at = (
  omega arith,
  omega (
    arith,
    (linked_number t e n p right at).there,
    committed_number t e (suc n) p right at,
    few_batches t limits,
  ),
)

-- the token of an attempt that was read is another
pub other_token : (t : Trace) (e n place : ℕ) (a : AttemptView) (own : IsCommittedBy t e n a)
    → own.placed.attempt.seq ≡ n → own.placed.offset ≡ place → (found : List ℕ) → found ≡ (attempt_decoded a).token
    → (due : List ℕ)
    → due ≡ token_of t.head.version (attempt_decoded a).seq (balances_to t e n) (attempt_decoded a).replies → found
    ≢ due
    → (what : TokenMatch) → TellsMatch (tokens_for t e n (attempt_decoded a)) (attempt_decoded a).token what
    → (attempt : ToldAttempt) → attempt ≡ told_attempt a.offset (attempt_decoded a)
    → IsOtherToken t e place attempt found due what
other_token t e n place a own number at found found_is due due_is apart what match attempt attempt_is =
    let found_in = found_is ∙ ap (λ (x : Attempt). x.token) own.decoded in
    record {
      n = n;
      placed = own.placed;
      committed = own.committed;
      place_is = at;
      attempt_is = attempt_is ∙ (λ i. told_attempt (own.offset_is i) (own.decoded i));
      found_is = found_in;
      due_is = due_is
          ∙ ap (λ (x : Attempt). token_of t.head.version x.seq (balances_to t e n) x.replies) own.decoded
          ∙ ap (λ (k : ℕ). token_of t.head.version own.placed.attempt.seq (balances_to t e k)
          own.placed.attempt.replies) (sym number);
      other = apart;
      matches_is = subst (λ (x : List ℕ). TellsMatch (tokens_for t e n own.placed.attempt) x what) (sym found_in)
          (subst (λ (x : Attempt). TellsMatch (tokens_for t e n x) x.token what) own.decoded match);
    }

-- none of the replica's attempts has another token at this byte
pub none_other : (t : Trace) (e place : ℕ) (s : Settling) (n : ℕ) → s ≡ settling t e → length s.numbers ≤ n
    → ((m : ℕ) → 1 ≤ m → m ≤ n → IsDueAt t e place m) → ¬ StandsInTokens code.Token t e place
none_other t e place s n is whole all stands = by stands.n stands.item stands.is stands.offset stands.holds
  where
    by : (m : ℕ) (p : Placed) → committed_at t e m ≡ Some p → p.offset ≡ place → p.attempt.token ≢ due_token t e p → ⊥
    by zero p at offset other = none≢some p at
    by (suc m) p at offset other =
        let there = committed_settled t e (suc m) p s is at in
        other (all (suc m) (omega arith) (omega (arith, there, whole)) p at offset)
