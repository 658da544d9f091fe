-- A token that another replica's attempt of the batch shows to be due.
use Rattle.std.proofs.Common.{◌≡◌, ℕ, ℤ, List, Some, sym, subst, ◌∙◌}
use Rattle.std.proofs.lemmas.Option.{same_Some}
use Rattle.eve_grammar.specs.Trace.{Attempt, Trace}
use Rattle.eve_token.specs.Token.{token_of}
use Rattle.eve_history.specs.Section.{Placed}
use Rattle.eve_history.specs.SectionHistory.{ExecutedAttempt, SectionHistory, section_history}
use Rattle.eve_history.specs.SectionHistory.{IsRightSection}
use Rattle.eve_chains.specs.Committed.{values_to}
use Rattle.eve_chains.specs.CommittedValues.{Settling, settling, values_in}
use Rattle.eve_agree.specs.ByNumber.{told_at}
use Rattle.eve_agree.specs.inner.NumbersJudged.{IsAfter}
use Rattle.eve_agree.specs.DueTokens.{due_token, TokensAreDue, IsDueIn}
use Rattle.eve_agree.proofs.JoinedStretches.{IsOfBatch, of_batch, batch_due}

-- what was read of replica e's attempt of batch n, and the balances after it
pub record IsReadOf (t : Trace) (e n offset : ℕ) (decoded : Attempt) (b : List ℤ) : Type 0 where
  pub of : IsOfBatch t e n offset decoded
  pub due : token_of t.head.version decoded.seq b decoded.replies ≡ due_token t e of.item
  pub seq : decoded.seq ≡ n

number_read : (t : Trace) (e n offset : ℕ) (decoded : Attempt) → IsOfBatch t e n offset decoded → decoded.seq ≡ n
number_read t e n offset decoded of = of.seq ∙ of.number

pub read_of : (t : Trace) (e n offset : ℕ) (decoded : Attempt) (h : SectionHistory) (s : Settling) (b : List ℤ)
    → h ≡ section_history t e → s ≡ settling t e → IsRightSection t e
    → ((m : ℕ) → values_in (settling t e) m ≡ values_to t e m)
    → (r : ExecutedAttempt) × (told_at h n ≡ Some r) × (offset ≡ r.offset) × (decoded ≡ r.attempt)
    → IsAfter s n b → IsReadOf t e n offset decoded b
read_of t e n offset decoded h s b is settled right law got after =
    let of = of_batch t e n offset decoded h is right got in
    record {
      of = of;
      due = batch_due t e n offset decoded b of (subst (λ (x : Settling). IsAfter x n b) settled after) law;
      seq = number_read t e n offset decoded of;
    }

-- replica f's attempt has its due token
token_due : (t : Trace) (f n offset : ℕ) (decoded : Attempt) (b : List ℤ) → IsReadOf t f n offset decoded b
    → TokensAreDue t f → decoded.token ≡ token_of t.head.version decoded.seq b decoded.replies
token_due t f n offset decoded b read due = read.of.token ∙ due n read.of.item read.of.at ∙ sym read.due

-- where replica f has its due token, replica e has its own, if both are one and what it is made of is the same
pub shown : (t : Trace) (e f n o q : ℕ) (decoded other : Attempt) (b c : List ℤ)
    → IsReadOf t e n o decoded b → IsReadOf t f n q other c → TokensAreDue t f
    → decoded.token ≡ other.token → decoded.replies ≡ other.replies → b ≡ c → IsDueIn t e n
shown t e f n o q decoded other b c own its due same replies balances p at =
    let here : p ≡ own.of.item = same_Some p own.of.item (sym at ∙ own.of.at) in
    let token : decoded.token ≡ token_of t.head.version decoded.seq b decoded.replies =
    same ∙ token_due t f n q other c its due
    ∙ (λ k. token_of t.head.version ((its.seq ∙ sym own.seq) k) (sym balances k) (sym replies k)) in
    subst (λ (x : Placed). x.attempt.token ≡ due_token t e x) (sym here) (sym own.of.token ∙ token ∙ own.due)
