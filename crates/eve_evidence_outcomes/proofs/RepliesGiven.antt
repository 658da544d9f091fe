-- Attempts that gave a reply, one after another.
use Rattle.std.proofs.Common.{◌≡◌, ◌≢◌, ℕ, ◌+◌, ◌<◌, ◌≤◌, length, slice_get, Some, sym, ap, subst}
use Rattle.std.proofs.Common.{◌∙◌}
use Rattle.std.proofs.Common.{inl, inr, arith}
use Rattle.std.proofs.lemmas.Bool.{cases_lt}
use Rattle.std.proofs.lemmas.Option.{same_Some, slice_get_within}
use Rattle.eve_smallbank.specs.declared.request.Reply.{Reply}
use Rattle.eve_history.specs.SectionHistory.{ExecutedAttempt, SectionHistory}
use Rattle.eve_evidence.specs.declared.evidence.GivenBy.{GivenBy}
use Rattle.eve_evidence_outcomes.specs.Given.{GaveReply}

module _ (h : SectionHistory) (seq index : ℕ) (reply : Reply) (i : ℕ) (r : ExecutedAttempt)
    (is : slice_get h.attempts i ≡ Some r) where
  -- an attempt of another batch gave none
  pub of_another : r.attempt.seq ≢ seq → (g : GivenBy) → ¬ GaveReply h seq index reply i g
  of_another apart g gave =
      apart (ap (λ (x : ExecutedAttempt). x.attempt.seq) (same_Some r gave.item (sym is ∙ gave.is)) ∙ gave.seq_is)

  -- nor one with another reply
  pub otherwise : (slice_get r.attempt.replies index ≡ Some reply → ⊥) → (g : GivenBy)
      → ¬ GaveReply h seq index reply i g
  otherwise apart g gave =
      apart (ap (λ (x : ExecutedAttempt). slice_get x.attempt.replies index)
      (same_Some r gave.item (sym is ∙ gave.is)) ∙ gave.reply_is)

-- none of the first attempts gave it
abbrev pub NoneGave : SectionHistory → ℕ → ℕ → Reply → ℕ → Type 0
NoneGave h seq index reply n = (k : ℕ) (g : GivenBy) → k < n → ¬ GaveReply h seq index reply k g

pub none_more : (h : SectionHistory) (seq index : ℕ) (reply : Reply) (n : ℕ) → NoneGave h seq index reply n
    → ((g : GivenBy) → ¬ GaveReply h seq index reply n g) → NoneGave h seq index reply (n + 1)
none_more h seq index reply n none not k g lt gave = elim (cases_lt k n) [
  | inl less ↦ none k g less gave
  | inr more ↦ (let same : k ≡ n = omega arith in
      not g (subst (λ (j : ℕ). GaveReply h seq index reply j g) same gave))
]

-- and of all of them none
pub none_of_all : (h : SectionHistory) (seq index : ℕ) (reply : Reply) (n : ℕ) → length h.attempts ≤ n
    → NoneGave h seq index reply n → (k : ℕ) (g : GivenBy) → ¬ GaveReply h seq index reply k g
none_of_all h seq index reply n whole none k g gave =
    none k g (let there = slice_get_within h.attempts k gave.item gave.is in omega (arith, there, whole)) gave
