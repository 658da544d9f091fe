-- Which attempt gave a reply that its replica didn't commit. docs/MODEL.md, "Evidence".
use Rattle.std.specs.Prelude.{◌≡◌, ℕ, ◌<◌, Bool, true, false, Option, Some, None, slice_get}
use Rattle.eve_smallbank.specs.declared.request.Reply.{Reply}
use Rattle.eve_history.specs.SectionHistory.{ExecutedAttempt, SectionHistory}
use Rattle.eve_history.specs.declared.fate.Fate.{Fate}
use Rattle.eve_history.specs.declared.fate.Fate.TheVariants.{Discarded, Open}
use Rattle.eve_evidence.specs.declared.evidence.GivenBy.{GivenBy}

-- what became of an attempt that wasn't committed, by whether it is open
abbrev pub left_as : Bool → Fate
left_as true = Open
left_as false = Discarded

-- The attempt at this place of a section is of the batch, wasn't committed, and has the reply to the request of the
-- index.
pub record GaveReply (h : SectionHistory) (seq index : ℕ) (reply : Reply) (i : ℕ) (g : GivenBy) : Type 0 where
  pub item : ExecutedAttempt
  pub is : slice_get h.attempts i ≡ Some item
  pub seq_is : item.attempt.seq ≡ seq
  pub reply_is : slice_get item.attempt.replies index ≡ Some reply
  pub fate_is : slice_get h.fates i ≡ Some (left_as g.open)
  pub at_is : g.at ≡ item.offset

-- the first such attempt, or there is none
abbrev pub TellsGiven : SectionHistory → ℕ → ℕ → Reply → Option GivenBy → Type 0
TellsGiven h seq index reply None = (i : ℕ) (g : GivenBy) → ¬ GaveReply h seq index reply i g
TellsGiven h seq index reply (Some given) =
    (i : ℕ) × GaveReply h seq index reply i given
    × ((k : ℕ) (g : GivenBy) → k < i → ¬ GaveReply h seq index reply k g)
