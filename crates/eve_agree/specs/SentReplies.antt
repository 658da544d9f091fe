-- Replies sent that no committed attempt gave. docs/MODEL.md, "Sent replies".
use Rattle.std.specs.Prelude.{◌≡◌, ◌<◌, ◌≤◌, ℕ, Some, length, slice_get, option_map}
use Rattle.std.specs.List.{AllByRecursion}
use Rattle.eve_grammar.specs.Trace.{Sent, Trace, request_id}
use Rattle.eve_grammar.specs.Spelling.{sent_at}
use Rattle.eve_views.specs.declared.fault.Code.{Code}
use Rattle.eve_views.specs.declared.fault.Code.TheVariants as code
use Rattle.eve_views.specs.Form.{SomePlace}
use Rattle.eve_history.specs.Section.{Placed, batch_at}
use Rattle.eve_history.specs.SectionHistory.{committed_at}

-- the replica committed the batch, and by its attempt the client's request has this reply
-- Where it isn't so, F90 Reply stands.
pub record IsReplied (t : Trace) (s : Sent) : Type 0 where
  pub placed : Placed
  pub index : ℕ
  pub committed : committed_at t s.replica s.seq ≡ Some placed
  pub request : option_map request_id (slice_get (batch_at t s.seq).requests index) ≡ Some (s.client, s.number)
  pub reply : slice_get placed.attempt.replies index ≡ Some s.reply

-- each reply that was sent is one that its replica committed
abbrev pub AllReplied : Trace → Type 0
AllReplied t = AllByRecursion (IsReplied t) t.sent

-- a fault of replies stands at this offset
abbrev pub StandsInReplies : Code → Trace → ℕ → Type 0
StandsInReplies code.Reply t at = SomePlace (sent_at t) (λ _ s. (s.0 ≡ at) × ¬ IsReplied t s.1)
StandsInReplies _ t at = ⊥

-- the replies at these places were committed, from one place on up to another
abbrev pub AreReplied : Trace → ℕ → ℕ → Type 0
AreReplied t from to = (k : ℕ) (s : Sent) → from ≤ k → k < to → slice_get t.sent k ≡ Some s → IsReplied t s

-- the reply at this place wasn't, and is the first such from a place on
pub record IsFirstUnreplied (t : Trace) (from place : ℕ) : Type 0 where
  pub there : place < length t.sent
  pub before : AreReplied t from place
  pub not : (s : Sent) → slice_get t.sent place ≡ Some s → ¬ IsReplied t s
