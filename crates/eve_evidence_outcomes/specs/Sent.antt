-- What shows that a reply that was sent was not committed. docs/MODEL.md, "Sent replies" and "Evidence".
use Rattle.std.specs.Prelude.{◌≡◌, ◌≢◌, ℕ, List, Option, Some, None, slice_get, slice_index_or, option_map}
use Rattle.std.specs.List.{AllByRecursion}
use Rattle.eve_smallbank.specs.declared.request.Reply.{Reply}
use Rattle.eve_smallbank.specs.declared.request.Reply.TheVariants.{Done}
use Rattle.eve_grammar.specs.Trace.{Asked, RequestId, Sent, Trace, request_id}
use Rattle.eve_grammar.specs.Bodies.{borrowed_asked}
use Rattle.eve_grammar.specs.Spelling.{sent_at}
use Rattle.eve_views.specs.Form.{SomePlace}
use Rattle.eve_history.specs.Section.{Placed, batch_at}
use Rattle.eve_history.specs.SectionHistory.{committed_at, section_history}
use Rattle.eve_evidence.specs.declared.evidence.ToldRequest.{ToldRequest}
use Rattle.eve_evidence.specs.declared.evidence.SentFault.{SentFault}
use Rattle.eve_evidence.specs.declared.evidence.SentFault.TheVariants.{NoRequest, NotCommitted, Another}
use Rattle.eve_evidence.specs.declared.evidence.Evidence.{Evidence}
use Rattle.eve_evidence.specs.declared.evidence.Evidence.TheVariants as shown
use Rattle.eve_evidence.specs.declared.evidence.GivenBy.{GivenBy}
use Rattle.eve_evidence.specs.Told.{IsToldRequest, told_sent}
use Rattle.eve_evidence_outcomes.specs.Given.{TellsGiven}

-- none of the requests has this client and number
abbrev pub NoneHas : RequestId → List Asked → Type 0
NoneHas id requests = AllByRecursion (λ r. request_id r ≢ id) requests

-- the request with this index has them
abbrev pub HasAt : RequestId → List Asked → ℕ → Type 0
HasAt id requests index = option_map request_id (slice_get requests index) ≡ Some id

-- The replica committed the batch, but not with this reply to the request that the sent reply answers.
pub record IsOtherReply (t : Trace) (s : Sent) (r : ToldRequest) (due : Reply) : Type 0 where
  pub request_is : IsToldRequest t s.seq r.index r
  pub answers : HasAt (s.client, s.number) (batch_at t s.seq).requests r.index
  pub placed : Placed
  pub committed : committed_at t s.replica s.seq ≡ Some placed
  pub due_is : due ≡ slice_index_or placed.attempt.replies r.index Done
  pub other : slice_get placed.attempt.replies r.index ≢ Some s.reply

-- the first thing that is wrong with the reply that was sent
abbrev pub TellsSent : Trace → Sent → SentFault → Type 0
TellsSent t s NoRequest = NoneHas (s.client, s.number) (batch_at t s.seq).requests
TellsSent t s NotCommitted =
    ((i : ℕ) × HasAt (s.client, s.number) (batch_at t s.seq).requests i) × (committed_at t s.replica s.seq ≡ None)
TellsSent t s (Another request due) = IsOtherReply t s request due

-- the first attempt of its replica that gave it to the request that it answers, and wasn't committed
abbrev pub TellsGivenReply : Trace → Sent → SentFault → Option GivenBy → Type 0
TellsGivenReply t s NoRequest given = given ≡ None
TellsGivenReply t s NotCommitted given =
    (i : ℕ) × HasAt (s.client, s.number) (batch_at t s.seq).requests i
    × TellsGiven (section_history t s.replica) s.seq i s.reply given
TellsGivenReply t s (Another request due) given =
    TellsGiven (section_history t s.replica) s.seq request.index s.reply given

-- the evidence is of this reply, and tells it
abbrev pub TellsSentIn : Trace → Sent → Evidence → Type 0
TellsSentIn t s (shown.Reply sent wrong given) =
    (sent ≡ told_sent s) × TellsSent t s wrong × TellsGivenReply t s wrong given
TellsSentIn t s _ = ⊥

-- The evidence shows that the reply sent at this byte was not committed.
abbrev pub TellsReply : Trace → ℕ → Evidence → Type 0
TellsReply t place evidence = SomePlace (sent_at t) (λ _ s. (s.0 ≡ place) × TellsSentIn t s.1 evidence)

-- ---- a request that was looked for

-- the request that is told is one of these, at its index, with this client and number
pub record IsFoundRequest (id : RequestId) (requests : List Asked) (r : ToldRequest) : Type 0 where
  pub there : slice_get requests r.index ≡ Some (borrowed_asked r.asked)
  pub has : request_id (borrowed_asked r.asked) ≡ id
