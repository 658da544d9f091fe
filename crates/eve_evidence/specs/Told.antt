-- Attempts, states, replies sent, requests and rows, as they are told. docs/MODEL.md, "Trace".
use Rattle.std.specs.Prelude.{◌≡◌, ℕ, ◌/◌, List, [], slice_index_or}
use Rattle.eve_grammar.specs.Trace.{Asked, Attempt, Sent, Transfer, Trace, no_request}
use Rattle.eve_grammar.specs.Bodies.{borrowed_asked}
use Rattle.eve_history.specs.Section.{Placed, SectionState, batch_at, path_of}
use Rattle.eve_history.specs.SectionHistory.{names_of}
use Rattle.eve_evidence.specs.declared.evidence.ToldAttempt.{ToldAttempt}
use Rattle.eve_evidence.specs.declared.evidence.ToldRequest.{ToldRequest}
use Rattle.eve_evidence.specs.declared.evidence.ToldRow.{ToldRow}
use Rattle.eve_evidence.specs.declared.evidence.ToldSent.{ToldSent}
use Rattle.eve_evidence.specs.declared.evidence.ToldTransfer.{ToldTransfer}

-- an attempt whose frame stands at this offset
abbrev pub told_attempt : ℕ → Attempt → ToldAttempt
told_attempt at a = record { batch = a.seq; view = a.view; serial = a.serial; at = at }

-- a state that was transferred, whose frame stands at this offset
abbrev pub told_transfer : ℕ → Transfer → ToldTransfer
told_transfer at x = record { batch = x.seq; view = x.view; at = at }

-- a reply that was sent
abbrev pub told_sent : Sent → ToldSent
told_sent s = record { client = s.client; number = s.number; replica = s.replica; batch = s.seq; reply = s.reply }

-- the request with this index of the batch with this number
abbrev pub request_in : Trace → ℕ → ℕ → Asked
request_in t seq index = slice_index_or (batch_at t seq).requests index no_request

-- that request is told
pub record IsToldRequest (t : Trace) (seq index : ℕ) (r : ToldRequest) : Type 0 where
  pub index_is : r.index ≡ index
  pub batch_is : r.batch ≡ seq
  pub asked_is : borrowed_asked r.asked ≡ request_in t seq index

-- the name of the customer whose row this is
abbrev pub row_name : Trace → ℕ → List ℕ
row_name t row = slice_index_or (names_of t) (row / 2) []

-- that row is told
pub record IsToldRow (t : Trace) (row : ℕ) (r : ToldRow) : Type 0 where
  pub row_is : r.row ≡ row
  pub name_is : r.name.now ≡ row_name t row

-- an attempt as it comes where its section has come to this
abbrev pub placed_in : SectionState → ℕ → Attempt → Placed
placed_in s at a = record { offset = at; attempt = a; path = path_of s }
