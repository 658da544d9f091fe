-- A trace: its header, and its parts in the grammar's order. What the grammar numbers is the place in a list here.
-- docs/MODEL.md, "Trace".
use Rattle.std.specs.Prelude.{ℕ, ℤ, Bool, List, [], ◌∷◌, length, slice_index_or}
use Rattle.std.specs.List.{flat_map}
use Rattle.eve_smallbank.specs.SmallBank.{Request, Balance}
use Rattle.eve_smallbank.specs.declared.request.Reply.{Reply}
use Rattle.eve_smallbank.specs.declared.entry.Entry.{Entry}
use Rattle.eve_smallbank.specs.declared.versioned.Versioned.{Versioned}
use Rattle.eve_grammar.specs.declared.head.Head.{Head}
use Rattle.eve_grammar.specs.declared.restore.Restore.{Restore}

-- a customer's name and opening balances
pub record Customer : Type 0 where
  pub name : List ℕ
  pub saving : ℤ
  pub checking : ℤ

-- the opening balances of customers, row by row
abbrev pub opening_rows : List Customer → List ℤ
opening_rows customers = flat_map (λ c. c.saving ∷ c.checking ∷ []) customers

-- a request of a client, under the client's number for it
pub record Asked : Type 0 where
  pub client : ℕ
  pub number : ℕ
  pub request : Request

-- what tells one request from another: the client, and the client's number for it
abbrev pub RequestId : Type 0
RequestId = ℕ × ℕ

abbrev pub request_id : Asked → RequestId
request_id a = (a.client, a.number)

-- what stands where no request does
abbrev pub no_request : Asked
no_request = record { client = 0; number = 0; request = Balance [] }

-- the sizes of its parallelBatches, and the requests of one after another
pub record Batch : Type 0 where
  pub sizes : List ℕ
  pub requests : List Asked

-- the request with this index in its batch
abbrev pub request_with : Batch → ℕ → Request
request_with b index = (slice_index_or b.requests index no_request).request

-- what a worker noted of the request with this index
pub record Access : Type 0 where
  pub worker : ℕ
  pub place : ℕ
  pub index : ℕ
  pub entries : List Entry

-- an execution of a batch; replies go by request index
pub record Attempt : Type 0 where
  pub seq : ℕ
  pub view : ℕ
  pub serial : Bool
  pub certificate : List ℕ
  pub replies : List Reply
  pub token : List ℕ
  pub accesses : List Access

-- the first open attempt is committed
pub record Commit : Type 0 where
  pub seq : ℕ
  pub view : ℕ
  pub token : List ℕ

-- the replica goes back to this number and on in the next view
pub record Rollback : Type 0 where
  pub to : ℕ
  pub view : ℕ
  pub restores : List Restore

-- a state that was transferred to the replica, row by row: what this batch left, as it was committed in this view
pub record Transfer : Type 0 where
  pub seq : ℕ
  pub view : ℕ
  pub rows : List Versioned

-- what a replica did, one thing after another
pub data Step : Type 0 where
  Attempts : Attempt → Step
  Commits : Commit → Step
  RollsBack : Rollback → Step
  Transfers : Transfer → Step

-- what a vote is for
pub data Choice : Type 0 where
  ForRollback : Choice
  ForCommit : (token : List ℕ) → Choice

-- a verifier's vote on a batch in a view
pub record Vote : Type 0 where
  pub seq : ℕ
  pub view : ℕ
  pub choice : Choice

-- a reply that a replica sent to a client
pub record Sent : Type 0 where
  pub client : ℕ
  pub number : ℕ
  pub replica : ℕ
  pub seq : ℕ
  pub reply : Reply

-- sections go by replica, votes by verifier
pub record Trace : Type 0 where
  pub head : Head
  pub customers : List Customer
  pub batches : List Batch
  pub sections : List (List Step)
  pub verifiers : List (List Vote)
  pub sent : List Sent

-- The header that counts these parts. Where bytes spell the trace, it is its own.
abbrev pub head_of : Trace → Head
head_of t =
    record t.head {
      replicas = length t.sections;
      verifiers = length t.verifiers;
      customers = length t.customers;
      batches = length t.batches;
    }
