-- The trace that frames make up. docs/MODEL.md, "Trace".
use Rattle.std.specs.Prelude.{◌≡◌, List, [], ◌∷◌}
use Rattle.eve_grammar.specs.Trace.{Customer, Batch, Access, Step, Attempts, Commits, RollsBack, Transfers, Vote}
use Rattle.eve_grammar.specs.Trace.{Sent, Trace}
use Rattle.eve_grammar.specs.Frames.{Frame, OfCustomer, OfBatch, OfReplica, OfAttempt, OfAccess, OfCommit, OfRollback}
use Rattle.eve_grammar.specs.Frames.{OfTransfer, OfVerifier, OfVote, OfSent, End, frames_of}
use Rattle.eve_grammar.specs.declared.head.Head.{Head}

-- What frames say: whole parts of a trace, and what belongs to a frame that stands before them,
-- accesses to an attempt, steps to a replica, votes to a verifier.
pub record Gathered : Type 0 where
  pub customers : List Customer
  pub batches : List Batch
  pub accesses : List Access
  pub steps : List Step
  pub sections : List (List Step)
  pub votes : List Vote
  pub verifiers : List (List Vote)
  pub sent : List Sent

-- of no frames
abbrev pub nothing : Gathered
nothing = record {
  customers = [];
  batches = [];
  accesses = [];
  steps = [];
  sections = [];
  votes = [];
  verifiers = [];
  sent = [];
}

-- with one more frame, which stands before them
abbrev pub gather : Frame → Gathered → Gathered
gather (OfCustomer c) g = record g { customers = c ∷ g.customers }
gather (OfBatch number b) g = record g { batches = b ∷ g.batches }
gather (OfReplica number) g = record g { sections = g.steps ∷ g.sections; steps = [] }
gather (OfAttempt a) g = record g { steps = Attempts (record a { accesses = g.accesses }) ∷ g.steps; accesses = [] }
gather (OfAccess x) g = record g { accesses = x ∷ g.accesses }
gather (OfCommit c) g = record g { steps = Commits c ∷ g.steps }
gather (OfRollback r) g = record g { steps = RollsBack r ∷ g.steps }
gather (OfTransfer x) g = record g { steps = Transfers x ∷ g.steps }
gather (OfVerifier number) g = record g { verifiers = g.votes ∷ g.verifiers; votes = [] }
gather (OfVote v) g = record g { votes = v ∷ g.votes }
gather (OfSent s) g = record g { sent = s ∷ g.sent }
gather End g = g

-- what all of them say, gathered from the last to the first
abbrev pub gathered : List Frame → Gathered
gathered [] = nothing
gathered (f ∷ fs) = gather f (gathered fs)

-- the header and the whole parts
abbrev pub headed : Head → Gathered → Trace
headed h g = record {
  head = h;
  customers = g.customers;
  batches = g.batches;
  sections = g.sections;
  verifiers = g.verifiers;
  sent = g.sent;
}

-- the trace that frames make up under this header; what belongs to no frame before it is left out
unfoldable pub trace_of : Head → List Frame → Trace
trace_of h fs = headed h (gathered fs)

-- the trace has this header and these frames
pub record IsMadeOf (h : Head) (fs : List Frame) (t : Trace) : Type 0 where
  pub head : t.head ≡ h
  pub frames : frames_of t ≡ fs
