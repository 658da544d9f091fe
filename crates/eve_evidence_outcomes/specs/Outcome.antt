-- What shows that an outcome isn't the one that was committed first. docs/MODEL.md, "Agreement" and "Evidence".
use Rattle.std.specs.Prelude.{◌≡◌, ◌≢◌, ℕ, ◌<◌, List, slice_get, slice_index_or, Some}
use Rattle.eve_smallbank.specs.declared.request.Reply.{Reply}
use Rattle.eve_smallbank.specs.declared.request.Reply.TheVariants.{Done}
use Rattle.eve_grammar.specs.Trace.{Trace}
use Rattle.eve_history.specs.Section.{Placed}
use Rattle.eve_history.specs.SectionHistory.{committed_at}
use Rattle.eve_chains.specs.Committed.{balances_to}
use Rattle.eve_agree.specs.Agreement.{first_to_commit, HaveSameOutcome}
use Rattle.eve_evidence.specs.declared.evidence.ToldAttempt.{ToldAttempt}
use Rattle.eve_evidence.specs.declared.evidence.ToldRequest.{ToldRequest}
use Rattle.eve_evidence.specs.declared.evidence.OutcomeFault.{OutcomeFault}
use Rattle.eve_evidence.specs.declared.evidence.OutcomeFault.TheVariants as differs
use Rattle.eve_evidence.specs.declared.evidence.Evidence.{Evidence}
use Rattle.eve_evidence.specs.declared.evidence.Evidence.TheVariants as shown
use Rattle.eve_evidence.specs.Told.{told_attempt, IsToldRequest}
use Rattle.eve_evidence_outcomes.specs.Outcomes.{IsRowApart}

-- the first index at which two lists of replies differ
pub record IsFirstApart (own its : List Reply) (index : ℕ) : Type 0 where
  pub apart : slice_get own index ≢ slice_get its index
  pub first : (i : ℕ) → i < index → slice_get own i ≡ slice_get its i

-- the first request of the batch, by index, to which the replies differ, and its reply in the one and in the other
pub record IsReplyApart (t : Trace) (n : ℕ) (own its : List Reply) (request : ToldRequest) (found due : Reply)
    : Type 0 where
  pub request_is : IsToldRequest t n request.index request
  pub found_is : found ≡ slice_index_or own request.index Done
  pub due_is : due ≡ slice_index_or its request.index Done
  pub first : IsFirstApart own its request.index

-- what differs is a reply to the batch's requests, the first
abbrev pub IsReplyFault : Trace → ℕ → List Reply → List Reply → OutcomeFault → Type 0
IsReplyFault t n own its (differs.Row row found due) = ⊥
IsReplyFault t n own its (differs.Reply request found due) = IsReplyApart t n own its request found due

-- the first row whose balance after the batch differs between two replicas, or else, of these replies to it, the first
abbrev pub TellsOutcomeFault : Trace → ℕ → ℕ → ℕ → List Reply → List Reply → OutcomeFault → Type 0
TellsOutcomeFault t e f n own its (differs.Row row found due) =
    IsRowApart t (balances_to t e n) (balances_to t f n) row found due
TellsOutcomeFault t e f n own its (differs.Reply request found due) =
    (balances_to t e n ≡ balances_to t f n) × IsReplyApart t n own its request found due

-- The attempt at this byte, by which replica e committed a batch, differs in this from that of the lowest-numbered
-- replica that committed it.
pub record IsOtherOutcome (t : Trace) (e place : ℕ) (attempt : ToldAttempt) (first at : ℕ) (wrong : OutcomeFault)
    : Type 0 where
  pub n : ℕ
  pub placed : Placed
  pub committed : committed_at t e n ≡ Some placed
  pub place_is : placed.offset ≡ place
  pub attempt_is : attempt ≡ told_attempt placed.offset placed.attempt
  pub first_is : first_to_commit t n ≡ Some first
  pub its : Placed
  pub its_committed : committed_at t first n ≡ Some its
  pub at_is : at ≡ its.offset
  pub wrong_is : TellsOutcomeFault t e first n placed.attempt.replies its.attempt.replies wrong

-- the evidence is of an outcome, and tells it of the attempt at this byte
abbrev pub TellsOutcome : Trace → ℕ → ℕ → Evidence → Type 0
TellsOutcome t e place (shown.Outcome attempt first at wrong) = IsOtherOutcome t e place attempt first at wrong
TellsOutcome t e place _ = ⊥

-- the attempt by which replica e committed batch n, if it stands at this byte, has the outcome of the first
abbrev pub HasThatOfFirst : Trace → ℕ → ℕ → ℕ → Type 0
HasThatOfFirst t e place n = (p : Placed) → committed_at t e n ≡ Some p → p.offset ≡ place
    → (f : ℕ) × (first_to_commit t n ≡ Some f) × HaveSameOutcome t e f n
