-- A verdict, and what shows it. docs/MODEL.md, "Evidence".
use Rattle.std.specs.Prelude.{◌≡◌, ℕ, Bool, true, false, IsTrue, List, Some}
use Rattle.eve_grammar.specs.Trace.{Trace}
use Rattle.eve_grammar.specs.FrameOrder.{Spells}
use Rattle.eve_views.specs.declared.fault.Code.{Code}
use Rattle.eve_views.specs.declared.fault.Code.TheVariants as code
use Rattle.eve_views.specs.declared.fault.Fault.{Fault}
use Rattle.eve_audit.specs.declared.verdict.Verdict.{Verdict}
use Rattle.eve_audit.specs.declared.verdict.Verdict.TheVariants as verdict
use Rattle.eve_evidence.specs.declared.evidence.Evidence.{Evidence}
use Rattle.eve_evidence.specs.declared.evidence.Evidence.TheVariants.{TwoVotes}
use Rattle.eve_evidence.specs.Section.{TellsAlong}
use Rattle.eve_evidence_form.specs.Form.{TellsForm}
use Rattle.eve_evidence_form.specs.Orders.{TellsTwice}
use Rattle.eve_evidence_outcomes.specs.Counts.{AreTraceCounts}
use Rattle.eve_evidence_outcomes.specs.Majority.{TellsMajority}
use Rattle.eve_evidence_outcomes.specs.Decisions.{TellsTwoDecisions}
use Rattle.eve_evidence_outcomes.specs.Outcome.{TellsOutcome}
use Rattle.eve_evidence_outcomes.specs.Outcomes.{TellsState}
use Rattle.eve_evidence_outcomes.specs.Restore.{TellsRestore}
use Rattle.eve_evidence_outcomes.specs.SecondVote.{IsVotedAgain}
use Rattle.eve_evidence_outcomes.specs.Sent.{TellsReply}
use Rattle.eve_evidence_outcomes.specs.Token.{TellsToken}
use Rattle.eve_explain.specs.declared.explained.Explained.{Explained}
use Rattle.eve_explain.specs.declared.explained.Explained.TheVariants.{Yes, No}

-- the verdict that is explained
abbrev pub verdict_in : Explained → Verdict
verdict_in (Yes s counts) = verdict.Yes s
verdict_in (No f evidence) = verdict.No f

-- the codes of structure, records and chains: what shows them is found along one replica's section
abbrev pub is_told_along : Code → Bool
is_told_along code.Attempt = true
is_told_along code.Certificate = true
is_told_along code.Access = true
is_told_along code.WorkerOrder = true
is_told_along code.Commit = true
is_told_along code.Rollback = true
is_told_along code.Transfer = true
is_told_along code.Record = true
is_told_along code.Version = true
is_told_along code.Value = true
is_told_along _ = false

-- the evidence of a vote that isn't its verifier's first there: what it says, and the first
abbrev pub TellsVotes : Trace → ℕ → Evidence → Type 0
TellsVotes t at (TwoVotes votes) = IsVotedAgain t at votes
TellsVotes t at _ = ⊥

-- the codes of a step that no majority voted for
abbrev pub is_of_majority : Code → Bool
is_of_majority code.NoMajority = true
is_of_majority code.RollbackNoMajority = true
is_of_majority code.TransferNoMajority = true
is_of_majority _ = false

-- the codes of what stands twice
abbrev pub is_of_orders : Code → Bool
is_of_orders code.SameName = true
is_of_orders code.SameRequest = true
is_of_orders _ = false

-- What the evidence of a fault tells, by the fault's code: of a fault of orders both places where one thing stands, of
-- any other what its own definition asks.
pub record IsEvidence (t : Trace) (f : Fault) (evidence : Evidence) : Type 0 where
  pub twice : IsTrue (is_of_orders f.code) → TellsTwice t f evidence
  pub along : IsTrue (is_told_along f.code) → (e : ℕ) → f.replica ≡ Some e → TellsAlong f.code t e f.offset evidence
  pub restore : f.code ≡ code.Restore → (e : ℕ) → f.replica ≡ Some e → TellsRestore t e f.offset evidence
  pub token : f.code ≡ code.Token → (e : ℕ) → f.replica ≡ Some e → TellsToken t e f.offset evidence
  pub votes : f.code ≡ code.TwoVotes → TellsVotes t f.offset evidence
  pub decisions : f.code ≡ code.TwoDecisions → TellsTwoDecisions t f.offset evidence
  pub majority : IsTrue (is_of_majority f.code) → (e : ℕ) → f.replica ≡ Some e
      → TellsMajority f.code t e f.offset evidence
  pub outcome : f.code ≡ code.Outcome → (e : ℕ) → f.replica ≡ Some e → TellsOutcome t e f.offset evidence
  pub state : f.code ≡ code.TransferBalances → (e : ℕ) → f.replica ≡ Some e → TellsState t e f.offset evidence
  pub reply : f.code ≡ code.Reply → TellsReply t f.offset evidence

-- The evidence of a fault of bytes: in the trace that they spell, or of form where they spell none.
pub record IsEvidenceOf (bytes : List ℕ) (f : Fault) (evidence : Evidence) : Type 0 where
  pub in_trace : (t : Trace) → Spells bytes t → IsEvidence t f evidence
  pub in_form : ((t : Trace) → ¬ Spells bytes t) → TellsForm bytes f evidence

-- a yes has the counts of the trace that the bytes spell, and a no the evidence of its fault
abbrev pub IsExplained : List ℕ → Explained → Type 0
IsExplained bytes (Yes s counts) = (t : Trace) → Spells bytes t → AreTraceCounts t counts
IsExplained bytes (No f evidence) = IsEvidenceOf bytes f evidence
