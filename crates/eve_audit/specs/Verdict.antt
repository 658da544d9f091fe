-- The verdict on bytes. docs/MODEL.md, "Verdict".
use Rattle.std.specs.Prelude.{◌≡◌, ℕ, ◌<◌, ◌≤◌, List, length}
use Rattle.eve_grammar.specs.Trace.{Trace}
use Rattle.eve_grammar.specs.FrameOrder.{Spells}
use Rattle.eve_views.specs.Form.{Precedes, StandsInForm, IsFaultOutside, IsFaultIn}
use Rattle.eve_views.specs.declared.fault.Fault.{Fault}
use Rattle.eve_history.specs.SectionHistory.{history}
use Rattle.eve_history.specs.Order.{StandsInOrders}
use Rattle.eve_history.specs.Structure.{StandsInStructure}
use Rattle.eve_audit.specs.Audited.{IsAudited}
use Rattle.eve_audit.specs.declared.verdict.Summary.{Summary}
use Rattle.eve_audit.specs.declared.verdict.Verdict.{Verdict}
use Rattle.eve_audit.specs.declared.verdict.Verdict.TheVariants.{Yes, No}
use Rattle.eve_chains.specs.Faults.{StandsInRecords, StandsInChains}
use Rattle.eve_agree.specs.Restores.{StandsInRestores}
use Rattle.eve_agree.specs.SentReplies.{StandsInReplies}
use Rattle.eve_agree.specs.Majority.{StandsInMajorities}
use Rattle.eve_agree.specs.Agreement.{StandsInAgreement}
use Rattle.eve_agree.specs.DueTokens.{StandsInTokens}
use Rattle.eve_votes.specs.Faults.{StandsInVotes}

-- a fault of replica e's own, judged by the header, the customers, the batches and its section alone
pub data IsOwnFault (t : Trace) (e : ℕ) (f : Fault) : Type 0 where
  of_structure : IsFaultIn StandsInStructure t e f → IsOwnFault t e f
  of_records : IsFaultIn StandsInRecords t e f → IsOwnFault t e f
  of_chains : IsFaultIn StandsInChains t e f → IsOwnFault t e f
  of_restores : IsFaultIn StandsInRestores t e f → IsOwnFault t e f
  of_tokens : IsFaultIn StandsInTokens t e f → IsOwnFault t e f

-- a fault of a phase that judges all replicas together
pub data IsCommonFault (t : Trace) (f : Fault) : Type 0 where
  of_votes : IsFaultOutside StandsInVotes t f → IsCommonFault t f
  of_majorities : (e : ℕ) × IsFaultIn StandsInMajorities t e f → IsCommonFault t f
  of_agreement : (e : ℕ) × IsFaultIn StandsInAgreement t e f → IsCommonFault t f
  of_replies : IsFaultOutside StandsInReplies t f → IsCommonFault t f

-- a fault of any phase but that of form
pub data IsTraceFault (t : Trace) (f : Fault) : Type 0 where
  in_orders : IsFaultOutside StandsInOrders t f → IsTraceFault t f
  in_section : (e : ℕ) × (e < length t.sections) × IsOwnFault t e f → IsTraceFault t f
  in_common : IsCommonFault t f → IsTraceFault t f

-- a fault stands: one of form in the bytes, any other in the trace that they spell
pub data Stands (bytes : List ℕ) (f : Fault) : Type 0 where
  in_form : IsFaultOutside StandsInForm bytes f → Stands bytes f
  in_trace : (t : Trace) → Spells bytes t → IsTraceFault t f → Stands bytes f

-- the first of the faults that stand: of the earliest phase, there at the lowest byte, and there of the lowest code
pub record IsFirst (bytes : List ℕ) (f : Fault) : Type 0 where
  pub stands : Stands bytes f
  pub first : (g : Fault) → Stands bytes g → Precedes f g

-- how many replicas and batches there are, and the least, over the replicas, of the last number that each reached
pub record IsSummary (t : Trace) (s : Summary) : Type 0 where
  pub replicas : s.replicas ≡ length t.sections
  pub batches : s.batches ≡ length t.batches
  pub least : (e : ℕ) → e < length t.sections → s.committed ≤ (history t e).last
  pub reached : (e : ℕ) × (e < length t.sections) × ((history t e).last ≡ s.committed)

-- the first fault, or yes where the bytes are a trace and no fault stands
abbrev pub IsVerdict : List ℕ → Verdict → Type 0
IsVerdict bytes (Yes s) = (t : Trace) × Spells bytes t × ((f : Fault) → ¬ Stands bytes f) × IsSummary t s
IsVerdict bytes (No f) = IsFirst bytes f

-- the bytes are a trace that is audited
abbrev pub SpellsAudited : List ℕ → Type 0
SpellsAudited bytes = (t : Trace) × Spells bytes t × IsAudited t
