-- What is found replica by replica, and of all replicas together. docs/MODEL.md, "Verdict".
use Rattle.std.specs.Prelude.{◌≡◌, ℕ, ◌<◌, ◌≤◌, ◌-◌, ◌^◌, ◌⊎◌, List, map, take, Option, Some, None}
use Rattle.eve_grammar.specs.Trace.{Trace}
use Rattle.eve_grammar.specs.Frames.{sections_of}
use Rattle.eve_views.specs.declared.fault.Fault.{Fault}
use Rattle.eve_views.specs.Form.{Precedes, HasNone, IsFaultIn}
use Rattle.eve_history.specs.SectionHistory.{SectionHistory, section_history, history, IsRightSection}
use Rattle.eve_history.specs.Structure.{StandsInStructure}
use Rattle.eve_chains.specs.Faults.{HasNoFault}
use Rattle.eve_agree.specs.Restores.{StandsInRestores}
use Rattle.eve_chains.specs.Sound.{SettledAreSound}
use Rattle.eve_chains.specs.CommittedValues.{Settling, settling}
use Rattle.eve_agree.specs.Tables.{RestoresAreRight}
use Rattle.eve_agree.specs.DueTokens.{TokensAreDue}
use Rattle.eve_votes.specs.Faults.{AreVotesSound}
use Rattle.eve_agree.specs.Majority.{AllAreBacked}
use Rattle.eve_agree.specs.Agreement.{ReplicasAgree}
use Rattle.eve_agree.specs.SentReplies.{AllReplied}
use Rattle.eve_audit.specs.declared.replicas.Report.{Report}
use Rattle.eve_audit.specs.Verdict.{IsOwnFault}

-- of some faults the one that precedes every other
pub record IsFirstOf (S : Fault → Type 0) (f : Fault) : Type 0 where
  pub is : S f
  pub first : (g : Fault) → S g → Precedes f g

-- ---- replica by replica

-- what holds of a replica that has no fault of its own
pub record IsSoundReplica (t : Trace) (e : ℕ) : Type 0 where
  pub right : IsRightSection t e
  pub sound : SettledAreSound t e
  pub restores : RestoresAreRight t e
  pub tokens : TokensAreDue t e

-- the report of a replica that has no fault of its own: what its section tells, and what it committed
pub record IsReportOf (t : Trace) (e : ℕ) (report : Report) : Type 0 where
  pub history : report.history ≡ section_history t e
  pub settled : report.settled ≡ settling t e
  pub sound : IsSoundReplica t e
  pub none : HasNone (IsOwnFault t e)

-- what holds of a replica that has no fault of its own but for those of tokens, and which faults it hasn't
pub record IsSoundBeforeTokens (t : Trace) (e : ℕ) : Type 0 where
  pub right : IsRightSection t e
  pub sound : SettledAreSound t e
  pub restores : RestoresAreRight t e
  pub structure : HasNone (IsFaultIn StandsInStructure t e)
  pub settled : HasNoFault t e
  pub rollbacks : HasNone (IsFaultIn StandsInRestores t e)

-- the report of such a replica
pub record IsReportBeforeTokens (t : Trace) (e : ℕ) (report : Report) : Type 0 where
  pub history : report.history ≡ section_history t e
  pub settled : report.settled ≡ settling t e
  pub sound : IsSoundBeforeTokens t e

-- a fault that a replica below n has of its own
abbrev pub IsFaultBelow : Trace → ℕ → Fault → Type 0
IsFaultBelow t n f = (e : ℕ) × (e < n) × IsOwnFault t e f

-- the first of the faults that the replicas below n have of their own, if there is one
abbrev pub IsFoundBelow : Trace → ℕ → Option Fault → Type 0
IsFoundBelow t n (Some f) = IsFirstOf (IsFaultBelow t n) f
IsFoundBelow t n None = HasNone (IsFaultBelow t n)

-- what the replicas below n tell, and what they committed, in their order; all of them are sound
pub record AreKept (t : Trace) (n : ℕ) (told : List SectionHistory) (wrote : List Settling) : Type 0 where
  pub histories : told ≡ map (λ s. section_history t s.0) (take n (sections_of t))
  pub settled : wrote ≡ map (λ s. settling t s.0) (take n (sections_of t))
  pub sound : (e : ℕ) → e < n → IsSoundReplica t e

-- replica e's last committed number
abbrev pub last_of : Trace → ℕ → ℕ
last_of t e = (history t e).last

-- the least last committed number of the replicas below n, and the greatest of 32 bits where there is none
pub record IsLeastBelow (t : Trace) (n c : ℕ) : Type 0 where
  pub least : (e : ℕ) → e < n → c ≤ last_of t e
  pub reached : ((n ≡ 0) × (c ≡ 2 ^ 32 - 1)) ⊎ ((e : ℕ) × (e < n) × (last_of t e ≡ c))

-- what was found in the replicas below n; and where that is nothing, what was kept of them
pub record IsJudgedBelow (t : Trace) (n : ℕ) (first : Option Fault) (told : List SectionHistory) (wrote : List Settling)
    (committed : ℕ) : Type 0 where
  pub found : IsFoundBelow t n first
  pub kept : first ≡ None → AreKept t n told wrote
  pub least : first ≡ None → IsLeastBelow t n committed

-- ---- all replicas together

-- what holds where no fault of theirs stands
pub record IsSoundTogether (t : Trace) : Type 0 where
  pub votes : AreVotesSound t
  pub backed : AllAreBacked t
  pub agree : ReplicasAgree t
  pub replied : AllReplied t

-- what holds where no fault stands of a phase before that of agreement
pub record IsSoundToAgreement (t : Trace) : Type 0 where
  pub replicas : (e : ℕ) → IsSoundReplica t e
  pub votes : AreVotesSound t
  pub backed : AllAreBacked t
