-- Faults of a replica's section as they stand at its steps, and what shows them. docs/MODEL.md, "Faults".
use Rattle.std.specs.Prelude.{◌≡◌, ◌≢◌, ℕ, IsFalse, List, ◌∷◌, ◌++◌, length, ◌⊎◌, ⊤, None, Some}
use Rattle.eve_smallbank.specs.Access.{Fits}
use Rattle.eve_grammar.specs.Trace.{Access, Attempt, Commit, Rollback, Step, Attempts, Commits, RollsBack, Transfers}
use Rattle.eve_grammar.specs.Trace.{Transfer, Trace}
use Rattle.eve_grammar.specs.Accesses.{is_right_place}
use Rattle.eve_grammar.specs.Spelling.{accesses_at, steps_at}
use Rattle.eve_views.specs.declared.fault.Code.{Code}
use Rattle.eve_views.specs.declared.fault.Code.TheVariants as code
use Rattle.eve_views.specs.Form.{SomePlace}
use Rattle.eve_history.specs.Section.{SectionState, start, state_after, batch_at, request_count, is_right_attempt}
use Rattle.eve_history.specs.Section.{is_right_certificate, is_right_commit}
use Rattle.eve_history.specs.Section.{is_right_access, is_right_rollback, is_right_transfer}
use Rattle.eve_history.specs.SectionHistory.{names_of}
use Rattle.eve_history.specs.Structure.{accesses_of}
use Rattle.eve_chains.specs.Visible.{executed_by, visible_to}
use Rattle.eve_chains.specs.Along.{SeesAnother}
use Rattle.eve_evidence.specs.declared.evidence.Evidence.{Evidence}
use Rattle.eve_evidence.specs.declared.evidence.Evidence.TheVariants as shown
use Rattle.eve_evidence.specs.Told.{IsToldRequest, told_attempt, told_transfer, placed_in}
use Rattle.eve_evidence.specs.Structure.{IsAttemptFault, IsAccessFault, IsCommitFault, IsRollbackFault}
use Rattle.eve_evidence.specs.Structure.{IsTransferFault, place_numbers}
use Rattle.eve_evidence.specs.Certificate.{IsCertificateFault}
use Rattle.eve_evidence.specs.Record.{IsRecordFault}
use Rattle.eve_evidence.specs.Chain.{IsFirstWrongEntry}
use Rattle.eve_evidence.specs.Seen.{look, IsSeenFrom}

-- ---- what is wrong

-- with an attempt by its own frame, where its section has come to this
abbrev pub WrongAttempt : Code → Trace → SectionState → Attempt → Type 0
WrongAttempt code.Attempt t s a = IsFalse (is_right_attempt t s a)
WrongAttempt code.Certificate t s a = (length a.certificate ≡ request_count t a) × IsFalse (is_right_certificate t a)
WrongAttempt _ t s a = ⊥

-- with an access record of an attempt whose frame stands at this offset
abbrev pub WrongAccess : Code → Trace → SectionState → ℕ → Attempt → List (ℕ × Access) → Access → Type 0
WrongAccess code.Access t s at a own x = IsFalse (is_right_access t a (accesses_of own) x)
WrongAccess code.WorkerOrder t s at a own x = IsFalse (is_right_place (accesses_of own) x)
WrongAccess code.Record t s at a own x = ¬ Fits (names_of t) (executed_by t a x)
WrongAccess code.Version t s at a own x =
    SomePlace x.entries (λ _ y. SeesAnother code.Version (visible_to t (placed_in s at a) x.index y.row) y)
WrongAccess code.Value t s at a own x =
    SomePlace x.entries (λ _ y. SeesAnother code.Value (visible_to t (placed_in s at a) x.index y.row) y)
WrongAccess _ t s at a own x = ⊥

-- with a commit
abbrev pub WrongCommit : Code → SectionState → Commit → Type 0
WrongCommit code.Commit s c = IsFalse (is_right_commit s c)
WrongCommit _ s c = ⊥

-- with a rollback
abbrev pub WrongRollback : Code → Trace → SectionState → Rollback → Type 0
WrongRollback code.Rollback t s r = IsFalse (is_right_rollback t s r)
WrongRollback _ t s r = ⊥

-- with a state that is transferred
abbrev pub WrongTransfer : Code → Trace → SectionState → Transfer → Type 0
WrongTransfer code.Transfer t s x = IsFalse (is_right_transfer t s x)
WrongTransfer _ t s x = ⊥

-- a fault of this code stands at this byte, where a step's frames are
abbrev pub StandsAtStep : Code → Trace → ℕ → SectionState → ℕ × Step → Type 0
StandsAtStep c t place s (at, Attempts a) =
    ((at ≡ place) × WrongAttempt c t s a)
    ⊎ SomePlace (accesses_at at a) (λ own x. (x.0 ≡ place) × WrongAccess c t s at a own x.1)
StandsAtStep c t place s (at, Commits d) = (at ≡ place) × WrongCommit c s d
StandsAtStep c t place s (at, RollsBack r) = (at ≡ place) × WrongRollback c t s r
StandsAtStep c t place s (at, Transfers x) = (at ≡ place) × WrongTransfer c t s x

-- it stands somewhere along replica e's section
abbrev pub StandsAlong : Code → Trace → ℕ → ℕ → Type 0
StandsAlong c t e place =
    SomePlace (steps_at t e) (λ before step. StandsAtStep c t place (state_after start before) step)

-- ---- what shows it

-- at an attempt's own frame
abbrev pub TellsAttempt : Code → Trace → SectionState → ℕ → Attempt → Evidence → Type 0
TellsAttempt c t s at a (shown.Attempt x) = (c ≡ code.Attempt) × IsAttemptFault t s a x
TellsAttempt c t s at a (shown.Certificate attempt wrong) =
    (c ≡ code.Certificate) × (attempt ≡ told_attempt at a)
    × IsCertificateFault (batch_at t a.seq).sizes (request_count t a) a.serial a.certificate wrong
TellsAttempt c t s at a _ = ⊥

-- at the frame of an access record of an attempt
abbrev pub TellsAccess : Code → Trace → SectionState → ℕ → Attempt → List (ℕ × Access) → ℕ × Access → Evidence → Type 0
TellsAccess c t s at a own x (shown.Access attempt place wrong) =
    (c ≡ code.Access) × (attempt ≡ told_attempt at a) × (place ≡ x.0) × IsAccessFault t a own x.1 wrong
TellsAccess c t s at a own x (shown.WorkerOrder attempt at_byte place) =
    (c ≡ code.WorkerOrder) × (attempt ≡ told_attempt at a) × (at_byte ≡ x.0) × (place ≡ place_numbers own x.1)
    × (place.found ≢ place.due)
TellsAccess c t s at a own x (shown.Record attempt request place wrong) =
    (c ≡ code.Record) × (attempt ≡ told_attempt at a) × IsToldRequest t a.seq x.1.index request × (place ≡ x.0)
    × IsRecordFault t (names_of t) (executed_by t a x.1) wrong
TellsAccess c t s at a own x (shown.Chain attempt request place wrong seen) =
    (attempt ≡ told_attempt at a) × IsToldRequest t a.seq x.1.index request × (place ≡ x.0)
    × IsFirstWrongEntry t c s at a x.1 wrong
TellsAccess c t s at a own x _ = ⊥

-- at a commit
abbrev pub TellsCommit : Code → SectionState → Commit → Evidence → Type 0
TellsCommit c s d (shown.Commit x) = (c ≡ code.Commit) × IsCommitFault s.last s.pending d x
TellsCommit c s d _ = ⊥

-- at a rollback
abbrev pub TellsRollback : Code → Trace → SectionState → Rollback → Evidence → Type 0
TellsRollback c t s r (shown.Rollback x) = (c ≡ code.Rollback) × IsRollbackFault t s r x
TellsRollback c t s r _ = ⊥

-- at a state that is transferred
abbrev pub TellsTransfer : Code → Trace → SectionState → ℕ → Transfer → Evidence → Type 0
TellsTransfer c t s at x (shown.Transfer state wrong) =
    (c ≡ code.Transfer) × (state ≡ told_transfer at x) × IsTransferFault t s x wrong
TellsTransfer c t s at x _ = ⊥

-- at this byte, where a step's frames are
abbrev pub TellsStep : Code → Trace → ℕ → SectionState → ℕ × Step → Evidence → Type 0
TellsStep c t place s (at, Attempts a) evidence =
    ((at ≡ place) × TellsAttempt c t s at a evidence)
    ⊎ SomePlace (accesses_at at a) (λ own x. (x.0 ≡ place) × TellsAccess c t s at a own x evidence)
TellsStep c t place s (at, Commits d) evidence = (at ≡ place) × TellsCommit c s d evidence
TellsStep c t place s (at, RollsBack r) evidence = (at ≡ place) × TellsRollback c t s r evidence
TellsStep c t place s (at, Transfers x) evidence = (at ≡ place) × TellsTransfer c t s at x evidence

-- and of a wrong entry where what it saw comes from, by the steps in front of it and behind it
abbrev pub TellsSeen : Trace → List (ℕ × Step) → ℕ × Step → List (ℕ × Step) → Evidence → Type 0
TellsSeen t prefix (at, Attempts a) behind (shown.Chain attempt request place wrong (Some seen)) =
    IsSeenFrom t (look prefix behind at a request.index wrong.row.row wrong.saw) seen
TellsSeen t prefix (at, Attempts a) behind (shown.Chain attempt request place wrong None) = ⊥
TellsSeen t prefix step behind evidence = ⊤

-- The evidence shows a fault of this code at this byte, somewhere along replica e's section, by where the section has
-- come to there.
pub record TellsAlong (c : Code) (t : Trace) (e place : ℕ) (evidence : Evidence) : Type 0 where
  pub prefix : List (ℕ × Step)
  pub step : ℕ × Step
  pub behind : List (ℕ × Step)
  pub is : steps_at t e ≡ prefix ++ step ∷ behind
  pub told : TellsStep c t place (state_after start prefix) step evidence
  pub seen : TellsSeen t prefix step behind evidence
