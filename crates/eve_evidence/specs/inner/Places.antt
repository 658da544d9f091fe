-- What is found at one access record of an attempt, and at a step.
use Rattle.std.specs.Prelude.{◌≡◌, ℕ, List, ◌∷◌, ◌++◌, Option, Some, slice_get, take}
use Rattle.eve_grammar.specs.Trace.{Access, Attempt, Step, Attempts, Trace}
use Rattle.eve_grammar.specs.Frames.{without_accesses}
use Rattle.eve_grammar.specs.Spelling.{accesses_at, steps_at}
use Rattle.eve_frames.specs.Decoded.{attempt_decoded}
use Rattle.eve_frames.specs.declared.attempt.AttemptView.{AttemptView}
use Rattle.eve_views.specs.declared.fault.Code.{Code}
use Rattle.eve_views.specs.declared.steps.Step as step_read
use Rattle.eve_views.specs.Form.{SomePlace}
use Rattle.eve_views.specs.StepKinds.{IsStep}
use Rattle.eve_history.specs.Section.{SectionState, start, state_after}
use Rattle.eve_evidence.specs.declared.course.Course.{Course}
use Rattle.eve_evidence.specs.declared.evidence.Evidence.{Evidence}
use Rattle.eve_evidence.specs.declared.evidence.Evidence.TheVariants as shown
use Rattle.eve_evidence.specs.declared.evidence.SeenFrom.{SeenFrom}
use Rattle.eve_evidence.specs.declared.evidence.ToldAttempt.{ToldAttempt}
use Rattle.eve_evidence.specs.declared.evidence.ToldRequest.{ToldRequest}
use Rattle.eve_evidence.specs.declared.evidence.WrongEntry.{WrongEntry}
use Rattle.eve_evidence.specs.Course.{IsCourse}
use Rattle.eve_evidence.specs.Section.{WrongAccess, StandsAtStep, TellsAccess, TellsStep, TellsSeen}

-- a fact about a record, by its place from 0, of an attempt whose section has come to a state that is kept
abbrev pub AtRecord : Course → AttemptView → List (ℕ × Access) → ℕ
    → (SectionState → Attempt → ℕ × Access → Type 0) → Type 0
AtRecord course attempt xs i P =
    (x : ℕ × Access) → slice_get xs i ≡ Some x → (s : SectionState) (a : Attempt) → IsCourse s course
    → attempt_decoded attempt ≡ without_accesses a → xs ≡ accesses_at attempt.offset a → P s a x

-- the evidence shows a fault at the record, which stands at this byte
abbrev pub TellsPlace : Code → Trace → Course → AttemptView → List (ℕ × Access) → ℕ → ℕ → Evidence → Type 0
TellsPlace c t course attempt xs place i evidence =
    AtRecord course attempt xs i (λ s a x. (x.0 ≡ place) × TellsAccess c t s attempt.offset a (take i xs) x evidence)

-- or at the record, wherever it stands
abbrev pub TellsRecord : Code → Trace → Course → AttemptView → List (ℕ × Access) → ℕ → Evidence → Type 0
TellsRecord c t course attempt xs i evidence =
    AtRecord course attempt xs i (λ s a x. TellsAccess c t s attempt.offset a (take i xs) x evidence)

-- no fault stands at the record, if it stands at this byte
abbrev pub HasNonePlace : Code → Trace → Course → AttemptView → List (ℕ × Access) → ℕ → ℕ → Type 0
HasNonePlace c t course attempt xs place i =
    AtRecord course attempt xs i (λ s a x. x.0 ≡ place → ¬ WrongAccess c t s attempt.offset a (take i xs) x.1)

-- nothing is wrong with the record, wherever it stands
abbrev pub HasNoneWrong : Code → Trace → Course → AttemptView → List (ℕ × Access) → ℕ → Type 0
HasNoneWrong c t course attempt xs i =
    AtRecord course attempt xs i (λ s a x. ¬ WrongAccess c t s attempt.offset a (take i xs) x.1)

-- the evidence shows a fault at one of an attempt's records, which stands at this byte
abbrev pub ToldAlong : Code → Trace → ℕ → Course → AttemptView → List (ℕ × Access) → Evidence → Type 0
ToldAlong c t place course attempt xs evidence =
    (s : SectionState) (a : Attempt) → IsCourse s course → attempt_decoded attempt ≡ without_accesses a
    → xs ≡ accesses_at attempt.offset a
    → SomePlace xs (λ own x. (x.0 ≡ place) × TellsAccess c t s attempt.offset a own x evidence)

-- no fault stands at one of them that stands at this byte
abbrev pub NoneAlong : Code → Trace → ℕ → Course → AttemptView → List (ℕ × Access) → Type 0
NoneAlong c t place course attempt xs =
    (s : SectionState) (a : Attempt) → IsCourse s course → attempt_decoded attempt ≡ without_accesses a
    → xs ≡ accesses_at attempt.offset a
    → ¬ SomePlace xs (λ own x. (x.0 ≡ place) × WrongAccess c t s attempt.offset a own x.1)

-- the evidence shows a fault at a step, where its frames stand at this byte
abbrev pub ToldAtStep : Code → Trace → ℕ → Course → step_read.Step → Evidence → Type 0
ToldAtStep c t place course step evidence =
    (s : SectionState) (is : ℕ × Step) → IsCourse s course → IsStep step is → TellsStep c t place s is evidence

-- no fault stands at a frame of it that stands at this byte
abbrev pub NoneAtStep : Code → Trace → ℕ → Course → step_read.Step → Type 0
NoneAtStep c t place course step =
    (s : SectionState) (is : ℕ × Step) → IsCourse s course → IsStep step is → ¬ StandsAtStep c t place s is

-- the attempt that was met stands in replica e's section, which has come to this in front of it
abbrev pub HasLook : Trace → ℕ → Course → AttemptView → List (ℕ × Access) → Type 0
HasLook t e course own xs =
    (prefix : List (ℕ × Step)) × (behind : List (ℕ × Step)) × (a : Attempt)
    × (steps_at t e ≡ prefix ++ (own.offset, Attempts a) ∷ behind) × IsCourse (state_after start prefix) course
    × (attempt_decoded own ≡ without_accesses a) × (xs ≡ accesses_at own.offset a)

-- of evidence of a wrong entry, this is where what it saw comes from
abbrev pub TellsSeenWith : Trace → List (ℕ × Step) → ℕ × Step → List (ℕ × Step) → Evidence → Option SeenFrom → Type 0
TellsSeenWith t prefix step behind evidence seen =
    (attempt : ToldAttempt) (request : ToldRequest) (at : ℕ) (wrong : WrongEntry) (before : Option SeenFrom)
    → evidence ≡ shown.Chain attempt request at wrong before
    → TellsSeen t prefix step behind (shown.Chain attempt request at wrong seen)
