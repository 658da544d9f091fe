-- The faults of structure, and where they stand. docs/MODEL.md, "Faults".
use Rattle.std.specs.Prelude.{◌≡◌, ℕ, IsTrue, IsFalse, List, [], map}
use Rattle.eve_grammar.specs.Trace.{Access, Attempt, Commit, Rollback, Transfer, Step, Attempts, Commits, RollsBack}
use Rattle.eve_grammar.specs.Trace.{Transfers, Trace}
use Rattle.eve_grammar.specs.Spelling.{steps_at, accesses_at}
use Rattle.eve_grammar.specs.Accesses.{is_right_place}
use Rattle.eve_views.specs.declared.fault.Code.{Code}
use Rattle.eve_views.specs.declared.fault.Code.TheVariants as code
use Rattle.eve_views.specs.Form.{SomePlace}
use Rattle.eve_history.specs.Section.{SectionState, start, state_after, is_right_attempt, is_right_certificate}
use Rattle.eve_history.specs.Section.{is_right_access, is_right_commit, is_right_rollback, is_right_transfer}
use Rattle.eve_history.specs.Section.{are_right_accesses, are_right}

abbrev pub OfAttempt : Step → (Attempt → Type 0) → Type 0
OfAttempt (Attempts a) P = P a
OfAttempt _ P = ⊥

abbrev pub OfCommit : Step → (Commit → Type 0) → Type 0
OfCommit (Commits c) P = P c
OfCommit _ P = ⊥

abbrev pub OfRollback : Step → (Rollback → Type 0) → Type 0
OfRollback (RollsBack r) P = P r
OfRollback _ P = ⊥

abbrev pub OfTransfer : Step → (Transfer → Type 0) → Type 0
OfTransfer (Transfers x) P = P x
OfTransfer _ P = ⊥

-- of a step of replica e at this offset, before which all steps are right: where the section has come to, and the step
abbrev pub AtStep : Trace → ℕ → ℕ → (SectionState → Step → Type 0) → Type 0
AtStep t e at P = SomePlace (steps_at t e) (λ before step. IsTrue (are_right t start before)
    × ((step.0 ≡ at) × P (state_after start before) step.1))

abbrev pub accesses_of : List (ℕ × Access) → List Access
accesses_of xs = map (λ x. x.1) xs

-- of an access record at this offset, of an attempt of replica e, where all frames of the section before it are right:
-- the attempt, the records of the attempt before it, and the record
abbrev pub AtAccess : Trace → ℕ → ℕ → (Attempt → List Access → Access → Type 0) → Type 0
AtAccess t e at P = SomePlace (steps_at t e) (λ before step. IsTrue (are_right t start before) × OfAttempt step.1 (λ a.
    IsTrue (is_right_attempt t (state_after start before) a) × IsTrue (is_right_certificate t a)
    × SomePlace (accesses_at step.0 a) (λ own x. IsTrue (are_right_accesses t a [] (accesses_of own))
    × ((x.0 ≡ at) × P a (accesses_of own) x.1))))

-- A fault of structure stands at this offset in replica e's section. It is judged where all frames of the
-- section before it are right, so that only the first wrong frame counts, with all that is wrong with it.
abbrev pub StandsInStructure : Code → Trace → ℕ → ℕ → Type 0
StandsInStructure code.Attempt t e at = AtStep t e at (λ s step. OfAttempt step (λ a. IsFalse (is_right_attempt t s a)))
StandsInStructure code.Certificate t e at =
    AtStep t e at (λ s step. OfAttempt step (λ a. IsFalse (is_right_certificate t a)))
StandsInStructure code.Access t e at = AtAccess t e at (λ a before x. IsFalse (is_right_access t a before x))
StandsInStructure code.WorkerOrder t e at = AtAccess t e at (λ a before x. IsFalse (is_right_place before x))
StandsInStructure code.Commit t e at = AtStep t e at (λ s step. OfCommit step (λ c. IsFalse (is_right_commit s c)))
StandsInStructure code.Rollback t e at =
    AtStep t e at (λ s step. OfRollback step (λ r. IsFalse (is_right_rollback t s r)))
StandsInStructure code.Transfer t e at =
    AtStep t e at (λ s step. OfTransfer step (λ x. IsFalse (is_right_transfer t s x)))
StandsInStructure _ t e at = ⊥
