-- The access records of the attempt behind which a place stands. docs/MODEL.md, "Evidence".
use Rattle.std.specs.Prelude.{◌≡◌, ◌≢◌, ℕ, ◌+◌, ◌==◌, List, ◌∷◌, ◌++◌, length, map, Option, Some, None, if◌then◌else◌}
use Rattle.std.specs.Option.{option_map}
use Rattle.eve_grammar.specs.Frames.{Frame, OfAttempt, OfAccess}
use Rattle.eve_grammar.specs.Spelling.{frames_text}
use Rattle.eve_grammar.specs.Trace.{Access, Attempt}
use Rattle.eve_grammar.specs.declared.frame_kind.TheConstants.{ATTEMPT_FRAME, ACCESS_FRAME}
use Rattle.eve_grammar.specs.declared.head.TheConstants.{HEADER_LEN}
use Rattle.eve_evidence.specs.declared.evidence.RecordsBefore.{RecordsBefore}

-- The frames behind a header end with this attempt and as many of its access records as were found.
pub record EndWithRecords (prefix : List Frame) (r : RecordsBefore) : Type 0 where
  pub before : List Frame
  pub attempt : Attempt
  pub accesses : List Access
  pub is : prefix ≡ before ++ OfAttempt attempt ∷ map OfAccess accesses
  pub attempt_is : r.attempt ≡ HEADER_LEN + length (frames_text before)
  pub due_is : r.due ≡ length attempt.certificate
  pub found_is : r.found ≡ length accesses

-- they do, or end with no attempt and access records of it
abbrev pub TellsRecords : List Frame → Option RecordsBefore → Type 0
TellsRecords prefix None = (before : List Frame) (a : Attempt) (xs : List Access)
    → prefix ≢ before ++ OfAttempt a ∷ map OfAccess xs
TellsRecords prefix (Some r) = EndWithRecords prefix r

-- ---- a frame more

-- one access record more
abbrev pub one_record_more : RecordsBefore → RecordsBefore
one_record_more r = record { attempt = r.attempt; due = r.due; found = r.found + 1 }

-- after a frame of that kind, which begins at byte `at`, and which that many access frames have to follow
abbrev pub records_after : Option RecordsBefore → ℕ → ℕ → ℕ → Option RecordsBefore
records_after r kind at accesses =
    if kind == ATTEMPT_FRAME then Some (record { attempt = at; due = accesses; found = 0 })
    else if kind == ACCESS_FRAME then option_map one_record_more r
    else None
