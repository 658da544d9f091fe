-- The parts of a trace that was read, as the frames between two places.
-- In which section a byte lies: docs/MODEL.md, "Faults".
use Rattle.std.specs.Prelude.{◌≡◌, ℕ, nat_le, nat_lt, Bool, ◌&&◌, ◌+◌, ◌-◌, ◌≤◌, IsTrue, List, map, length, take, drop}
use Rattle.std.specs.List.{flat_map, list_all}
use Rattle.eve_grammar.specs.Trace.{Trace, Access, Step, Vote}
use Rattle.eve_grammar.specs.Frames.{Frame, OfAccess, OfVote, step_frames}
use Rattle.eve_grammar.specs.Spelling.{frame_text, frames_text, located, step_text, section_start}
use Rattle.eve_grammar.specs.Limits.{is_access, is_step, is_vote}
use Rattle.eve_grammar.specs.GatheredTraces.{gathered}
use Rattle.eve_grammar.specs.declared.limits.TheConstants.{MOST_ROWS, MOST_BATCHES}
use Rattle.eve_grammar.specs.declared.head.TheConstants.{HEADER_LEN}

-- the byte at which the frame of this number begins
abbrev pub byte_of : List Frame → ℕ → ℕ
byte_of fs i = HEADER_LEN + length (frames_text (take i fs))

-- the frames from one number on, this many
abbrev pub frames_between : List Frame → ℕ → ℕ → List Frame
frames_between fs from count = take count (drop from fs)

-- ---- what they say, each with its byte offset

-- access records
unfoldable pub accesses_between : List Frame → ℕ → ℕ → List (ℕ × Access)
accesses_between fs from count =
    located (λ x. frame_text (OfAccess x)) (byte_of fs from) (gathered (frames_between fs from count)).accesses

-- votes
unfoldable pub votes_between : List Frame → ℕ → ℕ → List (ℕ × Vote)
votes_between fs from count =
    located (λ v. frame_text (OfVote v)) (byte_of fs from) (gathered (frames_between fs from count)).votes

-- steps; an attempt has its accesses
unfoldable pub steps_between : List Frame → ℕ → ℕ → List (ℕ × Step)
steps_between fs from count = located step_text (byte_of fs from) (gathered (frames_between fs from count)).steps

-- ---- and that they are of one kind

-- frames of one kind, and no others; each fits a trace with `most` rows or batches, no more than there can be
pub record AreOfOneKind {A : Type 0} (frame : A → Frame) (fits : ℕ → A → Bool) (most : ℕ) (fs : List Frame)
    (from to : ℕ) : Type 0 where
  pub items : List A
  pub count : ℕ
  pub few : count ≤ most
  pub right : IsTrue (list_all (fits count) items)
  pub many : length items ≡ to - from
  pub up : from ≤ to
  pub within : to ≤ length fs
  pub there : frames_between fs from (to - from) ≡ map frame items

-- access frames, and no others
abbrev pub AreAccesses : List Frame → ℕ → ℕ → Type 0
AreAccesses = AreOfOneKind OfAccess is_access MOST_ROWS

-- votes, and no others
abbrev pub AreVotes : List Frame → ℕ → ℕ → Type 0
AreVotes = AreOfOneKind OfVote is_vote MOST_BATCHES

-- steps with all their frames
pub record AreSteps (fs : List Frame) (from to : ℕ) : Type 0 where
  pub steps : List Step
  pub rows : ℕ
  pub few : rows ≤ MOST_ROWS
  pub right : IsTrue (list_all (is_step rows) steps)
  pub up : from ≤ to
  pub within : to ≤ length fs
  pub there : frames_between fs from (to - from) ≡ flat_map step_frames steps

-- all frames from one number on, each with its byte offset
unfoldable pub frames_from : List Frame → ℕ → List (ℕ × Frame)
frames_from fs from = located frame_text (byte_of fs from) (drop from fs)

-- whether the byte lies in the section of replica e
abbrev pub is_in_section : Trace → ℕ → ℕ → Bool
is_in_section t e offset = nat_le (section_start t e) offset && nat_lt offset (section_start t (e + 1))
