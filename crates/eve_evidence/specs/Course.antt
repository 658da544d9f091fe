-- Where a section has come to, as it is kept while its steps come. docs/MODEL.md, "Section state, fate".
use Rattle.std.specs.Prelude.{◌≡◌, ℕ, ◌+◌, ◌++◌, List, [], ◌∷◌, map, fold, length, Option, None, Some}
use Rattle.std.specs.List.{AllByRecursion}
use Rattle.std.specs.Option.{option_map}
use Rattle.eve_grammar.specs.Trace.{Attempt, Transfer}
use Rattle.eve_grammar.specs.Spelling.{accesses_at}
use Rattle.eve_frames.specs.Decoded.{attempt_decoded, transfer_decoded}
use Rattle.eve_frames.specs.declared.transfer.TransferView.{TransferView}
use Rattle.eve_history.specs.Section.{Placed, HowReached, ByAttempt, ByTransfer, Skipped, SectionState}
use Rattle.eve_history.specs.SectionHistory.{placed_at}
use Rattle.eve_history.specs.Structure.{accesses_of}
use Rattle.eve_evidence.specs.declared.course.Course.{Course}
use Rattle.eve_evidence.specs.declared.course.OnPath.{OnPath}

-- ---- the last state that was transferred, and what came behind it

-- a state that is transferred puts itself in the place of an earlier one
abbrev pub later_state : Option (ℕ × Transfer) → HowReached → Option (ℕ × Transfer)
later_state state (ByAttempt p) = state
later_state state (ByTransfer at x) = Some (at, x)
later_state state Skipped = state

-- the last state that was transferred, with its frame's offset, if there is one
abbrev pub last_state : List HowReached → Option (ℕ × Transfer)
last_state ways_reached = fold later_state None ways_reached

-- the number that it has; 0 where there is none
abbrev pub state_number : Option (ℕ × Transfer) → ℕ
state_number None = 0
state_number (Some x) = x.1.seq

-- an attempt by which a number is reached follows those before it; no earlier one counts behind a state
abbrev pub with_reached : List Placed → HowReached → List Placed
with_reached ps (ByAttempt p) = ps ++ p ∷ []
with_reached ps (ByTransfer at x) = []
with_reached ps Skipped = ps

-- the attempts by which numbers were reached behind that state, in order
abbrev pub attempts_behind : List HowReached → List Placed
attempts_behind ways_reached = fold with_reached [] ways_reached

-- the attempts behind that state that no rollback discarded, with the offsets of their frames
abbrev pub standing : SectionState → List (ℕ × Attempt)
standing s = map placed_at (attempts_behind s.ways_reached ++ s.pending)

-- ---- what is kept

-- the attempt with its access records, and its frame's offset
abbrev pub placed_on : OnPath → ℕ × Attempt
placed_on o = (o.attempt.offset, record (attempt_decoded o.attempt) { accesses = accesses_of o.accesses })

-- the access records have the offsets of their frames
abbrev pub IsOnPath : OnPath → Type 0
IsOnPath o = o.accesses ≡ accesses_at (placed_on o).0 (placed_on o).1

-- a state, with its frame's offset
abbrev pub state_decoded : Option TransferView → Option (ℕ × Transfer)
state_decoded state = option_map (λ x. (x.offset, transfer_decoded x)) state

-- the section has come to this state
pub record IsCourse (s : SectionState) (c : Course) : Type 0 where
  pub view : c.view ≡ s.view
  pub rolled_back : c.rolled_back ≡ s.rolled_back
  pub transferred : state_decoded c.transferred ≡ last_state s.ways_reached
  pub committed : c.committed ≡ length (attempts_behind s.ways_reached)
  pub last : s.last ≡ state_number (last_state s.ways_reached) + length (attempts_behind s.ways_reached)
  pub path : map placed_on c.path.items ≡ standing s
  pub framed : AllByRecursion IsOnPath c.path.items
