-- Frames that follow one another as the grammar says, and the trace that they make up. docs/MODEL.md, "Trace".
use Rattle.std.specs.Prelude.{◌≡◌, ℕ, ◌≤◌, IsTrue, List, [], ◌∷◌, fold}
use Rattle.eve_grammar.specs.Frames.{Frame, start_place, next_place, frames_of}
use Rattle.eve_grammar.specs.Limits.{FitsAt, is_head}
use Rattle.eve_grammar.specs.declared.head.Head.{Head}
use Rattle.eve_grammar.specs.Trace.{Trace}
use Rattle.eve_grammar.specs.Spelling.{length_of, spelling}
use Rattle.eve_grammar.specs.declared.limits.TheConstants.{MOST_BYTES}
use Rattle.eve_grammar.specs.declared.place.Place.{Place}

-- each frame fits where it stands
abbrev pub Follow : Head → Place → List Frame → Type 0
Follow h p [] = Unit {0}
Follow h p (f ∷ fs) = FitsAt h p f × Follow h (next_place p f) fs

-- the place after frames
abbrev pub after : Place → List Frame → Place
after p fs = fold next_place p fs

-- frames from the first to the end
pub record AreAllFrames (h : Head) (fs : List Frame) : Type 0 where
  pub follow : Follow h start_place fs
  pub ended : IsTrue (after start_place fs).ended

-- the bytes are the trace: its header is within its limits, and each of its frames fits where it stands
pub record Spells (bytes : List ℕ) (t : Trace) : Type 0 where
  pub head : IsTrue (is_head t.head)
  pub follow : Follow t.head start_place (frames_of t)
  pub short : length_of t ≤ MOST_BYTES
  pub spelled : bytes ≡ spelling t
