-- Going over frames that fit.
use Rattle.std.specs.Prelude.{◌≡◌, ◌<◌, ◌^◌, ℕ, List, ◌++◌, IsTrue, length}
use Rattle.eve_grammar.specs.Frames.{Frame}
use Rattle.eve_grammar.specs.Spelling.{body_text, frame_text}
use Rattle.eve_grammar.specs.Limits.{is_body}
use Rattle.eve_grammar.specs.declared.head.Head.{Head}
use Rattle.eve_grammar.specs.declared.place.Place.{Place}

-- a frame within the limits of some place stands in front of the bytes
pub record BeginsWith (bytes : List ℕ) (f : Frame) : Type 0 where
  pub head : Head
  pub place : Place
  pub body : IsTrue (is_body head place f)
  pub short : length (body_text f) < 2 ^ 32
  pub rest : List ℕ
  pub is : bytes ≡ frame_text f ++ rest
