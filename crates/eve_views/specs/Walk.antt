-- Which frames lie in bytes, by taking one after another. A device: it names the frames of a trace that was
-- read. What a trace is, and what is wrong with other bytes, is said without it.
use Rattle.std.specs.Prelude.{◌≡◌, ℕ, zero, suc, ◌+◌, ◌≤◌, ◌==◌, ◌&&◌, if◌then◌else◌, List, [], ◌∷◌}
use Rattle.std.specs.Prelude.{length, take, drop, slice_index, Option, Some, None, Result, Ok, Err}
use Rattle.byteorder.specs.Endian.{big_number}
use Rattle.eve_grammar.specs.Frames.{Frame, start_place, next_place}
use Rattle.eve_grammar.specs.Readers.{body_of}
use Rattle.eve_grammar.specs.declared.head.Head.{Head}
use Rattle.eve_grammar.specs.declared.place.Place.{Place}
use Rattle.eve_views.specs.Form.{is_framed}
use Rattle.eve_views.specs.declared.fault.Code.{Code}
use Rattle.eve_views.specs.declared.fault.Code.TheVariants as code
use Rattle.eve_grammar.specs.declared.frame_kind.TheConstants.{FRAME_HEAD_LEN}

-- the frame with that body, and what follows it
abbrev pub with_rest : List ℕ → Option Frame → Result (Frame × List ℕ) Code
with_rest rest (Some f) = Ok (f, rest)
with_rest rest None = Err code.Body

-- the frame at the beginning of bytes in which one lies
abbrev pub inside : Head → Place → List ℕ → Result (Frame × List ℕ) Code
inside h p bytes =
    let len = big_number 4 (drop 1 bytes) in
    with_rest (drop len (drop FRAME_HEAD_LEN bytes))
    (body_of h p (slice_index bytes 0) (take len (drop FRAME_HEAD_LEN bytes)))

-- the frame at the beginning of the bytes, or what is wrong there
unfoldable pub frame_at : Head → Place → List ℕ → Result (Frame × List ℕ) Code
frame_at h p bytes = if is_framed h p bytes then inside h p bytes else Err code.Frame

-- a frame that begins with this byte and has this body lies at the beginning of bytes as a whole
pub record IsPrefixOf (bytes : List ℕ) (kind : ℕ) (body : List ℕ) : Type 0 where
  pub kind_is : slice_index bytes 0 ≡ kind
  pub len_is : big_number 4 (drop 1 bytes) ≡ length body
  pub body_is : take (length body) (drop FRAME_HEAD_LEN bytes) ≡ body
  pub whole : FRAME_HEAD_LEN + length body ≤ length bytes

-- the frames that were found, or what is wrong and the bytes from there on
abbrev pub Walked : Type 0
Walked = Result (List Frame) (Code × List ℕ)

-- a frame before what was found
abbrev pub with_frame : Frame → Walked → Walked
with_frame f (Ok fs) = Ok (f ∷ fs)
with_frame f (Err e) = Err e

-- goes on after a frame, and stops at what is wrong
abbrev pub walk_on : List ℕ → Result (Frame × List ℕ) Code → (Frame → List ℕ → Walked) → Walked
walk_on bytes (Ok x) go = with_frame x.0 (go x.0 x.1)
walk_on bytes (Err c) go = Err (c, bytes)

-- at most that many frames
unfoldable pub walk : ℕ → Head → Place → List ℕ → Walked
walk zero h p bytes = Err (code.Frame, bytes)
walk (suc n) h p bytes =
    if p.ended && (length bytes == 0) then Ok []
    else walk_on bytes (frame_at h p bytes) (λ f rest. walk n h (next_place p f) rest)

-- the frames that were found, none where something is wrong
abbrev found_in : Walked → List Frame
found_in (Ok fs) = fs
found_in (Err e) = []

-- the frames of which the bytes are made, if they are made of frames
unfoldable pub frames_in : Head → List ℕ → List Frame
frames_in h bytes = found_in (walk (suc (length bytes)) h start_place bytes)
