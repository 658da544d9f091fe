-- What the walk finds.
use Rattle.std.specs.Prelude.{◌≡◌, ◌<◌, ℕ, ◌+◌, Bool, ◌||◌, ◌==◌, if◌then◌else◌, List, [], ◌∷◌, drop, slice_index}
use Rattle.std.specs.Prelude.{length, slice_get, Some, Result, Ok, Err}
use Rattle.byteorder.specs.Endian.{big_number}
use Rattle.eve_grammar.specs.Frames.{Frame, OfReplica, OfVerifier, kind_of}
use Rattle.eve_grammar.specs.Kinds.{kind_byte}
use Rattle.eve_grammar.specs.Spelling.{frame_text, frames_text}
use Rattle.eve_grammar.specs.FrameOrder.{AreAllFrames}
use Rattle.eve_grammar.specs.declared.head.Head.{Head}
use Rattle.eve_views.specs.inner.Places.{accesses_in}
use Rattle.eve_views.specs.declared.fault.Code.{Code}
use Rattle.eve_views.specs.declared.starts.Starts.{Starts}
use Rattle.eve_views.specs.declared.walk.Framed.{Framed}
use Rattle.eve_views.specs.declared.walk.Index.{Index}
use Rattle.eve_grammar.specs.declared.frame_kind.TheConstants.{SENT_FRAME, END_FRAME}
use Rattle.eve_grammar.specs.declared.frame_kind.TheConstants.{FRAME_HEAD_LEN}
use Rattle.eve_grammar.specs.declared.head.TheConstants.{HEADER_LEN}

-- a frame at the beginning of bytes: its first byte, its length, and how many access frames have to follow
pub record KeptFrame : Type 0 where
  pub kind : ℕ
  pub len : ℕ
  pub accesses : ℕ

-- what the code kept of it
abbrev pub kept_in : Framed → KeptFrame
kept_in f = record { kind = kind_byte f.kind; len = f.len; accesses = f.accesses }

-- the same, or what is wrong
abbrev pub answer_in : Result Framed Code → Result KeptFrame Code
answer_in (Ok f) = Ok (kept_in f)
answer_in (Err c) = Err c

-- what is kept of a frame that was taken from the beginning of these bytes
abbrev pub kept : List ℕ → Result (Frame × List ℕ) Code → Result KeptFrame Code
kept bytes (Ok x) =
    let len = FRAME_HEAD_LEN + big_number 4 (drop 1 bytes) in
    Ok (record { kind = slice_index bytes 0; len = len; accesses = accesses_in x.0 })
kept bytes (Err c) = Err c

-- where each frame begins, the first one's byte offset being given
abbrev pub offsets_of : ℕ → List Frame → List ℕ
offsets_of at [] = []
offsets_of at (f ∷ fs) = at ∷ offsets_of (at + length (frame_text f)) fs

-- a reply sent, or the end
abbrev pub is_last : Frame → Bool
is_last f = (kind_of f == SENT_FRAME) || (kind_of f == END_FRAME)

-- how many frames stand before the first reply sent, or the end
abbrev pub frames_before_sent : List Frame → ℕ
frames_before_sent [] = 0
frames_before_sent (f ∷ fs) = if is_last f then 0 else (frames_before_sent fs + 1)

-- the frames that begin parts
pub record AreStarts (h : Head) (fs : List Frame) (s : Starts) : Type 0 where
  pub sections : (e : ℕ) → e < h.replicas → slice_get fs (slice_index s.sections e) ≡ Some (OfReplica e)
  pub verifiers : (v : ℕ) → v < h.verifiers → slice_get fs (slice_index s.verifiers v) ≡ Some (OfVerifier v)
  pub sent : s.sent ≡ frames_before_sent fs

-- these are the frames after the header, up to the end
pub record IsIndex (h : Head) (bytes : List ℕ) (i : Index) : Type 0 where
  pub frames : List Frame
  pub run : AreAllFrames h frames
  pub text : drop HEADER_LEN bytes ≡ frames_text frames
  pub offsets : i.offsets.items ≡ offsets_of HEADER_LEN frames
  pub starts : AreStarts h frames i.starts
