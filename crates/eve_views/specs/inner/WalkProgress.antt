-- How far a walk over the frames of a trace has come. docs/TRACE.md, "Order of frames".
use Rattle.std.specs.Prelude.{◌≡◌, ℕ, ◌+◌, ◌<◌, ◌≤◌, Bool, true, false, ◌||◌, List, ◌++◌, length, take, slice_index}
use Rattle.std.specs.Prelude.{slice_get, Some}
use Rattle.eve_grammar.specs.Frames.{Frame, OfReplica, OfVerifier, start_place}
use Rattle.eve_grammar.specs.Spelling.{frames_text}
use Rattle.eve_grammar.specs.FrameOrder.{Follow, after}
use Rattle.eve_grammar.specs.declared.head.Head.{Head}
use Rattle.eve_grammar.specs.declared.place.Place.{Place}
use Rattle.eve_views.specs.Indexes.{offsets_of, frames_before_sent}
use Rattle.eve_views.specs.declared.starts.Starts.{Starts}
use Rattle.eve_grammar.specs.declared.head.TheConstants.{HEADER_LEN}

-- the frames from byte 32 up to this byte have come so far, and begin at these byte offsets
pub record Reached (h : Head) (bytes : List ℕ) (at : ℕ) (p : Place) (offsets : List ℕ) : Type 0 where
  pub prefix : List Frame
  pub right : Follow h start_place prefix
  pub place_is : after start_place prefix ≡ p
  pub at_is : at ≡ HEADER_LEN + length (frames_text prefix)
  pub within : at ≤ length bytes
  pub before : take at bytes ≡ take HEADER_LEN bytes ++ frames_text prefix
  pub offsets_is : offsets ≡ offsets_of HEADER_LEN prefix

-- whether a reply sent or the end has come
abbrev pub has_last : Place → Bool
has_last p = p.sending || p.ended

-- what is noted of the frames so far
pub record Started (h : Head) (fs : List Frame) (p : Place) (s : Starts) : Type 0 where
  pub eight : length s.sections ≡ 8
  pub sixteen : length s.verifiers ≡ 16
  pub sections : (e : ℕ) → e < p.replicas → slice_get fs (slice_index s.sections e) ≡ Some (OfReplica e)
  pub verifiers : (v : ℕ) → v < p.verifiers → slice_get fs (slice_index s.verifiers v) ≡ Some (OfVerifier v)
  pub sent : has_last p ≡ true → (s.sent ≡ frames_before_sent fs) × (frames_before_sent fs < length fs)
  pub unsent : has_last p ≡ false → frames_before_sent fs ≡ length fs
  pub some : 0 < p.verifiers → p.replicas ≡ h.replicas
  pub full : p.ended ≡ true → (p.verifiers ≡ h.verifiers) × (0 < p.verifiers)

-- the frames have come so far, and this is noted of them
pub record Walking (h : Head) (bytes : List ℕ) (at : ℕ) (p : Place) (offsets : List ℕ) (s : Starts) : Type 0 where
  pub reached : Reached h bytes at p offsets
  pub started : Started h reached.prefix p s
