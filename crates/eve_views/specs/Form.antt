-- The faults of form: what is wrong with bytes that are no trace, and where it stands.
-- docs/MODEL.md, "Faults"; docs/TRACE.md, "Faults of form".
use Rattle.std.specs.Prelude.{◌≡◌, ◌≢◌, ℕ, ◌+◌, ◌≤◌, ◌<◌, nat_le, Bool, ◌&&◌, IsTrue, IsFalse, ◌==◌, nat_eq, List}
use Rattle.std.specs.Prelude.{[], ◌∷◌, ◌++◌, length, take, drop, slice_index, Some, None, codes, ◌⊎◌}
use Rattle.std.specs.List.{starts_with}
use Rattle.byteorder.specs.Endian.{big_number}
use Rattle.eve_grammar.specs.Frames.{Frame, start_place, is_allowed}
use Rattle.eve_grammar.specs.Spelling.{frame_text, frames_text, head_text}
use Rattle.eve_grammar.specs.declared.limits.TheConstants.{MOST_BYTES}
use Rattle.eve_grammar.specs.Limits.{is_head, FitsAt}
use Rattle.eve_views.specs.Code.{code_number, phase_of}
use Rattle.eve_grammar.specs.FrameOrder.{Follow, after}
use Rattle.eve_grammar.specs.declared.head.Head.{Head}
use Rattle.eve_grammar.specs.Trace.{Trace}
use Rattle.eve_grammar.specs.declared.place.Place.{Place}
use Rattle.eve_views.specs.declared.fault.Code.{Code}
use Rattle.eve_views.specs.declared.fault.Code.TheVariants as code
use Rattle.eve_views.specs.declared.fault.Fault.{Fault}
use Rattle.eve_views.specs.declared.fault.CheckFault.{CheckFault}
use Rattle.eve_views.specs.declared.fault.CheckFault.TheVariants.{Found, Memory}
use Rattle.eve_grammar.specs.declared.frame_kind.TheConstants.{FRAME_HEAD_LEN}
use Rattle.eve_grammar.specs.declared.head.TheConstants.{HEADER_LEN}

-- ---- the header

-- 32 bytes or more, no more than a trace may have, and as many as the header says
-- Where it isn't so, F1 Length stands.
abbrev pub is_sized : List ℕ → Bool
is_sized bytes =
    nat_le HEADER_LEN (length bytes)
    && (nat_le (length bytes) MOST_BYTES && (big_number 8 (drop 24 bytes) == length bytes))

-- the first six bytes are those of a trace
-- Where it isn't so, F2 Magic stands.
abbrev pub has_magic : List ℕ → Bool
has_magic bytes = starts_with nat_eq bytes (codes "EVESBK")

-- what a header says but for its magic bytes and the total length: bytes 6 to 23
abbrev pub head_bytes : List ℕ → List ℕ
head_bytes header = take 18 (drop 6 header)

-- the header says a head within the limits
-- Where it isn't so, F3 Head stands.
pub record SaysHead (bytes : List ℕ) (h : Head) : Type 0 where
  pub limits : IsTrue (is_head h)
  pub decoded : head_bytes bytes ≡ head_bytes (head_text h 0)

-- ---- the frames

-- The header says a head, and from byte 32 up to this offset there are frames that may stand there.
-- So at this offset the next frame is due, or the end was the last.
pub record IsReached (bytes : List ℕ) (at : ℕ) : Type 0 where
  pub head : Head
  pub prefix : List Frame
  pub says : SaysHead bytes head
  pub right : Follow head start_place prefix
  pub at_is : at ≡ HEADER_LEN + length (frames_text prefix)
  pub within : at ≤ length bytes
  pub before : take at bytes ≡ take HEADER_LEN bytes ++ frames_text prefix

-- how far the frames before have come
abbrev pub place_at : {bytes : List ℕ} {at : ℕ} → IsReached bytes at → Place
place_at r = after start_place r.prefix

-- a frame of a kind that may stand there lies at the beginning of the bytes as a whole
abbrev pub is_framed : Head → Place → List ℕ → Bool
is_framed h p bytes =
    nat_le FRAME_HEAD_LEN (length bytes)
    && (is_allowed h p (slice_index bytes 0) && nat_le (FRAME_HEAD_LEN + big_number 4 (drop 1 bytes)) (length bytes))

-- where a frame is due none of a kind that may stand there lies in the bytes as a whole, or a byte follows the end
-- It is F4 Frame.
pub record HasNoFrame (h : Head) (p : Place) (bytes : List ℕ) : Type 0 where
  pub unframed : IsFalse (is_framed h p bytes)
  pub more : IsTrue p.ended → bytes ≢ []

-- a frame of a kind that may stand there lies in the bytes as a whole, and its body differs from all that such a frame
-- can say
-- It is F5 Body.
pub record HasWrongBody (h : Head) (p : Place) (bytes : List ℕ) : Type 0 where
  pub framed : IsTrue (is_framed h p bytes)
  pub none : (f : Frame) (rest : List ℕ) → FitsAt h p f → bytes ≢ frame_text f ++ rest

-- ---- all of them

-- a fault of form stands at this offset
abbrev pub StandsInForm : Code → List ℕ → ℕ → Type 0
StandsInForm code.Length bytes at = (at ≡ 0) × IsFalse (is_sized bytes)
StandsInForm code.Magic bytes at = (at ≡ 0) × IsFalse (starts_with nat_eq bytes (codes "EVESBK"))
StandsInForm code.Head bytes at = (at ≡ 0) × ((h : Head) → ¬ SaysHead bytes h)
StandsInForm code.Frame bytes at = (r : IsReached bytes at) × HasNoFrame r.head (place_at r) (drop at bytes)
StandsInForm code.Body bytes at = (r : IsReached bytes at) × HasWrongBody r.head (place_at r) (drop at bytes)
StandsInForm _ bytes at = ⊥

-- ---- faults of any phase

-- the fault stands as the phase's definition says, in bytes or in a trace, and names no replica
pub record IsFaultOutside {A : Type 0} (StandsAt : Code → A → ℕ → Type 0) (x : A) (f : Fault) : Type 0 where
  pub stands : StandsAt f.code x f.offset
  pub outside : f.replica ≡ None

-- it stands in the section of replica e, and names it
pub record IsFaultIn (StandsAt : Code → Trace → ℕ → ℕ → Type 0) (t : Trace) (e : ℕ) (f : Fault) : Type 0 where
  pub stands : StandsAt f.code t e f.offset
  pub inside : f.replica ≡ Some e

-- it stands in the section of some replica, and names it
abbrev pub IsFaultSomewhere : (Code → Trace → ℕ → ℕ → Type 0) → Trace → Fault → Type 0
IsFaultSomewhere StandsAt t f = (e : ℕ) × IsFaultIn StandsAt t e f

-- at some place of the list the fact holds, of what stands before and of what stands there
pub record SomePlace {A : Type 0} (xs : List A) (P : List A → A → Type 0) : Type 0 where
  pub before : List A
  pub item : A
  pub rest : List A
  pub is : xs ≡ before ++ item ∷ rest
  pub holds : P before item

-- by offset, then by number
abbrev pub IsUpTo : Fault → Fault → Type 0
IsUpTo f g = (f.offset < g.offset) ⊎ ((f.offset ≡ g.offset) × (code_number f.code ≤ code_number g.code))

-- by phase, then offset, then number
abbrev pub Precedes : Fault → Fault → Type 0
Precedes f g = (phase_of f.code < phase_of g.code) ⊎ ((phase_of f.code ≡ phase_of g.code) × IsUpTo f g)

-- of some faults the first
pub record IsLeast (S : Fault → Type 0) (f : Fault) : Type 0 where
  pub is : S f
  pub least : (g : Fault) → S g → IsUpTo f g

-- none of them stands
abbrev pub HasNone : (Fault → Type 0) → Type 0
HasNone S = (f : Fault) → ¬ S f

-- a fact about the fault, if one was found
abbrev pub IfFound : CheckFault → (Fault → Type 0) → Type 0
IfFound Memory P = Unit {0}
IfFound (Found f) P = P f
