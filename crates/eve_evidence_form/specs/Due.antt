-- What shows that no frame stands where one is due. docs/MODEL.md, "Evidence"; docs/TRACE.md, "Order of frames".
use Rattle.std.specs.Prelude.{◌≡◌, ℕ, ◌+◌, ◌<◌, ◌≤◌, Bool, IsTrue, IsFalse, List, length, drop, map, Option}
use Rattle.std.specs.Prelude.{slice_index}
use Rattle.byteorder.specs.Endian.{big_number}
use Rattle.eve_grammar.specs.Frames.{is_allowed}
use Rattle.eve_grammar.specs.Kinds.{kind_byte}
use Rattle.eve_grammar.specs.declared.frame_kind.TheConstants.{FRAME_HEAD_LEN}
use Rattle.eve_grammar.specs.declared.head.Head.{Head}
use Rattle.eve_grammar.specs.declared.place.Place.{Place}
use Rattle.eve_views.specs.Form.{IsReached, place_at}
use Rattle.eve_evidence.specs.FrameKinds.{all_kinds}
use Rattle.eve_evidence.specs.declared.evidence.FrameFault.{FrameFault}
use Rattle.eve_evidence.specs.declared.evidence.FrameFault.TheVariants as wrong
use Rattle.eve_evidence.specs.declared.evidence.RecordsBefore.{RecordsBefore}
use Rattle.eve_evidence_form.specs.Records.{TellsRecords}

-- of each kind of frame, in the order of their bytes, whether it may stand at a place
abbrev pub due_kinds : Head → Place → List Bool
due_kinds h p = map (λ k. is_allowed h p (kind_byte k)) all_kinds

-- the first thing that is wrong with the bytes at a place where a frame is due, or after the end
abbrev pub IsFrameFault : Head → Place → List ℕ → FrameFault → Type 0
IsFrameFault h p bytes (wrong.AfterEnd left) = IsTrue p.ended × (left ≡ length bytes)
IsFrameFault h p bytes (wrong.TooFew left) = IsFalse p.ended × (left ≡ length bytes) × (left < FRAME_HEAD_LEN)
IsFrameFault h p bytes (wrong.Kind byte) =
    IsFalse p.ended × (FRAME_HEAD_LEN ≤ length bytes) × (byte ≡ slice_index bytes 0) × IsFalse (is_allowed h p byte)
IsFrameFault h p bytes (wrong.Cut k body left) =
    IsFalse p.ended × IsTrue (is_allowed h p (kind_byte k)) × (kind_byte k ≡ slice_index bytes 0)
    × (body ≡ big_number 4 (drop 1 bytes)) × (FRAME_HEAD_LEN + left ≡ length bytes) × (left < body)

-- what stands at this byte, where the frames before it have come so far, which kinds of frames may stand there, and
-- with
-- which access records those frames end
abbrev pub TellsFrame : List ℕ → ℕ → FrameFault → List Bool → Option RecordsBefore → Type 0
TellsFrame bytes at found due records =
    (r : IsReached bytes at) × IsFrameFault r.head (place_at r) (drop at bytes) found
    × (due ≡ due_kinds r.head (place_at r)) × TellsRecords r.prefix records
