-- The bodies of batches, attempts, access records and transfers, judged apart from the frames among which they stand.
-- docs/ARCHITECTURE.md, "Threads of an audit".
use Rattle.std.specs.Prelude.{◌≡◌, ℕ, ◌+◌, ◌≤◌, ◌<◌, Bool, true, ◌==◌, if◌then◌else◌, List, ◌++◌, length, take, drop}
use Rattle.std.specs.Prelude.{slice_index, Ok, is_some, All, IsTrue}
use Rattle.byteorder.specs.Endian.{big_number}
use Rattle.eve_grammar.specs.Frames.{is_allowed}
use Rattle.eve_grammar.specs.Limits.{row_count}
use Rattle.eve_grammar.specs.Readers.{batch_of, attempt_of, access_of, transfer_of}
use Rattle.eve_grammar.specs.declared.head.Head.{Head}
use Rattle.eve_grammar.specs.declared.place.Place.{Place}
use Rattle.eve_views.specs.Walk.{frame_at}
use Rattle.eve_views.specs.Indexes.{KeptFrame, kept}
use Rattle.eve_views.specs.inner.WalkProgress.{Walking}
use Rattle.eve_views.specs.declared.progress.Progress.{Progress}
use Rattle.eve_grammar.specs.declared.frame_kind.TheConstants.{BATCH_FRAME, ATTEMPT_FRAME, ACCESS_FRAME}
use Rattle.eve_grammar.specs.declared.frame_kind.TheConstants.{TRANSFER_FRAME, FRAME_HEAD_LEN}
use Rattle.eve_grammar.specs.declared.head.TheConstants.{HEADER_LEN}

-- whether it is a body of this kind, where the kind is one of these four; there are this many rows
abbrev pub is_right_body : ℕ → ℕ → List ℕ → Bool
is_right_body rows kind body =
    if kind == BATCH_FRAME then is_some (batch_of body)
    else if kind == ATTEMPT_FRAME then is_some (attempt_of body)
    else if kind == ACCESS_FRAME then is_some (access_of rows body)
    else if kind == TRANSFER_FRAME then is_some (transfer_of rows body)
    else true

-- the same of the body of the frame at the beginning of bytes
abbrev pub IsRightFrame : ℕ → List ℕ → Type 0
IsRightFrame rows bytes =
    IsTrue (is_right_body rows (slice_index bytes 0) (take (big_number 4 (drop 1 bytes)) (drop FRAME_HEAD_LEN bytes)))

-- the same of the frame at each of these byte offsets
abbrev pub AreRightFrames : ℕ → List ℕ → List ℕ → Type 0
AreRightFrames rows bytes offsets = All (λ at. IsRightFrame rows (drop at bytes)) offsets

-- a frame of a kind that may stand there lies at the beginning of the bytes as a whole; it is right as well, if only
-- its body is, where that wasn't judged
pub record IsFramedUnjudged (h : Head) (p : Place) (bytes : List ℕ) (k : KeptFrame) : Type 0 where
  pub allowed : IsTrue (is_allowed h p k.kind)
  pub some : 0 < k.len
  pub within : k.len ≤ length bytes
  pub right : IsRightFrame (row_count h) bytes → Ok k ≡ kept bytes (frame_at h p bytes)

-- the same wherever a frame of that kind may stand
abbrev pub FindsUnjudged : List ℕ → KeptFrame → Type 0
FindsUnjudged bytes k = (h : Head) (p : Place) → IsTrue (is_allowed h p k.kind) → IsFramedUnjudged h p bytes k

-- what is kept of an access frame of this length
abbrev pub access_kept : ℕ → KeptFrame
access_kept len = record { kind = ACCESS_FRAME; len = len; accesses = 0 }

-- the walk came so far, if only the bodies are right of the frames that it found, where these weren't judged
pub record IsWalkedUnjudged (h : Head) (bytes : List ℕ) (w : Progress) : Type 0 where
  pub head : w.reached.head ≡ h
  pub within : w.at ≤ length bytes
  pub few : length w.offsets.items + HEADER_LEN ≤ w.at
  pub walking : AreRightFrames (row_count h) bytes w.offsets.items
      → Walking h bytes w.at w.reached.place w.offsets.items w.starts

-- the one walk goes on with the other: the frames that it had found stand in front
pub record WalksOn (before after : Progress) : Type 0 where
  pub more : List ℕ
  pub offsets : after.offsets.items ≡ before.offsets.items ++ more
