-- Frames by the bytes at which they begin. docs/TRACE.md, "Order of frames".
use Rattle.std.specs.Prelude.{◌≡◌, ℕ, ◌+◌, ◌^◌, ◌<◌, ◌≤◌, IsTrue, List, length, take, drop}
use Rattle.byteorder.specs.Endian.{big_number}
use Rattle.eve_grammar.specs.Frames.{OfAttempt, OfAccess, OfRollback, OfTransfer}
use Rattle.eve_grammar.specs.Spelling.{frame_text}
use Rattle.eve_frames.specs.Views.{has_attempt_body, has_access_body, has_rollback_body, has_transfer_body}
use Rattle.eve_frames.specs.Views.{attempt_in, access_in, rollback_in, transfer_in}

-- how long the frame is that begins at this byte
abbrev pub frame_length : List ℕ → ℕ → ℕ
frame_length bytes at = 5 + big_number 4 (drop 1 (drop at bytes))

-- that frame: its kind, the length of its body, and the body
abbrev pub frame_in : List ℕ → ℕ → List ℕ
frame_in bytes at = take (frame_length bytes at) (drop at bytes)

-- it lies within the bytes, and doesn't begin at the first of them, where a trace's header does
pub record IsFramed (bytes : List ℕ) (at : ℕ) : Type 0 where
  pub not_first : 0 < at
  pub within : at + frame_length bytes at ≤ length bytes
  pub small : at < 2 ^ 32

-- and it is an Attempt frame, whole and no more
pub record IsAttemptAt (bytes : List ℕ) (at : ℕ) : Type 0 where
  pub framed : IsFramed bytes at
  pub attempt : IsTrue (has_attempt_body (frame_in bytes at))
  pub text : frame_in bytes at ≡ frame_text (OfAttempt (attempt_in (frame_in bytes at)))

-- and it is an Access frame, whole and no more
pub record IsAccessAt (bytes : List ℕ) (at : ℕ) : Type 0 where
  pub framed : IsFramed bytes at
  pub access : IsTrue (has_access_body (frame_in bytes at))
  pub text : frame_in bytes at ≡ frame_text (OfAccess (access_in (frame_in bytes at)))

-- and it is a Rollback frame, whole and no more
pub record IsRollbackAt (bytes : List ℕ) (at : ℕ) : Type 0 where
  pub framed : IsFramed bytes at
  pub rollback : IsTrue (has_rollback_body (frame_in bytes at))
  pub text : frame_in bytes at ≡ frame_text (OfRollback (rollback_in (frame_in bytes at)))

-- and it is a Transfer frame, whole and no more
pub record IsTransferAt (bytes : List ℕ) (at : ℕ) : Type 0 where
  pub framed : IsFramed bytes at
  pub transfer : IsTrue (has_transfer_body (frame_in bytes at))
  pub text : frame_in bytes at ≡ frame_text (OfTransfer (transfer_in (frame_in bytes at)))
