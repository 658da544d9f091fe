-- The kinds of frames, by the byte that their frames begin with. docs/TRACE.md, "Frames".
use Rattle.std.specs.Prelude.{◌≢◌, ℕ}
use Rattle.eve_grammar.specs.declared.frame_kind.FrameKind.{FrameKind}
use Rattle.eve_grammar.specs.declared.frame_kind.TheConstants.{CUSTOMER_FRAME, BATCH_FRAME, REPLICA_FRAME}
use Rattle.eve_grammar.specs.declared.frame_kind.TheConstants.{ATTEMPT_FRAME, ACCESS_FRAME, COMMIT_FRAME}
use Rattle.eve_grammar.specs.declared.frame_kind.TheConstants.{ROLLBACK_FRAME, TRANSFER_FRAME, VERIFIER_FRAME}
use Rattle.eve_grammar.specs.declared.frame_kind.TheConstants.{VOTE_FRAME, SENT_FRAME, END_FRAME}
use Rattle.eve_grammar.specs.declared.frame_kind.FrameKind.TheVariants as of

-- the first byte of a frame of the kind
abbrev pub kind_byte : FrameKind → ℕ
kind_byte of.Customer = CUSTOMER_FRAME
kind_byte of.Batch = BATCH_FRAME
kind_byte of.Replica = REPLICA_FRAME
kind_byte of.Attempt = ATTEMPT_FRAME
kind_byte of.Access = ACCESS_FRAME
kind_byte of.Commit = COMMIT_FRAME
kind_byte of.Rollback = ROLLBACK_FRAME
kind_byte of.Transfer = TRANSFER_FRAME
kind_byte of.Verifier = VERIFIER_FRAME
kind_byte of.Vote = VOTE_FRAME
kind_byte of.Sent = SENT_FRAME
kind_byte of.End = END_FRAME

-- no frame begins with this byte
abbrev pub BeginsNone : ℕ → Type 0
BeginsNone byte = (kind : FrameKind) → kind_byte kind ≢ byte
