-- Where the bytes that a view lends stand. docs/TRACE.md, "Frames".
use Rattle.std.specs.Prelude.{◌≡◌, ℕ, List, ◌++◌, drop}
use Rattle.eve_grammar.specs.Trace.{Trace}
use Rattle.eve_grammar.specs.Frames.{OfAttempt, OfCommit, OfRollback, OfTransfer}
use Rattle.eve_grammar.specs.Spelling.{frame_text, spelling}
use Rattle.eve_frames.specs.Decoded.{attempt_decoded, commit_decoded, rollback_decoded, transfer_decoded}
use Rattle.eve_views.specs.declared.steps.Step as step_read
use Rattle.eve_views.specs.declared.steps.Step.TheVariants as of

-- the trace's bytes from this offset on begin with these
pub record HasBytesAt (t : Trace) (offset : ℕ) (bytes : List ℕ) : Type 0 where
  pub behind : List ℕ
  pub is : drop offset (spelling t) ≡ bytes ++ behind

-- the view of the step's own frame lends the frame's whole text and no more
abbrev pub LendsFrame : step_read.Step → Type 0
LendsFrame (of.Attempt a accesses) = a.bytes.now ≡ frame_text (OfAttempt (attempt_decoded a))
LendsFrame (of.Commit c) = c.bytes.now ≡ frame_text (OfCommit (commit_decoded c))
LendsFrame (of.Rollback r) = r.bytes.now ≡ frame_text (OfRollback (rollback_decoded r))
LendsFrame (of.Transfer x) = x.bytes.now ≡ frame_text (OfTransfer (transfer_decoded x))
