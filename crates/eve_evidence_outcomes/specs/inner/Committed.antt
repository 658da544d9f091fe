-- The attempt by which a replica committed a batch, as it was read. docs/MODEL.md, "Section state, fate".
use Rattle.std.specs.Prelude.{◌≡◌, ℕ, Some}
use Rattle.eve_grammar.specs.Trace.{Trace}
use Rattle.eve_grammar.specs.Frames.{without_accesses}
use Rattle.eve_frames.specs.Decoded.{attempt_decoded}
use Rattle.eve_frames.specs.declared.attempt.AttemptView.{AttemptView}
use Rattle.eve_history.specs.Section.{Placed}
use Rattle.eve_history.specs.SectionHistory.{committed_at}

-- replica e committed batch n by this attempt
pub record IsCommittedBy (t : Trace) (e n : ℕ) (a : AttemptView) : Type 0 where
  pub placed : Placed
  pub committed : committed_at t e n ≡ Some placed
  pub offset_is : a.offset ≡ placed.offset
  pub decoded : attempt_decoded a ≡ without_accesses placed.attempt
