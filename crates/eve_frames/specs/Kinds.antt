-- The names of the kinds of frames. docs/TRACE.md, "Frames".
use Rattle.std.specs.Prelude.{ℕ, ◌==◌, if◌then◌else◌, List, codes}
use Rattle.eve_grammar.specs.declared.frame_kind.TheConstants.{CUSTOMER_FRAME, BATCH_FRAME, REPLICA_FRAME}
use Rattle.eve_grammar.specs.declared.frame_kind.TheConstants.{ATTEMPT_FRAME, ACCESS_FRAME, COMMIT_FRAME}
use Rattle.eve_grammar.specs.declared.frame_kind.TheConstants.{ROLLBACK_FRAME, TRANSFER_FRAME, VERIFIER_FRAME}
use Rattle.eve_grammar.specs.declared.frame_kind.TheConstants.{VOTE_FRAME, SENT_FRAME}

-- the name of the kind that a frame begins with: End also of a byte that no kind has, with which no frame of a trace
-- begins
abbrev pub kind_name : ℕ → List ℕ
kind_name kind =
    if kind == CUSTOMER_FRAME then codes "Customer"
    else if kind == BATCH_FRAME then codes "Batch"
    else if kind == REPLICA_FRAME then codes "Replica"
    else if kind == ATTEMPT_FRAME then codes "Attempt"
    else if kind == ACCESS_FRAME then codes "Access"
    else if kind == COMMIT_FRAME then codes "Commit"
    else if kind == ROLLBACK_FRAME then codes "Rollback"
    else if kind == TRANSFER_FRAME then codes "Transfer"
    else if kind == VERIFIER_FRAME then codes "Verifier"
    else if kind == VOTE_FRAME then codes "Vote"
    else if kind == SENT_FRAME then codes "Sent"
    else codes "End"
