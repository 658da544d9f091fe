-- The frames of a trace, in their order. docs/MODEL.md, "Trace"; docs/TRACE.md, "Order of frames" and "Frames".
use Rattle.std.specs.Prelude.{ℕ, ◌+◌, ◌-◌, nat_lt, ◌==◌, Bool, true, false, not, ◌&&◌, ◌||◌, if◌then◌else◌, List, []}
use Rattle.std.specs.Prelude.{◌∷◌, ◌++◌, map, length}
use Rattle.std.specs.List.{flat_map, enumerate_from}
use Rattle.eve_grammar.specs.Trace.{Customer, Batch, Access, Attempt, Commit, Rollback, Step, Attempts, Commits}
use Rattle.eve_grammar.specs.Trace.{RollsBack, Transfer, Transfers, Vote, Sent, Trace}
use Rattle.eve_grammar.specs.declared.head.Head.{Head}
use Rattle.eve_grammar.specs.declared.frame_kind.TheConstants.{CUSTOMER_FRAME, BATCH_FRAME, REPLICA_FRAME}
use Rattle.eve_grammar.specs.declared.frame_kind.TheConstants.{ATTEMPT_FRAME, ACCESS_FRAME, COMMIT_FRAME}
use Rattle.eve_grammar.specs.declared.frame_kind.TheConstants.{ROLLBACK_FRAME, TRANSFER_FRAME, VERIFIER_FRAME}
use Rattle.eve_grammar.specs.declared.frame_kind.TheConstants.{VOTE_FRAME, SENT_FRAME, END_FRAME}
use Rattle.eve_grammar.specs.declared.place.Place.{Place}

-- A frame with what it says. Batches, replicas and verifiers say their own number; an attempt's frame
-- says nothing of its accesses, which have frames of their own after it.
pub data Frame : Type 0 where
  OfCustomer : Customer → Frame
  OfBatch : (number : ℕ) → Batch → Frame
  OfReplica : (number : ℕ) → Frame
  OfAttempt : Attempt → Frame
  OfAccess : Access → Frame
  OfCommit : Commit → Frame
  OfRollback : Rollback → Frame
  OfTransfer : Transfer → Frame
  OfVerifier : (number : ℕ) → Frame
  OfVote : Vote → Frame
  OfSent : Sent → Frame
  End : Frame

-- the attempt as its own frame says it
abbrev pub without_accesses : Attempt → Attempt
without_accesses a = record a { accesses = [] }

-- an attempt's own frame, then those of its accesses
abbrev pub attempt_frames : Attempt → List Frame
attempt_frames a = OfAttempt (record a { accesses = [] }) ∷ map OfAccess a.accesses

-- the frames of a step: one, but for an attempt
abbrev pub step_frames : Step → List Frame
step_frames (Attempts a) = attempt_frames a
step_frames (Commits c) = OfCommit c ∷ []
step_frames (RollsBack r) = OfRollback r ∷ []
step_frames (Transfers x) = OfTransfer x ∷ []

-- a replica's frame and those of its steps
abbrev pub section_frames : ℕ × List Step → List Frame
section_frames s = OfReplica s.0 ∷ flat_map step_frames s.1

-- a verifier's frame and those of its votes
abbrev pub verifier_frames : ℕ × List Vote → List Frame
verifier_frames v = OfVerifier v.0 ∷ map OfVote v.1

-- batches are numbered from 1, replicas and verifiers from 0
abbrev pub batches_of : Trace → List (ℕ × Batch)
batches_of t = enumerate_from 1 t.batches

-- each replica's number with its steps
abbrev pub sections_of : Trace → List (ℕ × List Step)
sections_of t = enumerate_from 0 t.sections

-- each verifier's number with its votes
abbrev pub verifiers_of : Trace → List (ℕ × List Vote)
verifiers_of t = enumerate_from 0 t.verifiers

-- customers, batches, each replica's section, each verifier's votes, the replies sent, the end
unfoldable pub frames_of : Trace → List Frame
frames_of t =
    map OfCustomer t.customers ++ (map (λ b. OfBatch b.0 b.1) (batches_of t) ++ (flat_map section_frames (sections_of t)
    ++ (flat_map verifier_frames (verifiers_of t) ++ (map OfSent t.sent ++ End ∷ []))))

-- ---- which kind may stand where

-- the byte that a frame begins with
abbrev pub kind_of : Frame → ℕ
kind_of (OfCustomer c) = CUSTOMER_FRAME
kind_of (OfBatch n b) = BATCH_FRAME
kind_of (OfReplica n) = REPLICA_FRAME
kind_of (OfAttempt a) = ATTEMPT_FRAME
kind_of (OfAccess x) = ACCESS_FRAME
kind_of (OfCommit c) = COMMIT_FRAME
kind_of (OfRollback r) = ROLLBACK_FRAME
kind_of (OfTransfer x) = TRANSFER_FRAME
kind_of (OfVerifier n) = VERIFIER_FRAME
kind_of (OfVote v) = VOTE_FRAME
kind_of (OfSent s) = SENT_FRAME
kind_of End = END_FRAME

-- before the first frame
abbrev pub start_place : Place
start_place =
    record { customers = 0; batches = 0; replicas = 0; accesses = 0; verifiers = 0; sending = false; ended = false }

-- after a frame; commits, rollbacks, transfers and votes count nothing
abbrev pub next_place : Place → Frame → Place
next_place p (OfCustomer c) = record p { customers = p.customers + 1 }
next_place p (OfBatch n b) = record p { batches = p.batches + 1 }
next_place p (OfReplica n) = record p { replicas = p.replicas + 1 }
next_place p (OfAttempt a) = record p { accesses = length a.certificate }
next_place p (OfAccess x) = record p { accesses = p.accesses - 1 }
next_place p (OfVerifier n) = record p { verifiers = p.verifiers + 1 }
next_place p (OfSent s) = record p { sending = true }
next_place p End = record p { ended = true }
next_place p _ = p

-- traces of this version may have transfers
abbrev pub has_transfers : ℕ → Bool
has_transfers version = version == 2

-- in the sections: the next replica, a step of this one, or after the last replica the first verifier
abbrev pub is_allowed_in_sections : Head → Place → ℕ → Bool
is_allowed_in_sections h p kind =
    ((kind == REPLICA_FRAME) && nat_lt p.replicas h.replicas)
    || ((nat_lt 0 p.replicas && ((kind == ATTEMPT_FRAME) || ((kind == COMMIT_FRAME)
    || ((kind == ROLLBACK_FRAME) || ((kind == TRANSFER_FRAME) && has_transfers h.version)))))
    || ((kind == VERIFIER_FRAME) && (p.replicas == h.replicas)))

-- after them: the next verifier, a vote of this one, or after the last verifier a reply sent or the end
abbrev pub is_allowed_behind_sections : Head → Place → ℕ → Bool
is_allowed_behind_sections h p kind =
    (not p.sending && (((kind == VERIFIER_FRAME) && nat_lt p.verifiers h.verifiers) || (kind == VOTE_FRAME)))
    || ((p.verifiers == h.verifiers) && ((kind == SENT_FRAME) || (kind == END_FRAME)))

-- whether a frame of the kind may stand there: a matter of the order of kinds alone
abbrev pub is_allowed : Head → Place → ℕ → Bool
is_allowed h p kind =
    if p.ended then false
    else if nat_lt p.customers h.customers then kind == CUSTOMER_FRAME
    else if nat_lt p.batches h.batches then kind == BATCH_FRAME
    else if nat_lt 0 p.accesses then kind == ACCESS_FRAME
    else if p.verifiers == 0 then is_allowed_in_sections h p kind
    else is_allowed_behind_sections h p kind
