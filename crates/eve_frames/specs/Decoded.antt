-- What the view of a frame says. docs/MODEL.md, "Trace".
use Rattle.std.specs.Prelude.{ℕ}
use Rattle.eve_grammar.specs.Trace.{Customer, Batch, Attempt, Access, Commit, Rollback, Transfer, Vote, Sent}
use Rattle.eve_frames.specs.Views.{customer_in, batch_in, attempt_in, access_in, commit_in, rollback_in}
use Rattle.eve_frames.specs.Views.{transfer_in, vote_in, sent_in}
use Rattle.eve_frames.specs.declared.customer.CustomerView.{CustomerView}
use Rattle.eve_frames.specs.declared.batch.BatchView.{BatchView}
use Rattle.eve_frames.specs.declared.attempt.AttemptView.{AttemptView}
use Rattle.eve_frames.specs.declared.access.AccessView.{AccessView}
use Rattle.eve_frames.specs.declared.commit.CommitView.{CommitView}
use Rattle.eve_frames.specs.declared.rollback.RollbackView.{RollbackView}
use Rattle.eve_frames.specs.declared.transfer.TransferView.{TransferView}
use Rattle.eve_frames.specs.declared.vote.VoteView.{VoteView}
use Rattle.eve_frames.specs.declared.sent.SentView.{SentView}

-- a customer's name and opening balances
abbrev pub customer_decoded : CustomerView → Customer
customer_decoded view = customer_in view.bytes.now

-- a batch with its number
abbrev pub batch_decoded : BatchView → ℕ × Batch
batch_decoded view = batch_in view.bytes.now

-- an attempt without its accesses, which have frames of their own
abbrev pub attempt_decoded : AttemptView → Attempt
attempt_decoded view = attempt_in view.bytes.now

-- an access record
abbrev pub access_decoded : AccessView → Access
access_decoded view = access_in view.bytes.now

-- a commit
abbrev pub commit_decoded : CommitView → Commit
commit_decoded view = commit_in view.bytes.now

-- a rollback
abbrev pub rollback_decoded : RollbackView → Rollback
rollback_decoded view = rollback_in view.bytes.now

-- a state transferred
abbrev pub transfer_decoded : TransferView → Transfer
transfer_decoded view = transfer_in view.bytes.now

-- a vote
abbrev pub vote_decoded : VoteView → Vote
vote_decoded view = vote_in view.bytes.now

-- a reply sent
abbrev pub sent_decoded : SentView → Sent
sent_decoded view = sent_in view.bytes.now
