-- The frame with which bytes begin: its kind, and how many bytes there are.
use Rattle.std.proofs.Common.{◌≡◌, ℕ, ◌≤◌, List, length, refl, ap, ◌∙◌, arith}
use Rattle.std.specs.Prelude.{slice_index}
use Rattle.std.proofs.lemmas.List.{length-append}
use Rattle.eve_grammar.specs.Frames.{Frame, OfCustomer, OfBatch, OfReplica, OfAttempt, OfAccess, OfCommit, OfRollback}
use Rattle.eve_grammar.specs.Frames.{OfTransfer, OfVerifier, OfVote, OfSent, End, kind_of}
use Rattle.eve_grammar.specs.Kinds.{kind_byte}
use Rattle.eve_grammar.specs.Spelling.{frame_text}
use Rattle.eve_grammar.specs.declared.frame_kind.FrameKind.{FrameKind}
use Rattle.eve_grammar.specs.declared.frame_kind.FrameKind.TheVariants as of
use Rattle.eve_views.proofs.FrameLaws.{length-frame_text}
use Rattle.eve_evidence_form.specs.inner.Walk.{BeginsWith}

-- the kind of a frame
pub kind_named : Frame → FrameKind
kind_named (OfCustomer c) = of.Customer
kind_named (OfBatch n b) = of.Batch
kind_named (OfReplica n) = of.Replica
kind_named (OfAttempt a) = of.Attempt
kind_named (OfAccess x) = of.Access
kind_named (OfCommit c) = of.Commit
kind_named (OfRollback r) = of.Rollback
kind_named (OfTransfer x) = of.Transfer
kind_named (OfVerifier n) = of.Verifier
kind_named (OfVote v) = of.Vote
kind_named (OfSent s) = of.Sent
kind_named End = of.End

pub named_byte : (f : Frame) → kind_byte (kind_named f) ≡ kind_of f
unfolding kind_named
named_byte (OfCustomer c) = refl
named_byte (OfBatch n b) = refl
named_byte (OfReplica n) = refl
named_byte (OfAttempt a) = refl
named_byte (OfAccess x) = refl
named_byte (OfCommit c) = refl
named_byte (OfRollback r) = refl
named_byte (OfTransfer x) = refl
named_byte (OfVerifier n) = refl
named_byte (OfVote v) = refl
named_byte (OfSent s) = refl
named_byte End = refl

pub first_is : (bytes : List ℕ) (f : Frame) → BeginsWith bytes f → slice_index bytes 0 ≡ kind_of f
first_is bytes f b = ap (λ (ys : List ℕ). slice_index ys 0) b.is

pub long_prefix : (bytes : List ℕ) (f : Frame) → BeginsWith bytes f → 5 ≤ length bytes
long_prefix bytes f b =
    omega (arith, ap length b.is ∙ length-append (frame_text f) b.rest, length-frame_text f)
