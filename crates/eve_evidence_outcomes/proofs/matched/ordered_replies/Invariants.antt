use Rattle.std.proofs.Common.{◌≡◌, take, map}
use Rattle.std.specs.Prelude.{slice_index_or}
use Rattle.eve_smallbank.specs.declared.request.Reply.TheVariants.{Done}
use Rattle.eve_frames.specs.Decoded.{attempt_decoded}
use Rattle.eve_evidence_outcomes.proofs.matched.ordered_replies.Given as goal

abbrev pub invariant-loop-place : goal.invariant-loop-place
invariant-loop-place l = l.replies.items
    ≡ map (λ i. slice_index_or (attempt_decoded l.attempt).replies i Done)
    (take l.place (attempt_decoded l.attempt).certificate)
