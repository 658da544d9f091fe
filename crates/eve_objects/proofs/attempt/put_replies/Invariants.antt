-- The tokens that came and those that are still to come are together all of them.
use Rattle.std.proofs.Common.{◌≡◌, ◌++◌}
use Rattle.std.specs.List.{flat_map}
use Rattle.eve_frames.specs.Views.{attempt_in}
use Rattle.eve_objects.specs.FrameObjects.{reply_item}
use Rattle.eve_objects.proofs.attempt.put_replies.Given as goal

abbrev pub invariant-loop-reply : goal.invariant-loop-reply
invariant-loop-reply l =
    (l.writer.tokens ++ flat_map reply_item l.reply-iterator
    ≡ l.initial.writer.tokens ++ flat_map reply_item ((attempt_in l.attempt.bytes.now).replies))
    × (l.writer.before ≡ l.initial.writer.before)
