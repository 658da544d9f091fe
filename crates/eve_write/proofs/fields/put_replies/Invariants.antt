-- What is appended so far.
use Rattle.std.proofs.Common.{◌≡◌, ◌+◌, ◌*◌, take}
use Rattle.std.specs.List.{flat_map}
use Rattle.arrayvec.specs.ArrayVec.{array_vec_len}
use Rattle.eve_smallbank.specs.Spelling.{reply_text}
use Rattle.eve_write.specs.Writes.{Puts}
use Rattle.eve_write.proofs.fields.put_replies.Given as goal

abbrev pub invariant-loop-reply : goal.invariant-loop-reply
invariant-loop-reply g l =
    Puts l.initial.frame.items l.frame.items (flat_map reply_text (take l.reply-index l.replies))
    × (array_vec_len l.frame ≡ array_vec_len l.initial.frame + 9 * l.reply-index)
