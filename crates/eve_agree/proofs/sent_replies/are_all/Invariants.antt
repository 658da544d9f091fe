use Rattle.std.proofs.Common.{ℕ, ◌<◌, Bool, slice_index_or}
use Rattle.std.specs.Prelude.{IsTrue}
use Rattle.eve_agree.proofs.sent_replies.are_all.Given as goal

abbrev pub invariant-loop-part : goal.invariant-loop-part
invariant-loop-part l = (i : ℕ) (d : Bool) → i < l.part-index → IsTrue (slice_index_or l.parts i d)
