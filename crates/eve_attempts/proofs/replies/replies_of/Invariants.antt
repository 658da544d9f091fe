use Rattle.std.proofs.Common.{◌≡◌, IsTrue, length, drop, replicate, vec_len}
use Rattle.std.specs.List.{list_all}
use Rattle.eve_smallbank.specs.declared.request.Reply.TheVariants.{Done}
use Rattle.eve_grammar.specs.Limits.{is_reply}
use Rattle.eve_attempts.specs.inner.RecordKeys.{replies_placed}
use Rattle.eve_attempts.proofs.replies.replies_of.Given as goal

abbrev pub invariant-loop-record : goal.invariant-loop-record
invariant-loop-record l = record {
  placed : replies_placed l.replies.items (drop l.record-index l.records)
      ≡ replies_placed (replicate (length l.records) Done) l.records;
  len : vec_len l.replies ≡ length l.records;
  limits : IsTrue (list_all is_reply l.replies.items);
}
