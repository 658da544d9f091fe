use Rattle.std.proofs.Common.{◌≡◌, ◌+◌, ◌≤◌, ◌++◌, length, map, drop, vec_len, vec_capacity}
use Rattle.eve_write.specs.Data.{asked, sent}
use Rattle.eve_replica.specs.SentReplies.{answered}
use Rattle.eve_replica.specs.inner.RunInvariant.{AreReplies}
use Rattle.eve_replica.proofs.sending.Sender.send_attempt.Given as goal

abbrev pub invariant-loop-index : goal.invariant-loop-index
invariant-loop-index l = record {
  limits : AreReplies l.self.replicas (length l.self.batches.now) l.replies.items;
  sent : map sent l.replies.items
      ++ answered l.self.place l.seq (drop l.index (map asked l.requests)) (drop l.index l.answers)
      ≡ map sent l.fn.replies.items ++ answered l.self.place l.seq (map asked l.requests) l.answers;
  room : vec_len l.replies + l.count ≤ vec_capacity l.replies + l.index;
}
