use Rattle.std.proofs.Common.{◌≡◌, ◌++◌, length, map, drop}
use Rattle.eve_write.specs.Data.{batch, section, sent}
use Rattle.eve_replica.specs.SentReplies.{sent_from_on}
use Rattle.eve_replica.specs.inner.RunInvariant.{AreReplies}
use Rattle.eve_replica.proofs.sending.replies_of.Given as goal

abbrev pub invariant-loop-place : goal.invariant-loop-place
invariant-loop-place l = record {
  limits : AreReplies (length l.servers) (length l.batches) l.replies.items;
  sent : map sent l.replies.items
      ++ sent_from_on (map (λ m. batch m.batch) l.batches) l.place (drop l.place (map (λ s. section s.steps) l.servers))
      ≡ sent_from_on (map (λ m. batch m.batch) l.batches) 0 (map (λ s. section s.steps) l.servers);
}
