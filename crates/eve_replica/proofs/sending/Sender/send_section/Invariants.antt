use Rattle.std.proofs.Common.{◌≡◌, ◌++◌, [], length, map, drop}
use Rattle.eve_write.specs.Data.{attempt, batch, sent, step}
use Rattle.eve_replica.specs.SentReplies.{sent_along}
use Rattle.eve_replica.specs.inner.RunInvariant.{AreReplies}
use Rattle.eve_replica.proofs.sending.Sender.send_section.Given as goal

abbrev pub invariant-loop-step : goal.invariant-loop-step
invariant-loop-step l = record {
  limits : AreReplies l.self.replicas (length l.self.batches.now) l.replies.items;
  sent : map sent l.replies.items
      ++ sent_along (map (λ m. batch m.batch) l.self.batches.now) l.self.place (map (λ a. attempt a.now) l.opened.items)
      (drop l.step-index (map step l.steps))
      ≡ map sent l.fn.replies.items
      ++ sent_along (map (λ m. batch m.batch) l.self.batches.now) l.self.place [] (map step l.steps);
}
