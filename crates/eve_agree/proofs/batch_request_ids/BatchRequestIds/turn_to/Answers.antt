use Rattle.std.proofs.Common.{ℕ, map, sym, ap, ◌∙◌}
use Rattle.eve_grammar.specs.Trace.{Batch}
use Rattle.eve_frames.specs.Views.{batch_in}
use Rattle.eve_grammar.specs.Trace.{request_id}
use Rattle.eve_history.proofs.Lookups.{batch_is, batch_fits}
use Rattle.eve_agree.proofs.batch_request_ids.BatchRequestIds.turn_to.Goals as goal

pub read-self-requires : goal.read-self-requires
read-self-requires c =
    let b : ℕ × (ℕ × Batch) = (c.batch.result.offset, batch_in c.batch.result.bytes.now) in
    batch_fits c.args.trace.now c.args.batch b c.recall_limits.ensures c.batch.ensures.says

pub returns-then-self-batch-clause-new : goal.returns-then-self-batch-clause-new
returns-then-self-batch-clause-new c =
    let b : ℕ × (ℕ × Batch) = (c.batch.result.offset, batch_in c.batch.result.bytes.now) in
    record {
      few = c.read-self.ensures.few;
      request_ids = λ one. c.read-self.ensures.kept ∙ ap (λ (x : Batch). map request_id x.requests)
          (sym (batch_is c.args.trace.now c.args.batch b c.batch.ensures.says));
    }
