use Rattle.std.proofs.Common.{ap}
use Rattle.eve_recorder.specs.declared.passes.Knowledge.{Knowledge}
use Rattle.eve_recorder.proofs.OneSeat.{take_step, taker_after, taker_same, where_taken, where_none}
use Rattle.eve_recorder.proofs.recorder.Recorder.take.Goals as goal

pub pop_as-requires-clause-rule : goal.pop_as-requires-clause-rule
pop_as-requires-clause-rule g c = take_step _ _ (ap (λ (h : Knowledge). h.takes) c.seat.invariant.1)

pub returns-clause-some : goal.returns-clause-some
returns-clause-some g c = where_taken _ c.pop_as.result
    (λ x h. taker_after _ _ _ _ x _ c.pop_as.ensures.queue.0 h.0 c.seat.view_is) c.pop_as.ensures.rule

pub returns-clause-none : goal.returns-clause-none
returns-clause-none g c = where_none _ c.pop_as.result
    (λ h. taker_same _ _ _ _ _ c.pop_as.ensures.queue.0 h.0 c.seat.view_is) c.pop_as.ensures.rule
