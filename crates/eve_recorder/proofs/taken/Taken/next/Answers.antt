use Rattle.std.proofs.Common.{ap, ◌∙◌}
use Rattle.crossbeam_queue.specs.Passes.{view}
use Rattle.eve_recorder.specs.declared.passes.Knowledge.{Knowledge}
use Rattle.eve_recorder.proofs.OneSeat.{take_step, left_of_pass, left_after, all_taken, where_taken, where_none}
use Rattle.eve_recorder.proofs.taken.Taken.next.Goals as goal

pub pop_as-requires-clause-rule : goal.pop_as-requires-clause-rule
pop_as-requires-clause-rule g c = take_step _ _ (ap (λ (h : Knowledge). h.takes) c.self.invariant.1)

pub returns-clause-some : goal.returns-clause-some
returns-clause-some g c = where_taken _ c.pop_as.result
    (λ x h. left_after _ _ x _ h.0 c.self.view_is) c.pop_as.ensures.rule

pub returns-clause-none : goal.returns-clause-none
returns-clause-none g c = where_none _ c.pop_as.result
    (λ h. ap left_of_pass h.0 ∙ c.self.view_is) c.pop_as.ensures.rule

pub returns-clause-all : goal.returns-clause-all
returns-clause-all g c = where_none _ c.pop_as.result
    (λ h. all_taken (view c.self.inside.pass) _ c.self.invariant.1 h.1 c.self.view_is) c.pop_as.ensures.rule
