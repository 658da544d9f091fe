use Rattle.std.proofs.Common.{ap, arith}
use Rattle.eve_recorder.specs.declared.passes.Knowledge.{Knowledge}
use Rattle.eve_recorder.proofs.QueueSteps.{forks, forks_absent}
use Rattle.eve_recorder.proofs.recorder.cut.Goals as goal

pub another-requires-clause-rule : goal.another-requires-clause-rule
another-requires-clause-rule c =
    let m = c.requires.main in
    let from = ap (λ (h : Knowledge). h.from) m in let below = ap (λ (h : Knowledge). h.below) m in let many =
    ap (λ (h : Knowledge). h.workers) m in
    forks_absent _ _ (ap (λ (h : Knowledge). h.takes) m) from (omega arith) (omega arith)
    (ap (λ (h : Knowledge). h.noted) m)

pub another-pass-requires-clause-rule : goal.another-pass-requires-clause-rule
another-pass-requires-clause-rule c =
    let m = c.requires.main in
    let from = ap (λ (h : Knowledge). h.from) m in let below = ap (λ (h : Knowledge). h.below) m in
    forks _ _ (omega arith) (ap (λ (h : Knowledge). h.noted) m)
