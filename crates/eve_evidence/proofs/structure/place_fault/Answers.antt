use Rattle.std.proofs.Common.{ℕ, ◌+◌, sym, ap, ◌∙◌, arith}
use Rattle.eve_grammar.specs.Trace.{Access}
use Rattle.eve_frames.specs.Decoded.{access_decoded}
use Rattle.eve_evidence.proofs.PartsRead.{count_more, count_same}
use Rattle.eve_evidence.proofs.structure.place_fault.Goals.{then-worker, else-worker}
use Rattle.eve_evidence.proofs.structure.place_fault.Goals as goal

pub loop-k-preserved : goal.loop-k-preserved
loop-k-preserved c =
    let xs = c.args.accesses.now in
    let x : ℕ × Access = (c.get.result.offset, access_decoded c.get.result) in
    let k = c.loop-k.k in
    elim c.if-worker.branch [
      | then-worker w ↦
          let more = count_more c.worker-worker.result xs k x c.get.ensures.says
          (sym c.worker.ensures ∙ w.if-worker.true) in (
            w.next-is ∙ ap (λ (n : ℕ). n + 1) c.loop-k.invariant.0 ∙ sym more,
            omega (arith, w.next-is, c.loop-k.invariant.1),
          )
      | else-worker w ↦
          let more = count_same c.worker-worker.result xs k x c.get.ensures.says
          (λ e. w.if-worker.false (c.worker.ensures ∙ e)) in
          (w.next-is ∙ c.loop-k.invariant.0 ∙ sym more, omega (arith, w.next-is, c.loop-k.invariant.1))
    ]
