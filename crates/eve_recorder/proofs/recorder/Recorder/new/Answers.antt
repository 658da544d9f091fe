use Rattle.std.proofs.Common.{◌≡◌, ap, sym, ◌∙◌, subst, max, List, [], ◌∷◌, false, Option, arith}
use Rattle.atomic_table.specs.Seated.{TableId}
use Rattle.eve_recorder.specs.QueueRule.{knowledge, no_taker}
use Rattle.eve_recorder.specs.SeatTables.{table_by}
use Rattle.eve_recorder.specs.RecorderViews.{recorder_id, Noter, AreNotersSeated, fresh_noter}
use Rattle.eve_recorder.proofs.JoinedPass.{fresh_seated}
use Rattle.eve_recorder.specs.declared.passes.Knowledge.{Knowledge}
use Rattle.eve_recorder.proofs.QueueSteps.{begins, forks_taker}
use Rattle.eve_recorder.proofs.recorder.Recorder.new.Goals as goal

pub ruled-requires-clause-rule : goal.ruled-requires-clause-rule
ruled-requires-clause-rule c = begins

pub another-taker-requires-clause-rule : goal.another-taker-requires-clause-rule
another-taker-requires-clause-rule c = forks_taker _ _ (ap (λ (h : Knowledge). h.takes) c.cut-s0.ensures.main)

pub invariant_of-seats-2 : goal.invariant_of-seats-2
invariant_of-seats-2 c =
    let T : TableId = c.in_ok-queue.queue.table.shared.table_id in let n = c.args.workers in
    let q = c.in_ok-queue.ensures.1 in let t = c.another-taker.ensures.queue.0 in
    let e0 = c.cut-s0.ensures.queue in let e1 = c.cut-s1.ensures.queue in let e2 = c.cut-s2.ensures.queue in let e3 =
    c.cut-s3.ensures.queue in
    let e4 = c.cut-s4.ensures.queue in let e5 = c.cut-s5.ensures.queue in let e6 = c.cut-s6.ensures.queue in let e7 =
    c.cut-s7.ensures.queue in
    let here : c.another-taker.new.pass.table_id ≡ T = t.0 ∙ e0.0 ∙ e1.0 ∙ e2.0 ∙ e3.0 ∙ e4.0 ∙ e5.0 ∙ e6.0 ∙ e7.0
    ∙ q.0 in
    let none : c.another-taker.new.pass.me.1 ≡ [] = t.2 ∙ e0.2 ∙ e1.2 ∙ e2.2 ∙ e3.2 ∙ e4.2 ∙ e5.2 ∙ e6.2 ∙ e7.2 ∙ q.1 in
    let all : max n 0 ≡ n = omega arith in
    let workers = λ (h : Knowledge). h.workers in
    let many = ap workers c.another-taker.ensures.rule.1 ∙ ap workers c.cut-s0.ensures.main ∙ all in
    let table : List (Option Noter) = c.cut-s0.result ∷ c.cut-s1.result ∷ c.cut-s2.result ∷ c.cut-s3.result
    ∷ c.cut-s4.result ∷ c.cut-s5.result ∷ c.cut-s6.result ∷ c.cut-s7.result ∷ [] in
    let is : table_by (fresh_noter (recorder_id T n)) ≡ table =
    λ i. sym c.cut-s0.ensures.seat i ∷ sym c.cut-s1.ensures.seat
    i ∷ sym c.cut-s2.ensures.seat i ∷ sym c.cut-s3.ensures.seat i
    ∷ sym c.cut-s4.ensures.seat i ∷ sym c.cut-s5.ensures.seat i ∷ sym c.cut-s6.ensures.seat i ∷ sym
    c.cut-s7.ensures.seat i ∷ [] in (
      none,
      c.another-taker.ensures.rule.0 ∙ ap no_taker c.cut-s0.ensures.main ∙ ap (λ k. knowledge false [] k 0 0 []) all,
      c.requires.workers.1,
      subst (λ (y : TableId × List (Option Noter)). AreNotersSeated (recorder_id y.0 n) y.1) (λ i. (sym here i, is i))
          (fresh_seated (recorder_id T n)),
      λ i. recorder_id ((c.another-taker.ensures.queue.1.0 ∙ sym here) i) (many i),
    )
