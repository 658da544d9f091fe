use Rattle.std.proofs.Common.{◌≡◌, take, subst, ap, arith}
use Rattle.std.proofs.lemmas.List.{take_all}
use Rattle.eve_write.specs.Writes.{Wrote, Stopped, Writes}
use Rattle.eve_write.proofs.JoinedWrites.{Writes-at_err}
use Rattle.eve_write.proofs.GatheredTexts.{AreGathered, gathered-none, gathered-sent, gathered-more, gathered-stopped}
use Rattle.eve_write.proofs.GatheredTexts.{gathered-at, gathered-whole}
use Rattle.eve_write.proofs.short.write_short.Goals.{then-len+in_ok-send, else-len}
use Rattle.eve_write.proofs.short.write_short.Goals as goal

pub loop-item-init : goal.loop-item-init
loop-item-init g c = gathered-none _ _ _ _ _ _ c.new-texts.ensures

pub returns-in_err-send : goal.returns-in_err-send
returns-in_err-send g c =
    let stopped = subst (Stopped g.W.Sink.written g.W.Sink.failures c.loop-item.out c.send.new.out)
    c.as_slice.ensures.value c.in_err-send.ensures in
    Writes-at_err _ _ _ _ _ c.from_residual.result c.from_residual.ensures.0
    (gathered-stopped c.loop-item.invariant stopped)

pub loop-item-preserved : goal.loop-item-preserved
loop-item-preserved g c =
    let room : AreGathered g.W.Sink.written g.W.Sink.failures g.T.Short.text c.args.items.now c.args.out.now
    c.if-len.out c.loop-item.item-index c.if-len.texts.items =
    elim c.if-len.branch [
      | then-len+in_ok-send w ↦
          let wrote = subst (Wrote g.W.Sink.written g.W.Sink.failures c.loop-item.out w.send.new.out)
          w.as_slice.ensures.value w.in_ok-send.ensures in
          gathered-at w.out-is (ap (λ t. t.items) w.texts-is)
          (gathered-sent c.loop-item.invariant wrote w.clear.ensures)
      | else-len w ↦ gathered-at w.out-is (ap (λ t. t.items) w.texts-is) c.loop-item.invariant
    ] in
    gathered-more c.item-item.result c.loop-item-test.true c.item-item.is room c.put.ensures

pub returns : goal.returns
returns g c =
    let last = subst (Writes g.W.Sink.written g.W.Sink.failures c.loop-item.out c.send-2.new.out c.send-2.result)
    c.as_slice-2.ensures.value c.send-2.ensures in
    let whole : take c.loop-item.item-index c.args.items.now ≡ c.args.items.now =
    take_all c.loop-item.item-index c.args.items.now (omega arith) in
    gathered-whole c.send-2.new.out c.send-2.result whole c.loop-item.invariant last
