use Rattle.std.proofs.Common.{subst, ◌∙◌}
use Rattle.eve_write.specs.Writes.{Writes}
use Rattle.eve_write.proofs.JoinedWrites.{Puts-whole}
use Rattle.eve_write.proofs.sent.write_sent.Goals as goal

pub returns : goal.returns
returns g c =
    let frame = c.as_slice.ensures.value ∙ Puts-whole c.new-frame.ensures c.put_sent.ensures in
    subst (Writes g.W.Sink.written g.W.Sink.failures c.args.out.now c.send.new.out c.send.result) frame c.send.ensures
