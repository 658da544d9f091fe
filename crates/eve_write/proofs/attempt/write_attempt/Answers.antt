use Rattle.std.proofs.Common.{subst, ◌∙◌}
use Rattle.eve_write.specs.Writes.{Writes}
use Rattle.eve_write.proofs.JoinedWrites.{Puts-then, Puts-whole}
use Rattle.eve_write.proofs.attempt.write_attempt.Goals as goal

pub returns : goal.returns
returns g c =
    let frame = c.as_slice.ensures.value
    ∙ Puts-whole c.new-frame.ensures (Puts-then c.put_prefix.ensures.puts c.put_results.ensures) in
    subst (Writes g.W.Sink.written g.W.Sink.failures c.args.out.now c.send.new.out c.send.result) frame c.send.ensures
