use Rattle.std.proofs.Common.{subst, ap}
use Rattle.eve_grammar.specs.Spelling.{request_text}
use Rattle.eve_write.specs.Writes.{Puts}
use Rattle.eve_write.proofs.JoinedWrites.{Puts-then, app}
use Rattle.eve_write.proofs.request.put_asked.Goals as goal

pub returns : goal.returns
returns g c =
    let spelled = app c.to_be_bytes.ensures (app c.to_be_bytes-2.ensures (ap request_text c.request.ensures)) in
    subst (Puts c.args.frame.now.items c.put_request.new.frame.items) spelled
    (Puts-then c.put.ensures.puts (Puts-then c.put-2.ensures.puts c.put_request.ensures))
