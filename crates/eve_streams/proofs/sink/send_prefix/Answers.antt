use Rattle.std.proofs.Common.{◌-◌, drop, length, arith, length-take, ◌∙◌}
use Rattle.eve_streams.proofs.JoinedSends.{Appends-further}
use Rattle.eve_streams.proofs.sink.send_prefix.Goals as goal

pub rest-preserved : goal.rest-preserved
rest-preserved g c =
    let bytes = c.args.bytes.now in
    let sent = c.rest.sent in
    let n = c.in-Ok.n in
    let most = length-take (length bytes - sent) (drop sent bytes) in
    let within = c.in-Ok.ensures.within in (
      omega arith,
      Appends-further _ _ _ sent n bytes (omega arith) c.rest.invariant.1 c.in-Ok.ensures.takes,
      c.in-Ok.ensures.fine ∙ c.rest.invariant.2,
    )
