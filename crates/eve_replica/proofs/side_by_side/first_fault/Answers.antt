use Rattle.std.proofs.Common.{rules, ◌≡◌, false, below_more, arith}
use Rattle.std.proofs.lemmas.List.Elements.{at_read}
use Rattle.eve_replica.proofs.side_by_side.first_fault.Goals as goal

pub loop-server-preserved : goal.loop-server-preserved
loop-server-preserved c =
    below_more _ _ c.loop-server.invariant
    (at_read c.args.servers.now (λ s. s.replica.is_broken ≡ false) c.loop-server.server-index
    c.server-item.result (omega arith) c.server-item.is (search rules))

pub returns : goal.returns
returns c = λ k d there. c.loop-server.invariant k (omega arith) d
