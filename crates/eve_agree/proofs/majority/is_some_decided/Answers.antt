use Rattle.eve_frames.specs.Views.{transfer_in}
use Rattle.eve_agree.proofs.MajorityFaults.{some_decided_with, some_decided_nowhere}
use Rattle.eve_agree.proofs.majority.is_some_decided.Goals as goal

pub returns : goal.returns
returns c =
    let x = transfer_in c.args.transfer.now.bytes.now in
    some_decided_with c.args.tally.now c.seq.result x.seq c.view.result x.view c.decided.result c.in-Some.decision
    c.seq.ensures c.view.ensures c.decided.ensures c.in-Some.is

pub returns-in_default : goal.returns-in_default
returns-in_default c =
    let x = transfer_in c.args.transfer.now.bytes.now in
    some_decided_nowhere c.args.tally.now c.seq.result x.seq x.view c.decided.result c.seq.ensures c.decided.ensures
    c.in_default.not-Some
