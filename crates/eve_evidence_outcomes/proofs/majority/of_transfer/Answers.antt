use Rattle.eve_frames.specs.Decoded.{transfer_decoded}
use Rattle.eve_agree.specs.Majority.{SomeDecided}
use Rattle.eve_evidence.proofs.Lists.{if_none_weaker}
use Rattle.eve_evidence_outcomes.proofs.MissingMajorities.{transfer_has}
use Rattle.eve_evidence_outcomes.proofs.majority.of_transfer.Goals as goal

pub returns-in-TransferNoMajority-clause-none : goal.returns-in-TransferNoMajority-clause-none
returns-in-TransferNoMajority-clause-none c =
    let t = c.args.trace.now in
    if_none_weaker c.transfer_poll.result (SomeDecided t c.seq.result c.view.result) _
    (transfer_has c.args.code t (transfer_decoded c.args.transfer.now) c.seq.result c.view.result
    c.in-TransferNoMajority.is c.seq.ensures c.view.ensures) c.transfer_poll.ensures.none
