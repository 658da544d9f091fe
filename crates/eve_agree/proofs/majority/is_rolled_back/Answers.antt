use Rattle.eve_frames.specs.Views.{rollback_in}
use Rattle.eve_agree.proofs.MajorityFaults.{rolled_from}
use Rattle.eve_agree.proofs.majority.is_rolled_back.Goals as goal

pub returns : goal.returns
returns c =
    let r = rollback_in c.args.rollback.now.bytes.now in
    rolled_from c.args.tally.now c.rolled_back.result r.to r.view c.to.result c.view.result c.to.ensures c.view.ensures
    c.rolled_back.ensures
