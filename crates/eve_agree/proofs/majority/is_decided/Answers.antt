use Rattle.eve_frames.specs.Views.{commit_in}
use Rattle.eve_agree.proofs.MajorityFaults.{decided_from, decided_with, decided_elsewhere, decided_nowhere}
use Rattle.std.proofs.Common.{refl, false, ◌==◌}
use Rattle.eve_agree.proofs.majority.is_decided.Goals as goal

pub returns-then-decision-view : goal.returns-then-decision-view
returns-then-decision-view c =
    let t = c.args.tally.now in
    let x = commit_in c.args.commit.now.bytes.now in
    decided_from t c.seq.result x.seq c.view.result x.view x.token c.token.result.now c.eq.result c.seq.ensures
    c.view.ensures c.token.ensures
    (decided_with t c.seq.result c.view.result c.as_slice.result.now c.token.result.now c.decided-decided.result
    c.in-Some.decision c.eq.result
    c.decided-decided.ensures c.in-Some.is c.if-decision-view.true c.as_slice.ensures c.eq.ensures)

pub returns-else-decision-view : goal.returns-else-decision-view
returns-else-decision-view c =
    let t = c.args.tally.now in
    let x = commit_in c.args.commit.now.bytes.now in
    decided_from t c.seq.result x.seq c.view.result x.view x.token x.token (c.in-Some.decision.0 == c.view.result)
    c.seq.ensures c.view.ensures refl
    (decided_elsewhere t c.seq.result c.view.result x.token c.decided-decided.result c.in-Some.decision
    c.decided-decided.ensures c.in-Some.is c.if-decision-view.false)

pub returns-in-None : goal.returns-in-None
returns-in-None c =
    let t = c.args.tally.now in
    let x = commit_in c.args.commit.now.bytes.now in
    decided_from t c.seq.result x.seq x.view x.view x.token x.token false c.seq.ensures refl refl
    (decided_nowhere t c.seq.result x.view x.token c.decided-decided.result c.decided-decided.ensures c.in-None.is)
