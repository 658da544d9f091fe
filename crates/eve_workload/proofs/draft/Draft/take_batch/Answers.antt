use Rattle.std.proofs.Common.{◌≡◌, length, arith, rules}
use Rattle.eve_workload.proofs.DraftLines.{batch_accepted, batch_refused}
use Rattle.eve_workload.proofs.draft.Draft.take_batch.Goals as goal

pub returns-then-len-clause-accepted : goal.returns-then-len-clause-accepted
returns-then-len-clause-accepted c = λ before keeps.
    let count : c.len.result ≡ length c.args.self.now.batches.items = search rules in
    batch_refused c.args.self.now before (omega arith) keeps

pub returns-clause-accepted : goal.returns-clause-accepted
returns-clause-accepted c = λ before keeps.
    let count : c.len.result ≡ length c.args.self.now.batches.items = search rules in
    let follows = c.takes_batch.ensures before keeps.last in
    batch_accepted c.args.self.now c.push.new.self c.new.result before c.in_ok-push.ensures.items c.new.ensures.items
    (omega arith) (cc) keeps
