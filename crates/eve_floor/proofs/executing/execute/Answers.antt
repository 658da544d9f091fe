use Rattle.std.proofs.Common.{◌≡◌, None, rules}
use Rattle.eve_floor.proofs.executing.execute.Goals as goal

pub returns-in_err-made-clause-executes : goal.returns-in_err-made-clause-executes
returns-in_err-made-clause-executes g c =
    let none : c.args.worker.now.waiting ≡ None = search rules in
    search (rules, none)

pub returns-then-is_ok-clause-executes : goal.returns-then-is_ok-clause-executes
returns-then-is_ok-clause-executes g c =
    let none : c.args.worker.now.waiting ≡ None = search rules in
    search (rules, none)

pub returns-else-is_ok-clause-executes : goal.returns-else-is_ok-clause-executes
returns-else-is_ok-clause-executes g c =
    let none : c.args.worker.now.waiting ≡ None = search rules in
    search (rules, none)
