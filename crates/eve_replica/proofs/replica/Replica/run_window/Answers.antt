use Rattle.std.proofs.Common.{rules, Vec, Global, List, ℕ, subst}
use Rattle.std.specs.List.{AllZip}
use Rattle.eve_stamps.specs.Applied.{Applied}
use Rattle.eve_floor.specs.declared.assignment.Assignment.{Assignment}
use Rattle.eve_floor.specs.Recording.{IsNotedFor}
use Rattle.eve_replica.proofs.Noted.{noted_as}
use Rattle.eve_replica.proofs.replica.Replica.run_window.Goals as goal

pub returns-in-Ok-run_batches-clause-noted : goal.returns-in-Ok-run_batches-clause-noted
returns-in-Ok-run_batches-clause-noted g c =
    let names : List (List ℕ) = c.args.self.now.names in
    let given : List Assignment = c.in-Ok.assignments.items in
    let noted : List (Vec Applied Global) = c.in-Ok-run_batches.noted.items in
    let are : AllZip (IsNotedFor names) c.as_slice-assignments.result.now noted = search rules in
    noted_as names given c.args.window.now noted c.in-Ok.ensures.batches
    (subst (λ (gs : List Assignment). AllZip (IsNotedFor names) gs noted) c.as_slice-assignments.ensures.value are)
