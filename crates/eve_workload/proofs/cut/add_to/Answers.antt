use Rattle.std.proofs.Common.{◌≡◌, ◌++◌, [], ◌∷◌, ◌∙◌, arith, rules}
use Rattle.eve_workload.proofs.PlacedItems.{one_more_behind, one_more_inside}
use Rattle.eve_workload.proofs.cut.add_to.Goals as goal

pub returns-then-group-len-clause-sizes : goal.returns-then-group-len-clause-sizes
returns-then-group-len-clause-sizes c =
    let pushed : c.push.new.self.items ≡ c.args.sizes.now.items ++ 1 ∷ [] = search rules in
    pushed ∙ one_more_behind c.args.sizes.now.items c.args.group (omega arith)

pub returns-clause-sizes : goal.returns-clause-sizes
returns-clause-sizes c = one_more_inside c.args.sizes.now.items c.args.group c.index-had.result.now c.index-had.ensures
    (omega arith)
