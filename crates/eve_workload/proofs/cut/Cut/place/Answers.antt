use Rattle.std.proofs.Common.{◌≡◌, ◌++◌, [], ◌∷◌, ◌∙◌, ap, arith, rules}
use Rattle.eve_workload.proofs.CutSteps.{within_sizes, below_count, small, cut_more}
use Rattle.eve_workload.proofs.cut.Cut.place.Goals as goal

pub add_to-requires-clause-there : goal.add_to-requires-clause-there
add_to-requires-clause-there c =
    within_sizes c.args.self.now c.args.touched.now c.requires.cut.0 c.requires.cut.1 c.requires.cut.2 c.requires.cut.3
    c.barred.result c.barred.ensures
    c.first_absent-group.result c.first_absent-group.ensures.absent c.first_absent-group.ensures.before

pub add_to-requires-clause-small : goal.add_to-requires-clause-small
add_to-requires-clause-small c =
    let most = small c.args.self.now c.args.touched.now c.requires.cut.0 c.requires.cut.1 c.requires.cut.2
    c.requires.cut.3 c.barred.result c.barred.ensures
    c.first_absent-group.result c.first_absent-group.ensures.absent c.first_absent-group.ensures.before in
    omega (arith, most, c.requires.few)

pub mark-requires-clause-small : goal.mark-requires-clause-small
mark-requires-clause-small c =
    let most = below_count c.args.self.now c.args.touched.now c.requires.cut.0 c.requires.cut.1 c.requires.cut.2
    c.requires.cut.3 c.barred.result c.barred.ensures
    c.first_absent-group.result c.first_absent-group.ensures.absent c.first_absent-group.ensures.before in
    omega (arith, most, c.requires.few)

pub mark-requires-clause-few : goal.mark-requires-clause-few
mark-requires-clause-few c = omega (arith, c.requires.few, c.requires.cut.3.few_marks)

pub returns-clause-cut : goal.returns-clause-cut
returns-clause-cut c rows groups next is =
    let pushed : c.push.new.self.items ≡ c.args.self.now.seats.items ++ record
    { group = c.first_absent-group.result; place = c.in_ok-place.place } ∷ [] = search rules in
    cut_more c.args.self.now c.args.touched.now rows groups next is c.barred.result c.barred.ensures
    c.first_absent-group.result c.first_absent-group.ensures.absent c.first_absent-group.ensures.before
    c.mark.new.self c.add_to.new.sizes c.push.new.self c.in_ok-mark.ensures.len c.in_ok-mark.ensures.marks
    c.in_ok-place.ensures.sizes
    (pushed ∙ ap (λ p. c.args.self.now.seats.items ++ record { group = c.first_absent-group.result; place = p } ∷ [])
    c.in_ok-place.ensures.had)
