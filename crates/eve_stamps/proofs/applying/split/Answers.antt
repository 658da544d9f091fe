use Rattle.std.proofs.Common.{◌≡◌, length, ap, ◌∙◌, arith}
use Rattle.eve_grammar.proofs.Lists.{one_listed, two_listed, three_listed}
use Rattle.eve_stamps.specs.Requests.{entries_within, entries_outside}
use Rattle.eve_stamps.proofs.applying.split.Goals as goal

pub returns-in-1 : goal.returns-in-1
returns-in-1 c =
    let one : length c.args.entries.now ≡ 1 = omega arith in
    let is = one_listed c.args.entries.now c.at.result one c.at.ensures in
    record {
      within = c.split_one.ensures.within ∙ ap (entries_within c.args.stripe.now) is;
      outside = c.split_one.ensures.outside ∙ ap (entries_outside c.args.stripe.now) is;
    }

pub returns-in-2 : goal.returns-in-2
returns-in-2 c =
    let two : length c.args.entries.now ≡ 2 = omega arith in
    let is =
    two_listed c.args.entries.now c.at-in-2.result c.at-in-2-2.result two c.at-in-2.ensures c.at-in-2-2.ensures in
    record {
      within = c.split_two.ensures.within ∙ ap (entries_within c.args.stripe.now) is;
      outside = c.split_two.ensures.outside ∙ ap (entries_outside c.args.stripe.now) is;
    }

pub returns-in_default : goal.returns-in_default
returns-in_default c =
    let three : length c.args.entries.now ≡ 3 = omega arith in
    let is =
    three_listed c.args.entries.now c.at-in_default.result c.at-in_default-2.result c.at-in_default-3.result three
    c.at-in_default.ensures c.at-in_default-2.ensures c.at-in_default-3.ensures in
    record {
      within = c.split_three.ensures.within ∙ ap (entries_within c.args.stripe.now) is;
      outside = c.split_three.ensures.outside ∙ ap (entries_outside c.args.stripe.now) is;
    }
