use Rattle.std.proofs.Common.{◌≡◌, ◌∙◌, ap, length, Some, arith}
use Rattle.eve_stamps.specs.Requests.{has_row_in_two, rows_in_two}
use Rattle.eve_stamps.proofs.Refusals.{not_seen}
use Rattle.eve_stamps.proofs.SeenRows.{one_seen, two_seen, three_seen}
use Rattle.eve_stamps.proofs.applying.seen_in_two.Goals as goal

pub returns-in_default : goal.returns-in_default
returns-in_default c = not_seen (has_row_in_two c.args.first.now c.args.second.now)
    (rows_in_two c.args.first.now c.args.second.now) c.args.rows.now 0 c.at.result
    c.at.ensures c.in_default.ensures

pub returns-then-count-eq1 : goal.returns-then-count-eq1
returns-then-count-eq1 c =
    let one : length c.args.rows.now ≡ 1 = omega (arith, c.len-count.ensures.len, c.if-count-eq1.true) in
    ap Some c.one.ensures
    ∙ one_seen (has_row_in_two c.args.first.now c.args.second.now)
    (rows_in_two c.args.first.now c.args.second.now) c.args.rows.now c.at.result c.in-Some.one one
    c.at.ensures c.in-Some.ensures

pub returns-in_default-see_in_two : goal.returns-in_default-see_in_two
returns-in_default-see_in_two c = not_seen (has_row_in_two c.args.first.now c.args.second.now)
    (rows_in_two c.args.first.now c.args.second.now) c.args.rows.now 1
    c.at-2.result c.at-2.ensures c.in_default-see_in_two.ensures

pub returns-then-count-eq2 : goal.returns-then-count-eq2
returns-then-count-eq2 c =
    let two : length c.args.rows.now ≡ 2 = omega (arith, c.len-count.ensures.len, c.if-count-eq2.true) in
    ap Some c.two.ensures
    ∙ two_seen (has_row_in_two c.args.first.now c.args.second.now)
    (rows_in_two c.args.first.now c.args.second.now) c.args.rows.now c.at.result c.at-2.result
    c.in-Some.one c.in-Some-see_in_two.two two c.at.ensures c.at-2.ensures c.in-Some.ensures
    c.in-Some-see_in_two.ensures

pub returns-in_default-see_in_two-2 : goal.returns-in_default-see_in_two-2
returns-in_default-see_in_two-2 c = not_seen (has_row_in_two c.args.first.now c.args.second.now)
    (rows_in_two c.args.first.now c.args.second.now) c.args.rows.now 2
    c.at-3.result c.at-3.ensures c.in_default-see_in_two-2.ensures

pub returns : goal.returns
returns c =
    let three : length c.args.rows.now ≡ 3 =
    omega (arith, c.len-count.ensures, c.if-count-eq0.false, c.if-count-eq1.false, c.if-count-eq2.false) in
    ap Some c.three.ensures
    ∙ three_seen (has_row_in_two c.args.first.now c.args.second.now)
    (rows_in_two c.args.first.now c.args.second.now) c.args.rows.now c.at.result c.at-2.result
    c.at-3.result c.in-Some.one c.in-Some-see_in_two.two c.in-Some-see_in_two-2.three three c.at.ensures c.at-2.ensures
    c.at-3.ensures c.in-Some.ensures c.in-Some-see_in_two.ensures c.in-Some-see_in_two-2.ensures
