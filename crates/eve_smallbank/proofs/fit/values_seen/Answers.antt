use Rattle.std.proofs.Common.{◌≡◌, pos, [], ◌∷◌, length, arith}
use Rattle.eve_smallbank.proofs.EntryValues.{seen_by_one, seen_by_two, seen_by_three}
use Rattle.eve_smallbank.proofs.fit.values_seen.Goals as goal

pub returns-in-1 : goal.returns-in-1
returns-in-1 c =
    let one : length c.args.entries.now ≡ 1 = omega arith in
    seen_by_one c.args.entries.now c.at.result (pos 0 ∷ pos 0 ∷ []) one c.at.ensures

pub returns-in-2 : goal.returns-in-2
returns-in-2 c =
    let two : length c.args.entries.now ≡ 2 = omega arith in
    seen_by_two c.args.entries.now c.at-in-2.result c.at-in-2-2.result (pos 0 ∷ []) two c.at-in-2.ensures
    c.at-in-2-2.ensures

pub returns-in_default : goal.returns-in_default
returns-in_default c =
    let three : length c.args.entries.now ≡ 3 = omega arith in
    seen_by_three c.args.entries.now c.at-in_default.result c.at-in_default-2.result c.at-in_default-3.result three
    c.at-in_default.ensures c.at-in_default-2.ensures c.at-in_default-3.ensures
