use Rattle.std.proofs.Common.{◌≡◌, pos, [], ◌∷◌, length, arith}
use Rattle.eve_frames.specs.Decoded.{access_decoded}
use Rattle.eve_smallbank.proofs.EntryValues.{seen_by_one, seen_by_two, seen_by_three}
use Rattle.eve_evidence.proofs.record.values_seen.Goals as goal

pub returns-in-1 : goal.returns-in-1
returns-in-1 c =
    let es = (access_decoded c.args.access.now).entries in
    let one : length es ≡ 1 = omega arith in
    seen_by_one es c.entry-only.result (pos 0 ∷ pos 0 ∷ []) one c.entry-only.ensures

pub returns-in-2 : goal.returns-in-2
returns-in-2 c =
    let es = (access_decoded c.args.access.now).entries in
    let two : length es ≡ 2 = omega arith in
    seen_by_two es c.entry-first.result c.entry-second.result (pos 0 ∷ []) two c.entry-first.ensures
    c.entry-second.ensures

pub returns-in_default : goal.returns-in_default
returns-in_default c =
    let es = (access_decoded c.args.access.now).entries in
    let three : length es ≡ 3 = omega arith in
    seen_by_three es c.entry-left.result c.entry-middle.result c.entry-right.result three c.entry-left.ensures
    c.entry-middle.ensures c.entry-right.ensures
