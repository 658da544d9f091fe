use Rattle.std.proofs.Common.{◌≡◌, pos, [], ◌∷◌, List, map, take, length, refl, subst, arith}
use Rattle.eve_grammar.proofs.Lists.{one_listed, two_listed, three_listed}
use Rattle.eve_stamps.specs.Stripes.{HeldRow}
use Rattle.eve_stamps.proofs.executing.values_in.Goals as goal

pub returns-in-1 : goal.returns-in-1
returns-in-1 c =
    let one : length c.args.seen.now ≡ 1 = omega arith in
    subst (λ (rows : List HeldRow). take (length rows) (c.at.result.value ∷ pos 0 ∷ pos 0 ∷ [])
    ≡ map (λ r. r.value) rows)
    (one_listed c.args.seen.now c.at.result one c.at.ensures) refl

pub returns-in-2 : goal.returns-in-2
returns-in-2 c =
    let two : length c.args.seen.now ≡ 2 = omega arith in
    subst (λ (rows : List HeldRow). take (length rows) (c.at-in-2.result.value ∷ c.at-in-2-2.result.value ∷ pos 0 ∷ [])
    ≡ map (λ r. r.value) rows)
    (two_listed c.args.seen.now c.at-in-2.result c.at-in-2-2.result two c.at-in-2.ensures c.at-in-2-2.ensures) refl

pub returns-in_default : goal.returns-in_default
returns-in_default c =
    let three : length c.args.seen.now ≡ 3 = omega arith in
    subst (λ (rows : List HeldRow). take (length rows) (c.at-in_default.result.value ∷ c.at-in_default-2.result.value
    ∷ c.at-in_default-3.result.value ∷ []) ≡ map (λ r. r.value) rows)
    (three_listed c.args.seen.now c.at-in_default.result c.at-in_default-2.result c.at-in_default-3.result three
    c.at-in_default.ensures c.at-in_default-2.ensures c.at-in_default-3.ensures) refl
