use Rattle.std.proofs.Common.{List, refl, subst, arith}
use Rattle.std.specs.List.{AllByRecursion}
use Rattle.std.proofs.lemmas.List.{take_all}
use Rattle.eve_grammar.specs.declared.restore.Restore.{Restore}
use Rattle.eve_frames.specs.Decoded.{rollback_decoded}
use Rattle.eve_evidence.specs.Seen.{GivesThat}
use Rattle.eve_evidence.proofs.Lists.{all_more, place_at, no_place_of_all}
use Rattle.eve_evidence.proofs.prefix.restores.Goals as goal

pub returns-then-gives-clause-yes : goal.returns-then-gives-clause-yes
returns-then-gives-clause-yes c = λ yes.
    place_at (λ _ x. GivesThat c.args.row c.args.left.now x) (rollback_decoded c.args.rollback.now).restores c.loop-i.i
    c.restore-restore.result c.restore-restore.ensures (c.if-gives.ensures.yes refl)

pub loop-i-preserved : goal.loop-i-preserved
loop-i-preserved c =
    all_more (λ (x : Restore). ¬ GivesThat c.args.row c.args.left.now x) (rollback_decoded c.args.rollback.now).restores
    c.loop-i.i c.restore-restore.result c.restore-restore.ensures c.loop-i.invariant (c.if-gives.ensures.no refl)

pub returns-clause-no : goal.returns-clause-no
returns-clause-no c = λ no.
    let xs = (rollback_decoded c.args.rollback.now).restores in
    no_place_of_all (GivesThat c.args.row c.args.left.now) xs
    (subst (λ (ys : List Restore). AllByRecursion (λ x. ¬ GivesThat c.args.row c.args.left.now x) ys)
    (take_all c.loop-i.i xs (omega (arith, c.len-i-end.ensures, c.loop-i-test.false))) c.loop-i.invariant)
