use Rattle.std.proofs.Common.{◌≡◌, ◌≢◌, List, refl, subst, arith}
use Rattle.std.specs.List.{AllByRecursion}
use Rattle.std.proofs.lemmas.List.{take_all}
use Rattle.eve_grammar.specs.declared.restore.Restore.{Restore}
use Rattle.eve_frames.specs.Decoded.{rollback_decoded}
use Rattle.eve_evidence.proofs.Lists.{all_more, place_at, no_place_of_all}
use Rattle.eve_evidence.proofs.prefix.names_row.Goals as goal

pub returns-then-is_of : goal.returns-then-is_of
returns-then-is_of c = (
  (λ yes. place_at (λ _ x. x.row ≡ c.args.row) (rollback_decoded c.args.rollback.now).restores c.loop-i.i
      c.restore-restore.result c.restore-restore.ensures (c.if-is_of.ensures.yes refl)),
  (λ place. refl),
)

pub loop-i-preserved : goal.loop-i-preserved
loop-i-preserved c =
    all_more (λ (x : Restore). x.row ≢ c.args.row) (rollback_decoded c.args.rollback.now).restores c.loop-i.i
    c.restore-restore.result c.restore-restore.ensures c.loop-i.invariant (c.if-is_of.ensures.no refl)

pub returns : goal.returns
returns c = (
  (λ yes. absurd cc),
  (λ place.
      let xs = (rollback_decoded c.args.rollback.now).restores in
      absurd (no_place_of_all (λ (x : Restore). x.row ≡ c.args.row) xs
      (subst (λ (ys : List Restore). AllByRecursion (λ x. x.row ≢ c.args.row) ys)
      (take_all c.loop-i.i xs (omega (arith, c.len-i-end.ensures, c.loop-i-test.false))) c.loop-i.invariant) place)),
)
