use Rattle.std.proofs.Common.{◌≡◌, ◌≢◌, Some, refl}
use Rattle.std.specs.List.{AllByRecursion}
use Rattle.eve_evidence.proofs.Lists.{all_more, place_at}
use Rattle.eve_evidence_outcomes.specs.declared.matched.MadeToken.{MadeToken}
use Rattle.eve_evidence_outcomes.proofs.matched.first_made.Goals as goal

pub returns-then-is_found : goal.returns-then-is_found
returns-then-is_found c =
    let m = c.made_at-made.result in (
      Some m.what,
      refl,
      place_at (λ before z. (z.what ≡ m.what) × (z.token ≡ c.args.found.now)
          × AllByRecursion (λ y. y.token ≢ c.args.found.now) before) c.args.tokens.now c.loop-i.i m
          c.made_at-made.ensures (refl, c.is_found.ensures.yes c.if-is_found.true, c.loop-i.invariant),
    )

pub loop-i-preserved : goal.loop-i-preserved
loop-i-preserved c =
    all_more (λ (z : MadeToken). z.token ≢ c.args.found.now) c.args.tokens.now c.loop-i.i c.made_at-made.result
    c.made_at-made.ensures c.loop-i.invariant (c.is_found.ensures.no c.if-is_found.false)
