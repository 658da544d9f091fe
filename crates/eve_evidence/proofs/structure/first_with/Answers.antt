use Rattle.std.proofs.Common.{◌≡◌, ◌≢◌, ℕ, sym, ◌∙◌, List}
use Rattle.std.specs.List.{AllByRecursion}
use Rattle.eve_grammar.specs.Trace.{Access}
use Rattle.eve_frames.specs.Decoded.{access_decoded}
use Rattle.eve_evidence.proofs.Lists.{all_more, place_in_prefix}
use Rattle.eve_evidence.proofs.structure.first_with.Goals as goal

pub returns-then-index-clause-found : goal.returns-then-index-clause-found
returns-then-index-clause-found c =
    let P : List (ℕ × Access) → ℕ × Access → Type 0 =
    λ before y. (y.0 ≡ c.offset.result) × (y.1.index ≡ c.args.index)
    × AllByRecursion (λ z. z.1.index ≢ c.args.index) before in
    place_in_prefix P c.args.accesses.now c.args.count c.loop-i.i
    (c.get-access.result.offset, access_decoded c.get-access.result) c.loop-i-test.true c.get-access.ensures.says
    (sym c.offset.ensures, sym c.index.ensures ∙ c.if-index.true, c.loop-i.invariant)

pub loop-i-preserved : goal.loop-i-preserved
loop-i-preserved c =
    all_more (λ (z : ℕ × Access). z.1.index ≢ c.args.index) c.args.accesses.now c.loop-i.i
    (c.get-access.result.offset, access_decoded c.get-access.result) c.get-access.ensures.says c.loop-i.invariant
    (λ e. c.if-index.false (c.index.ensures ∙ e))
