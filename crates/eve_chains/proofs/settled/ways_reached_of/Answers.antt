use Rattle.std.proofs.Common.{◌≡◌, ℕ, ◌+◌, ◌-◌, ◌++◌, ◌∷◌, [], List, take, get_or, sym, subst, ap, ◌∙◌, arith}
use Rattle.std.specs.List.{AllZip}
use Rattle.std.proofs.lemmas.List.{take_all, take_more}
use Rattle.eve_history.specs.declared.how_reached.HowReached as told
use Rattle.eve_history.specs.SectionHistory.{IsToldOf, NotReached, told_reached_at}
use Rattle.eve_chains.proofs.ReachedChanges.{zip_more}
use Rattle.eve_chains.proofs.settled.ways_reached_of.Goals as goal

pub loop-before-preserved : goal.loop-before-preserved
loop-before-preserved c =
    let h = c.args.history.now in
    let i = c.loop-before.before in
    let place : i ≡ i + 1 - 1 = omega arith in
    let more : take (i + 1) h.ways_reached ≡ take i h.ways_reached ++ told_reached_at h (i + 1) ∷ [] =
    take_more h.ways_reached i NotReached (omega (arith, c.loop-before-test.true, c.committed-count.ensures.count))
    ∙ ap (λ (k : ℕ). take i h.ways_reached ++ get_or h.ways_reached k NotReached ∷ []) place in
    subst (λ (ls : List told.HowReached). AllZip (IsToldOf h) ls (take (i + 1) h.ways_reached))
    (sym c.in_ok-push.ensures.items)
    (subst (AllZip (IsToldOf h) (c.loop-before.ways_reached.items ++ c.how_reached.result ∷ [])) (sym more)
    (zip_more (IsToldOf h) c.loop-before.ways_reached.items (take i h.ways_reached) c.how_reached.result
    (told_reached_at h (i + 1))
    c.loop-before.invariant c.how_reached.ensures))

pub returns : goal.returns
returns c =
    let h = c.args.history.now in
    subst (AllZip (IsToldOf h) c.loop-before.ways_reached.items)
    (take_all c.loop-before.before h.ways_reached
    (omega (arith, c.loop-before-test.false, c.committed-count.ensures.count))) c.loop-before.invariant
