use Rattle.std.proofs.Common.{◌≡◌, ℕ, List, sym, subst, arith}
use Rattle.std.proofs.lemmas.List.{take_all}
use Rattle.eve_grammar.specs.Trace.{Vote}
use Rattle.eve_views.specs.Form.{SomePlace}
use Rattle.eve_history.proofs.Places.{no_place}
use Rattle.eve_votes.specs.Faults.{IsFurther}
use Rattle.eve_evidence.proofs.Lists.{place_at, no_place_more, item_there}
use Rattle.eve_evidence_outcomes.proofs.second_vote.again_among.Goals as goal

pub loop-i-init : goal.loop-i-init
loop-i-init c = λ place. no_place _ place

pub returns-in-Some-clause-first : goal.returns-in-Some-clause-first
returns-in-Some-clause-first c =
    let ws = c.args.votes.now in
    let got = item_there ws c.loop-i.i c.len-i-end.result c.loop-i-test.true c.len-i-end.ensures in
    place_at _ ws c.loop-i.i got.0 got.1 (c.in-Some.ensures.first got.0 got.1)

pub loop-i-preserved : goal.loop-i-preserved
loop-i-preserved c =
    let ws = c.args.votes.now in
    let got = item_there ws c.loop-i.i c.len-i-end.result c.loop-i-test.true c.len-i-end.ensures in
    no_place_more (λ before w. (w.0 ≡ c.args.at) × IsFurther before w) ws c.loop-i.i got.0 got.1 c.loop-i.invariant
    (λ wrong. c.in_default.ensures.none got.0 got.1 wrong.0 wrong.1)

pub returns-clause-none : goal.returns-clause-none
returns-clause-none c = λ place.
    let ws = c.args.votes.now in
    let whole = take_all c.loop-i.i ws (omega (arith, c.loop-i-test.false, c.len-i-end.ensures)) in
    c.loop-i.invariant
    (subst (λ (ys : List (ℕ × Vote)). SomePlace ys (λ before w. (w.0 ≡ c.args.at) × IsFurther before w)) (sym whole)
    place)
