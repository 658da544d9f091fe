use Rattle.std.proofs.Common.{◌≡◌, ℕ, List, sym, subst, arith}
use Rattle.std.proofs.lemmas.List.{take_all}
use Rattle.eve_grammar.specs.Trace.{Access}
use Rattle.eve_views.specs.Form.{SomePlace}
use Rattle.eve_history.proofs.Places.{no_place}
use Rattle.eve_evidence.specs.Section.{WrongAccess}
use Rattle.eve_evidence.proofs.Lists.{place_at, no_place_more, item_there}
use Rattle.eve_evidence.proofs.section.at_accesses.Goals as goal

pub loop-i-init : goal.loop-i-init
loop-i-init c = λ state a is decoded xs place. no_place _ place

pub returns-in-Some-clause-told : goal.returns-in-Some-clause-told
returns-in-Some-clause-told c = λ state a is decoded xs.
    let s = c.args.site in
    let accesses = s.accesses.now in
    let got = item_there accesses c.loop-i.i c.len-i-end.result c.loop-i-test.true c.len-i-end.ensures in
    place_at _ accesses c.loop-i.i got.0 got.1 (c.in-Some.ensures.told got.0 got.1 state a is decoded xs)

pub loop-i-preserved : goal.loop-i-preserved
loop-i-preserved c = λ state a is decoded xs.
    let s = c.args.site in
    let accesses = s.accesses.now in
    let got = item_there accesses c.loop-i.i c.len-i-end.result c.loop-i-test.true c.len-i-end.ensures in
    no_place_more (λ own x. (x.0 ≡ c.args.place)
    × WrongAccess c.args.code s.trace.now state s.attempt.now.offset a own x.1) accesses c.loop-i.i got.0 got.1
    (c.loop-i.invariant state a is decoded xs)
    (λ wrong. c.in_default.ensures.none got.0 got.1 state a is decoded xs wrong.0 wrong.1)

pub returns-clause-none : goal.returns-clause-none
returns-clause-none c = λ state a is decoded xs place.
    let s = c.args.site in
    let accesses = s.accesses.now in
    let whole = take_all c.loop-i.i accesses (omega (arith, c.loop-i-test.false, c.len-i-end.ensures)) in
    c.loop-i.invariant state a is decoded xs
    (subst (λ (ys : List (ℕ × Access)). SomePlace ys (λ own x. (x.0 ≡ c.args.place)
    × WrongAccess c.args.code s.trace.now state s.attempt.now.offset a own x.1)) (sym whole) place)
