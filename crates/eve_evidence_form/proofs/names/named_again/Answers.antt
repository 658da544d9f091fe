use Rattle.std.proofs.Common.{◌≡◌, ℕ, List, map, sym, subst, ◌∙◌, arith}
use Rattle.std.specs.Prelude.{Contains}
use Rattle.std.proofs.lemmas.List.{take_all}
use Rattle.eve_grammar.specs.Trace.{Customer}
use Rattle.eve_grammar.specs.Spelling.{customers_at}
use Rattle.eve_views.specs.Form.{SomePlace}
use Rattle.eve_evidence.proofs.Lists.{item_there, place_at, no_place_more}
use Rattle.eve_history.proofs.Places.{no_place}
use Rattle.eve_evidence_form.proofs.Lists.{not_all_other}
use Rattle.eve_evidence_form.proofs.FrameCounts.{customer_count}
use Rattle.eve_evidence_form.proofs.names.named_again.Goals as goal

pub loop-i-init : goal.loop-i-init
loop-i-init c = λ place. no_place _ place

pub returns-in-Some : goal.returns-in-Some
returns-in-Some c =
    let t = c.args.trace.now in
    let got = item_there (customers_at t) c.loop-i.i c.customer_count-i-end.result c.loop-i-test.true
    (c.customer_count-i-end.ensures ∙ sym (customer_count t)) in
    place_at _ (customers_at t) c.loop-i.i got.0 got.1 (c.in-Some.ensures.again got.0 got.1)

pub loop-i-preserved : goal.loop-i-preserved
loop-i-preserved c =
    let t = c.args.trace.now in
    let got = item_there (customers_at t) c.loop-i.i c.customer_count-i-end.result c.loop-i-test.true
    (c.customer_count-i-end.ensures ∙ sym (customer_count t)) in
    no_place_more (λ before d. (d.0 ≡ c.args.at) × Contains (map (λ e. e.1.name) before) d.1.name) (customers_at t)
    c.loop-i.i got.0 got.1 c.loop-i.invariant
    (λ wrong. not_all_other (λ (e : ℕ × Customer). e.1.name) _ got.0.1.name wrong.1
    (c.in_default.ensures.none got.0 got.1 wrong.0))

pub unreachable-requires : goal.unreachable-requires
unreachable-requires c =
    let t = c.args.trace.now in
    let whole = take_all c.loop-i.i (customers_at t)
    (omega (arith, c.loop-i-test.false, c.customer_count-i-end.ensures, customer_count t)) in
    c.loop-i.invariant (subst (λ (cs : List (ℕ × Customer)). SomePlace cs
    (λ before d. (d.0 ≡ c.args.at) × Contains (map (λ e. e.1.name) before) d.1.name)) (sym whole) c.requires)
