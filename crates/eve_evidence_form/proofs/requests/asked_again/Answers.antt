use Rattle.std.proofs.Common.{◌≡◌, ℕ, List, sym, subst, ◌∙◌, arith}
use Rattle.std.specs.List.{flat_map}
use Rattle.std.proofs.lemmas.List.{take_all}
use Rattle.eve_grammar.specs.Trace.{Batch}
use Rattle.eve_grammar.specs.Spelling.{batches_at}
use Rattle.eve_views.specs.Form.{SomePlace}
use Rattle.eve_evidence.proofs.Lists.{item_there, place_at, no_place_more}
use Rattle.eve_evidence_form.specs.Requests.{requests_listed, NoneAgain}
use Rattle.eve_history.proofs.OrderLaws.{batch_count}
use Rattle.eve_history.proofs.Places.{no_place}
use Rattle.eve_evidence_form.proofs.Lists.{some_is, none_is}
use Rattle.eve_evidence_form.proofs.RequestSearches.{not_none_again}
use Rattle.eve_evidence_form.proofs.requests.asked_again.Goals as goal

pub loop-n-init : goal.loop-n-init
loop-n-init c = λ place. no_place _ place

pub returns-in-Ok-Some : goal.returns-in-Ok-Some
returns-in-Ok-Some c =
    let bs = batches_at c.args.trace.now in
    let got = item_there bs c.loop-n.n c.batch_count-n-end.result c.loop-n-test.true
    (c.batch_count-n-end.ensures ∙ sym (batch_count c.args.trace.now)) in
    place_at _ bs c.loop-n.n got.0 got.1
    (some_is _ _ _ c.in-Ok-Some.field-0-is c.in-Ok-Some.ensures.again got.0 got.1)

pub loop-n-preserved : goal.loop-n-preserved
loop-n-preserved c =
    let bs = batches_at c.args.trace.now in
    let got = item_there bs c.loop-n.n c.batch_count-n-end.result c.loop-n-test.true
    (c.batch_count-n-end.ensures ∙ sym (batch_count c.args.trace.now)) in
    no_place_more (λ before b. (b.0 ≡ c.args.at) × ¬ NoneAgain (flat_map requests_listed before) (requests_listed b))
    bs c.loop-n.n got.0
    got.1 c.loop-n.invariant
    (λ wrong. wrong.1 (none_is _ _ c.in-Ok-None.field-0-is c.in-Ok-None.ensures.none got.0 got.1 wrong.0))

pub unreachable-requires : goal.unreachable-requires
unreachable-requires c =
    let bs = batches_at c.args.trace.now in
    let whole = take_all c.loop-n.n bs
    (omega (arith, c.loop-n-test.false, c.batch_count-n-end.ensures, batch_count c.args.trace.now)) in
    let r = c.requires in
    c.loop-n.invariant (subst (λ (ds : List (ℕ × (ℕ × Batch))). SomePlace ds
    (λ before b. (b.0 ≡ c.args.at) × ¬ NoneAgain (flat_map requests_listed before) (requests_listed b))) (sym whole)
    (record {
      before = r.before;
      item = r.item;
      rest = r.rest;
      is = r.is;
      holds = (r.holds.0, not_none_again r.before r.item r.holds.1);
    }))
