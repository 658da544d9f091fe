use Rattle.std.proofs.Common.{◌≡◌, ℕ, ◌+◌, ◌-◌, List, length, take, drop, refl, sym, ap, subst, ◌∙◌, arith}
use Rattle.std.specs.Prelude.{slice_index}
use Rattle.std.proofs.lemmas.List.{length-drop, length-take, take_all}
use Rattle.byteorder.specs.Endian.{big_number}
use Rattle.eve_grammar.specs.declared.head.Head.{Head}
use Rattle.eve_grammar.specs.declared.place.Place.{Place}
use Rattle.eve_grammar.proofs.HeadLimits.{few_customers}
use Rattle.eve_views.specs.Form.{HasWrongBody}
use Rattle.eve_evidence_form.specs.Body.{body_fault, first_body}
use Rattle.eve_evidence_form.proofs.body.wrong_body_at.Goals as goal

-- what is sliced off is what stands there
sliced_off : (at : ℕ) (bytes : List ℕ) → take (length bytes - at) (drop at bytes) ≡ drop at bytes
sliced_off at bytes = take_all (length bytes - at) (drop at bytes) (omega (arith, length-drop at bytes))

pub reached-requires : goal.reached-requires
reached-requires c =
    let r = c.requires.wrong.0 in
    (r, sym (c.head_decoded-head.ensures r.head r.says))

pub body_there-requires : goal.body_there-requires
body_there-requires c =
    let r = c.requires.wrong.0 in
    let bytes = c.args.bytes.now in
    let at = c.args.at in
    let head = c.head_decoded-head.ensures r.head r.says in
    let place = c.reached.ensures.place r (sym head) in
    subst (λ (ys : List ℕ). HasWrongBody c.head_decoded-head.result c.reached.result.place ys)
    (sym (sliced_off at bytes))
    (subst (λ (h : Head). HasWrongBody h c.reached.result.place (drop at bytes)) (sym head)
    (subst (λ (p : Place). HasWrongBody r.head p (drop at bytes)) (sym place) c.requires.wrong.1))

pub body_fault-own-requires-clause-few : goal.body_fault-own-requires-clause-few
body_fault-own-requires-clause-few c =
    let r = c.requires.wrong.0 in
    let head = c.head_decoded-head.ensures r.head r.says in
    omega (arith, few_customers r.head r.says.limits, ap (λ (h : Head). h.customers) head)

pub body_fault-own-requires-clause-short : goal.body_fault-own-requires-clause-short
body_fault-own-requires-clause-short c =
    let frame = drop c.args.at c.args.bytes.now in
    let n = big_number 4 (drop 1 frame) in
    let is = ap length (c.body_there.ensures ∙ ap first_body (sliced_off c.args.at c.args.bytes.now)) in
    omega (
      arith,
      is,
      length-take n (drop 5 frame),
      length-drop 5 frame,
      length-drop c.args.at c.args.bytes.now,
      c.requires.short,
    )

pub returns : goal.returns
returns c =
    let r = c.requires.wrong.0 in
    let bytes = c.args.bytes.now in
    let at = c.args.at in
    let kind = c.kind_there-kind.result in
    let head = c.head_decoded-head.ensures r.head r.says in
    let place = c.reached.ensures.place r (sym head) in
    let whole = sliced_off at bytes in
    let body = c.body_there.ensures ∙ ap first_body whole in (
      r,
      c.body_fault-own.result,
      c.kind_there-kind.ensures ∙ ap (λ (ys : List ℕ). slice_index ys 0) whole,
      c.body_fault-own.ensures ∙ λ i. body_fault (head i) (place i) kind (body i),
      refl,
      ap (λ (n : ℕ). at + 5 + n) c.from.ensures,
    )
