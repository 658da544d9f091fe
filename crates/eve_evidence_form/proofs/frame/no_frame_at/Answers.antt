use Rattle.std.proofs.Common.{◌≡◌, ℕ, ◌-◌, List, length, take, drop, sym, subst, ◌∙◌, arith}
use Rattle.std.proofs.lemmas.List.{length-drop, take_all}
use Rattle.eve_grammar.specs.declared.head.Head.{Head}
use Rattle.eve_grammar.specs.declared.place.Place.{Place}
use Rattle.eve_evidence_form.specs.Due.{due_kinds, IsFrameFault}
use Rattle.eve_evidence_form.proofs.frame.no_frame_at.Goals as goal

pub head_decoded-head-requires : goal.head_decoded-head-requires
head_decoded-head-requires c =
    let r = c.requires.0 in
    record { long = omega (arith, r.at_is, r.within); says = (r.head, r.says) }

pub reached-so_far-requires : goal.reached-so_far-requires
reached-so_far-requires c =
    let r = c.requires.0 in
    (r, sym (c.head_decoded-head.ensures r.head r.says))

pub returns : goal.returns
returns c =
    let r = c.requires.0 in
    let bytes = c.args.bytes.now in
    let at = c.args.at in
    let head = c.head_decoded-head.ensures r.head r.says in
    let place = c.reached-so_far.ensures.place r (sym head) in
    let whole : take (length bytes - at) (drop at bytes) ≡ drop at bytes =
    take_all (length bytes - at) (drop at bytes) (omega (arith, length-drop at bytes)) in (
      r,
      subst (λ (p : Place). IsFrameFault r.head p (drop at bytes) c.frame_fault.result) place
          (subst (λ (h : Head). IsFrameFault h c.reached-so_far.result.place (drop at bytes) c.frame_fault.result) head
          (subst (λ
          (ys : List ℕ). IsFrameFault c.head_decoded-head.result c.reached-so_far.result.place ys c.frame_fault.result)
          whole c.frame_fault.ensures)),
      c.due_kinds-due.ensures ∙ (λ i. due_kinds (head i) (place i)),
      c.reached-so_far.ensures.records r (sym head),
    )
