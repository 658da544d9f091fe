use Rattle.std.proofs.Common.{◌≡◌, IsSome, None, Option, ap, subst, sym, ◌∙◌, arith}
use Rattle.std.proofs.lemmas.List.{get_or-set_other}
use Rattle.std.proofs.lemmas.List.Elements.{All-push}
use Rattle.std.specs.Prelude.{slice_index_or}
use Rattle.eve_recorder.specs.TicketViews.{Drawer, Drawers, TicketSource}
use Rattle.eve_floor.specs.SharedBatches.{AreSeatedAt}
use Rattle.eve_floor.specs.declared.workers.Member.{Member}
use Rattle.eve_floor.proofs.workers.members_of.Goals as goal

pub loop-number-preserved : goal.loop-number-preserved
loop-number-preserved c =
    let tickets : TicketSource = c.args.tickets.now in (
      subst (AreSeatedAt tickets) (sym c.push_reserved.ensures.items)
          (All-push (λ (m : Member). m.tick.tickets ≡ tickets) c.loop-number.members.items _
          c.loop-number.invariant.0 (c.in-Some.ensures.tickets ∙ c.loop-number.invariant.3)),
      omega arith,
      omega arith,
      ap (λ (d : Drawers). d.tickets) c.seat.ensures.rest ∙ c.loop-number.invariant.3,
      λ k from low. subst (λ (d : Drawers). IsSome (slice_index_or d.places k None)) (sym c.seat.ensures.rest)
          (subst (λ (o : Option Drawer). IsSome o)
          (sym (get_or-set_other c.loop-number.all.places c.loop-number.number k None None (λ same. omega arith)))
          (c.loop-number.invariant.4 k (omega arith) low)),
    )
