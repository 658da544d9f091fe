use Rattle.std.proofs.Common.{◌<◌, ap, subst, sym, refl, ◌∙◌}
use Rattle.eve_recorder.specs.RecorderViews.{RecorderId, noted_on}
use Rattle.eve_floor.proofs.Records.{seat_there}
use Rattle.eve_floor.proofs.gather.ended.Goals as goal

pub returns-then-whole-clause-noted : goal.returns-then-whole-clause-noted
returns-then-whole-clause-noted c = λ w few.
    let all = c.if-whole.ensures.0 refl in
    let seat = seat_there c.args.noters.seats w
    (all.1 w (subst (λ (r : RecorderId). w < r.workers) (sym c.requires.own) few)) in
    c.finish.ensures.noted w seat.0 seat.1 ∙ sym (ap noted_on seat.2)
