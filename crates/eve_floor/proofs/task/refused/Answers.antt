use Rattle.std.proofs.Common.{sym, ◌∙◌, refl}
use Rattle.eve_grammar.specs.Trace.{request_with}
use Rattle.eve_write.specs.Data.{batch as plain}
use Rattle.eve_floor.proofs.task.refused.Goals as goal

pub returns : goal.returns
returns g c = λ names right.
    let task = c.args.task.now in
    let request = request_with (plain task.batch.now) task.index in
    let fits = c.refused_requests_fit.ensures names request c.in-Refused.why (sym right.1 ∙ c.in-Refused.is) in
    rw (c.untouched.ensures, c.stamp.ensures) (c.in_ok-tick.ensures.drawn, (refl, refl, refl, fits))
