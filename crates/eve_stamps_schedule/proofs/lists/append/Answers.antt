use Rattle.std.proofs.Common.{◌<◌, [], ◌∷◌, ◌++◌, Vec, length, ap, ◌∙◌, arith}
use Rattle.std.proofs.Math.Seq.{map-set_same}
use Rattle.std.specs.declared.alloc.Global.{Global}
use Rattle.eve_stamps.specs.declared.record.AccessRecord.{AccessRecord}
use Rattle.eve_stamps_schedule.proofs.Places.{appended_at, on_err}
use Rattle.eve_stamps_schedule.proofs.lists.append.Goals as goal

pub returns-in_err-push-clause-kept : goal.returns-in_err-push-clause-kept
returns-in_err-push-clause-kept c =
    on_err c.from_residual.result _
    (map-set_same (λ (v : Vec AccessRecord Global). v.items) c.args.noted.now.items c.args.worker c.push.new.self
    c.index_mut.result.now (c.in_err-push.ensures.items
    ∙ ap (λ (v : Vec AccessRecord Global). v.items) c.index_mut.ensures.value))

pub returns-clause-appended : goal.returns-clause-appended
returns-clause-appended c =
    let within : c.args.worker < length c.args.noted.now.items = omega (arith, c.args.noted.now.ok.0) in
    appended_at (λ (v : Vec AccessRecord Global). v.items) c.args.noted.now.items c.args.worker c.push.new.self
    c.index_mut.result.now c.args.made within
    (c.in_ok-push.ensures.items
    ∙ ap (λ (v : Vec AccessRecord Global). v.items ++ c.args.made ∷ []) c.index_mut.ensures.value)
