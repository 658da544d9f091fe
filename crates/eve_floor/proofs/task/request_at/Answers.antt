use Rattle.std.proofs.Common.{ap, sym, ◌∙◌, List}
use Rattle.std.proofs.lemmas.List.{get_or-map}
use Rattle.eve_grammar.specs.Trace.{Asked, no_request}
use Rattle.eve_write.specs.Data.{asked}
use Rattle.eve_write.specs.declared.request.RequestData.{RequestData}
use Rattle.eve_floor.proofs.task.request_at.Goals as goal

pub returns : goal.returns
returns c =
    let items : List RequestData = c.args.batch.now.requests.items in
    let x : RequestData = c.index.result.now in
    c.request.ensures
    ∙ sym (
    ap (λ (a : Asked). a.request) (get_or-map asked items c.args.index x no_request c.requires)
    ∙ ap (λ (q : RequestData). (asked q).request) (sym c.index.ensures)
    )
