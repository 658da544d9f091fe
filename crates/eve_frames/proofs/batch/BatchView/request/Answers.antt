use Rattle.std.proofs.Common.{List, sym, ap, ◌∙◌}
use Rattle.std.specs.Prelude.{slice_get}
use Rattle.std.specs.Option.{option_map}
use Rattle.eve_grammar.specs.Trace.{Asked}
use Rattle.eve_grammar.specs.Bodies.{borrowed_asked}
use Rattle.eve_frames.proofs.NthValue.{nth_is}
use Rattle.eve_frames.proofs.batch.BatchView.request.Goals as goal

pub returns : goal.returns
returns c =
    ap (λ (l : List Asked). option_map (λ a. a.request) (slice_get l c.args.i)) (sym c.requests.ensures)
    ∙ ap (option_map (λ (a : Asked). a.request))
    (nth_is borrowed_asked c.requests.result c.nth.new.self c.args.i c.in-Some.asked c.in-Some.ensures.ran)
