use Rattle.std.proofs.Common.{List, sym, ap, ◌∙◌, slice_get}
use Rattle.eve_grammar.specs.Trace.{Asked}
use Rattle.eve_grammar.specs.Bodies.{borrowed_asked}
use Rattle.eve_frames.proofs.NthValue.{nth_is}
use Rattle.eve_evidence.proofs.told.asked_at.Goals as goal

pub returns : goal.returns
returns c =
    ap (λ (l : List Asked). slice_get l c.args.index) (sym c.requests.ensures)
    ∙ nth_is borrowed_asked c.requests.result c.nth.new.self c.args.index c.in-Some.asked c.in-Some.ensures.ran
