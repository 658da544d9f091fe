use Rattle.std.specs.Prelude.{slice_index}
use Rattle.eve_grammar.proofs.KindBytes.{none_allowed}
use Rattle.eve_views.proofs.FrameLaws.{Framed-from, true_false}
use Rattle.eve_evidence_form.proofs.body.kind_there.Goals as goal

pub unreachable-requires : goal.unreachable-requires
unreachable-requires c =
    let h = c.args.head.now in
    let p = c.args.place.now in
    let bytes = c.args.bytes.now in
    true_false _ (Framed-from h p bytes c.requires.framed).allowed
    (none_allowed h p (slice_index bytes 0) c.in-None.ensures.none)
