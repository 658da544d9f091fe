use Rattle.std.proofs.Common.{ℕ, sym, ap, ◌∙◌, is_some}
use Rattle.std.specs.Prelude.{IsFalse}
use Rattle.std.specs.List.{list_any}
use Rattle.eve_smallbank.specs.Access.{writes_row}
use Rattle.eve_grammar.specs.Trace.{Access}
use Rattle.eve_frames.specs.Decoded.{access_decoded}
use Rattle.eve_evidence.proofs.Lists.{all_more}
use Rattle.eve_evidence.proofs.LastWrites.{left_some}
use Rattle.eve_evidence.proofs.sources.may_write.Goals as goal

pub loop-i-preserved : goal.loop-i-preserved
loop-i-preserved c =
    let es = (access_decoded c.get.result).entries in
    all_more (λ (x : ℕ × Access). IsFalse (list_any (writes_row c.args.row) x.1.entries)) c.args.accesses.now c.loop-i.i
    (c.get.result.offset, access_decoded c.get.result) c.get.ensures.says c.loop-i.invariant
    (sym (left_some c.args.row es) ∙ ap is_some (sym c.left_by_record.ensures) ∙ sym c.if-is_some.ensures)
