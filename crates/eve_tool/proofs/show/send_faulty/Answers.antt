use Rattle.std.proofs.Common.{◌∙◌, ap, inl, inr, refl, subst}
use Rattle.eve_streams.specs.Failures.{after_failure}
use Rattle.eve_streams.specs.Prefix.{AppendsPrefix}
use Rattle.eve_tool.specs.declared.fault.ToolFault.TheVariants.{Memory, Write}
use Rattle.eve_tool.proofs.UnsentText.{at_err, listing_left}
use Rattle.eve_tool.proofs.ListedLines.{stops-in_last}
use Rattle.eve_tool.proofs.show.send_faulty.Goals as goal

pub returns-in_err-send_listed-clause-stopped : goal.returns-in_err-send_listed-clause-stopped
returns-in_err-send_listed-clause-stopped g c =
    let why = c.in_err-send_listed.field-0.0 in
    at_err c.from_residual-in_err-send_listed.result _ why c.from_residual-in_err-send_listed.ensures.1
    (listing_left c.args.style g.O.Sink.written g.O.Sink.failures _ _ _ _ why c.in_err-send_listed.ensures.stopped)

pub returns-in_err-send_all-clause-stopped : goal.returns-in_err-send_all-clause-stopped
returns-in_err-send_all-clause-stopped g c =
    let prefix = subst (AppendsPrefix (g.O.Sink.written c.send_listed.new.out) (g.O.Sink.written c.send_all.new.sink))
    (c.as_slice.ensures.value ∙ c.in_ok-text.ensures) c.in_err-send_all.ensures.prefix in
    at_err c.from_residual-in_err-send_all.result _ Write c.from_residual-in_err-send_all.ensures.1 (inr (
      stops-in_last _ _ _ _ _ c.in_ok-send_listed.ensures.sent prefix,
      c.in_err-send_all.ensures.counted ∙ ap after_failure c.in_ok-send_listed.ensures.fine,
    ))

pub returns-in_err-text-clause-stopped : goal.returns-in_err-text-clause-stopped
returns-in_err-text-clause-stopped g c =
    at_err c.from_residual.result _ Memory c.from_residual.ensures.1 (inl (refl, refl))
