use Rattle.std.proofs.Common.{◌∙◌, ◌++◌, ap, refl, subst}
use Rattle.std.specs.Io.KnownBytes.{Appends}
use Rattle.eve_streams.proofs.JoinedSends.{AppendsPrefix-after, AppendsPrefix-more}
use Rattle.eve_streams.specs.Failures.{after_failure}
use Rattle.eve_streams.specs.Prefix.{AppendsPrefix}
use Rattle.eve_objects.specs.Bytes.{object_of_view}
use Rattle.eve_tool.specs.declared.fault.ToolFault.TheVariants.{Memory, Write}
use Rattle.eve_tool.proofs.LinesPut.{puts-sent_whole}
use Rattle.eve_tool.proofs.ListedLines.{at_any_err, held-some}
use Rattle.eve_tool.proofs.LinesPut.{AppendsPrefix-none}
use Rattle.eve_tool.proofs.UnsentText.{at_err}
use Rattle.eve_tool.proofs.listing.put_object.Goals as goal

pub returns-in_err-object-clause-prefix : goal.returns-in_err-object-clause-prefix
returns-in_err-object-clause-prefix g c =
    at_any_err c.from_residual.result
    (AppendsPrefix-none (g.O.Sink.written c.args.out.now) _ (held-some c.args.line.now.items _))

pub returns-in_err-object-clause-stopped : goal.returns-in_err-object-clause-stopped
returns-in_err-object-clause-stopped g c =
    at_err c.from_residual.result _ Memory c.from_residual.ensures.1 (tt, refl)

pub returns-in_err-send_held-clause-prefix : goal.returns-in_err-send_held-clause-prefix
returns-in_err-send_held-clause-prefix g c =
    at_any_err c.from_residual-in_err-send_held.result
    (AppendsPrefix-more _ _ c.args.line.now.items (object_of_view c.args.frame.now.number c.args.frame.now.view)
    c.in_err-send_held.ensures.prefix)

pub returns-in_err-send_held-clause-stopped : goal.returns-in_err-send_held-clause-stopped
returns-in_err-send_held-clause-stopped g c =
    at_err c.from_residual-in_err-send_held.result _ Write c.from_residual-in_err-send_held.ensures.1
    c.in_err-send_held.ensures.counted

pub returns-in_err-send_all-clause-prefix : goal.returns-in_err-send_all-clause-prefix
returns-in_err-send_all-clause-prefix g c =
    let is = c.as_slice.ensures.value ∙ c.in_ok-object.ensures
    ∙ ap (λ l. l ++ object_of_view c.args.frame.now.number c.args.frame.now.view) c.clear.ensures.items in
    at_any_err c.from_residual-in_err-send_all.result
    (AppendsPrefix-after _ _ _ c.args.line.now.items (object_of_view c.args.frame.now.number c.args.frame.now.view)
    c.in_ok-send_held.ensures.sent
    (subst (AppendsPrefix (g.O.Sink.written c.send_held.new.out) (g.O.Sink.written c.send_all.new.sink)) is
    c.in_err-send_all.ensures.prefix))

pub returns-in_err-send_all-clause-stopped : goal.returns-in_err-send_all-clause-stopped
returns-in_err-send_all-clause-stopped g c =
    at_err c.from_residual-in_err-send_all.result _ Write c.from_residual-in_err-send_all.ensures.1
    (c.in_err-send_all.ensures.counted ∙ ap after_failure c.in_ok-send_held.ensures.fine)

pub returns-clause-puts : goal.returns-clause-puts
returns-clause-puts g c =
    let is = c.as_slice.ensures.value ∙ c.in_ok-object.ensures
    ∙ ap (λ l. l ++ object_of_view c.args.frame.now.number c.args.frame.now.view) c.clear.ensures.items in
    puts-sent_whole _ _ _ c.args.line.now.items _ (object_of_view c.args.frame.now.number c.args.frame.now.view)
    c.in_ok-send_held.ensures.sent c.in_ok-send_held.ensures.empty
    (subst (Appends (g.O.Sink.written c.send_held.new.out) (g.O.Sink.written c.send_all.new.sink)) is
    c.in_ok-send_all.ensures.sent)
