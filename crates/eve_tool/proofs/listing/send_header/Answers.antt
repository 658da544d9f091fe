use Rattle.eve_objects.specs.FrameObjects.{header_object}
use Rattle.eve_tool.proofs.ListedLines.{at_any_err, header_object-some}
use Rattle.eve_tool.proofs.LinesPut.{AppendsPrefix-none}
use Rattle.eve_tool.proofs.listing.send_header.Goals as goal

pub returns-in_err-object-clause-prefix : goal.returns-in_err-object-clause-prefix
returns-in_err-object-clause-prefix g c =
    at_any_err c.from_residual.result
    (AppendsPrefix-none (g.O.Sink.written c.args.out.now) (header_object c.args.head.now)
    (header_object-some c.args.head.now))
