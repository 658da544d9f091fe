use Rattle.eve_tool.specs.Files.{all_bytes}
use Rattle.eve_tool.proofs.SentFiles.{at_fault, sent_whole}
use Rattle.eve_tool.proofs.files.send_on.Goals as goal

pub returns-clause-part : goal.returns-clause-part
returns-clause-part g c =
    at_fault c.flush.result _
    (sent_whole (all_bytes g.O.Sink.written c.args.out.now) (all_bytes g.O.Sink.written c.send_all.new.sink)
    (all_bytes g.O.Sink.written c.flush.new.out) c.args.line.now c.in_ok-send_all.ensures.sent c.flush.ensures.kept)
