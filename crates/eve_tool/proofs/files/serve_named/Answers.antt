use Rattle.std.proofs.Common.{◌∙◌, ◌≤◌, arith, inr, length, map, subst, sym, ap}
use Rattle.std.specs.String.{string_bytes}
use Rattle.std.proofs.lemmas.List.{length-map}
use Rattle.eve_tool.specs.Calls.{Tells}
use Rattle.eve_tool.specs.Fault.{status_of}
use Rattle.eve_tool.specs.Files.{ServesCall}
use Rattle.eve_tool.specs.declared.fault.ToolFault.{ToolFault}
use Rattle.eve_tool_arguments.specs.Arguments.{Subcommand}
use Rattle.eve_tool.proofs.SentFiles.{serves_several}
use Rattle.eve_tool.proofs.files.serve_named.Goals as goal

pub returns-in-Err-clause-serves : goal.returns-in-Err-clause-serves
returns-in-Err-clause-serves g c =
    let files = c.args.files.now in
    let bytes = g.F.Folder.bytes c.args.folder.now in
    let refuses = g.F.Folder.refuses c.args.folder.now in
    let several = c.in-Some.ensures.several in
    let some : 2 ≤ length files = several.0 in
    subst (λ (s : Subcommand). ServesCall g.F.Input.Source.remaining g.F.Input.Source.failures g.E.Sink.written
    g.E.Sink.failures g.O.Sink.written g.O.Sink.failures bytes refuses s (map string_bytes files) c.args.err.now
    c.stop.new.err c.args.out.now c.audit_files.new.out c.stop.result) (sym several.1)
    (serves_several g.F.Input.Source.remaining g.F.Input.Source.failures g.E.Sink.written g.E.Sink.failures
    g.O.Sink.written g.O.Sink.failures bytes refuses _ (map string_bytes files) c.args.err.now
    c.stop.new.err c.args.out.now c.audit_files.new.out c.stop.result
    (omega (arith, some, length-map files string_bytes))
    (inr (record {
      err = c.audit_files.new.err;
      fails = c.in-Err.ensures.stopped;
      tells = subst (λ (w : ToolFault). Tells g.E.Sink.written g.E.Sink.failures c.audit_files.new.err c.stop.new.err w)
          c.in-Err.ensures.why c.stop.ensures.told;
      ends = c.stop.ensures.status ∙ ap status_of c.in-Err.ensures.why;
    })))
