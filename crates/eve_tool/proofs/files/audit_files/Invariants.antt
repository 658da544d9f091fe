-- What was judged so far, and what is left.
use Rattle.std.proofs.Common.{drop, map}
use Rattle.std.specs.String.{string_bytes}
use Rattle.eve_tool.proofs.SentFiles.{JudgedSoFar}
use Rattle.eve_tool.proofs.files.audit_files.Given as goal

abbrev pub invariant-files : goal.invariant-files
invariant-files g l =
    JudgedSoFar g.F.Input.Source.remaining g.F.Input.Source.failures g.E.Sink.written g.E.Sink.failures
    g.O.Sink.written g.O.Sink.failures (g.F.Folder.bytes l.folder) (g.F.Folder.refuses l.folder) l.options.style
    (map string_bytes l.files) (map string_bytes (drop l.file-index l.files)) l.fn.err l.err l.fn.out l.out l.status
