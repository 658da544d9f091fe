use Rattle.std.proofs.Common.{◌≡◌, ◌∙◌, List, ℕ, ap, map, refl, subst, sym}
use Rattle.std.specs.String.{string_bytes}
use Rattle.std.proofs.lemmas.Option.{same_Some}
use Rattle.eve_tool.specs.Files.{ServesCall}
use Rattle.eve_tool.specs.declared.fault.ToolFault.TheVariants.{Memory}
use Rattle.eve_tool_arguments.specs.declared.arguments.Asked.{Asked}
use Rattle.eve_tool_arguments.specs.Arguments.{Answers, Audit, Subcommand, files_of, subcommand_of_call}
use Rattle.eve_tool.proofs.SentFiles.{call_yes}
use Rattle.eve_tool.proofs.files.serve_files.Goals as goal

pub returns-in-Ok-Call-clause-yes : goal.returns-in-Ok-Call-clause-yes
returns-in-Ok-Call-clause-yes g c = λ style asks zero.
    let words = map g.S.AsStr.text c.args.arguments.now in
    let bytes = g.F.Folder.bytes c.args.folder.now in
    let refuses = g.F.Folder.refuses c.args.folder.now in
    let answers = subst (λ (a : Asked). Answers words a) c.in-Ok-Call.field-0-is c.in-Ok-Call.ensures in
    let is : subcommand_of_call c.in-Ok-Call.call ≡ Audit style = same_Some _ _ (sym answers.0 ∙ asks) in
    let named : map string_bytes c.as_slice.result.now ≡ files_of words =
    ap (map string_bytes) c.as_slice.ensures.value ∙ answers.2 in
    let of_files = subst (λ (names : List (List ℕ)). ServesCall g.F.Input.Source.remaining g.F.Input.Source.failures
    g.E.Sink.written g.E.Sink.failures g.O.Sink.written g.O.Sink.failures bytes refuses
    (subcommand_of_call c.in-Ok-Call.call) names c.args.err.now c.serve_named.new.err c.args.out.now
    c.serve_named.new.out c.serve_named.result) named c.serve_named.ensures.serves in
    call_yes g.F.Input.Source.remaining g.F.Input.Source.failures g.E.Sink.written g.E.Sink.failures
    g.O.Sink.written g.O.Sink.failures bytes refuses style (files_of words) c.args.err.now c.serve_named.new.err
    c.args.out.now c.serve_named.new.out c.serve_named.result
    (subst (λ (s : Subcommand). ServesCall g.F.Input.Source.remaining g.F.Input.Source.failures
    g.E.Sink.written g.E.Sink.failures g.O.Sink.written g.O.Sink.failures bytes refuses s (files_of words)
    c.args.err.now c.serve_named.new.err c.args.out.now c.serve_named.new.out c.serve_named.result) is of_files) zero

pub returns-in-Err-clause-unhelped : goal.returns-in-Err-clause-unhelped
returns-in-Err-clause-unhelped g c = λ nothing three. record {
  why = Memory;
  ends = sym c.stop.ensures.status;
  left = refl;
  line = c.stop.ensures.told;
}
