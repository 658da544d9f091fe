use Rattle.std.proofs.Common.{◌∙◌, arith, inl, inr, refl, subst}
use Rattle.std.proofs.lemmas.Bool.{cases_lt}
use Rattle.eve_grammar.specs.declared.limits.TheConstants.{MOST_BYTES}
use Rattle.eve_tool.specs.Calls.{CallSays}
use Rattle.eve_tool.specs.Files.{HoldsBack, all_bytes}
use Rattle.eve_tool.specs.Writes.{WritesAll}
use Rattle.eve_tool_arguments.specs.Arguments.{subcommand_of_call}
use Rattle.eve_tool.proofs.SentFiles.{of_file, said_of_file}
use Rattle.eve_tool.proofs.files.serve_file.Goals as goal

pub returns-clause-serves : goal.returns-clause-serves
returns-clause-serves g c =
    let says = CallSays MOST_BYTES (subcommand_of_call c.args.call) in
    let bytes = g.F.Folder.bytes c.args.folder.now c.args.name.now in record {
      said = λ less. elim (cases_lt c.serve_call-status.result 2) [
        | inl before ↦
            let sent = c.finish.ensures.sent before less in
            let fine = c.serve_call-status.ensures.fine before in (
              record {
                less = less;
                said = said_of_file says bytes _ _ _ _ c.serve_call-status.result c.finish.result
                    c.in-Ok.ensures.bytes (c.serve_call-status.ensures.said before) sent.4 sent.0;
                fine = sent.3 ∙ fine.1;
                quiet = sent.2 ∙ fine.2;
              },
              sent.1,
            )
        | inr reached ↦ (let same = (c.finish.ensures.ended reached).0 in absurd (omega (arith, same, less, reached)))
      ];
      stopped = λ two. elim (cases_lt c.serve_call-status.result 2) [
        | inl before ↦
            let fine = c.serve_call-status.ensures.fine before in
            inr (inr (
              c.serve_call-status.new.out,
              c.serve_call-status.result,
              record {
                less = before;
                said = of_file (λ b. WritesAll says b (all_bytes g.O.Sink.written c.args.out.now)
                    (all_bytes g.O.Sink.written c.serve_call-status.new.out) c.serve_call-status.result) bytes _
                    c.in-Ok.ensures.bytes (c.serve_call-status.ensures.said before);
                fine = fine.1;
                quiet = refl;
              },
              subst (λ e. HoldsBack g.E.Sink.written g.E.Sink.failures g.O.Sink.written g.O.Sink.failures e
                  c.finish.new.err c.serve_call-status.new.out c.finish.new.out c.finish.result) fine.2
                  (c.finish.ensures.failed before two),
            ))
        | inr reached ↦
            let ended = c.finish.ensures.ended reached in
            inr (inl (record {
              opened = c.in-Ok.input;
              left = c.serve_call-status.new.input;
              opens = record { has = c.in-Ok.ensures.bytes };
              stops = rw (ended.0, ended.1, ended.2) (c.serve_call-status.ensures.stopped reached);
            }))
      ];
    }
