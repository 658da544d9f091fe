use Rattle.std.proofs.Common.{◌∙◌, ap, inl, inr, subst, sym}
use Rattle.std.proofs.lemmas.Bool.{cases_lt}
use Rattle.eve_streams.specs.Failures.{after_failure}
use Rattle.eve_tool.specs.Calls.{Tells}
use Rattle.eve_tool.specs.declared.fault.ToolFault.TheVariants.{Write}
use Rattle.eve_tool.proofs.files.print_help.Goals as goal

pub returns-clause-unhelped : goal.returns-clause-unhelped
returns-clause-unhelped g c = λ two. elim (cases_lt c.serve_help-status.result 2) [
  | inl before ↦
      let failed = c.finish.ensures.failed before two in
      let heard = c.serve_help-status.ensures.heard before in (
        failed.ends,
        record {
          why = Write;
          ends = sym failed.ends;
          left = failed.failed ∙ ap after_failure heard.1;
          line = subst (λ e. Tells g.E.Sink.written g.E.Sink.failures e c.finish.new.err Write) heard.2 failed.tells;
        },
      )
  | inr reached ↦
      let ended = c.finish.ensures.ended reached in
      rw (ended.0, ended.1, ended.2) (c.serve_help-status.ensures.unhelped reached)
]
