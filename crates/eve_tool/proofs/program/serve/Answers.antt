use Rattle.std.proofs.Common.{◌∙◌, arith, inl, inr, map, refl, subst, sym}
use Rattle.std.proofs.lemmas.Option.{same_Some}
use Rattle.eve_grammar.specs.declared.limits.TheConstants.{MOST_BYTES}
use Rattle.eve_tool.specs.Audit.{verdict_text}
use Rattle.eve_tool.specs.Calls.{CallSays}
use Rattle.eve_tool.specs.Explain.{explained_text}
use Rattle.eve_tool.specs.Writes.{WritesAllOf}
use Rattle.eve_tool.specs.declared.fault.ToolFault.TheVariants.{Memory}
use Rattle.eve_tool_arguments.specs.declared.arguments.Asked.{Asked}
use Rattle.eve_tool_arguments.specs.Arguments.{Answers, Subcommand}
use Rattle.eve_tool.proofs.CallWords.{words_are_calls}
use Rattle.eve_tool.proofs.CutInput.{audited_of, explained_of}
use Rattle.eve_tool.proofs.program.serve.Goals as goal

pub returns-in-Ok-Call-clause-calls : goal.returns-in-Ok-Call-clause-calls
returns-in-Ok-Call-clause-calls g c = words_are_calls

pub returns-in-Ok-Help-clause-calls : goal.returns-in-Ok-Help-clause-calls
returns-in-Ok-Help-clause-calls g c = words_are_calls

pub returns-in-Ok-Refused-clause-calls : goal.returns-in-Ok-Refused-clause-calls
returns-in-Ok-Refused-clause-calls g c = words_are_calls

pub returns-in-Err-clause-calls : goal.returns-in-Err-clause-calls
returns-in-Err-clause-calls g c = words_are_calls

pub returns-in-Ok-Call-clause-yes : goal.returns-in-Ok-Call-clause-yes
returns-in-Ok-Call-clause-yes g c = λ asks zero.
    let words = map g.S.AsStr.text c.args.arguments.now in
    let answers = subst (λ (a : Asked). Answers words a) c.in-Ok-Call.field-0-is c.in-Ok-Call.ensures in
    let known = g.I.Source.remaining c.args.input.now in
    let old = g.O.Sink.written c.args.out.now in
    let new = g.O.Sink.written c.serve_call.new.out in
    let status = c.serve_call.result in
    let said = c.serve_call.ensures.said (omega (arith, zero)) in
    let says = λ (s : Subcommand). WritesAllOf (CallSays MOST_BYTES s) known old new status in
    elim asks [
      | inl audits ↦ audited_of (verdict_text audits.0) known old new status
          (subst says (same_Some _ _ (sym answers.0 ∙ audits.1)) said) zero
      | inr explains ↦ explained_of (explained_text explains.0) known old new status
          (subst says (same_Some _ _ (sym answers.0 ∙ explains.1)) said) zero
    ]

pub returns-in-Err-clause-stopped : goal.returns-in-Err-clause-stopped
returns-in-Err-clause-stopped g c = λ call calls two. record {
  why = Memory;
  ends = sym c.stop.ensures.status;
  left = inl refl;
  read = λ unread. refl;
  ended = λ unread scarce. absurd (scarce refl);
  wrote = λ unwritten. refl;
  line = c.stop.ensures.told;
}

pub returns-in-Err-clause-unhelped : goal.returns-in-Err-clause-unhelped
returns-in-Err-clause-unhelped g c = λ nothing three. record {
  why = Memory;
  ends = sym c.stop.ensures.status;
  left = refl;
  line = c.stop.ensures.told;
}
