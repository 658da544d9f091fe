use Rattle.std.proofs.Common.{sym, subst}
use Rattle.std.proofs.lemmas.List.Elements.{All-set}
use Rattle.eve_audit.specs.inner.Findings.{IsAnswerOf}
use Rattle.eve_audit.specs.declared.findings.Finding.{Finding}
use Rattle.eve_audit.proofs.findings.judge_all_tokens.Goals as goal

pub returns : goal.returns
returns g c =
    let t = c.args.trace.now in
    let P : Finding → Type 0 = λ f. IsAnswerOf t f.replica f.answer in
    let old = c.index-findings-place.result in
    let taken : P c.replace-due.result = subst P (sym c.replace-due.ensures.value) (c.in-Some.ensures.due old) in
    record {
      found = All-set P c.judge_each-2.new.findings c.in-Some.place c.replace-due.result taken
          c.judge_each-2.ensures.found;
    }
