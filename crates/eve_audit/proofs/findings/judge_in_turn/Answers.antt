use Rattle.std.proofs.Common.{sym, subst}
use Rattle.std.proofs.lemmas.List.Elements.{All-push}
use Rattle.eve_audit.specs.declared.findings.Finding.{Finding}
use Rattle.eve_audit.specs.inner.Findings.{AreTrueSoFar, IsAnswerBeforeTokens}
use Rattle.eve_audit.proofs.findings.judge_in_turn.Goals as goal

pub loop-e-preserved : goal.loop-e-preserved
loop-e-preserved g c =
    let t = c.args.named.now.trace in
    let P : Finding → Type 0 = λ f. IsAnswerBeforeTokens t f.replica f.answer in
    let found = All-push P c.loop-e.findings.items _ c.loop-e.invariant c.judge_section.ensures.settled in
    subst (AreTrueSoFar t) (sym c.in_ok-push.ensures.items) found
