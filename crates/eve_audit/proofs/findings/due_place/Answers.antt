use Rattle.std.proofs.lemmas.List.Elements.{All-set}
use Rattle.eve_audit.specs.inner.Findings.{IsAnswerBeforeTokens}
use Rattle.eve_audit.specs.declared.findings.Finding.{Finding}
use Rattle.eve_audit.proofs.findings.due_place.Goals as goal

pub loop-preserved : goal.loop-preserved
loop-preserved g c =
    let t = c.args.trace.now in
    All-set (λ (f : Finding). IsAnswerBeforeTokens t f.replica f.answer) c.loop.findings c.in-Some.place
    c.judge_tokens.new.self c.judge_tokens.ensures.settled c.loop.invariant
