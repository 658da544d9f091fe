use Rattle.std.proofs.Common.{◌<◌, length, sym, subst, rules}
use Rattle.std.proofs.lemmas.List.Elements.{All-push}
use Rattle.eve_audit.specs.declared.findings.Finding.{Finding}
use Rattle.eve_audit.specs.inner.Findings.{AreOfReplicas}
use Rattle.eve_audit.proofs.findings.nothing_of_each.Goals as goal

pub loop-e-preserved : goal.loop-e-preserved
loop-e-preserved c =
    let t = c.args.trace.now in
    let P : Finding → Type 0 = λ f. f.replica < length t.sections in
    let there : P c.of_nothing.result = search rules in
    subst (AreOfReplicas t) (sym c.in_ok-push.ensures.items)
    (All-push P c.loop-e.findings.items _ c.loop-e.invariant there)
