use Rattle.std.proofs.Common.{sym, subst, ◌∙◌}
use Rattle.eve_audit.specs.Verdict.{IsVerdict}
use Rattle.eve_audit.proofs.auditing.audit.Goals as goal

pub returns-clause-verdict : goal.returns-clause-verdict
returns-clause-verdict g c =
    subst (IsVerdict c.args.bytes.now) (sym c.verdict.ensures) c.in_ok-audit_whole.ensures.verdict

pub returns-clause-yes : goal.returns-clause-yes
returns-clause-yes g c = λ s is. c.in_ok-audit_whole.ensures.yes s (sym c.verdict.ensures ∙ is)

pub returns-clause-within : goal.returns-clause-within
returns-clause-within g c = λ f is. c.in_ok-audit_whole.ensures.within f (sym c.verdict.ensures ∙ is)

pub returns-clause-replica : goal.returns-clause-replica
returns-clause-replica g c = λ f is. c.in_ok-audit_whole.ensures.replica f (sym c.verdict.ensures ∙ is)
