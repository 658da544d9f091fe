use Rattle.std.proofs.Common.{◌≤◌, length, sym, subst, ◌∙◌}
use Rattle.eve_audit.specs.Verdict.{IsVerdict}
use Rattle.eve_audit.specs.Answer.{verdict_of}
use Rattle.eve_audit.specs.Where.{NamesItsSection}
use Rattle.eve_audit.proofs.AnswerLaws.{yes_from, no_from}
use Rattle.eve_audit.proofs.auditing.audit_one.Goals as goal

pub returns-clause-verdict : goal.returns-clause-verdict
returns-clause-verdict g c =
    let told = c.in_ok-whole.ensures c.args.bytes.now c.in-Ok.ensures.read in
    subst (IsVerdict c.args.bytes.now) (sym c.verdict.ensures) told.answer.verdict

pub returns-clause-yes : goal.returns-clause-yes
returns-clause-yes g c = λ s is.
    let told = c.in_ok-whole.ensures c.args.bytes.now c.in-Ok.ensures.read in
    yes_from c.args.bytes.now (verdict_of c.in_ok-whole.whole) s told.answer.yes (sym c.verdict.ensures ∙ is)

pub returns-clause-within : goal.returns-clause-within
returns-clause-within g c = λ f is.
    let told = c.in_ok-whole.ensures c.args.bytes.now c.in-Ok.ensures.read in
    no_from (verdict_of c.in_ok-whole.whole) (λ h. h.offset ≤ length c.args.bytes.now) f told.answer.within
    (sym c.verdict.ensures ∙ is)

pub returns-clause-replica : goal.returns-clause-replica
returns-clause-replica g c = λ f is.
    let told = c.in_ok-whole.ensures c.args.bytes.now c.in-Ok.ensures.read in
    no_from (verdict_of c.in_ok-whole.whole) (NamesItsSection c.args.bytes.now) f told.answer.replica
    (sym c.verdict.ensures ∙ is)
