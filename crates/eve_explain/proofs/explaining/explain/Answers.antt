use Rattle.std.proofs.Common.{◌≡◌, ◌≤◌, length, sym, subst}
use Rattle.eve_grammar.specs.FrameOrder.{Spells}
use Rattle.eve_views.specs.declared.fault.Fault.{Fault}
use Rattle.eve_audit.specs.Answer.{verdict_of}
use Rattle.eve_audit.specs.Verdict.{IsVerdict, SpellsAudited}
use Rattle.eve_audit.specs.Where.{NamesItsSection}
use Rattle.eve_audit.specs.declared.verdict.Summary.{Summary}
use Rattle.eve_audit.specs.declared.verdict.Verdict.{Verdict}
use Rattle.eve_audit.specs.declared.verdict.Verdict.TheVariants.{Yes, No}
use Rattle.eve_audit.specs.declared.verdict.WholeVerdict.{WholeVerdict}
use Rattle.eve_explain.proofs.Verdicts.{told_of}
use Rattle.eve_explain.proofs.explaining.explain.Goals as goal

pub returns-in-Ok-Yes-clause-verdict : goal.returns-in-Ok-Yes-clause-verdict
returns-in-Ok-Yes-clause-verdict g c =
    let P = λ (v : Verdict). IsVerdict c.args.bytes.now v in
    subst P (sym c.explained_yes.ensures.yes)
    (subst (λ (w : WholeVerdict). P (verdict_of w)) c.in-Ok-Yes.field-0-is c.in-Ok-Yes.ensures.verdict)

pub returns-in-Ok-Yes-clause-yes : goal.returns-in-Ok-Yes-clause-yes
returns-in-Ok-Yes-clause-yes g c =
    let P = λ (v : Verdict). (s : Summary) → v ≡ Yes s → SpellsAudited c.args.bytes.now in
    subst P (sym c.explained_yes.ensures.yes)
    (subst (λ (w : WholeVerdict). P (verdict_of w)) c.in-Ok-Yes.field-0-is c.in-Ok-Yes.ensures.yes)

pub returns-in-Ok-Yes-clause-within : goal.returns-in-Ok-Yes-clause-within
returns-in-Ok-Yes-clause-within g c =
    let P = λ (v : Verdict). (f : Fault) → v ≡ No f → f.offset ≤ length c.args.bytes.now in
    subst P (sym c.explained_yes.ensures.yes)
    (subst (λ (w : WholeVerdict). P (verdict_of w)) c.in-Ok-Yes.field-0-is c.in-Ok-Yes.ensures.within)

pub returns-in-Ok-Yes-clause-replica : goal.returns-in-Ok-Yes-clause-replica
returns-in-Ok-Yes-clause-replica g c =
    let P = λ (v : Verdict). (f : Fault) → v ≡ No f → NamesItsSection c.args.bytes.now f in
    subst P (sym c.explained_yes.ensures.yes)
    (subst (λ (w : WholeVerdict). P (verdict_of w)) c.in-Ok-Yes.field-0-is c.in-Ok-Yes.ensures.replica)

pub returns-in-Ok-No-clause-verdict : goal.returns-in-Ok-No-clause-verdict
returns-in-Ok-No-clause-verdict g c =
    let P = λ (v : Verdict). IsVerdict c.args.bytes.now v in
    told_of c.explained_no.result (No c.in-Ok-No.fault) P
    (subst (λ (w : WholeVerdict). P (verdict_of w)) c.in-Ok-No.field-0-is c.in-Ok-No.ensures.verdict)
    c.explained_no.ensures.no

pub returns-in-Ok-No-clause-yes : goal.returns-in-Ok-No-clause-yes
returns-in-Ok-No-clause-yes g c =
    let P = λ (v : Verdict). (s : Summary) → v ≡ Yes s → SpellsAudited c.args.bytes.now in
    told_of c.explained_no.result (No c.in-Ok-No.fault) P
    (subst (λ (w : WholeVerdict). P (verdict_of w)) c.in-Ok-No.field-0-is c.in-Ok-No.ensures.yes)
    c.explained_no.ensures.no

pub returns-in-Ok-No-clause-within : goal.returns-in-Ok-No-clause-within
returns-in-Ok-No-clause-within g c =
    let P = λ (v : Verdict). (f : Fault) → v ≡ No f → f.offset ≤ length c.args.bytes.now in
    told_of c.explained_no.result (No c.in-Ok-No.fault) P
    (subst (λ (w : WholeVerdict). P (verdict_of w)) c.in-Ok-No.field-0-is c.in-Ok-No.ensures.within)
    c.explained_no.ensures.no

pub returns-in-Ok-No-clause-replica : goal.returns-in-Ok-No-clause-replica
returns-in-Ok-No-clause-replica g c =
    let P = λ (v : Verdict). (f : Fault) → v ≡ No f → NamesItsSection c.args.bytes.now f in
    told_of c.explained_no.result (No c.in-Ok-No.fault) P
    (subst (λ (w : WholeVerdict). P (verdict_of w)) c.in-Ok-No.field-0-is c.in-Ok-No.ensures.replica)
    c.explained_no.ensures.no

pub returns-in-Ok-Yes-clause-explained : goal.returns-in-Ok-Yes-clause-explained
returns-in-Ok-Yes-clause-explained g c =
    let bytes = c.args.bytes.now in
    let read : Spells bytes c.in-Ok-Yes.accepted.trace = rw c.in-Ok-Yes.field-0-is at c.in-Ok-Yes.ensures.trace in
    c.explained_yes.ensures.explained bytes read
