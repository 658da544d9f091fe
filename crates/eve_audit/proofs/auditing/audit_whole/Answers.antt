use Rattle.std.proofs.Common.{◌≡◌, ◌≤◌, length}
use Rattle.std.proofs.lemmas.Result.{IfOk-weaker}
use Rattle.eve_grammar.specs.FrameOrder.{Spells}
use Rattle.eve_views.specs.declared.fault.Fault.{Fault}
use Rattle.eve_history.specs.SectionHistory.{section_histories}
use Rattle.eve_audit.specs.declared.verdict.Summary.{Summary}
use Rattle.eve_audit.specs.declared.verdict.Verdict.TheVariants.{Yes, No}
use Rattle.eve_audit.specs.Answer.{IfAccepted, verdict_of}
use Rattle.eve_audit.specs.Verdict.{IsVerdict, SpellsAudited}
use Rattle.eve_audit.specs.Where.{NamesItsSection}
use Rattle.eve_audit.proofs.AnswerLaws.{yes_from, no_from}
use Rattle.eve_audit.proofs.auditing.audit_whole.Goals as goal

pub returns-in-Ok-judge_side_by_side-clause-verdict : goal.returns-in-Ok-judge_side_by_side-clause-verdict
returns-in-Ok-judge_side_by_side-clause-verdict g c =
    IfOk-weaker c.verdict_on.result _ (λ w. IsVerdict c.args.bytes.now (verdict_of w))
    (λ w told. (told c.args.bytes.now c.in-Ok.ensures.read).answer.verdict) c.verdict_on.ensures

pub returns-in-Ok-judge_side_by_side-clause-yes : goal.returns-in-Ok-judge_side_by_side-clause-yes
returns-in-Ok-judge_side_by_side-clause-yes g c =
    IfOk-weaker c.verdict_on.result _ (λ w. (s : Summary) → verdict_of w ≡ Yes s → SpellsAudited c.args.bytes.now)
    (λ w told s is. yes_from c.args.bytes.now (verdict_of w) s
    (told c.args.bytes.now c.in-Ok.ensures.read).answer.yes is) c.verdict_on.ensures

pub returns-in-Ok-judge_side_by_side-clause-within : goal.returns-in-Ok-judge_side_by_side-clause-within
returns-in-Ok-judge_side_by_side-clause-within g c =
    IfOk-weaker c.verdict_on.result _ (λ w. (f : Fault) → verdict_of w ≡ No f → f.offset ≤ length c.args.bytes.now)
    (λ w told f is. no_from (verdict_of w) (λ f. f.offset ≤ length c.args.bytes.now) f
    (told c.args.bytes.now c.in-Ok.ensures.read).answer.within is) c.verdict_on.ensures

pub returns-in-Ok-judge_side_by_side-clause-replica : goal.returns-in-Ok-judge_side_by_side-clause-replica
returns-in-Ok-judge_side_by_side-clause-replica g c =
    IfOk-weaker c.verdict_on.result _ (λ w. (f : Fault) → verdict_of w ≡ No f → NamesItsSection c.args.bytes.now f)
    (λ w told f is. no_from (verdict_of w) (NamesItsSection c.args.bytes.now) f
    (told c.args.bytes.now c.in-Ok.ensures.read).answer.replica is) c.verdict_on.ensures

pub returns-in-Ok-judge_side_by_side-clause-trace : goal.returns-in-Ok-judge_side_by_side-clause-trace
returns-in-Ok-judge_side_by_side-clause-trace g c =
    IfOk-weaker c.verdict_on.result _ (λ w. IfAccepted w (λ a. Spells c.args.bytes.now a.trace))
    (λ w told. (told c.args.bytes.now c.in-Ok.ensures.read).trace) c.verdict_on.ensures

pub returns-in-Ok-judge_side_by_side-clause-histories : goal.returns-in-Ok-judge_side_by_side-clause-histories
returns-in-Ok-judge_side_by_side-clause-histories g c =
    IfOk-weaker c.verdict_on.result _ (λ w. IfAccepted w (λ a. a.histories.items ≡ section_histories a.trace))
    (λ w told. (told c.args.bytes.now c.in-Ok.ensures.read).histories) c.verdict_on.ensures
