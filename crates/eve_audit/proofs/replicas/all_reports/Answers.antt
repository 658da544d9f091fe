use Rattle.std.proofs.Common.{◌≡◌, ℕ, ◌+◌, ◌<◌, length, ap, Option, sym, subst, ◌∙◌, rules}
use Rattle.eve_views.specs.declared.fault.Fault.{Fault}
use Rattle.eve_views.specs.Form.{HasNone}
use Rattle.eve_audit.specs.Reports.{IsFirstOf, IsFoundBelow, AreKept, IsJudgedBelow, IsFaultBelow}
use Rattle.eve_audit.proofs.KeptReplicas.{sound_more, judged_more, all_told, all_settled, all_sound}
use Rattle.eve_audit.proofs.replicas.all_reports.Goals.{in-Ok+in_ok-keep-in-Ok, in-Err-Found}
use Rattle.eve_audit.proofs.replicas.all_reports.Goals as goal

pub replicas-preserved : goal.replicas-preserved
replicas-preserved g c =
    let t = c.args.named.now.trace in
    let e = c.replicas.e in (
      elim c.match-report_of.branch [
        | in-Ok+in_ok-keep-in-Ok w ↦ (
            let lt : e < length t.sections = search rules in
            let judged = subst (λ (f : Option Fault). IsJudgedBelow t e f c.replicas.kept.histories.items
            c.replicas.kept.settled.items c.replicas.kept.committed) (sym w.first-is) c.replicas.invariant.0 in
            sound_more t e c.match-report_of.first c.replicas.kept.histories.items
            c.match-report_of.kept.histories.items c.replicas.kept.settled.items
            c.match-report_of.kept.settled.items
            c.replicas.kept.committed c.match-report_of.kept.committed w.in-Ok.report.history w.in-Ok.report.settled
            judged lt w.in-Ok.ensures.answer.history w.in-Ok.ensures.answer.settled w.in-Ok.ensures.answer.sound
            w.in-Ok.ensures.answer.none
            (ap (λ p. p.histories.items) w.kept-is ∙ w.in_ok-keep-in-Ok.ensures.histories)
            (ap (λ p. p.settled.items) w.kept-is ∙ w.in_ok-keep-in-Ok.ensures.settled)
            (ap (λ p. p.committed) w.kept-is ∙ w.in_ok-keep-in-Ok.ensures.committed) w.in_ok-keep-in-Ok.ensures.small
            )
        | in-Err-Found w ↦ (
            let first = rw w.in-Err-Found.field-0-is at w.in-Err-Found.ensures.answer in
            subst (λ (f : Option Fault). IsJudgedBelow t (e + 1) f c.match-report_of.kept.histories.items
            c.match-report_of.kept.settled.items c.match-report_of.kept.committed)
            (sym (w.first-is ∙ w.first_of-first.ensures))
            (judged_more c.faults_come_one_before_another.ensures.further
            c.faults_come_one_before_another.ensures.first t e c.replicas.first w.in-Err-Found.fault
            c.match-report_of.kept.histories.items
            c.match-report_of.kept.settled.items c.match-report_of.kept.committed
            c.replicas.invariant.0.found first)
            )
      ],
      c.report_of.ensures.left,
    )

pub returns-in-Some-clause-first : goal.returns-in-Some-clause-first
returns-in-Some-clause-first g c =
    let t = c.args.named.now.trace in
    let last : c.replicas.e ≡ length t.sections = search rules in
    subst (λ (n : ℕ). IsFirstOf (IsFaultBelow t n) c.in-Some.fault) last
    (subst (IsFoundBelow t c.replicas.e) c.in-Some.is c.replicas.invariant.0.found)

pub returns-clause-histories : goal.returns-clause-histories
returns-clause-histories g c =
    let t = c.args.named.now.trace in
    let last : c.replicas.e ≡ length t.sections = search rules in
    let kept = subst (λ (n : ℕ). AreKept t n c.replicas.kept.histories.items c.replicas.kept.settled.items) last
    (c.replicas.invariant.0.kept c.in-None.is) in
    all_told t c.replicas.kept.histories.items c.replicas.kept.settled.items kept

pub returns-clause-settled : goal.returns-clause-settled
returns-clause-settled g c =
    let t = c.args.named.now.trace in
    let last : c.replicas.e ≡ length t.sections = search rules in
    let kept = subst (λ (n : ℕ). AreKept t n c.replicas.kept.histories.items c.replicas.kept.settled.items) last
    (c.replicas.invariant.0.kept c.in-None.is) in
    all_settled t c.replicas.kept.histories.items c.replicas.kept.settled.items kept

pub returns-clause-sound : goal.returns-clause-sound
returns-clause-sound g c =
    let t = c.args.named.now.trace in
    let last : c.replicas.e ≡ length t.sections = search rules in
    let kept = subst (λ (n : ℕ). AreKept t n c.replicas.kept.histories.items c.replicas.kept.settled.items) last
    (c.replicas.invariant.0.kept c.in-None.is) in
    all_sound t c.replicas.kept.histories.items c.replicas.kept.settled.items kept

pub returns-clause-none : goal.returns-clause-none
returns-clause-none g c =
    let t = c.args.named.now.trace in
    let last : c.replicas.e ≡ length t.sections = search rules in
    subst (λ (n : ℕ). HasNone (IsFaultBelow t n)) last
    (subst (IsFoundBelow t c.replicas.e) c.in-None.is c.replicas.invariant.0.found)
