use Rattle.std.proofs.Common.{ℕ, ◌-◌, sym, ap, ◌∙◌}
use Rattle.eve_evidence.proofs.PartsRead.{read_count, right_attempt, same_beq, apart_beq}
use Rattle.eve_evidence.proofs.structure.content_fault.Goals as goal

pub returns-then-requests-due-clause-told : goal.returns-then-requests-due-clause-told
returns-then-requests-due-clause-told c = λ s is numbered.
    let count = read_count c.args.trace.now _ _ _ _ (ap (λ (n : ℕ). n - 1) c.seq.ensures) c.batch.ensures.says
    c.len-due.ensures in (
      c.numbers-then-requests-due.ensures
          ∙ (λ i. record { found = c.len-requests.ensures.certificate i; due = count i }),
      numbered,
      sym c.view-view.ensures ∙ c.if-view-course.false ∙ is.view,
      λ e. c.if-requests-due.true (c.len-requests.ensures.certificate ∙ e ∙ sym count),
    )

pub returns-then-serial-course-clause-told : goal.returns-then-serial-course-clause-told
returns-then-serial-course-clause-told c = λ s is numbered.
    let count = read_count c.args.trace.now _ _ _ _ (ap (λ (n : ℕ). n - 1) c.seq.ensures) c.batch.ensures.says
    c.len-due.ensures in (
      c.is_serial-serial.ensures,
      is.rolled_back,
      numbered,
      sym c.view-view.ensures ∙ c.if-view-course.false ∙ is.view,
      sym c.len-requests.ensures.certificate ∙ c.if-requests-due.false ∙ count,
      λ e. apart_beq c.is_serial-serial.result c.args.course.now.rolled_back c.if-serial-course.true
          (c.is_serial-serial.ensures ∙ e ∙ sym is.rolled_back),
    )

pub returns-clause-right : goal.returns-clause-right
returns-clause-right c = λ s is numbered.
    let count = read_count c.args.trace.now _ _ _ _ (ap (λ (n : ℕ). n - 1) c.seq.ensures) c.batch.ensures.says
    c.len-due.ensures in
    right_attempt c.args.trace.now s _ numbered
    (sym c.view-view.ensures ∙ c.if-view-course.false ∙ is.view)
    (sym c.is_serial-serial.ensures
    ∙ same_beq c.is_serial-serial.result c.args.course.now.rolled_back c.if-serial-course.false ∙ is.rolled_back)
    (sym c.len-requests.ensures.certificate ∙ c.if-requests-due.false ∙ count)
