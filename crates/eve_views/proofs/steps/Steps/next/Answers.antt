use Rattle.std.proofs.Common.{◌<◌, ◌+◌, ◌^◌, sym, ap, ◌∙◌, arith, rules}
use Rattle.eve_grammar.specs.Trace.{Attempts, Commits, RollsBack, Transfers}
use Rattle.eve_grammar.specs.Frames.{OfAttempt, OfCommit, OfRollback, OfTransfer, frames_of}
use Rattle.eve_grammar.specs.Spelling.{frame_text}
use Rattle.eve_frames.specs.Views.{attempt_in, commit_in, rollback_in, transfer_in}
use Rattle.eve_views.specs.Parts.{byte_of}
use Rattle.eve_views.proofs.StepLaws.{none_left, attempt_here, commit_here, rollback_here, transfer_here}
use Rattle.eve_views.proofs.StepLaws.{after_accesses}
use Rattle.eve_views.proofs.steps.Steps.next.Goals as goal

pub returns-then-self-clause-none : goal.returns-then-self-clause-none
returns-then-self-clause-none c = sym c.self.view_is
    ∙ none_left (frames_of c.self.inside.trace.now) c.self.inside.at c.self.inside.to c.self.invariant c.if-self.true

-- ---- an attempt

pub new-attempt-requires : goal.new-attempt-requires
new-attempt-requires c =
    let is_located = attempt_here (frames_of c.self.inside.trace.now) c.self.inside.at c.self.inside.to
    c.frame-frame.result.bytes.now c.self.invariant c.if-self.false c.frame-frame.ensures.frame
    (c.if-first-byte.true ∙ c.byte.ensures) in
    is_located.says.0

pub overflow_add-self : goal.overflow_add-self
overflow_add-self c =
    let is_located = attempt_here (frames_of c.self.inside.trace.now) c.self.inside.at c.self.inside.to
    c.frame-frame.result.bytes.now c.self.invariant c.if-self.false c.frame-frame.ensures.frame
    (c.if-first-byte.true ∙ c.byte.ensures) in
    let next = after_accesses (frames_of c.self.inside.trace.now) c.self.inside.at c.self.inside.to
    c.frame-frame.result.bytes.now c.new-attempt.result.bytes.now c.len-count.result is_located
    c.new-attempt.ensures.bytes c.len-count.ensures.certificate in
    let up = (is_located.rest (c.self.inside.at + 1 + c.len-count.result) next).up in
    let small : c.self.inside.to < 2 ^ 64 = search rules in
    record { fits = omega (arith, up, small) }

pub new-accesses-requires : goal.new-accesses-requires
new-accesses-requires c =
    let is_located = attempt_here (frames_of c.self.inside.trace.now) c.self.inside.at c.self.inside.to
    c.frame-frame.result.bytes.now c.self.invariant c.if-self.false c.frame-frame.ensures.frame
    (c.if-first-byte.true ∙ c.byte.ensures) in
    let next = after_accesses (frames_of c.self.inside.trace.now) c.self.inside.at c.self.inside.to
    c.frame-frame.result.bytes.now c.new-attempt.result.bytes.now c.len-count.result is_located
    c.new-attempt.ensures.bytes c.len-count.ensures.certificate in
    is_located.accesses (c.self.inside.at + 1 + c.len-count.result) next

pub invariant_of-self : goal.invariant_of-self
invariant_of-self c =
    let is_located = attempt_here (frames_of c.self.inside.trace.now) c.self.inside.at c.self.inside.to
    c.frame-frame.result.bytes.now c.self.invariant c.if-self.false c.frame-frame.ensures.frame
    (c.if-first-byte.true ∙ c.byte.ensures) in
    let next = after_accesses (frames_of c.self.inside.trace.now) c.self.inside.at c.self.inside.to
    c.frame-frame.result.bytes.now c.new-attempt.result.bytes.now c.len-count.result is_located
    c.new-attempt.ensures.bytes c.len-count.ensures.certificate in
    is_located.rest (c.self.inside.at + 1 + c.len-count.result) next

pub returns-then-first-byte-clause-some : goal.returns-then-first-byte-clause-some
returns-then-first-byte-clause-some c =
    let is_located = attempt_here (frames_of c.self.inside.trace.now) c.self.inside.at c.self.inside.to
    c.frame-frame.result.bytes.now c.self.invariant c.if-self.false c.frame-frame.ensures.frame
    (c.if-first-byte.true ∙ c.byte.ensures) in
    let next = after_accesses (frames_of c.self.inside.trace.now) c.self.inside.at c.self.inside.to
    c.frame-frame.result.bytes.now c.new-attempt.result.bytes.now c.len-count.result is_located
    c.new-attempt.ensures.bytes c.len-count.ensures.certificate in (
      (byte_of (frames_of c.self.inside.trace.now) c.self.inside.at, Attempts is_located.attempt),
      sym c.self.view_is ∙ is_located.value (c.self.inside.at + 1 + c.len-count.result) next,
      (
        c.new-attempt.ensures.offset ∙ c.frame-frame.ensures.offset,
        ap attempt_in c.new-attempt.ensures.bytes ∙ is_located.says.1,
        c.new-accesses.ensures ∙ is_located.list (c.self.inside.at + 1 + c.len-count.result) next,
      ),
    )

pub returns-then-first-byte-clause-text : goal.returns-then-first-byte-clause-text
returns-then-first-byte-clause-text c =
    let is_located = attempt_here (frames_of c.self.inside.trace.now) c.self.inside.at c.self.inside.to
    c.frame-frame.result.bytes.now c.self.invariant c.if-self.false c.frame-frame.ensures.frame
    (c.if-first-byte.true ∙ c.byte.ensures) in
    c.new-attempt.ensures.bytes ∙ is_located.frame
    ∙ ap (λ x. frame_text (OfAttempt x)) (sym (ap attempt_in c.new-attempt.ensures.bytes ∙ is_located.says.1))

-- ---- a commit

pub new-requires : goal.new-requires
new-requires c =
    let is_located = commit_here (frames_of c.self.inside.trace.now) c.self.inside.at c.self.inside.to
    c.frame-frame.result.bytes.now c.self.invariant c.if-self.false c.frame-frame.ensures.frame
    (c.if-first-byte-2.true ∙ c.byte-else-first-byte.ensures) in
    is_located.says.0

pub invariant_of-self-then-first-byte-2 : goal.invariant_of-self-then-first-byte-2
invariant_of-self-then-first-byte-2 c =
    let is_located = commit_here (frames_of c.self.inside.trace.now) c.self.inside.at c.self.inside.to
    c.frame-frame.result.bytes.now c.self.invariant c.if-self.false c.frame-frame.ensures.frame
    (c.if-first-byte-2.true ∙ c.byte-else-first-byte.ensures) in
    is_located.rest

pub returns-then-first-byte-2-clause-some : goal.returns-then-first-byte-2-clause-some
returns-then-first-byte-2-clause-some c =
    let is_located = commit_here (frames_of c.self.inside.trace.now) c.self.inside.at c.self.inside.to
    c.frame-frame.result.bytes.now c.self.invariant c.if-self.false c.frame-frame.ensures.frame
    (c.if-first-byte-2.true ∙ c.byte-else-first-byte.ensures) in (
      (byte_of (frames_of c.self.inside.trace.now) c.self.inside.at, Commits is_located.decoded),
      sym c.self.view_is ∙ is_located.value,
      (c.new.ensures.offset ∙ c.frame-frame.ensures.offset, ap commit_in c.new.ensures.bytes ∙ is_located.says.1),
    )

pub returns-then-first-byte-2-clause-text : goal.returns-then-first-byte-2-clause-text
returns-then-first-byte-2-clause-text c =
    let is_located = commit_here (frames_of c.self.inside.trace.now) c.self.inside.at c.self.inside.to
    c.frame-frame.result.bytes.now c.self.invariant c.if-self.false c.frame-frame.ensures.frame
    (c.if-first-byte-2.true ∙ c.byte-else-first-byte.ensures) in
    c.new.ensures.bytes ∙ is_located.text
    ∙ ap (λ x. frame_text (OfCommit x)) (sym (ap commit_in c.new.ensures.bytes ∙ is_located.says.1))

-- ---- a rollback

pub new-requires-then-first-byte-3 : goal.new-requires-then-first-byte-3
new-requires-then-first-byte-3 c =
    let is_located = rollback_here (frames_of c.self.inside.trace.now) c.self.inside.at c.self.inside.to
    c.frame-frame.result.bytes.now c.self.invariant c.if-self.false c.frame-frame.ensures.frame
    (c.if-first-byte-3.true ∙ c.byte-else-first-byte-2.ensures) in
    is_located.says.0

pub invariant_of-self-then-first-byte-3 : goal.invariant_of-self-then-first-byte-3
invariant_of-self-then-first-byte-3 c =
    let is_located = rollback_here (frames_of c.self.inside.trace.now) c.self.inside.at c.self.inside.to
    c.frame-frame.result.bytes.now c.self.invariant c.if-self.false c.frame-frame.ensures.frame
    (c.if-first-byte-3.true ∙ c.byte-else-first-byte-2.ensures) in
    is_located.rest

pub returns-then-first-byte-3-clause-some : goal.returns-then-first-byte-3-clause-some
returns-then-first-byte-3-clause-some c =
    let is_located = rollback_here (frames_of c.self.inside.trace.now) c.self.inside.at c.self.inside.to
    c.frame-frame.result.bytes.now c.self.invariant c.if-self.false c.frame-frame.ensures.frame
    (c.if-first-byte-3.true ∙ c.byte-else-first-byte-2.ensures) in (
      (byte_of (frames_of c.self.inside.trace.now) c.self.inside.at, RollsBack is_located.decoded),
      sym c.self.view_is ∙ is_located.value,
      (
        c.new-then-first-byte-3.ensures.offset ∙ c.frame-frame.ensures.offset,
        ap rollback_in c.new-then-first-byte-3.ensures.bytes ∙ is_located.says.1,
      ),
    )

pub returns-then-first-byte-3-clause-text : goal.returns-then-first-byte-3-clause-text
returns-then-first-byte-3-clause-text c =
    let is_located = rollback_here (frames_of c.self.inside.trace.now) c.self.inside.at c.self.inside.to
    c.frame-frame.result.bytes.now c.self.invariant c.if-self.false c.frame-frame.ensures.frame
    (c.if-first-byte-3.true ∙ c.byte-else-first-byte-2.ensures) in
    c.new-then-first-byte-3.ensures.bytes ∙ is_located.text
    ∙ ap (λ x. frame_text (OfRollback x))
    (sym (ap rollback_in c.new-then-first-byte-3.ensures.bytes ∙ is_located.says.1))

-- ---- a state transferred

pub new-requires-else-first-byte-3 : goal.new-requires-else-first-byte-3
new-requires-else-first-byte-3 c =
    let is_located = transfer_here (frames_of c.self.inside.trace.now) c.self.inside.at c.self.inside.to
    c.frame-frame.result.bytes.now c.self.invariant c.if-self.false c.frame-frame.ensures.frame
    (λ e. c.if-first-byte.false (e ∙ sym c.byte.ensures))
    (λ e. c.if-first-byte-2.false (e ∙ sym c.byte-else-first-byte.ensures))
    (λ e. c.if-first-byte-3.false (e ∙ sym c.byte-else-first-byte-2.ensures)) in
    is_located.says.0

pub invariant_of-self-else-first-byte-3 : goal.invariant_of-self-else-first-byte-3
invariant_of-self-else-first-byte-3 c =
    let is_located = transfer_here (frames_of c.self.inside.trace.now) c.self.inside.at c.self.inside.to
    c.frame-frame.result.bytes.now c.self.invariant c.if-self.false c.frame-frame.ensures.frame
    (λ e. c.if-first-byte.false (e ∙ sym c.byte.ensures))
    (λ e. c.if-first-byte-2.false (e ∙ sym c.byte-else-first-byte.ensures))
    (λ e. c.if-first-byte-3.false (e ∙ sym c.byte-else-first-byte-2.ensures)) in
    is_located.rest

pub returns-else-first-byte-3-clause-some : goal.returns-else-first-byte-3-clause-some
returns-else-first-byte-3-clause-some c =
    let is_located = transfer_here (frames_of c.self.inside.trace.now) c.self.inside.at c.self.inside.to
    c.frame-frame.result.bytes.now c.self.invariant c.if-self.false c.frame-frame.ensures.frame
    (λ e. c.if-first-byte.false (e ∙ sym c.byte.ensures))
    (λ e. c.if-first-byte-2.false (e ∙ sym c.byte-else-first-byte.ensures))
    (λ e. c.if-first-byte-3.false (e ∙ sym c.byte-else-first-byte-2.ensures)) in (
      (byte_of (frames_of c.self.inside.trace.now) c.self.inside.at, Transfers is_located.decoded),
      sym c.self.view_is ∙ is_located.value,
      (
        c.new-else-first-byte-3.ensures.offset ∙ c.frame-frame.ensures.offset,
        ap transfer_in c.new-else-first-byte-3.ensures.bytes ∙ is_located.says.1,
      ),
    )

pub returns-else-first-byte-3-clause-text : goal.returns-else-first-byte-3-clause-text
returns-else-first-byte-3-clause-text c =
    let is_located = transfer_here (frames_of c.self.inside.trace.now) c.self.inside.at c.self.inside.to
    c.frame-frame.result.bytes.now c.self.invariant c.if-self.false c.frame-frame.ensures.frame
    (λ e. c.if-first-byte.false (e ∙ sym c.byte.ensures))
    (λ e. c.if-first-byte-2.false (e ∙ sym c.byte-else-first-byte.ensures))
    (λ e. c.if-first-byte-3.false (e ∙ sym c.byte-else-first-byte-2.ensures)) in
    c.new-else-first-byte-3.ensures.bytes ∙ is_located.text
    ∙ ap (λ x. frame_text (OfTransfer x))
    (sym (ap transfer_in c.new-else-first-byte-3.ensures.bytes ∙ is_located.says.1))
