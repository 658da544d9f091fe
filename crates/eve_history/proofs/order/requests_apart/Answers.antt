use Rattle.std.proofs.Common.{◌-◌, ℕ, Option, IfSome, take, refl, ap, sym, subst, ◌∙◌, arith}
use Rattle.std.specs.List.{flat_map}
use Rattle.eve_grammar.specs.Trace.{Batch, head_of}
use Rattle.eve_grammar.specs.Spelling.{batches_at}
use Rattle.eve_frames.specs.Views.{batch_in}
use Rattle.eve_views.specs.declared.fault.Code.TheVariants as code
use Rattle.eve_views.specs.declared.fault.CheckFault.{CheckFault}
use Rattle.eve_views.specs.declared.fault.CheckFault.TheVariants.{Found}
use Rattle.eve_views.specs.Form.{IfFound, IsLeast, IsFaultOutside}
use Rattle.eve_history.specs.Order.{request_ids_at, StandsInOrders}
use Rattle.eve_history.specs.inner.Repeats.{IsFirstRepeat}
use Rattle.eve_grammar.proofs.HeadLimits.{head_has_limits}
use Rattle.eve_history.proofs.OrderLaws.{asked_again, fault}
use Rattle.eve_history.proofs.order.requests_apart.Goals as goal

pub returns-then-branch-clause-apart : goal.returns-then-branch-clause-apart
returns-then-branch-clause-apart c = c.in_ok-numbers_rise.ensures.apart c.if-branch.true

pub overflow_cast-n : goal.overflow_cast-n
overflow_cast-n c =
    let t = c.args.trace.now in
    let repeat : IsFirstRepeat t c.in-Some.n = subst (λ (o : Option ℕ). IfSome o (IsFirstRepeat t)) c.in-Some.is
    c.in_ok-first_repeat.ensures.first in
    let few = (head_has_limits (head_of t) c.recall_limits.ensures.head).few_batches in
    let there = repeat.there in
    record { fits = omega (arith, few, there) }

pub returns-in-Some-clause-fault : goal.returns-in-Some-clause-fault
returns-in-Some-clause-fault c =
    let t = c.args.trace.now in
    let n = c.in-Some.n in
    let bs = batches_at t in
    let decoded : ℕ × (ℕ × Batch) = (c.batch.result.offset, batch_in c.batch.result.bytes.now) in
    let repeat : IsFirstRepeat t n = subst (λ (o : Option ℕ). IfSome o (IsFirstRepeat t)) c.in-Some.is
    c.in_ok-first_repeat.ensures.first in
    subst (λ (e : CheckFault). IfFound e (IsLeast (IsFaultOutside StandsInOrders t)))
    (sym (c.outside.ensures ∙ ap (λ (o : ℕ). Found (fault code.SameRequest o)) c.offset.ensures))
    (asked_again t (n - 1) (flat_map request_ids_at (take (n - 1) bs)) decoded c.requires
    (record { items = refl; apart = repeat.first }) c.batch.ensures.says (repeat.again decoded c.batch.ensures.says))
