use Rattle.std.proofs.Common.{◌≡◌, ℕ, slice_get, Some, sym, ap, ◌∙◌}
use Rattle.eve_grammar.specs.Trace.{Sent}
use Rattle.eve_grammar.specs.Spelling.{sent_at}
use Rattle.eve_frames.specs.Views.{sent_in}
use Rattle.eve_agree.proofs.RepliesSent.{sent_there, all_replied, no_fault, first_fault}
use Rattle.eve_agree.proofs.sent_replies.replies.Goals as goal

pub returns-in-Some-clause-least : goal.returns-in-Some-clause-least
returns-in-Some-clause-least c =
    let t = c.args.trace.now in
    let i = c.in-Some.i in
    let s : Sent = sent_in c.sent-sent.result.bytes.now in
    let first = c.in-Some.ensures.some in
    let at : slice_get (sent_at t) i ≡ Some (c.offset.result, s) = c.sent-sent.ensures.says
    ∙ ap (λ (n : ℕ). Some (n, s)) (sym c.offset.ensures) in
    first_fault t i c.offset.result s c.fault_at.result first.before at
    (first.not s (sent_there t i c.offset.result s at)) c.fault_at.ensures

pub returns-in-None-clause-replied : goal.returns-in-None-clause-replied
returns-in-None-clause-replied c =
    all_replied c.args.trace.now c.sent_count.result c.sent_count.ensures c.in-None.ensures.none

pub returns-in-None-clause-none : goal.returns-in-None-clause-none
returns-in-None-clause-none c =
    no_fault c.args.trace.now
    (all_replied c.args.trace.now c.sent_count.result c.sent_count.ensures c.in-None.ensures.none)
