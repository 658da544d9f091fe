use Rattle.std.proofs.Common.{◌≡◌, ℕ, ◌<◌, List, length, refl, sym, subst, ap, ◌∙◌, arith}
use Rattle.eve_grammar.specs.Trace.{Sent}
use Rattle.eve_frames.specs.Views.{sent_in}
use Rattle.eve_history.specs.SectionHistory.{SectionHistory}
use Rattle.eve_history.proofs.RightSections.{as_many_told}
use Rattle.eve_agree.proofs.RepliesSent.{possible_of, told_as}
use Rattle.eve_agree.proofs.batch_replies.BatchReplies.turn_to.Goals as goal

pub bounds-histories-replica : goal.bounds-histories-replica
bounds-histories-replica c =
    let t = c.args.trace.now in
    let s : Sent = sent_in c.args.sent.now.bytes.now in
    let own = (possible_of t s c.requires.fits).replica in
    let many : length c.args.histories.now ≡ length t.sections =
    ap (λ (vs : List SectionHistory). length vs) c.requires.histories ∙ as_many_told t in
    let is : c.replica-replica.result ≡ s.replica = c.replica-replica.ensures in
    omega arith

pub look_up-requires-clause-history : goal.look_up-requires-clause-history
look_up-requires-clause-history c =
    let t = c.args.trace.now in
    let s : Sent = sent_in c.args.sent.now.bytes.now in
    let e = c.replica-replica.result in
    let own : e < length t.sections = subst (λ (n : ℕ). n < length t.sections) (sym c.replica-replica.ensures)
    (possible_of t s c.requires.fits).replica in
    told_as t c.args.histories.now e e c.index-histories-replica.result c.requires.histories own refl
    c.index-histories-replica.is
