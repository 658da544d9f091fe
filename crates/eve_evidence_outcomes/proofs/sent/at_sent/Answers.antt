use Rattle.std.proofs.Common.{◌≡◌, ℕ, List, length, sym, ap, subst, ◌∙◌, arith}
use Rattle.std.proofs.lemmas.Option.{same_Some}
use Rattle.eve_grammar.specs.Trace.{Sent}
use Rattle.eve_grammar.specs.Spelling.{sent_at}
use Rattle.eve_frames.specs.Views.{sent_in}
use Rattle.eve_history.specs.SectionHistory.{SectionHistory}
use Rattle.eve_history.proofs.RightSections.{as_many_told}
use Rattle.eve_agree.proofs.RepliesSent.{sent_there, is_possible, told_as}
use Rattle.eve_agree.specs.SentReplies.{IsReplied}
use Rattle.eve_evidence.proofs.Lists.{place_at, if_some, if_none_weaker}
use Rattle.eve_evidence_outcomes.specs.Sent.{TellsSentIn, TellsReply}
use Rattle.eve_evidence_outcomes.proofs.sent.at_sent.Goals as goal

pub bounds-histories-replica : goal.bounds-histories-replica
bounds-histories-replica c =
    let t = c.args.trace.now in
    let s : Sent = sent_in c.sent-sent.result.bytes.now in
    let own = (is_possible t c.args.i s c.recall_limits.ensures
    (sent_there t c.args.i c.sent-sent.result.offset s c.sent-sent.ensures.says)).replica in
    let many : length c.args.histories.now ≡ length t.sections =
    ap (λ (vs : List SectionHistory). length vs) c.requires.histories ∙ as_many_told t in
    let is : c.replica.result ≡ s.replica = c.replica.ensures in
    omega arith

pub wrong_with-requires-clause-history : goal.wrong_with-requires-clause-history
wrong_with-requires-clause-history c =
    let t = c.args.trace.now in
    let s : Sent = sent_in c.sent-sent.result.bytes.now in
    let own = (is_possible t c.args.i s c.recall_limits.ensures
    (sent_there t c.args.i c.sent-sent.result.offset s c.sent-sent.ensures.says)).replica in
    told_as t c.args.histories.now s.replica c.replica.result c.index-histories-replica.result c.requires.histories own
    c.replica.ensures c.index-histories-replica.is

pub wrong_with-requires-clause-one : goal.wrong_with-requires-clause-one
wrong_with-requires-clause-one c =
    let t = c.args.trace.now in
    let s : Sent = sent_in c.sent-sent.result.bytes.now in
    (is_possible t c.args.i s c.recall_limits.ensures
    (sent_there t c.args.i c.sent-sent.result.offset s c.sent-sent.ensures.says)).one

pub wrong_with-requires-clause-there : goal.wrong_with-requires-clause-there
wrong_with-requires-clause-there c =
    let t = c.args.trace.now in
    let s : Sent = sent_in c.sent-sent.result.bytes.now in
    (is_possible t c.args.i s c.recall_limits.ensures
    (sent_there t c.args.i c.sent-sent.result.offset s c.sent-sent.ensures.says)).there

pub returns-clause-told : goal.returns-clause-told
returns-clause-told c =
    let t = c.args.trace.now in
    let y : ℕ × Sent = (c.sent-sent.result.offset, sent_in c.sent-sent.result.bytes.now) in
    let here : y.0 ≡ c.args.place = omega (arith, c.if-offset-place.false, c.offset.ensures) in
    if_some c.wrong_with.result (TellsSentIn t y.1) (TellsReply t c.args.place)
    (λ x told. place_at (λ _ z. (z.0 ≡ c.args.place) × TellsSentIn t z.1 x) (sent_at t) c.args.i y
    c.sent-sent.ensures.says (here, told)) c.wrong_with.ensures.told

pub returns-clause-none : goal.returns-clause-none
returns-clause-none c =
    let t = c.args.trace.now in
    let y : ℕ × Sent = (c.sent-sent.result.offset, sent_in c.sent-sent.result.bytes.now) in
    if_none_weaker c.wrong_with.result (IsReplied t y.1) _
    (λ replied s got at. subst (λ (z : ℕ × Sent). IsReplied t z.1) (same_Some y s (sym c.sent-sent.ensures.says ∙ got))
    replied) c.wrong_with.ensures.none
