use Rattle.std.proofs.Common.{sym, subst, ◌∙◌, arith, rules}
use Rattle.std.proofs.lemmas.Bool.{false≢true}
use Rattle.std.proofs.lemmas.Option.{same_Some}
use Rattle.eve_grammar.specs.Trace.{Sent}
use Rattle.eve_frames.specs.Views.{sent_in}
use Rattle.eve_agree.specs.SentReplies.{IsReplied}
use Rattle.eve_agree.proofs.RepliesSent.{sent_there, sent_fits, none_yet, replied_more}
use Rattle.eve_agree.proofs.sent_replies.first_unreplied.Goals as goal

pub loop-i-init : goal.loop-i-init
loop-i-init c = record {
  replied = none_yet c.args.trace.now c.args.from c.args.from (omega arith);
  replies = c.new-replies.ensures c.args.trace.now;
}

pub have-requires-clause-fits : goal.have-requires-clause-fits
have-requires-clause-fits c =
    let t = c.args.trace.now in
    let s : Sent = sent_in c.sent-sent.result.bytes.now in
    sent_fits t c.loop-i.i s c.recall_limits.ensures
    (sent_there t c.loop-i.i c.sent-sent.result.offset s c.sent-sent.ensures.says)

pub returns-then-not-have-clause-some : goal.returns-then-not-have-clause-some
returns-then-not-have-clause-some c =
    let t = c.args.trace.now in
    let s : Sent = sent_in c.sent-sent.result.bytes.now in
    let here = sent_there t c.loop-i.i c.sent-sent.result.offset s c.sent-sent.ensures.says in
    record {
      there = search rules;
      before = c.loop-i.invariant.replied;
      not = λ x at replied. false≢true (sym c.if-not-have.true ∙ c.have.ensures.replied.1
          (subst (IsReplied t) (same_Some x s (sym at ∙ here)) replied));
    }

pub loop-i-preserved : goal.loop-i-preserved
loop-i-preserved c =
    let t = c.args.trace.now in
    let s : Sent = sent_in c.sent-sent.result.bytes.now in
    record {
      replied = replied_more t c.args.from c.loop-i.i s c.loop-i.invariant.replied
          (sent_there t c.loop-i.i c.sent-sent.result.offset s c.sent-sent.ensures.says)
          (c.have.ensures.replied.0 c.if-not-have.false);
      replies = c.have.ensures.new;
    }
