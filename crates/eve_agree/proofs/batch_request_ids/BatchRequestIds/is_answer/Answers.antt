use Rattle.std.proofs.Common.{◌≡◌, ℕ, List, drop, sym, ap, ◌∙◌}
use Rattle.std.proofs.lemmas.Bool.{false≢true}
use Rattle.eve_smallbank.specs.Spelling.{reply_text}
use Rattle.eve_grammar.specs.Trace.{Sent}
use Rattle.eve_frames.specs.Views.{sent_in}
use Rattle.eve_agree.proofs.batch_request_ids.BatchRequestIds.is_answer.Goals as goal

pub returns-then-not-asks-clause-answer : goal.returns-then-not-asks-clause-answer
returns-then-not-asks-clause-answer c = (
  λ wrong. absurd (false≢true wrong),
  λ answer. absurd (false≢true (sym c.if-not-asks.true ∙ c.asks.ensures.asks.1 answer.request_id)),
)

pub returns-clause-answer : goal.returns-clause-answer
returns-clause-answer c =
    let s : Sent = sent_in c.args.sent.now.bytes.now in
    let last : drop 22 c.bytes.result.now ≡ reply_text s.reply =
    ap (λ (bytes : List ℕ). drop 22 bytes) (c.bytes.ensures ∙ c.requires.text) in (
      λ same. record {
        request_id = c.asks.ensures.asks.0 c.if-not-asks.false;
        reply = c.is_reply.ensures.0 same ∙ last;
      },
      λ answer. c.is_reply.ensures.1 (answer.reply ∙ sym last),
    )
