use Rattle.std.proofs.Common.{List, sym, ap, subst, ◌∙◌}
use Rattle.std.specs.Prelude.{IsTrue}
use Rattle.std.specs.List.{flat_map, list_all}
use Rattle.eve_smallbank.specs.declared.request.Reply.{Reply}
use Rattle.eve_smallbank.specs.Spelling.{reply_text}
use Rattle.eve_grammar.specs.Limits.{is_reply}
use Rattle.eve_frames.specs.Views.{attempt_in}
use Rattle.eve_agree.proofs.SpelledReplies.{all_same}
use Rattle.eve_agree.proofs.agreement.have_same_replies.Goals as goal

pub returns : goal.returns
returns c =
    let own = (attempt_in c.args.attempt.now.bytes.now).replies in
    let its = (attempt_in c.args.other.now.bytes.now).replies in
    let own_fit : IsTrue (list_all is_reply own) =
    subst (λ bytes. IsTrue (list_all is_reply (attempt_in bytes).replies)) c.bytes.ensures c.recall_replies.ensures in
    let its_fit : IsTrue (list_all is_reply its) =
    subst (λ bytes. IsTrue (list_all is_reply (attempt_in bytes).replies)) c.bytes-2.ensures
    c.recall_replies-2.ensures in (
      λ same. all_same own its own_fit its_fit
          (sym c.reply_bytes.ensures ∙ c.is_same_text.ensures.0 same ∙ c.reply_bytes-2.ensures),
      λ same. c.is_same_text.ensures.1
          (c.reply_bytes.ensures ∙ ap (λ (rs : List Reply). flat_map reply_text rs) same ∙ sym c.reply_bytes-2.ensures),
    )
