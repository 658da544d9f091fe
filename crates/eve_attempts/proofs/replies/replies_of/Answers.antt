use Rattle.std.proofs.Common.{◌≡◌, ℕ, ◌+◌, refl, IsTrue, List, length, set, drop, replicate, sym, subst, ap, ap₂, ◌∙◌}
use Rattle.std.specs.List.{list_all}
use Rattle.eve_smallbank.specs.declared.request.Reply.{Reply}
use Rattle.eve_smallbank.specs.declared.request.Reply.TheVariants.{Done}
use Rattle.eve_grammar.specs.Limits.{is_reply}
use Rattle.eve_attempts.specs.inner.RecordKeys.{replies_placed}
use Rattle.eve_attempts.proofs.Lists.{drop_read, list_all-set, list_all-replicate}
use Rattle.eve_attempts.proofs.NotedRecords.{filled}
use Rattle.eve_attempts.proofs.replies.replies_of.Goals as goal

pub loop-record-init : goal.loop-record-init
loop-record-init c =
    let is : c.resize.new.self.items ≡ replicate (length c.args.records.now) Done =
    filled c.new-replies.result.items c.resize.new.self.items (length c.args.records.now) _ c.in_ok-resize.ensures.items
    c.new-replies.ensures.items c.new-replies.ensures.len in
    record {
      placed = ap (λ (rs : List Reply). replies_placed rs c.args.records.now) is;
      len = c.in_ok-resize.ensures.len;
      limits = subst (λ (rs : List Reply). IsTrue (list_all is_reply rs)) (sym is)
          (list_all-replicate is_reply (length c.args.records.now) Done refl);
    }

pub loop-record-preserved : goal.loop-record-preserved
loop-record-preserved c =
    let rs = c.args.records.now in
    let r = c.record-item.result in
    record {
      placed = ap₂ (λ (i : ℕ) (p : Reply). replies_placed (set c.loop-record.replies.items i p)
          (drop (c.loop-record.record-index + 1) rs)) c.index.ensures c.reply-in-loop-record.ensures
          ∙ ap (replies_placed c.loop-record.replies.items)
          (sym (drop_read rs c.loop-record.record-index r c.loop-record-test.true c.record-item.is))
          ∙ c.loop-record.invariant.placed;
      len = c.loop-record.invariant.len;
      limits = list_all-set is_reply c.loop-record.replies.items c.index.result c.reply-in-loop-record.result
          c.loop-record.invariant.limits
          (ap is_reply (c.reply-in-loop-record.ensures ∙ sym c.reply.ensures) ∙ c.reply_fits.ensures);
    }
