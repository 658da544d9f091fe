use Rattle.std.proofs.Common.{List, [], ◌∷◌, ◌++◌, sym, ap, ◌∙◌}
use Rattle.eve_smallbank.specs.declared.request.Reply.{Reply}
use Rattle.eve_grammar.proofs.Lists.{take_one_more}
use Rattle.eve_frames.specs.Decoded.{attempt_decoded}
use Rattle.eve_evidence_outcomes.proofs.token.replies_of.Goals as goal

pub loop-i-preserved : goal.loop-i-preserved
loop-i-preserved c =
    c.in_ok-push.ensures.items ∙ ap (λ (rs : List Reply). rs ++ c.reply.result ∷ []) c.loop-i.invariant
    ∙ sym (take_one_more (attempt_decoded c.args.attempt.now).replies c.loop-i.i c.reply.result c.reply.ensures)
