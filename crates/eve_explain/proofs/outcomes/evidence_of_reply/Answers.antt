use Rattle.std.proofs.Common.{◌≡◌, ap, subst, arith}
use Rattle.eve_views.specs.Code.{phase_of}
use Rattle.eve_views.specs.declared.fault.Code.{Code}
use Rattle.eve_agree.specs.SentReplies.{StandsInReplies}
use Rattle.eve_explain.proofs.FirstFault.{reply_first}
use Rattle.eve_explain.proofs.outcomes.evidence_of_reply.Goals as goal

pub histories_of-requires-clause-together : goal.histories_of-requires-clause-together
histories_of-requires-clause-together c =
    let eleven : phase_of c.args.fault.now.code ≡ 11 = ap phase_of c.requires.reply in omega (arith, eleven)

pub reply_evidence-requires-clause-stands : goal.reply_evidence-requires-clause-stands
reply_evidence-requires-clause-stands c =
    let t = c.args.trace.now in
    let f = c.args.fault.now in
    subst (λ (k : Code). StandsInReplies k t f.offset) c.requires.reply
    (reply_first c.bytes_spell_one_trace.ensures t f c.requires.first (ap phase_of c.requires.reply))
