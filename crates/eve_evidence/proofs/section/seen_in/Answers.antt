use Rattle.std.proofs.Common.{◌≡◌, sym, subst, ◌∙◌}
use Rattle.eve_evidence.specs.declared.evidence.ToldRequest.{ToldRequest}
use Rattle.eve_evidence.specs.declared.evidence.WrongEntry.{WrongEntry}
use Rattle.eve_evidence.specs.Seen.{look, IsSeenFrom}
use Rattle.eve_evidence.proofs.section.seen_in.Goals as goal

pub returns-in-Chain : goal.returns-in-Chain
returns-in-Chain c = λ prefix behind a split course decoded xs attempt request at wrong before is.
    let t = c.args.site.trace.now in
    let o = c.args.site.attempt.now.offset in
    let same_request : c.in-Chain.request ≡ request = cc (sym c.in-Chain.is ∙ is) in
    let same_wrong : c.in-Chain.wrong ≡ wrong = cc (sym c.in-Chain.is ∙ is) in
    subst (λ (r : ToldRequest). IsSeenFrom t (look prefix behind o a r.index wrong.row.row wrong.saw)
    c.seen_from-seen.result) same_request
    (subst (λ (w : WrongEntry). IsSeenFrom t (look prefix behind o a c.in-Chain.request.index w.row.row w.saw)
    c.seen_from-seen.result) same_wrong (c.seen_from-seen.ensures prefix behind a split course decoded xs))

pub returns-in_default : goal.returns-in_default
returns-in_default c = λ prefix behind a split course decoded xs attempt request at wrong before is.
    absurd (c.in_default.not-Chain attempt request at wrong before is)
