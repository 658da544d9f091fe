use Rattle.std.proofs.Common.{◌≡◌, ◌≤◌, leb, length, Some, sym, ap, ◌∙◌, subst, arith}
use Rattle.std.proofs.lemmas.Bool.{leb-true, leb-false}
use Rattle.eve_grammar.specs.Trace.{ForCommit}
use Rattle.eve_votes.specs.Votes.{backers, IsDecided}
use Rattle.eve_votes.proofs.DecisionLaws.{quorum_limits}
use Rattle.eve_votes.proofs.LeadingTokens.{quorum_leads}
use Rattle.eve_votes.proofs.majority.decided_in.Goals as goal

pub returns-then-lead-eq0 : goal.returns-then-lead-eq0
returns-then-lead-eq0 c token =
    let t = c.args.trace.now in (
      λ decided. absurd (let is = quorum_leads (λ x. backers t c.args.seq c.args.view (ForCommit x))
          (length t.verifiers) t.head.quorum c.leader-lead.result c.leader-lead.ensures
          (quorum_limits t c.recall_limits.ensures).1 token decided in
          omega (arith, is.1, c.if-lead-eq0.true)),
      λ e. absurd cc,
    )

pub returns-then-is_quorum : goal.returns-then-is_quorum
returns-then-is_quorum c token =
    let t = c.args.trace.now in
    let told = c.is_quorum.ensures ∙ ap (leb t.head.quorum) c.backers_from-votes.ensures in (
      λ decided. ap Some (sym (quorum_leads (λ x. backers t c.args.seq c.args.view (ForCommit x))
          (length t.verifiers) t.head.quorum c.leader-lead.result c.leader-lead.ensures
          (quorum_limits t c.recall_limits.ensures).1 token decided).0),
      λ e. (let same : c.leader-lead.result.token.now ≡ token = cc in
          subst (IsDecided t c.args.seq c.args.view) same
          (leb-true t.head.quorum (backers t c.args.seq c.args.view (ForCommit c.leader-lead.result.token.now))
          (sym told ∙ c.if-is_quorum.true))),
    )

pub returns-else-is_quorum : goal.returns-else-is_quorum
returns-else-is_quorum c token =
    let t = c.args.trace.now in
    let told = c.is_quorum.ensures ∙ ap (leb t.head.quorum) c.backers_from-votes.ensures in
    let few = leb-false t.head.quorum (backers t c.args.seq c.args.view (ForCommit c.leader-lead.result.token.now))
    (sym told ∙ c.if-is_quorum.false) in (
      λ decided. absurd (let is = quorum_leads (λ x. backers t c.args.seq c.args.view (ForCommit x))
          (length t.verifiers) t.head.quorum c.leader-lead.result c.leader-lead.ensures
          (quorum_limits t c.recall_limits.ensures).1 token decided in
          let also : t.head.quorum ≤ backers t c.args.seq c.args.view (ForCommit c.leader-lead.result.token.now) =
          subst (IsDecided t c.args.seq c.args.view) is.0 decided in
          omega (arith, few, also)),
      λ e. absurd cc,
    )
