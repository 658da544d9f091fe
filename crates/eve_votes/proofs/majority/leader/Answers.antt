use Rattle.std.proofs.Common.{◌≡◌, ◌+◌, ◌<◌, length, refl, sym, ap, ◌∙◌, subst, arith}
use Rattle.std.specs.Option.{option_map}
use Rattle.eve_grammar.specs.Trace.{ForCommit}
use Rattle.eve_grammar.specs.Bodies.{borrowed_choice}
use Rattle.eve_grammar.specs.declared.head.Head.{Head}
use Rattle.eve_votes.specs.Votes.{same_choice}
use Rattle.eve_votes.specs.Ballots.{is_for}
use Rattle.eve_votes.specs.inner.Majority.{HasLead}
use Rattle.eve_votes.proofs.LeadingTokens.{votes_before, start_leads, still_leads, one_more_for, all_lead}
use Rattle.eve_votes.proofs.majority.leader.Goals as goal
use Rattle.eve_votes.proofs.majority.leader.Goals.{in-Some-ForCommit, in-Some-ForRollback, in-None}

pub loop-verifier-init : goal.loop-verifier-init
loop-verifier-init c = record {
  start = c.requires.start;
  leads = start_leads c.args.trace.now c.args.seq c.args.view _ refl;
}

pub counted-lead-requires : goal.counted-lead-requires
counted-lead-requires c = omega (arith, c.loop-verifier.invariant.leads.low, c.loop-verifier-test.true)

pub loop-verifier-preserved : goal.loop-verifier-preserved
loop-verifier-preserved c =
    let t = c.args.trace.now in
    let n = c.args.seq in
    let view = c.args.view in
    let v = c.loop-verifier.verifier in
    let leads = c.loop-verifier.invariant.leads in
    let many : c.head-verifier-end.result.verifiers ≡ length t.verifiers =
    ap (λ (h : Head). h.verifiers) c.head-verifier-end.ensures in
    let there : v < length t.verifiers = omega (arith, many, c.loop-verifier-test.true) in
    let only = c.next_choice.ensures.only in
    elim c.match-next_choice.branch [
      | in-Some-ForCommit w ↦ record {
        start = c.next_choice.ensures.start;
        leads = subst (HasLead (votes_before t n view (v + 1)) (v + 1)) (sym w.lead-is)
            (w.counted-lead.ensures (votes_before t n view v) (votes_before t n view (v + 1)) v leads
            (one_more_for t n view v w.in-Some-ForCommit.token.now there
            (λ other. only (ForCommit other) ∙ ap (λ o. is_for (ForCommit other) (option_map borrowed_choice o))
            w.in-Some-ForCommit.is ∙ ap (λ x. same_choice (borrowed_choice x) (ForCommit other))
            w.in-Some-ForCommit.field-0-is)));
      }
      | in-Some-ForRollback w ↦ record {
        start = c.next_choice.ensures.start;
        leads = subst (HasLead (votes_before t n view (v + 1)) (v + 1)) (sym w.lead-is)
            (still_leads t n view v c.loop-verifier.lead there
            (λ token. only (ForCommit token) ∙ ap (λ o. is_for (ForCommit token) (option_map borrowed_choice o))
            w.in-Some-ForRollback.is ∙ ap (λ x. same_choice (borrowed_choice x) (ForCommit token))
            w.in-Some-ForRollback.field-0-is) leads);
      }
      | in-None w ↦ record {
        start = c.next_choice.ensures.start;
        leads = subst (HasLead (votes_before t n view (v + 1)) (v + 1)) (sym w.lead-is)
            (still_leads t n view v c.loop-verifier.lead there
            (λ token. only (ForCommit token) ∙ ap (λ o. is_for (ForCommit token) (option_map borrowed_choice o))
            w.in-None.is) leads);
      }
    ]

pub returns : goal.returns
returns c =
    let t = c.args.trace.now in
    let many : c.head-verifier-end.result.verifiers ≡ length t.verifiers =
    ap (λ (h : Head). h.verifiers) c.head-verifier-end.ensures in
    all_lead t c.args.seq c.args.view c.loop-verifier.verifier c.loop-verifier.lead
    (omega (arith, many, c.loop-verifier-test.false, c.loop-verifier.auto.verifier-end))
    c.loop-verifier.invariant.leads
