use Rattle.std.proofs.Common.{rules, ◌≡◌, ℕ, Some, true, sym, ap, subst, ◌∙◌}
use Rattle.std.proofs.lemmas.Result.{IfOk-weaker}
use Rattle.eve_views.specs.Code.{phase_of}
use Rattle.eve_views.specs.declared.fault.Code.{Code}
use Rattle.eve_votes.specs.Faults.{StandsInVotes}
use Rattle.eve_evidence.specs.Section.{TellsAlong}
use Rattle.eve_evidence_form.specs.Orders.{TellsTwice}
use Rattle.eve_explain.specs.Explained.{IsEvidence, is_of_orders}
use Rattle.eve_explain.proofs.FirstFault.{orders_first, votes_first}
use Rattle.eve_explain.proofs.CodeKinds.{told_along, told_majority, told_twice}
use Rattle.eve_explain.proofs.explaining.evidence_in.Goals as goal

pub trace_evidence-requires : goal.trace_evidence-requires
trace_evidence-requires g c =
    let told : is_of_orders c.args.fault.now.code ≡ true = search rules in
    orders_first c.bytes_spell_one_trace.ensures c.args.trace.now c.args.fault.now c.requires.first told

pub voted_again-requires : goal.voted_again-requires
voted_again-requires g c =
    let t = c.args.trace.now in
    let f = c.args.fault.now in
    subst (λ (k : Code). StandsInVotes k t f.offset) c.in-TwoVotes.is
    (votes_first c.bytes_spell_one_trace.ensures t f c.requires.first (ap phase_of c.in-TwoVotes.is))

pub decisions_evidence-requires : goal.decisions_evidence-requires
decisions_evidence-requires g c =
    let t = c.args.trace.now in
    let f = c.args.fault.now in
    record {
      stands = subst (λ (k : Code). StandsInVotes k t f.offset) c.in-TwoDecisions.is
          (votes_first c.bytes_spell_one_trace.ensures t f c.requires.first (ap phase_of c.in-TwoDecisions.is));
    }

pub returns-then-is_told_along : goal.returns-then-is_told_along
returns-then-is_told_along g c =
    let t = c.args.trace.now in
    let f = c.args.fault.now in
    IfOk-weaker c.evidence_along.result
    (λ x. (e : ℕ) → f.replica ≡ Some e → TellsAlong f.code t e f.offset x) (IsEvidence t f)
    (λ x tells. told_along t f x (sym c.is_told_along.ensures ∙ c.if-is_told_along.true) tells)
    c.evidence_along.ensures

pub returns-then-is_of_majority : goal.returns-then-is_of_majority
returns-then-is_of_majority g c =
    told_majority c.args.trace.now c.args.fault.now c.evidence_of_majority.result
    (sym c.is_of_majority.ensures ∙ c.if-is_of_majority.true) c.evidence_of_majority.ensures

pub returns-then-is_of_orders : goal.returns-then-is_of_orders
returns-then-is_of_orders g c =
    let t = c.args.trace.now in
    let f = c.args.fault.now in
    IfOk-weaker c.trace_evidence.result (TellsTwice t f) (IsEvidence t f)
    (λ x tells. told_twice t f x (sym c.is_of_orders.ensures ∙ c.if-is_of_orders.true) tells)
    c.trace_evidence.ensures.told
