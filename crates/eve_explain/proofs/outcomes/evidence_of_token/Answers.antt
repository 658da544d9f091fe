use Rattle.std.proofs.Common.{◌≡◌, ℕ, inr, sym, ap, subst, arith}
use Rattle.eve_views.specs.Code.{phase_of}
use Rattle.eve_views.specs.declared.fault.Code.{Code}
use Rattle.eve_views.specs.declared.fault.Code.TheVariants as code
use Rattle.eve_chains.specs.Faults.{HasNoFault}
use Rattle.eve_agree.specs.DueTokens.{StandsInTokens}
use Rattle.eve_explain.proofs.FirstFault.{token_first, no_records_or_chains}
use Rattle.eve_explain.proofs.outcomes.evidence_of_token.Goals as goal

pub history_of-requires-clause-there : goal.history_of-requires-clause-there
history_of-requires-clause-there g c =
    (token_first c.bytes_spell_one_trace.ensures c.args.trace.now c.args.fault.now c.requires.first
    (ap phase_of c.requires.token) c.in-Some.e c.in-Some.is).there

pub settled_of-requires-clause-none : goal.settled_of-requires-clause-none
settled_of-requires-clause-none g c κs within =
    let t = c.args.trace.now in
    let f = c.args.fault.now in
    let one = c.bytes_spell_one_trace.ensures in
    let seven : phase_of f.code ≡ 7 = ap phase_of c.requires.token in
    subst (HasNoFault t) (sym c.in_ok-history.ensures.replica)
    (no_records_or_chains one t f c.requires.first c.in-Some.e (inr (omega (arith, seven), c.in-Some.is))
    (token_first one t f c.requires.first seven c.in-Some.e c.in-Some.is).there)

pub token_evidence-requires-clause-stands : goal.token_evidence-requires-clause-stands
token_evidence-requires-clause-stands g c =
    let t = c.args.trace.now in
    let f = c.args.fault.now in
    let is = token_first c.bytes_spell_one_trace.ensures t f c.requires.first (ap phase_of c.requires.token)
    c.in-Some.e c.in-Some.is in
    subst (λ (n : ℕ). StandsInTokens code.Token t n f.offset) (sym c.in_ok-history.ensures.replica)
    (subst (λ (k : Code). StandsInTokens k t c.in-Some.e f.offset) c.requires.token is.stands)
