use Rattle.std.proofs.Common.{◌≡◌, ℕ, inr, sym, ap, subst, arith}
use Rattle.eve_views.specs.Code.{phase_of}
use Rattle.eve_views.specs.declared.fault.Code.{Code}
use Rattle.eve_views.specs.declared.fault.Code.TheVariants as code
use Rattle.eve_chains.specs.Faults.{HasNoFault}
use Rattle.eve_agree.specs.Restores.{StandsInRestores}
use Rattle.eve_explain.proofs.FirstFault.{restore_first, no_records_or_chains}
use Rattle.eve_explain.proofs.outcomes.evidence_of_restore.Goals as goal

pub history_of-requires-clause-there : goal.history_of-requires-clause-there
history_of-requires-clause-there c =
    (restore_first c.bytes_spell_one_trace.ensures c.args.trace.now c.args.fault.now c.requires.first
    (ap phase_of c.requires.restore) c.in-Some.e c.in-Some.is).there

pub restore_evidence-requires-clause-none : goal.restore_evidence-requires-clause-none
restore_evidence-requires-clause-none c =
    let t = c.args.trace.now in
    let f = c.args.fault.now in
    let one = c.bytes_spell_one_trace.ensures in
    let six : phase_of f.code ≡ 6 = ap phase_of c.requires.restore in
    subst (HasNoFault t) (sym c.in_ok-history.ensures.replica)
    (no_records_or_chains one t f c.requires.first c.in-Some.e (inr (omega (arith, six), c.in-Some.is))
    (restore_first one t f c.requires.first six c.in-Some.e c.in-Some.is).there)

pub restore_evidence-requires-clause-stands : goal.restore_evidence-requires-clause-stands
restore_evidence-requires-clause-stands c =
    let t = c.args.trace.now in
    let f = c.args.fault.now in
    let is = restore_first c.bytes_spell_one_trace.ensures t f c.requires.first (ap phase_of c.requires.restore)
    c.in-Some.e c.in-Some.is in
    subst (λ (n : ℕ). StandsInRestores code.Restore t n f.offset) (sym c.in_ok-history.ensures.replica)
    (subst (λ (k : Code). StandsInRestores k t c.in-Some.e f.offset) c.requires.restore is.stands)
