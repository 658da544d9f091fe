use Rattle.std.proofs.Common.{inl, arith}
use Rattle.eve_explain.proofs.FirstFault.{majority_first, no_structure}
use Rattle.eve_explain.proofs.Phases.{majority_code_phase}
use Rattle.eve_explain.proofs.outcomes.evidence_of_majority.Goals as goal

pub majority_evidence-requires-clause-there : goal.majority_evidence-requires-clause-there
majority_evidence-requires-clause-there c =
    (majority_first c.bytes_spell_one_trace.ensures c.args.trace.now c.args.fault.now c.requires.first
    c.requires.majority c.in-Some.e c.in-Some.is).there

pub majority_evidence-requires-clause-right : goal.majority_evidence-requires-clause-right
majority_evidence-requires-clause-right c =
    let t = c.args.trace.now in
    let f = c.args.fault.now in
    let one = c.bytes_spell_one_trace.ensures in
    let nine = majority_code_phase f.code c.requires.majority in
    c.right_sections_have_no_fault.ensures.right t c.in-Some.e
    (no_structure one t f c.requires.first c.in-Some.e (inl (omega (arith, nine)))
    (majority_first one t f c.requires.first c.requires.majority c.in-Some.e c.in-Some.is).there)

pub majority_evidence-requires-clause-stands : goal.majority_evidence-requires-clause-stands
majority_evidence-requires-clause-stands c =
    (majority_first c.bytes_spell_one_trace.ensures c.args.trace.now c.args.fault.now c.requires.first
    c.requires.majority c.in-Some.e c.in-Some.is).stands
