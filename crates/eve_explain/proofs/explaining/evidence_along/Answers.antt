use Rattle.eve_explain.proofs.FirstFault.{along_first}
use Rattle.eve_explain.proofs.explaining.evidence_along.Goals as goal

pub section_evidence-requires-clause-there : goal.section_evidence-requires-clause-there
section_evidence-requires-clause-there c =
    let l = c.faults_stand_along_the_section.ensures in
    (along_first c.bytes_spell_one_trace.ensures c.args.trace.now c.args.fault.now c.requires.first
    (record { structure = l.structure; records = l.records; chains = l.chains }) c.requires.along c.in-Some.e
    c.in-Some.is).there

pub section_evidence-requires-clause-stands : goal.section_evidence-requires-clause-stands
section_evidence-requires-clause-stands c =
    let l = c.faults_stand_along_the_section.ensures in
    (along_first c.bytes_spell_one_trace.ensures c.args.trace.now c.args.fault.now c.requires.first
    (record { structure = l.structure; records = l.records; chains = l.chains }) c.requires.along c.in-Some.e
    c.in-Some.is).stands
