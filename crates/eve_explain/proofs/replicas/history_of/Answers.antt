use Rattle.eve_explain.proofs.FirstFault.{no_structure}
use Rattle.eve_explain.proofs.replicas.history_of.Goals as goal

pub unreachable-requires : goal.unreachable-requires
unreachable-requires c =
    let found = rw c.in-Err-Found.field-0-is at c.in-Err-Found.ensures.least in
    no_structure c.bytes_spell_one_trace.ensures c.args.trace.now c.args.fault.now c.requires.first c.args.e
    c.requires.behind c.requires.there _ found.is
