use Rattle.std.proofs.Common.{refl}
use Rattle.eve_chains.specs.CommittedValues.{settling}
use Rattle.eve_agree.proofs.ByNumber.{committed_settled}
use Rattle.eve_evidence_outcomes.proofs.state.state_fault.Goals as goal

pub row_apart-requires-clause-its_number : goal.row_apart-requires-clause-its_number
row_apart-requires-clause-its_number c =
    let t = c.args.trace.now in
    let own = c.in-Some.ensures.some t c.requires.histories in
    let f = c.in-Some.first.replica in
    committed_settled t f c.args.n own.2.placed (settling t f) refl own.2.committed
