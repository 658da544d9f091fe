use Rattle.std.proofs.Common.{inl, inr}
use Rattle.eve_evidence_outcomes.proofs.replicas.settled_of.Goals as goal

pub unreachable-requires : goal.unreachable-requires
unreachable-requires g c =
    let found = rw c.in-Err-Found.field-0-is at c.in-Err-Found.ensures.least in
    elim found [
      | inl records ↦ c.requires.none.records _ records.is
      | inr chains ↦ c.requires.none.chains _ chains.1.is
    ]
