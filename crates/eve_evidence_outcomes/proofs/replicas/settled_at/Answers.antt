use Rattle.std.proofs.Common.{◌<◌, List, length, refl, ap, arith}
use Rattle.std.proofs.lemmas.Option.{slice_get_read}
use Rattle.eve_chains.specs.CommittedValues.{Settling}
use Rattle.eve_evidence_outcomes.proofs.FirstReplicas.{settled_as, settlings_count}
use Rattle.eve_evidence_outcomes.proofs.replicas.settled_at.Goals as goal

pub bounds-settled-e : goal.bounds-settled-e
bounds-settled-e c =
    omega (
      arith,
      c.requires.there,
      settlings_count c.args.trace.now,
      ap (λ (ss : List Settling). length ss) c.requires.settled,
    )

pub returns : goal.returns
returns c =
    let t = c.args.trace.now in
    let ss = c.args.settled.now in
    let s = c.index-settled-e.result in
    let many = settlings_count t in
    let count = ap (λ (xs : List Settling). length xs) c.requires.settled in
    let here : c.args.e < length ss = omega (arith, c.requires.there, many, count) in
    settled_as t ss c.args.e s c.requires.settled c.requires.there
    (slice_get_read ss (length ss) c.args.e s refl here c.index-settled-e.is)
