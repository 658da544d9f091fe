use Rattle.std.proofs.Common.{◌<◌, List, length, refl, ap, arith}
use Rattle.std.proofs.lemmas.Option.{slice_get_read}
use Rattle.eve_history.specs.SectionHistory.{SectionHistory}
use Rattle.eve_history.proofs.RightSections.{as_many_told}
use Rattle.eve_evidence_outcomes.proofs.FirstReplicas.{history_as}
use Rattle.eve_evidence_outcomes.proofs.replicas.history_at.Goals as goal

pub bounds-histories-e : goal.bounds-histories-e
bounds-histories-e c =
    omega (
      arith,
      c.requires.there,
      as_many_told c.args.trace.now,
      ap (λ (hs : List SectionHistory). length hs) c.requires.histories,
    )

pub returns : goal.returns
returns c =
    let t = c.args.trace.now in
    let hs = c.args.histories.now in
    let h = c.index-histories-e.result in
    let many = as_many_told t in
    let count = ap (λ (xs : List SectionHistory). length xs) c.requires.histories in
    let here : c.args.e < length hs = omega (arith, c.requires.there, many, count) in
    (history_as t hs c.args.e h c.requires.histories
    (slice_get_read hs (length hs) c.args.e h refl here c.index-histories-e.is)).1
