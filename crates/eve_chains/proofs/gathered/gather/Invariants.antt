use Rattle.std.proofs.Common.{◌<◌, All}
use Rattle.eve_chains.specs.inner.Gathered.{notes_between, HasGathered}
use Rattle.eve_chains.proofs.gathered.gather.Given as goal

abbrev pub invariant-loop-i : goal.invariant-loop-i
invariant-loop-i l = record {
  below : All (λ n. n.row < l.rows) l.notes.items;
  gathered : HasGathered l.rows (notes_between l.section.history.now l.fn.stretch.from l.i) l.parts.items l.notes.items;
}
