use Rattle.std.proofs.Common.{◌≡◌, ◌-◌, ◌≤◌, length, slice_get, Some, arith}
use Rattle.eve_history.specs.KeptSections.{kept_section}
use Rattle.eve_history.proofs.Lookups.{get_is}
use Rattle.eve_history.proofs.ToldReached.{how_reached_told, ways_reached_told}
use Rattle.eve_history.proofs.history.History.how_reached.Goals as goal

pub returns : goal.returns
returns c =
    let k = kept_section c.notes.result.now in
    let n = c.args.n in
    let h = c.args.self.now in
    let l = c.index.result.now in
    let one : 1 ≤ n = c.requires.one in
    let many = ways_reached_told h.replica k h c.notes.ensures.tells in
    let there : n ≤ length h.ways_reached = c.requires.there in
    let at : slice_get k.ways_reached (n - 1) ≡ Some l =
    get_is k.ways_reached (n - 1) l (omega (arith, many)) c.index.ensures in
    how_reached_told h.replica n k h l c.notes.ensures.whole.kept c.notes.ensures.tells at
