use Rattle.std.proofs.Common.{length, arith}
use Rattle.eve_smallbank.specs.Chain.{Sees}
use Rattle.eve_grammar.specs.Limits.{is_entry}
use Rattle.eve_grammar.proofs.GroupOrder.{all_at}
use Rattle.eve_grammar.proofs.Lists.{drop_here}
use Rattle.eve_attempts.specs.Ledgers.{table_of_rows}
use Rattle.eve_attempts.proofs.Lists.{goes_start, goes_more, goes_on, goes_stop, goes_end, fails_by}
use Rattle.eve_attempts.proofs.rows.Rows.are_seen.Goals.{else-place-count-via-then-place-count+else-not-is_seen}
use Rattle.eve_attempts.proofs.rows.Rows.are_seen.Goals.{else-place-count-via-else-place-count}
use Rattle.eve_attempts.proofs.rows.Rows.are_seen.Goals as goal

pub is_seen-requires : goal.is_seen-requires
is_seen-requires c = all_at (is_entry (length c.args.self.now.rows.balances)) c.args.entries.now c.loop-place.place
    c.at.result c.requires c.at.ensures

pub loop-place-init : goal.loop-place-init
loop-place-init c = goes_start (Sees (table_of_rows c.args.self.now.rows)) c.args.entries.now

pub returns-then-not-is_seen : goal.returns-then-not-is_seen
returns-then-not-is_seen c =
    goes_stop (Sees (table_of_rows c.args.self.now.rows)) c.args.entries.now c.loop-place.place c.at.result
    c.loop-place.invariant
    (drop_here c.args.entries.now c.loop-place.place c.at.result c.at.ensures)
    (fails_by c.is_seen.result c.is_seen.ensures c.if-not-is_seen.true)

pub loop-place-preserved : goal.loop-place-preserved
loop-place-preserved c =
    let entries = c.args.entries.now in
    let place = c.loop-place.place in
    elim c.else-place-count.branch [
      | else-place-count-via-then-place-count+else-not-is_seen w ↦
          goes_more (Sees (table_of_rows c.args.self.now.rows)) entries place w.at.result c.loop-place.invariant
          (drop_here entries place w.at.result w.at.ensures) (w.is_seen.ensures.0 w.if-not-is_seen.false)
      | else-place-count-via-else-place-count w ↦
          goes_on (Sees (table_of_rows c.args.self.now.rows)) entries place c.loop-place.invariant
          (omega (arith, c.len-count.ensures.len, w.if-place-count.false))
    ]

pub returns : goal.returns
returns c = goes_end (Sees (table_of_rows c.args.self.now.rows)) c.args.entries.now c.loop-place.place
    c.loop-place.invariant (omega arith)
