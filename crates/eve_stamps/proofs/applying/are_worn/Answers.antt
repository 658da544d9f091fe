use Rattle.std.proofs.Common.{sym, ◌∙◌, arith}
use Rattle.eve_stamps.proofs.Refusals.{worn_at}
use Rattle.eve_stamps.proofs.applying.are_worn.Goals as goal

pub returns-then-at-ge-MOST_VERSIONS : goal.returns-then-at-ge-MOST_VERSIONS
returns-then-at-ge-MOST_VERSIONS c now so =
    sym (worn_at now c.args.rows.now c.args.seen.now c.loop-place.place c.at.result c.at-then-is_write.result
    c.at.ensures c.at-then-is_write.ensures so
    (sym c.is_write.ensures ∙ c.if-is_write.true) (omega arith))
