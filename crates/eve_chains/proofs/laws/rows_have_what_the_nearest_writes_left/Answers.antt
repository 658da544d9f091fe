use Rattle.eve_chains.proofs.NearestWrites.{rows_visible, rows_visible_behind, seen_visible}
use Rattle.eve_chains.proofs.laws.rows_have_what_the_nearest_writes_left.Goals as goal

pub returns : goal.returns
returns c = record { rows = rows_visible; transferred = rows_visible_behind; seen = seen_visible }
