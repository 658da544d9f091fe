use Rattle.eve_history.proofs.FateLaws.{committed_are_picked, discarded_are_picked}
use Rattle.eve_history.proofs.laws.fates_are_as_the_section_ends.Goals as goal

pub returns : goal.returns
returns c = record { committed = committed_are_picked; discarded = discarded_are_picked }
