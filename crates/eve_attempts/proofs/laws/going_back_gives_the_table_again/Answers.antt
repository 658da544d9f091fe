use Rattle.eve_attempts.proofs.TableLaws.{chained_undone}
use Rattle.eve_attempts.proofs.laws.going_back_gives_the_table_again.Goals as goal

pub returns : goal.returns
returns c = chained_undone
