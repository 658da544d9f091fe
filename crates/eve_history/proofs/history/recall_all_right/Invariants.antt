use Rattle.eve_history.proofs.RightSections.{AreRight}
use Rattle.eve_history.proofs.history.recall_all_right.Given as goal

abbrev pub invariant-loop-history : goal.invariant-loop-history
invariant-loop-history l = AreRight l.histories l.history-index
