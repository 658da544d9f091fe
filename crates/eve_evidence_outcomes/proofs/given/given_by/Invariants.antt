use Rattle.eve_evidence_outcomes.proofs.RepliesGiven.{NoneGave}
use Rattle.eve_evidence_outcomes.proofs.given.given_by.Given as goal

abbrev pub invariant-loop-i : goal.invariant-loop-i
invariant-loop-i l = NoneGave l.history l.seq l.index l.reply l.i
