use Rattle.std.proofs.Common.{◌∙◌, arith}
use Rattle.eve_agree.specs.Marks.{marking_of}
use Rattle.eve_agree.proofs.NotedAttempts.{noted_more}
use Rattle.eve_agree.proofs.restores.note_attempts.Goals as goal
use Rattle.eve_grammar.proofs.Lists.{item_within}

pub loop-i-preserved : goal.loop-i-preserved
loop-i-preserved c =
    let found = item_within c.args.discarded.history.now.attempts c.loop-i.i (omega arith) in
    record {
      as_many = c.note_attempt.ensures.as_many ∙ c.loop-i.invariant.as_many;
      marks = noted_more (marking_of c.args.marks.now) (marking_of c.loop-i.marks) (marking_of c.note_attempt.new.marks)
          c.args.discarded.history.now.attempts c.args.discarded.first c.loop-i.i found.0 (omega arith) found.1
          c.loop-i.invariant.marks (c.note_attempt.ensures.marks found.0 found.1);
    }
