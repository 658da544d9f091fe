use Rattle.std.proofs.Common.{subst, arith}
use Rattle.eve_grammar.specs.Limits.{row_count}
use Rattle.eve_grammar.specs.Trace.{head_of}
use Rattle.eve_chains.specs.inner.Walked.{IsFirstOnRows}
use Rattle.eve_chains.proofs.JudgedRows.{each_row_sees, wrong_below}
use Rattle.eve_chains.proofs.judgement.chains.Goals as goal

pub returns-in-None-clause-sound : goal.returns-in-None-clause-sound
returns-in-None-clause-sound c =
    let t = c.args.section.trace.now in
    let e = c.args.section.history.now.replica in
    let limits = c.recall_limits.ensures in
    let right = c.recall_right.ensures.section t e c.requires.told in
    c.rows_are_judged_by_themselves.ensures.sound t e limits right c.requires.fit
    (each_row_sees t e limits (subst (IsFirstOnRows t e 0 (row_count (head_of t))) c.in-None.is c.requires.first))

pub returns-in-Some-clause-least : goal.returns-in-Some-clause-least
returns-in-Some-clause-least c =
    let t = c.args.section.trace.now in
    let e = c.args.section.history.now.replica in
    let limits = c.recall_limits.ensures in
    let right = c.recall_right.ensures.section t e c.requires.told in
    let law = c.rows_are_judged_by_themselves.ensures in
    let first = subst (IsFirstOnRows t e 0 (row_count (head_of t))) c.in-Some.is c.requires.first in
    record {
      is = law.stands t e first.is.row c.in-Some.fault limits right c.requires.fit first.is.wrong;
      least = λ g stands.
          let found = law.found t e g limits right c.requires.fit stands in
          first.least g (record {
            row = found.0;
            above = omega arith;
            below = wrong_below t e limits found.0 g found.1;
            wrong = found.1;
          });
    }
