use Rattle.std.proofs.Common.{length, subst}
use Rattle.eve_agree.specs.DueTokens.{IsFirstWrong}
use Rattle.eve_agree.proofs.TokensInOrder.{no_token_fault}
use Rattle.eve_agree.proofs.JoinedStretches.{all_due, first_is_least}
use Rattle.eve_agree.proofs.due_tokens.answer.Goals as goal

pub returns-in-Some-clause-least : goal.returns-in-Some-clause-least
returns-in-Some-clause-least c =
    let t = c.args.trace.now in
    let e = c.args.history.now.replica in
    let last = length c.args.settled.now.numbers in
    rw c.replica.ensures (first_is_least t e last c.in-Some.offset
    (subst (IsFirstWrong t e 0 last) c.in-Some.is c.requires.wrong))

pub returns-in-None-clause-due : goal.returns-in-None-clause-due
returns-in-None-clause-due c =
    let t = c.args.trace.now in
    let e = c.args.history.now.replica in
    let last = length c.args.settled.now.numbers in
    all_due t e c.args.settled.now c.requires.section.settled
    (subst (IsFirstWrong t e 0 last) c.in-None.is c.requires.wrong)

pub returns-in-None-clause-none : goal.returns-in-None-clause-none
returns-in-None-clause-none c =
    no_token_fault c.args.trace.now c.args.history.now.replica (returns-in-None-clause-due c)
