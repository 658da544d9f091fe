use Rattle.std.proofs.Common.{rules}
use Rattle.std.proofs.lemmas.Result.{IfOk-weaker, IfErr-weaker}
use Rattle.eve_views.specs.Form.{IfFound, IsLeast, HasNone, IsFaultSomewhere, IsFaultOutside}
use Rattle.eve_audit.specs.Verdict.{IsCommonFault}
use Rattle.eve_audit.specs.Reports.{IsFirstOf}
use Rattle.eve_audit.proofs.FirstFaults.{found_weaker, vote_first, majority_first, outcome_first, reply_first}
use Rattle.eve_audit.proofs.FirstFaults.{none_common}
use Rattle.eve_agree.specs.Agreement.{StandsInAgreement}
use Rattle.eve_agree.specs.Majority.{StandsInMajorities}
use Rattle.eve_votes.specs.Faults.{StandsInVotes}
use Rattle.eve_agree.specs.SentReplies.{StandsInReplies}
use Rattle.eve_audit.proofs.auditing.judge_together.Goals as goal

pub returns-in_err-tally-clause-first : goal.returns-in_err-tally-clause-first
returns-in_err-tally-clause-first g c =
    let t = c.args.trace.now in
    let found = c.in_err-tally in
    let first = found_weaker (IsLeast (IsFaultOutside StandsInVotes t)) (IsFirstOf (IsCommonFault t)) found.field-0.0
    (vote_first t) found.ensures.least in
    search rules

pub returns-in_err-majorities-clause-first : goal.returns-in_err-majorities-clause-first
returns-in_err-majorities-clause-first g c =
    let t = c.args.trace.now in
    let found = c.in_err-majorities in
    let first = found_weaker (IsLeast (IsFaultSomewhere StandsInMajorities t)) (IsFirstOf (IsCommonFault t))
    found.field-0.0 (λ f least. majority_first t f c.in_ok-tally.ensures.none least) found.ensures.least in
    search rules

pub returns-in_err-equal_balances-clause-first : goal.returns-in_err-equal_balances-clause-first
returns-in_err-equal_balances-clause-first g c =
    let t = c.args.trace.now in
    let found = c.in_err-equal_balances in
    let first = found_weaker (IsLeast (IsFaultSomewhere StandsInAgreement t)) (IsFirstOf (IsCommonFault t))
    found.field-0.0
    (λ f least. outcome_first t f c.in_ok-tally.ensures.none c.in_ok-majorities.ensures.none least)
    found.ensures.least in
    search rules

pub returns-clause-none : goal.returns-clause-none
returns-clause-none g c =
    let t = c.args.trace.now in
    IfOk-weaker c.replies_side_by_side.result (λ _. HasNone (IsFaultOutside StandsInReplies t))
    (λ _. HasNone (IsCommonFault t))
    (λ _ none. none_common t c.in_ok-tally.ensures.none c.in_ok-majorities.ensures.none
    c.in_ok-equal_balances.ensures.none none) c.replies_side_by_side.ensures.none

pub returns-clause-first : goal.returns-clause-first
returns-clause-first g c =
    let t = c.args.trace.now in
    IfErr-weaker c.replies_side_by_side.result (λ why. IfFound why (IsLeast (IsFaultOutside StandsInReplies t)))
    (λ why. IfFound why (IsFirstOf (IsCommonFault t)))
    (λ why found. found_weaker (IsLeast (IsFaultOutside StandsInReplies t)) (IsFirstOf (IsCommonFault t)) why
    (λ f least. reply_first t f c.in_ok-tally.ensures.none c.in_ok-majorities.ensures.none
    c.in_ok-equal_balances.ensures.none least) found) c.replies_side_by_side.ensures.least
