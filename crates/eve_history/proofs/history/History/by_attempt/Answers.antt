use Rattle.std.proofs.Common.{subst, sym}
use Rattle.eve_history.specs.SectionHistory.{IsToldOf, told_reached_at}
use Rattle.eve_history.proofs.ToldReached.{told_by_attempt, told_by_transfer, told_skipped}
use Rattle.eve_history.proofs.history.History.by_attempt.Goals as goal

pub returns-in-Attempt : goal.returns-in-Attempt
returns-in-Attempt c =
    let h = c.args.self.now in
    let told_reached = told_reached_at h c.args.n in
    sym (told_by_attempt h _ told_reached
    (subst (λ l. IsToldOf h l told_reached) c.in-Attempt.is c.how_reached.ensures))

pub returns-in-Transfer : goal.returns-in-Transfer
returns-in-Transfer c =
    let h = c.args.self.now in
    let told_reached = told_reached_at h c.args.n in
    sym (told_by_transfer h _ told_reached
    (subst (λ l. IsToldOf h l told_reached) c.in-Transfer.is c.how_reached.ensures))

pub returns-in-Skipped : goal.returns-in-Skipped
returns-in-Skipped c =
    let h = c.args.self.now in
    let told_reached = told_reached_at h c.args.n in
    sym (told_skipped h told_reached (subst (λ l. IsToldOf h l told_reached) c.in-Skipped.is c.how_reached.ensures))
