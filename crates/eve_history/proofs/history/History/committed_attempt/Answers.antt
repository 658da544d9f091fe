use Rattle.std.proofs.Common.{sym, subst, ◌∙◌}
use Rattle.std.proofs.lemmas.Bool.{false≢true}
use Rattle.eve_history.specs.SectionHistory.{IsToldOf, told_reached_at}
use Rattle.eve_history.proofs.ToldReached.{number_there, attempt_told, told_by_transfer, told_skipped}
use Rattle.eve_history.proofs.history.History.committed_attempt.Goals as goal

pub how_reached-requires-clause-there : goal.how_reached-requires-clause-there
how_reached-requires-clause-there c = number_there c.args.self.now c.args.n c.requires.one c.requires.by_attempt

pub unreachable-requires : goal.unreachable-requires
unreachable-requires c =
    let h = c.args.self.now in
    let told_reached = told_reached_at h c.args.n in
    absurd (false≢true (sym (told_by_transfer h _ told_reached
    (subst (λ l. IsToldOf h l told_reached) c.in-Transfer.is c.how_reached.ensures)) ∙ c.requires.by_attempt))

pub unreachable-requires-in-Skipped : goal.unreachable-requires-in-Skipped
unreachable-requires-in-Skipped c =
    let h = c.args.self.now in
    let told_reached = told_reached_at h c.args.n in
    absurd (false≢true (sym (told_skipped h told_reached
    (subst (λ l. IsToldOf h l told_reached) c.in-Skipped.is c.how_reached.ensures)) ∙ c.requires.by_attempt))

pub returns : goal.returns
returns c =
    let h = c.args.self.now in
    attempt_told h c.args.n c.in-Attempt.i
    (subst (λ l. IsToldOf h l (told_reached_at h c.args.n)) c.in-Attempt.is c.how_reached.ensures)
