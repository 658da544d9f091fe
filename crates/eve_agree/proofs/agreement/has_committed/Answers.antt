use Rattle.std.proofs.Common.{◌≡◌, ◌≤◌, ◌∙◌, ℕ, zero, suc, refl, arith}
use Rattle.std.specs.Option.{is_some}
use Rattle.eve_history.specs.SectionHistory.{ToldReached, ReachedBy, ReachedFrom, NotReached, SectionHistory}
use Rattle.eve_history.specs.SectionHistory.{is_by_attempt, told_reached_at}
use Rattle.eve_agree.specs.ByNumber.{told_at, told_by}
use Rattle.eve_agree.proofs.agreement.has_committed.Goals as goal

by_attempt_told : (l : ToldReached) → is_by_attempt l ≡ is_some (told_by l)
by_attempt_told (ReachedBy r) = refl
by_attempt_told (ReachedFrom i) = refl
by_attempt_told NotReached = refl

by_attempt_at : (h : SectionHistory) (n : ℕ) → 1 ≤ n → is_by_attempt (told_reached_at h n) ≡ is_some (told_at h n)
by_attempt_at h zero one = absurd (omega (arith, one))
by_attempt_at h (suc n) one = by_attempt_told (told_reached_at h (suc n))

pub returns-then-n-committed : goal.returns-then-n-committed
returns-then-n-committed c =
    let one : 1 ≤ c.args.n = omega arith in
    c.by_attempt.ensures ∙ by_attempt_at c.args.history.now c.args.n one
