use Rattle.eve_audit.proofs.OfVersion1.{none_transferred_at_all, committed_agree}
use Rattle.eve_audit.proofs.laws.version_1_transfers_nothing.Goals as goal

pub returns-clause-attempts : goal.returns-clause-attempts
returns-clause-attempts c = λ bytes t e n spells is.
    c.numbers_are_reached.ensures.by_attempts t e n (c.spelled_parts_are_within_limits.ensures.within bytes t spells)
    (none_transferred_at_all t.head.version is)

pub returns-clause-from_opening : goal.returns-clause-from_opening
returns-clause-from_opening c = λ bytes t e n spells is audited.
    audited.from_opening e n
    (c.numbers_are_reached.ensures.by_attempts t e n (c.spelled_parts_are_within_limits.ensures.within bytes t spells)
    (none_transferred_at_all t.head.version is))

pub returns-clause-agree : goal.returns-clause-agree
returns-clause-agree c = committed_agree
