use Rattle.std.proofs.Common.{append-nil, refl}
use Rattle.eve_reasons.proofs.records.say_seen.Goals as goal

pub returns-in-RolledBack : goal.returns-in-RolledBack
returns-in-RolledBack c =
    rw (
      c.in-RolledBack.is,
      c.say-in-RolledBack.ensures,
      append-nil c.restoring.result.now,
      c.restoring.ensures.word,
    )
    refl
