use Rattle.eve_replica.proofs.replica.Replica.close_noted.Goals as goal

pub returns-in-Ok-clause-attempted : goal.returns-in-Ok-clause-attempted
returns-in-Ok-clause-attempted c =
    let closes = c.in-Ok.ensures.closed in (
      c.requires.due.whole,
      (c.args.records.now, record { noted = c.requires.noted; closed = closes.closed; rest = closes.rest }),
    )

pub returns-in-Err-Mismatch-clause-mismatch : goal.returns-in-Err-Mismatch-clause-mismatch
returns-in-Err-Mismatch-clause-mismatch c same = c.in-Err-Mismatch.ensures.mismatch cc
