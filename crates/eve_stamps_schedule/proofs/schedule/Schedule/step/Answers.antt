use Rattle.std.proofs.Common.{sym, subst, rules}
use Rattle.eve_stamps_schedule.specs.declared.event.Event.{Event}
use Rattle.eve_stamps_schedule.specs.Schedule.{Steps}
use Rattle.eve_stamps_schedule.proofs.schedule.Schedule.step.Goals as goal

pub returns-then-len-worker : goal.returns-then-len-worker
returns-then-len-worker c = search rules

pub returns-in-Claim : goal.returns-in-Claim
returns-in-Claim c =
    subst (λ (event : Event). Steps event c.args.self.now c.claim.new.self c.claim.result) (sym c.in-Claim.is)
    c.claim.ensures
