use Rattle.std.proofs.Common.{refl, arith}
use Rattle.eve_write.proofs.gathering.gather_spelled.Goals as goal

pub write_parts-requires-clause-total : goal.write_parts-requires-clause-total
write_parts-requires-clause-total g c = omega arith

pub returns-then-total-limit-clause-too_long : goal.returns-then-total-limit-clause-too_long
returns-then-total-limit-clause-too_long g c = λ same. (omega arith, refl)

pub returns-in-Ok-clause-length : goal.returns-in-Ok-clause-length
returns-in-Ok-clause-length g c = (omega arith, omega arith)

pub returns-in-Ok-clause-written : goal.returns-in-Ok-clause-written
returns-in-Ok-clause-written g c = c.in-Ok.ensures

pub returns-in-Err-clause-stopped : goal.returns-in-Err-clause-stopped
returns-in-Err-clause-stopped g c = λ same. (omega arith, c.in-Err.ensures)
