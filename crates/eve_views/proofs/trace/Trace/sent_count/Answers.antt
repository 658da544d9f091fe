use Rattle.std.proofs.Common.{arith}
use Rattle.eve_views.proofs.PartLaws.{frames_many}
use Rattle.eve_views.proofs.trace.Trace.sent_count.Goals as goal

pub overflow_sub-result : goal.overflow_sub-result
overflow_sub-result c = omega (arith, frames_many c.args.self.now, c.frame_count.ensures)

pub overflow_sub-result-2 : goal.overflow_sub-result-2
overflow_sub-result-2 c = omega (arith, frames_many c.args.self.now, c.frame_count.ensures, c.sent_from.ensures)

pub returns : goal.returns
returns c = omega (arith, frames_many c.args.self.now, c.frame_count.ensures, c.sent_from.ensures)
