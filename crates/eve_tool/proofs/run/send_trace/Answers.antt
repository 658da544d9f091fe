use Rattle.std.proofs.Common.{inl, refl}
use Rattle.eve_tool.proofs.run.send_trace.Goals as goal

pub returns-in-Err-TooLong-clause-why : goal.returns-in-Err-TooLong-clause-why
returns-in-Err-TooLong-clause-why g c = inl refl
