-- What a clause reads of the streams that code is tried on.
use Rattle.std.specs.Prelude.{ℕ}
use Rattle.eve_streams.specs.declared.failing.FailsAt.{FailsAt}
use Rattle.eve_streams.specs.declared.one_byte.OneByte.{OneByte}

-- the stream behind one that moves a byte a call
abbrev pub slowed_stream : {S : Type 0} → OneByte S → S
slowed_stream s = s.stream

-- the stream behind one that fails
abbrev pub failing_stream : {S : Type 0} → FailsAt S → S
failing_stream s = s.stream

-- which of the next calls fails, counted from 1; 0 where none does
abbrev pub calls_left : {S : Type 0} → FailsAt S → ℕ
calls_left s = s.calls_left

-- how many calls have failed
abbrev pub failed_calls : {S : Type 0} → FailsAt S → ℕ
failed_calls s = s.failures
