-- What a clause reads of a sink over a writer.
use Rattle.std.specs.Prelude.{ℕ}
use Rattle.eve_streams.specs.declared.sink_of.SinkOf.{SinkOf}

-- the writer behind the sink
abbrev pub writer_of : {W : Type 0} → SinkOf W → W
writer_of s = s.writer

-- how many sends have failed
abbrev pub failed_sends : {W : Type 0} → SinkOf W → ℕ
failed_sends s = s.failures
