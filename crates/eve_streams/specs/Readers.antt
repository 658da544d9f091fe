-- What a clause reads of a source over a reader.
use Rattle.std.specs.Prelude.{ℕ}
use Rattle.eve_streams.specs.declared.source_of.SourceOf.{SourceOf}

-- the reader behind the source
abbrev pub reader_of : {R : Type 0} → SourceOf R → R
reader_of s = s.reader

-- how often the reader may still be read
abbrev pub reads_left_of : {R : Type 0} → SourceOf R → ℕ
reads_left_of s = s.reads_left

-- how many fetches have failed
abbrev pub failed_fetches : {R : Type 0} → SourceOf R → ℕ
failed_fetches s = s.failures
