-- What a clause reads of a buffer before a sink.
use Rattle.std.specs.Prelude.{◌≡◌, ℕ, ◌<◌, List, length, take, drop, Option}
use Rattle.std.specs.Io.KnownBytes.{Appends}
use Rattle.eve_streams.specs.declared.buffered.Buffered.{Buffered}

-- the sink behind the buffer
abbrev pub sink_behind : {S : Type 0} → Buffered S → S
sink_behind b = b.sink

-- the bytes that the buffer took and has not sent on
abbrev pub held_bytes : {S : Type 0} → Buffered S → List ℕ
held_bytes b = b.held.items

-- the sink behind took a prefix of what was held, and not all of it, and the rest is held
pub record SendsHeld {S : Type 0} (written : S → Option (List ℕ)) (old new : Buffered S) : Type 0 where
  pub count : ℕ
  pub proper : count < length (held_bytes old)
  pub sent : Appends (written (sink_behind old)) (written (sink_behind new)) (take count (held_bytes old))
  pub kept : held_bytes new ≡ drop count (held_bytes old)
