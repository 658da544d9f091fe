-- The requests of a batch, read one after another.
use Rattle.std.proofs.Common.{◌≡◌, ℕ, ◌+◌, ◌≤◌, List, ◌++◌, map, length, take}
use Rattle.eve_grammar.specs.declared.limits.TheConstants.{MOST_REQUESTS}
use Rattle.eve_grammar.specs.Trace.{Asked, RequestId, request_id}

-- what was read, and then what is still to come, are the requests
pub record IsReading (own rest : List Asked) (items : List RequestId) (count : ℕ) : Type 0 where
  pub kept : take count items ++ map request_id rest ≡ map request_id own
  pub few : count + length rest ≤ MOST_REQUESTS
  pub long : length items ≡ MOST_REQUESTS
