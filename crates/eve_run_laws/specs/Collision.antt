-- Where a trace shows two messages with one hash. docs/DEPLOYMENT.md, "A run is accepted".
use Rattle.std.specs.Prelude.{◌≡◌, ◌≢◌, ℕ, List, length, Some, IsTrue}
use Rattle.std.specs.List.{list_all}
use Rattle.sha2.specs.Sha256.{sha256}
use Rattle.eve_grammar.specs.Trace.{Trace}
use Rattle.eve_grammar.specs.Limits.{is_number}
use Rattle.eve_history.specs.Section.{Placed}
use Rattle.eve_history.specs.SectionHistory.{committed_at}
use Rattle.eve_chains.specs.Committed.{balances_to}
use Rattle.eve_agree.specs.Agreement.{HaveSameOutcome}
use Rattle.eve_run_laws.specs.Hashed.{IsHashedFor}

-- two lists of bytes, of one length, that differ and have one SHA-256
pub record IsCollision (message other : List ℕ) : Type 0 where
  pub bytes : IsTrue (list_all (is_number 1) message)
  pub other_bytes : IsTrue (list_all (is_number 1) other)
  pub one_length : length message ≡ length other
  pub apart : message ≢ other
  pub same_hash : sha256 message ≡ sha256 other

-- hashed for what batch n came to in replica e, which committed it by this attempt
abbrev pub IsHashedOf : Trace → ℕ → ℕ → Placed → List ℕ → Type 0
IsHashedOf t e n p message = IsHashedFor t.head.version n (balances_to t e n) p.attempt.replies message

-- Two replicas committed a batch with one token, though it came to something else in each. A message that is hashed for
-- what it came to in the one and a message that is hashed for what it came to in the other are a collision. Both are
-- worked out from the trace at hand: that some messages have one hash is true of every hash, and isn't enough.
pub record Collides (t : Trace) : Type 0 where
  pub batch : ℕ
  pub replica : ℕ
  pub other : ℕ
  pub attempt : Placed
  pub other_attempt : Placed
  pub committed : committed_at t replica batch ≡ Some attempt
  pub other_committed : committed_at t other batch ≡ Some other_attempt
  pub one_token : attempt.attempt.token ≡ other_attempt.attempt.token
  pub differ : ¬ HaveSameOutcome t replica other batch
  pub message : List ℕ
  pub other_message : List ℕ
  pub hashed : IsHashedOf t replica batch attempt message
  pub other_hashed : IsHashedOf t other batch other_attempt other_message
  pub collision : IsCollision message other_message
