-- How replicas go on at a commit: those with the token commit, and in version 2 the others get by a transfer what was
-- committed. docs/DEPLOYMENT.md, "A run".
use Rattle.std.specs.Prelude.{◌≡◌, ◌≢◌, ℕ, ◌+◌, ◌-◌, ◌*◌, ◌<◌, true, false, List, [], ◌∷◌, ◌++◌, All, IsTrue, length}
use Rattle.std.specs.List.{AllByRecursion}
use Rattle.eve_grammar.specs.Trace.{Transfer, Transfers, Vote}
use Rattle.eve_grammar.specs.Limits.{is_transfer}
use Rattle.eve_attempts.specs.Ledgers.{ledger_rows}
use Rattle.eve_write.specs.Data.{section}
use Rattle.eve_replica.specs.declared.server.Server.{Server}
use Rattle.eve_replica.specs.declared.standing.Standing.{Standing}
use Rattle.eve_replica.specs.Decisions.{is_some_of, AreUndecided}
use Rattle.eve_replica.specs.Sections.{RunPlan}
use Rattle.eve_replica.specs.Transfers.{AreCommittedByMost, AreTransferredIn}
use Rattle.eve_replica.specs.inner.RunInvariant.{GoesOn, CommitsNext, IsLentBy, MayTransfer, commit_move, next_token}
use Rattle.eve_replica.specs.inner.RunInvariant.{IsLeft, Serves, after_commit, live_in, sections_in}

-- ---- all replicas

-- The replicas are those of a run in this format and of this number of customers. The batch with this number is their
-- next, and they await the decision on it.
pub record AwaitNext (format many seq : ℕ) (servers : List Server) : Type 0 where
  pub plan : RunPlan
  pub at : Standing
  pub votes : List Vote
  pub serve : All (Serves plan at votes) servers
  pub version : plan.first.version ≡ format
  pub customers : length plan.names ≡ many
  pub next : seq ≡ at.committed + 1
  pub awaits : 0 < at.opened

-- The replicas reached the batch with this number by a commit on this token: they serve further on, and as before more
-- than half are live, each batch so far was committed by more than half, what was transferred is right, and what was
-- rolled back wasn't decided.
pub record ReachBatch (seq : ℕ) (token : List ℕ) (old new : List Server) : Type 0 where
  pub serve : (p : RunPlan) (at : Standing) (votes : List Vote) → All (Serves p at votes) old → IsLeft p.batches at
      → All (Serves p (after_commit at) (votes ++ (commit_move token).votes at)) new
  pub majority : length old < 2 * live_in old → length new < 2 * live_in new
  pub committed : AreCommittedByMost (seq - 1) (sections_in old) → AreCommittedByMost seq (sections_in new)
  pub transferred : (p : RunPlan) (at : Standing) (votes : List Vote) → All (Serves p at votes) old
      → IsLeft p.batches at → AreTransferredIn p (sections_in old) → AreTransferredIn p (sections_in new)
  pub undecided : AreUndecided (sections_in old) → AreUndecided (sections_in new)

-- ---- each replica

-- with the token it commits the next batch, and without it stays as it is
pub record CommitsOrWaits (token : List ℕ) (old new : Server) : Type 0 where
  pub on : is_some_of token (next_token old) ≡ true → GoesOn (commit_move token) old new
  pub commits : is_some_of token (next_token old) ≡ true → CommitsNext old new
  pub waits : is_some_of token (next_token old) ≡ false → new ≡ old

-- the first server that committed the batch with this number last lends the state
pub record IsLentByFirst (seq : ℕ) (servers : List Server) (x : Transfer) : Type 0 where
  pub before : List Server
  pub source : Server
  pub after : List Server
  pub place : servers ≡ before ++ source ∷ after
  pub lowest : AllByRecursion (λ s. s.replica.ledger.committed ≢ seq) before
  pub committed : source.replica.ledger.committed ≡ seq
  pub lent : IsLentBy source x

-- it isn't broken, is live, and may have the state transferred unless it has committed its batch
pub record MayTransferOrStay (x : Transfer) (s : Server) : Type 0 where
  pub whole : s.replica.is_broken ≡ false
  pub live : s.is_live ≡ true
  pub right : IsTrue (is_transfer (ledger_rows s.replica.ledger) x)
  pub next : s.replica.ledger.committed ≢ x.seq → MayTransfer x s

-- It has the state transferred, and so goes on as by the commit; one that has committed the state's batch stays.
pub record TransfersOrStays (token : List ℕ) (x : Transfer) (old new : Server) : Type 0 where
  pub stays : old.replica.ledger.committed ≡ x.seq → new ≡ old
  pub on : old.replica.ledger.committed ≢ x.seq → GoesOn (commit_move token) old new
  pub transferred : old.replica.ledger.committed ≢ x.seq
      → section new.steps ≡ section old.steps ++ Transfers x ∷ []
