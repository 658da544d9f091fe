-- A run whose replicas all go on by a move that reaches no batch: by the attempts of a window, or by a rollback.
use Rattle.std.proofs.Common.{◌≡◌, ℕ, ◌+◌, ◌<◌, ◌≤◌, true, false, List, ◌++◌, Vec, vec_len, All, get_or, length, map}
use Rattle.std.proofs.Common.{sym, subst}
use Rattle.std.specs.Vec.{with_items}
use Rattle.std.specs.declared.alloc.Global.{Global}
use Rattle.eve_grammar.specs.Trace.{Vote}
use Rattle.eve_write.specs.Data.{vote}
use Rattle.eve_write.specs.declared.vote.VoteData.{VoteData}
use Rattle.eve_replica.specs.declared.run_state.RunState.{RunState}
use Rattle.eve_replica.specs.declared.server.Server.{Server}
use Rattle.eve_replica.specs.declared.standing.Standing.{Standing}
use Rattle.eve_replica.specs.Decisions.{AreUndecided}
use Rattle.eve_replica.specs.Sections.{RunPlan}
use Rattle.eve_replica.specs.inner.RunInvariant.{AreAllOn, AreVotesOn, GoesOn, IsUnderWay, Move, Serves, live_in}
use Rattle.eve_replica.specs.inner.RunInvariant.{sections_in}
use Rattle.eve_replica.specs.inner.RunInvariant.{window_at}
use Rattle.eve_replica.specs.Transfers.{AreCommittedByMost}
use Rattle.eve_replica.proofs.MostReplicas.{still_by_most}
use Rattle.eve_replica.proofs.ReplicaLists.{all_so}
use Rattle.eve_replica.proofs.Moves.{AreNext, Moves, lent_serve, live_on, moved, serve_on, still_majority}
use Rattle.eve_replica.proofs.States.{states_on}
use Rattle.eve_replica.proofs.TransferredStates.{still_rightly_transferred}
use Rattle.eve_replica.proofs.RunsUnderWay.{batch_left, lent_by_most, lent_majority, lent_spent, lent_transferred}

module _ (p : RunPlan) (d : RunState) (m : Move) (at : Standing) (lent given : List Server)
    (votes : Vec VoteData Global) (was : IsUnderWay p d) (same : lent ≡ d.servers.items)
    (on : AreAllOn (Moves m (λ s. s.is_live)) lent given) where
  -- each of them serves on
  serve_all : AreNext p d.standing m
      → ((k : ℕ) (s : Server) → k < length lent → (get_or lent k s).is_live ≡ true
      → m.InWindow p.first.window (window_at p d.standing) (window_at p (m.further d.standing)))
      → m.further d.standing ≡ at → map vote votes.items ≡ map vote d.votes.items ++ m.votes d.standing
      → All (Serves p at (map vote votes.items)) given
  serve_all next leads further voted =
      subst (λ (vs : List Vote). All (Serves p at vs) given) (sym voted)
      (subst (λ (x : Standing). All (Serves p x (map vote d.votes.items ++ m.votes d.standing)) given) further
      (serve_on p d.standing (map vote d.votes.items) m lent given next (batch_left p d was) leads
      (all_so (Moves m (λ s. s.is_live)) (GoesOn m) lent given (λ old new made. made.0) on)
      (lent_serve p d lent was same)))

  -- the run is under way where the move leads
  pub all_moved : AreNext p d.standing m
      → ((k : ℕ) (s : Server) → k < length lent → (get_or lent k s).is_live ≡ true
      → m.InWindow p.first.window (window_at p d.standing) (window_at p (m.further d.standing)))
      → m.further d.standing ≡ at → map vote votes.items ≡ map vote d.votes.items ++ m.votes d.standing
      → m.reaches ≡ false → at.committed ≡ d.standing.committed → at.committed + at.opened ≤ length d.batches.now
      → AreVotesOn (length d.batches.now) votes.items → AreUndecided (sections_in given)
      → length given ≡ vec_len d.servers
      → IsUnderWay p (record d { servers = with_items d.servers given; standing = at; votes = votes; room = d.room })
  all_moved next leads further voted quiet stays due right undecided many =
      let goes : AreAllOn (GoesOn m) lent given =
      all_so (Moves m (λ s. s.is_live)) (GoesOn m) lent given (λ old new made. made.0) on in
      moved p d given at votes d.room was many due right (serve_all next leads further voted)
      (still_majority d lent given (live_in lent) same many
      (live_on (λ s. s.is_live) lent given
      (all_so (Moves m (λ s. s.is_live)) (λ old new. new.is_live ≡ old.is_live) lent given (λ old new made. made.1) on))
      (lent_majority p d lent was same))
      (subst (λ (n : ℕ). AreCommittedByMost n (sections_in given)) (sym stays)
      (still_by_most d.standing.committed m lent given goes (lent_by_most p d lent was same)))
      (still_rightly_transferred p d.standing (map vote d.votes.items) m lent given quiet goes
      (lent_serve p d lent was same)
      (lent_transferred p d lent was same))
      undecided (lent_spent p d lent given was same (states_on m lent given goes))
