use Rattle.std.proofs.Common.{◌≡◌, ◌≤◌, true, [], All, vec_len, vec_capacity}
use Rattle.eve_replica.specs.Sections.{RunPlan}
use Rattle.eve_replica.specs.inner.RunInvariant.{IsPlanFor, Serves, first_standing}
use Rattle.eve_replica.proofs.running.servers_of.Given as goal

abbrev pub invariant-loop-number : goal.invariant-loop-number
invariant-loop-number l = record {
  many : vec_len l.servers ≡ l.number;
  room : l.head.replicas ≤ vec_capacity l.servers;
  serve : (p : RunPlan) → IsPlanFor l.names.items l.balances l.head p
      → All (Serves p first_standing []) l.servers.items;
  live : All (λ s. s.is_live ≡ true) l.servers.items;
}
