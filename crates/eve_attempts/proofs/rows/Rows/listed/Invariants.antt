use Rattle.std.proofs.Common.{◌≡◌, ◌++◌, map, length, drop, vec_len, vec_capacity}
use Rattle.eve_attempts.proofs.rows.Rows.listed.Given as goal

abbrev pub invariant-loop-number : goal.invariant-loop-number
invariant-loop-number l = record {
  versions : map (λ r. r.version) l.state.items ++ drop l.number l.self.rows.versions ≡ l.self.rows.versions;
  values : map (λ r. r.value) l.state.items ++ drop l.number l.self.rows.balances ≡ l.self.rows.balances;
  len : vec_len l.state ≡ l.number;
  room : vec_capacity l.state ≡ length l.self.rows.balances;
}
