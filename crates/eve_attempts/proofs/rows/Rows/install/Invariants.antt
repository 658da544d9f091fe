use Rattle.std.proofs.Common.{◌≡◌, ◌++◌, map, take, drop}
use Rattle.eve_attempts.proofs.rows.Rows.install.Given as goal

abbrev pub invariant-loop-number : goal.invariant-loop-number
invariant-loop-number l = record {
  versions : l.self-inside.versions.items ≡ map (λ r. r.version) (take l.number l.state)
      ++ drop l.number l.initial.self-inside.versions.items;
  values : l.self-inside.balances.balances ≡ map (λ r. r.value) (take l.number l.state)
      ++ drop l.number l.initial.self-inside.balances.balances;
  version : l.self-inside.balances.version ≡ l.initial.self-inside.balances.version;
}
