use Rattle.std.proofs.Common.{◌≡◌, map, take}
use Rattle.eve_write.specs.Data.{customer}
use Rattle.eve_replica.proofs.opening.names_of.Given as goal

abbrev pub invariant-loop-customer : goal.invariant-loop-customer
invariant-loop-customer l = l.names.items ≡ map (λ c. (customer c).name) (take l.customer-index l.customers)
