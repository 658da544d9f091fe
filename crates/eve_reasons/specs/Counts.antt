-- What a trace without a fault has. docs/USING.md, "What `explain` prints".
use Rattle.std.specs.Prelude.{ℕ, List, ◌∷◌, ◌++◌, map, min, take, codes, decimal}
use Rattle.std.specs.List.{enumerate_from}
use Rattle.eve_evidence.specs.declared.evidence.TheConstants.{REPLICAS}
use Rattle.eve_evidence.specs.declared.evidence.Counts.{Counts}
use Rattle.eve_evidence.specs.declared.evidence.ReplicaCounts.{ReplicaCounts}

-- what the replica of a number did: `replica 0: 1 committed, 0 taken over, 0 discarded, 0 open, 0 rollbacks`
abbrev pub replica_line : ℕ × ReplicaCounts → List ℕ
replica_line (replica, did) =
    codes "replica " ++ (decimal replica ++ (codes ": " ++ (decimal did.committed ++ (codes " committed, "
    ++ (decimal did.transferred ++ (codes " taken over, " ++ (decimal did.discarded ++ (codes " discarded, "
    ++ (decimal did.open ++ (codes " open, " ++ (decimal did.rollbacks ++ codes " rollbacks")))))))))))

-- the requests, and then what each replica did
abbrev pub count_lines : Counts → List (List ℕ)
count_lines c =
    (codes "requests: " ++ decimal c.requests)
    ∷ map replica_line (enumerate_from 0 (take (min c.many REPLICAS) c.replicas))
