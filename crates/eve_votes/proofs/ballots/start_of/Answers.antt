use Rattle.std.proofs.Common.{rules}
use Rattle.std.proofs.lemmas.List.Sorted.{IsPartitionPoint-from_clause}
use Rattle.eve_votes.specs.Ballots.{is_lower}
use Rattle.eve_votes.proofs.VoteOrder.{parted, start_is}
use Rattle.eve_votes.proofs.ballots.start_of.Goals as goal

pub returns : goal.returns
returns c =
    let xs = c.args.ballots.now in
    let point = IsPartitionPoint-from_clause (is_lower c.args.seq c.args.view) xs _
    c.partition_point.ensures.partitioned (parted c.args.seq c.args.view xs c.requires) (λ a r q k. search rules) in
    start_is c.args.seq c.args.view xs c.partition_point.result point.0 point.1
