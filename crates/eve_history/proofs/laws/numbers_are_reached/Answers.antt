use Rattle.eve_history.proofs.ReachedNumbers.{ways_reached_counted, committed_told, told_committed, committed_numbered}
use Rattle.eve_history.proofs.ReachedNumbers.{committed_after_reached, attempts_numbered, how_reached_there}
use Rattle.eve_history.proofs.ReachedNumbers.{transfer_told}
use Rattle.eve_history.proofs.ReachedNumbers.{told_transfer, told_skipped, transfer_numbered, transfer_lands}
use Rattle.eve_history.proofs.AttemptsAlone.{by_attempts_to}
use Rattle.eve_history.proofs.laws.numbers_are_reached.Goals as goal

pub returns : goal.returns
returns c = record {
  count = ways_reached_counted;
  told = committed_told;
  tells = told_committed;
  numbers = committed_numbered;
  attempts = attempts_numbered;
  before = committed_after_reached;
  told_transfer = transfer_told;
  tells_transfer = told_transfer;
  tells_skipped = told_skipped;
  transfers = transfer_numbered;
  reaches = transfer_lands;
  there = how_reached_there;
  by_attempts = by_attempts_to;
}
