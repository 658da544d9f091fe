use Rattle.std.proofs.Common.{arith}
use Rattle.eve_evidence_outcomes.proofs.RequestCounts.{requests_few}
use Rattle.eve_evidence_outcomes.proofs.summary.requests_in.Goals as goal

pub returns-clause-count : goal.returns-clause-count
returns-clause-count c = omega (arith, c.counted.ensures, c.len.ensures, requests_few c.args.batch.now)

pub returns-clause-few : goal.returns-clause-few
returns-clause-few c = omega (arith, c.counted.ensures, c.len.ensures, requests_few c.args.batch.now)
