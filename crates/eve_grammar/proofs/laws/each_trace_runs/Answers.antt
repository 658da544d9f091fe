use Rattle.eve_grammar.proofs.Runs.{run_of_trace}
use Rattle.eve_grammar.proofs.laws.each_trace_runs.Goals as goal

pub returns : goal.returns
returns c = run_of_trace
