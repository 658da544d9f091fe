use Rattle.eve_grammar.proofs.Spelled.{limits_of_spelled, spelled_within}
use Rattle.eve_grammar.proofs.laws.spelled_parts_are_within_limits.Goals as goal

pub returns-clause-within : goal.returns-clause-within
returns-clause-within c = limits_of_spelled

pub returns-clause-spelled : goal.returns-clause-spelled
returns-clause-spelled c = spelled_within
