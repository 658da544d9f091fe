use Rattle.eve_grammar.proofs.BodyCodecs.{Exact-transfer}
use Rattle.eve_grammar.proofs.laws.transfers_are_read_again.Goals as goal

pub returns-clause-takes : goal.returns-clause-takes
returns-clause-takes c = λ rows body x fits read. (Exact-transfer rows).takes body x fits read

pub returns-clause-again : goal.returns-clause-again
returns-clause-again c = λ rows x right. (Exact-transfer rows).again x right
