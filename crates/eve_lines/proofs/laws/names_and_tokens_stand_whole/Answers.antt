use Rattle.eve_lines.proofs.WordsOfFrames.{name_whole, token_whole}
use Rattle.eve_lines.proofs.laws.names_and_tokens_stand_whole.Goals as goal

pub returns-clause-names : goal.returns-clause-names
returns-clause-names c = name_whole

pub returns-clause-tokens : goal.returns-clause-tokens
returns-clause-tokens c = token_whole
