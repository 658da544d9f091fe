use Rattle.std.proofs.Common.{sym, ◌∙◌}
use Rattle.eve_grammar.proofs.laws.traces_have_one_spelling.Goals as goal

pub returns : goal.returns
returns c = λ bytes more t one two. one.spelled ∙ sym two.spelled
