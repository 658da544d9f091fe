use Rattle.std.proofs.Common.{sym, ◌∙◌}
use Rattle.eve_evidence_form.proofs.Lists.{same_bytes, other_bytes}
use Rattle.eve_evidence_form.proofs.names.is_same_name.Goals as goal

pub returns-clause-yes : goal.returns-clause-yes
returns-clause-yes c = λ yes. same_bytes c.args.name.now c.args.other.now (sym c.eq.ensures ∙ yes)

pub returns-clause-no : goal.returns-clause-no
returns-clause-no c = λ no. other_bytes c.args.name.now c.args.other.now (sym c.eq.ensures ∙ no)
