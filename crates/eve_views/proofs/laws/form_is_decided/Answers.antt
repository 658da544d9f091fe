use Rattle.eve_views.proofs.FormDecided.{form_found, nothing_spelled}
use Rattle.eve_views.proofs.laws.form_is_decided.Goals as goal

pub returns-clause-decided : goal.returns-clause-decided
returns-clause-decided c = form_found

pub returns-clause-apart : goal.returns-clause-apart
returns-clause-apart c = λ bytes f t fits is. nothing_spelled bytes f fits is t
