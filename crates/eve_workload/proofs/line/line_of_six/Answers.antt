use Rattle.std.proofs.Common.{◌∙◌}
use Rattle.eve_workload.proofs.Options.{none_map}
use Rattle.eve_workload.proofs.line.line_of_six.Goals as goal

pub returns-clause-none : goal.returns-clause-none
returns-clause-none c = none_map c.head_line.result _ _
    (λ none d right words. none d right (words ∙ c.six_of-six.ensures)) c.head_line.ensures.none
