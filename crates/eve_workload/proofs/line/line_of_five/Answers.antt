use Rattle.std.proofs.Common.{◌∙◌}
use Rattle.eve_workload.proofs.Options.{none_map}
use Rattle.eve_workload.proofs.line.line_of_five.Goals as goal

pub returns-clause-none : goal.returns-clause-none
returns-clause-none c = none_map c.long_line.result _ _
    (λ none a right words. none a right (words ∙ c.five_of-five.ensures)) c.long_line.ensures.none
