use Rattle.std.proofs.Common.{◌∙◌}
use Rattle.eve_workload.proofs.Options.{none_map}
use Rattle.eve_workload.proofs.LineKinds.{no_customer, no_short_request}
use Rattle.eve_workload.proofs.line.line_of_four.Goals as goal

pub returns-then-says-clause-none : goal.returns-then-says-clause-none
returns-then-says-clause-none c =
    none_map c.customer_line.result _ _
    (λ none l right words. no_customer l _ _ _ _ (c.says.ensures.0 c.if-says.true) right none
    (words ∙ c.four_of-four.ensures))
    c.customer_line.ensures.none

pub returns-else-says-clause-none : goal.returns-else-says-clause-none
returns-else-says-clause-none c =
    none_map c.short_line.result _ _
    (λ none l right words. no_short_request l _ _ _ _
    (λ named. let no : ⊥ = cc (c.says.ensures.1 named, c.if-says.false) in absurd no) right none
    (words ∙ c.four_of-four.ensures))
    c.short_line.ensures.none
