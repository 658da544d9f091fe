use Rattle.std.proofs.Common.{ap, ◌∙◌}
use Rattle.eve_agree.specs.Marks.{Marking, marked, noted_between}
use Rattle.eve_agree.specs.Tables.{are_written_in}
use Rattle.eve_agree.proofs.restores.is_right.Goals as goal

-- Written, so that a wrong body fails soon.
pub returns-clause-right : goal.returns-clause-right
returns-clause-right c table same =
    let es = noted_between c.args.discarded.history.now.attempts c.args.discarded.first c.args.discarded.end in
    c.take_all.ensures.right table es
    (c.note_attempts.ensures.marks ∙ ap (λ (m : Marking). marked m es) c.requires.none ∙ same)
    ∙ ap (are_written_in table es) c.restores.ensures

pub returns-clause-none : goal.returns-clause-none
returns-clause-none c right = c.take_all.ensures.none right
