use Rattle.std.proofs.Common.{◌≡◌, sym, ◌∙◌}
use Rattle.eve_frames.specs.Decoded.{rollback_decoded}
use Rattle.eve_agree.specs.Marks.{marking_of, unmarked, marked, noted_between}
use Rattle.eve_agree.specs.Restores.{restores_by_row}
use Rattle.eve_agree.proofs.WrongRestores.{found_marked, due_marked, wrong_marked, none_wrong_marked}
use Rattle.eve_agree.proofs.wrong_restore.wrong_at.Goals as goal

pub returns-clause-some : goal.returns-clause-some
returns-clause-some c =
    let rs = (rollback_decoded c.args.rollback.now).restores in
    let es = noted_between c.args.discarded.history.now.attempts c.args.discarded.first c.args.discarded.end in
    let own : marking_of c.note_restores.new.self ≡ restores_by_row rs =
    found_marked c.in_ok-found.found c.note_restores.new.self _ c.restores.result rs c.in_ok-found.ensures
    c.restores.ensures c.note_restores.ensures.marks in
    let its : marking_of c.note_attempts.new.marks ≡ marked unmarked es =
    due_marked c.in_ok-due.due c.note_attempts.new.marks _ es c.in_ok-due.ensures c.note_attempts.ensures.marks in
    wrong_marked c.first_apart.result c.args.rollback.now.offset c.args.at (marking_of c.note_restores.new.self)
    (marking_of c.note_attempts.new.marks) (restores_by_row rs) (marked unmarked es) own its
    (sym c.offset.ensures ∙ c.if-offset-at.false) c.first_apart.ensures.some

pub returns-clause-none : goal.returns-clause-none
returns-clause-none c =
    let rs = (rollback_decoded c.args.rollback.now).restores in
    let es = noted_between c.args.discarded.history.now.attempts c.args.discarded.first c.args.discarded.end in
    let own : marking_of c.note_restores.new.self ≡ restores_by_row rs =
    found_marked c.in_ok-found.found c.note_restores.new.self _ c.restores.result rs c.in_ok-found.ensures
    c.restores.ensures c.note_restores.ensures.marks in
    let its : marking_of c.note_attempts.new.marks ≡ marked unmarked es =
    due_marked c.in_ok-due.due c.note_attempts.new.marks _ es c.in_ok-due.ensures c.note_attempts.ensures.marks in
    none_wrong_marked c.first_apart.result c.args.rollback.now.offset c.args.at (marking_of c.note_restores.new.self)
    (marking_of c.note_attempts.new.marks) (restores_by_row rs) (marked unmarked es) own its c.first_apart.ensures.none
