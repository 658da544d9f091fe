use Rattle.std.proofs.Common.{◌≡◌, ℕ, List, length, slice_get, ap, sym, ◌∙◌, arith}
use Rattle.std.proofs.lemmas.List.{take_all}
use Rattle.std.proofs.lemmas.Option.{same_Some}
use Rattle.eve_grammar.specs.Trace.{Access, Attempt}
use Rattle.eve_history.specs.SectionHistory.{ExecutedAttempt}
use Rattle.eve_chains.specs.Along.{decoded_at, entries_along}
use Rattle.eve_agree.specs.Marks.{marking_of, marked}
use Rattle.eve_chains.proofs.AlongLaws.{IsCheckedRecord, checked_within, after_more}
use Rattle.eve_agree.proofs.MarkLaws.{marked-append}
use Rattle.eve_agree.proofs.NotedAttempts.{executed_attempt_within}
use Rattle.eve_agree.proofs.restores.note_attempt.Goals as goal

pub note-requires : goal.note-requires
note-requires c =
    let rows = length c.args.marks.now in
    let says = c.ordered.ensures.says in
    let checked : IsCheckedRecord says.0.ordered c.loop-place.place (decoded_at c.ordered.result) c.entries.result =
    record { there = says.2; entries = c.entries.ensures } in
    checked_within rows (length c.loop-place.marks) checked
    (executed_attempt_within rows c.args.history.now.attempts c.args.i says.0 c.requires.within says.1)
    c.loop-place.invariant.as_many

pub loop-place-preserved : goal.loop-place-preserved
loop-place-preserved c = record {
  as_many = c.note.ensures.as_many ∙ c.loop-place.invariant.as_many;
  marks = λ r at.
      let says = c.ordered.ensures.says in
      let same = same_Some says.0 r (sym says.1 ∙ at) in
      let checked : IsCheckedRecord r.ordered c.loop-place.place (decoded_at c.ordered.result) c.entries.result =
      record {
        there = ap (λ (q : ExecutedAttempt). slice_get q.ordered c.loop-place.place) (sym same) ∙ says.2;
        entries = c.entries.ensures;
      } in
      after_more marked marked-append (marking_of c.args.marks.now) (marking_of c.loop-place.marks)
      (marking_of c.note.new.self) checked (c.loop-place.invariant.marks r at) c.note.ensures.marks;
}

pub returns-clause-marks : goal.returns-clause-marks
returns-clause-marks c = λ r at.
    let same = same_Some c.attempt.ensures.says.0 r (sym c.attempt.ensures.says.1 ∙ at) in
    let long : length r.ordered ≡ c.len-place-end.result =
    ap (λ (q : ExecutedAttempt). length q.ordered) (sym same) ∙ c.attempt.ensures.says.4
    ∙ ap (λ (a : Attempt). length a.certificate) (sym c.attempt.ensures.says.3)
    ∙ sym c.len-place-end.ensures.certificate in
    c.loop-place.invariant.marks r at
    ∙ ap (λ (xs : List (ℕ × Access)). marked (marking_of c.args.marks.now) (entries_along xs))
    (take_all c.loop-place.place r.ordered (omega arith))
