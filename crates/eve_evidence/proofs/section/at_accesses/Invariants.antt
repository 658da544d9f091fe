use Rattle.std.proofs.Common.{◌≡◌, take}
use Rattle.eve_grammar.specs.Trace.{Attempt}
use Rattle.eve_grammar.specs.Frames.{without_accesses}
use Rattle.eve_grammar.specs.Spelling.{accesses_at}
use Rattle.eve_frames.specs.Decoded.{attempt_decoded}
use Rattle.eve_views.specs.Form.{SomePlace}
use Rattle.eve_history.specs.Section.{SectionState}
use Rattle.eve_evidence.specs.Course.{IsCourse}
use Rattle.eve_evidence.specs.Section.{WrongAccess}
use Rattle.eve_evidence.proofs.section.at_accesses.Given as goal

abbrev pub invariant-loop-i : goal.invariant-loop-i
invariant-loop-i l =
    let at = l.site in
    (s : SectionState) (a : Attempt) → IsCourse s at.course.now → attempt_decoded at.attempt.now ≡ without_accesses a
    → at.accesses.now ≡ accesses_at at.attempt.now.offset a
    → ¬ SomePlace (take l.i at.accesses.now) (λ own x. (x.0 ≡ l.place)
    × WrongAccess l.code at.trace.now s at.attempt.now.offset a own x.1)
