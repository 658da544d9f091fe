use Rattle.std.proofs.Common.{◌≡◌, take}
use Rattle.std.specs.List.{AllByRecursion}
use Rattle.eve_grammar.specs.Trace.{Attempt}
use Rattle.eve_grammar.specs.Frames.{without_accesses}
use Rattle.eve_grammar.specs.Spelling.{accesses_at}
use Rattle.eve_frames.specs.Decoded.{access_decoded, attempt_decoded}
use Rattle.eve_history.specs.Section.{SectionState}
use Rattle.eve_chains.specs.Visible.{visible_to}
use Rattle.eve_chains.specs.Along.{SeesAnother}
use Rattle.eve_evidence.specs.Course.{IsCourse}
use Rattle.eve_evidence.specs.Told.{placed_in}
use Rattle.eve_evidence.proofs.chain.wrong_entry.Given as goal

abbrev pub invariant-loop-i : goal.invariant-loop-i
invariant-loop-i l =
    (s : SectionState) (a : Attempt) → IsCourse s l.course → attempt_decoded l.attempt ≡ without_accesses a
    → l.accesses ≡ accesses_at l.attempt.offset a
    → AllByRecursion (λ y. ¬ SeesAnother l.code
    (visible_to l.trace (placed_in s l.attempt.offset a) (access_decoded l.access).index y.row) y)
    (take l.i (access_decoded l.access).entries)
