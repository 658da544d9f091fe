use Rattle.std.proofs.Common.{IsTrue, List, length, ap, subst, sym, ◌∙◌}
use Rattle.std.specs.List.{list_all}
use Rattle.std.proofs.lemmas.Bool.{and_parts}
use Rattle.eve_grammar.specs.Limits.{is_restore}
use Rattle.eve_grammar.specs.declared.restore.Restore.{Restore}
use Rattle.eve_agree.specs.Marks.{Marking, marking_of, marked_by}
use Rattle.eve_agree.proofs.first_seen.FirstSeen.note_restores.Goals as goal

pub loop-restored-preserved : goal.loop-restored-preserved
loop-restored-preserved c = record {
  as_many = c.note_restore.ensures.as_many ∙ c.loop-restored.invariant.as_many;
  right = (and_parts (is_restore (length c.args.self.now) c.in-Some.restored)
      (list_all (is_restore (length c.args.self.now)) c.next.new.self)
      (subst (λ (rs : List Restore). IsTrue (list_all (is_restore (length c.args.self.now)) rs))
      c.in-Some.ensures.steps c.loop-restored.invariant.right)).1;
  marks = ap (λ (marks : Marking). marked_by marks c.next.new.self) c.note_restore.ensures.marks
      ∙ ap (marked_by (marking_of c.loop-restored.self)) (sym c.in-Some.ensures.steps)
      ∙ c.loop-restored.invariant.marks;
}

pub returns-clause-marks : goal.returns-clause-marks
returns-clause-marks c = ap (marked_by (marking_of c.loop-restored.self)) (sym c.in-None.ensures.steps.0)
    ∙ c.loop-restored.invariant.marks
