use Rattle.std.proofs.Common.{refl, IsTrue, List, length, ap, subst, sym, ◌∙◌}
use Rattle.std.specs.List.{list_all}
use Rattle.eve_smallbank.specs.declared.entry.Entry.{Entry}
use Rattle.eve_grammar.specs.Limits.{is_entry}
use Rattle.eve_grammar.proofs.EntryLimits.{first_right, rest_right}
use Rattle.eve_agree.specs.Marks.{Marking, marking_of, marked}
use Rattle.eve_agree.proofs.first_seen.FirstSeen.note.Goals as goal

pub loop-entry-init : goal.loop-entry-init
loop-entry-init c = record {
  as_many = refl;
  right = subst (λ (es : List Entry). IsTrue (list_all (is_entry (length c.args.self.now)) es))
      (sym c.into_iter-entry-iterator.ensures.into_iter_gives) c.requires;
  marks = ap (marked (marking_of c.args.self.now)) c.into_iter-entry-iterator.ensures.into_iter_gives;
}

pub note_one-requires : goal.note_one-requires
note_one-requires c =
    subst (λ n. IsTrue (is_entry n c.in-Some.entry)) (sym c.loop-entry.invariant.as_many)
    (first_right (length c.args.self.now) c.loop-entry.entry-iterator c.in-Some.entry c.next.new.self
    c.in-Some.ensures.steps c.loop-entry.invariant.right)

pub loop-entry-preserved : goal.loop-entry-preserved
loop-entry-preserved c = record {
  as_many = c.note_one.ensures.as_many ∙ c.loop-entry.invariant.as_many;
  right = rest_right (length c.args.self.now) c.loop-entry.entry-iterator c.in-Some.entry c.next.new.self
      c.in-Some.ensures.steps c.loop-entry.invariant.right;
  marks = ap (λ (marks : Marking). marked marks c.next.new.self) c.note_one.ensures.marks
      ∙ ap (marked (marking_of c.loop-entry.self)) (sym c.in-Some.ensures.steps) ∙ c.loop-entry.invariant.marks;
}

pub returns-clause-marks : goal.returns-clause-marks
returns-clause-marks c = ap (marked (marking_of c.loop-entry.self)) (sym c.in-None.ensures.steps.0)
    ∙ c.loop-entry.invariant.marks
