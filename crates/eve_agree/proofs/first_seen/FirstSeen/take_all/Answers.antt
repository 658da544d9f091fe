use Rattle.std.proofs.Common.{◌≡◌, IsTrue, List, true, false, length, subst, sym, ◌∙◌, inl, inr, rules}
use Rattle.std.specs.List.{list_all}
use Rattle.std.proofs.lemmas.Bool.{cases_Bool, and_parts}
use Rattle.eve_grammar.specs.Limits.{is_restore}
use Rattle.eve_grammar.specs.declared.restore.Restore.{Restore}
use Rattle.eve_agree.specs.Marks.{marking_of}
use Rattle.eve_agree.proofs.MarkLaws.{IsClearing, clearing_next, found_wrong, found_left, found_right}
use Rattle.eve_agree.proofs.first_seen.FirstSeen.take_all.Goals as goal

pub returns-then-not-take-clause-right : goal.returns-then-not-take-clause-right
returns-then-not-take-clause-right c =
    let old = marking_of c.args.self.now in
    let now = marking_of c.loop-restored.self in
    let no : c.take.result ≡ false = search rules in
    found_wrong old now c.args.restores c.in-Some.restored c.next.new.self
    (subst (IsClearing old now c.args.restores) c.in-Some.ensures.steps c.loop-restored.invariant.clearing)
    (sym c.take.ensures.right ∙ no)

pub loop-restored-preserved : goal.loop-restored-preserved
loop-restored-preserved c =
    let old = marking_of c.args.self.now in
    let now = marking_of c.loop-restored.self in
    let yes : c.take.result ≡ true = search rules in
    record {
      as_many = c.take.ensures.as_many ∙ c.loop-restored.invariant.as_many;
      rows = (and_parts (is_restore (length c.args.self.now) c.in-Some.restored)
          (list_all (is_restore (length c.args.self.now)) c.next.new.self)
          (subst (λ (rs : List Restore). IsTrue (list_all (is_restore (length c.args.self.now)) rs))
          c.in-Some.ensures.steps c.loop-restored.invariant.rows)).1;
      clearing = clearing_next old now (marking_of c.take.new.self) c.args.restores c.in-Some.restored
          c.next.new.self
          (subst (IsClearing old now c.args.restores) c.in-Some.ensures.steps c.loop-restored.invariant.clearing)
          (sym c.take.ensures.right ∙ yes) (c.take.ensures.cleared yes);
    }

pub returns-clause-right : goal.returns-clause-right
returns-clause-right c = λ table es e.
    let old = marking_of c.args.self.now in
    let now = marking_of c.loop-restored.self in
    let clearing = subst (IsClearing old now c.args.restores) c.in-None.ensures.steps.0
    c.loop-restored.invariant.clearing in
    elim (cases_Bool c.is_empty.result) [
      | inl all ↦ all ∙ found_right old now c.args.restores clearing (c.is_empty.ensures.none all) table es e
      | inr more ↦ let some = c.is_empty.ensures.some more in more
          ∙ found_left old now c.args.restores some.0 clearing some.1 table es e
    ]
