use Rattle.std.proofs.Common.{◌≡◌, ◌+◌, ◌<◌, ◌==◌, length, refl, sym, ap, ◌∙◌, arith}
use Rattle.std.proofs.lemmas.Bool.{both_ways, eq-eqb, ne_eqb, lt-ltb, ltb-true}
use Rattle.eve_grammar.specs.Trace.{Rollback, Trace}
use Rattle.eve_grammar.specs.declared.head.Head.{Head}
use Rattle.eve_frames.specs.Views.{rollback_in}
use Rattle.eve_history.specs.Section.{SectionState, is_right_rollback}
use Rattle.eve_history.proofs.structure.Notes.rolls_back.Goals as goal

-- one to the last committed number, of a batch that is still to come, is right where its view is the next
view_decides : (t : Trace) (s : SectionState) (r : Rollback) → r.to ≡ s.last → s.last < length t.batches
    → is_right_rollback t s r ≡ (r.view == s.view + 1)
view_decides t s r to there = rw (eq-eqb r.to s.last to, lt-ltb s.last (length t.batches) there) refl

pub returns-then-self-head : goal.returns-then-self-head
returns-then-self-head c = λ t s stands head.
    let r = rollback_in c.args.rollback.now.bytes.now in
    let many : c.args.head.now.batches ≡ length t.batches = ap (λ (h : Head). h.batches) head in
    elim c.if-to-self.branch [
      | goal.then-to-self w ↦
          let less : c.args.self.now.last < c.args.head.now.batches =
          ltb-true c.args.self.now.last c.args.head.now.batches (sym w.value-is ∙ c.if-self-head.true) in
          (λ i. c.view.ensures i == (stands.view i + 1))
          ∙ sym (view_decides t s r (omega (arith, w.if-to-self.true, stands.last)) (omega (arith, stands.last)))
      | goal.else-to-self w ↦
          let other = w.value-is ∙ ne_eqb c.to.result c.args.self.now.last w.if-to-self.false in
          absurd (both_ways c.if-to-self.value other c.if-self-head.true)
    ]
