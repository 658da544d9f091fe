use Rattle.std.proofs.Common.{◌≡◌, ◌+◌, ◌≤◌, length, refl, sym, ap, ◌∙◌, arith}
use Rattle.std.specs.Bool.{beq}
use Rattle.std.proofs.lemmas.Bool.{eq-eqb, le-leb}
use Rattle.std.proofs.lemmas.List.{length-map, length-drop}
use Rattle.eve_grammar.specs.Trace.{Attempt, Trace}
use Rattle.eve_grammar.specs.declared.head.Head.{Head}
use Rattle.eve_frames.specs.Views.{attempt_in}
use Rattle.eve_history.specs.Section.{SectionState, is_due}
use Rattle.eve_history.proofs.structure.Notes.is_due.Goals as goal

-- an attempt with the number and the view that are due is due where its mode is
mode_decides : (t : Trace) (s : SectionState) (a : Attempt) → a.seq ≡ s.last + 1 + length s.pending
    → a.seq ≤ length t.batches → a.seq ≤ s.last + t.head.window → a.view ≡ s.view
    → is_due t s a ≡ beq a.serial s.rolled_back
mode_decides t s a seq there window view =
    rw (
      eq-eqb a.seq (s.last + 1 + length s.pending) seq,
      le-leb a.seq (length t.batches) there,
      le-leb a.seq (s.last + t.head.window) window,
      eq-eqb a.view s.view view,
    ) refl

pub returns-then-view-self-clause-due : goal.returns-then-view-self-clause-due
returns-then-view-self-clause-due c = λ t s stands head.
    let a = attempt_in c.args.attempt.now.bytes.now in
    let many : c.args.head.now.batches ≡ length t.batches = ap (λ (h : Head). h.batches) head in
    let window : c.args.head.now.window ≡ t.head.window = ap (λ (h : Head). h.window) head in
    let last : c.args.self.now.last ≡ s.last = stands.last in
    let view : c.args.self.now.view ≡ s.view = stands.view in
    let many_open = simp (length-map, length-drop) at (ap length stands.pending) in
    (λ i. beq (c.is_serial.ensures i) (stands.rolled_back i))
    ∙ sym (mode_decides t s a (omega (arith, many_open)) (omega arith) (omega arith) (omega arith))
