use Rattle.std.proofs.Common.{ℕ, ◌+◌, refl, sym, subst, arith}
use Rattle.eve_grammar.specs.Limits.{FitsAt}
use Rattle.eve_grammar.specs.declared.head.Head.{Head}
use Rattle.eve_views.proofs.FrameLaws.{length-frame_text}
use Rattle.eve_evidence_form.proofs.FramesPassed.{IsPassed, all_passed, begins_there, next_frame, none_passed}
use Rattle.eve_evidence_form.proofs.walk.reached.Goals as goal

pub frames-init : goal.frames-init
frames-init c = λ r same. none_passed c.args.bytes.now c.args.at r _ c.start.ensures.place refl

pub step-so_far-requires-clause-fits : goal.step-so_far-requires-clause-fits
step-so_far-requires-clause-fits c =
    let n = next_frame c.args.bytes.now c.args.at c.requires.0 c.frames.next c.frames.so_far
    (c.frames.invariant c.requires.0 c.requires.1) c.frames-test.true in (
      n.frame,
      begins_there c.args.bytes.now c.args.at c.requires.0 c.frames.next c.frames.so_far n,
      subst (λ (h : Head). FitsAt h c.frames.so_far.place n.frame) c.requires.1 n.fits,
    )

pub step-so_far-requires-clause-few : goal.step-so_far-requires-clause-few
step-so_far-requires-clause-few c =
    (next_frame c.args.bytes.now c.args.at c.requires.0 c.frames.next c.frames.so_far
    (c.frames.invariant c.requires.0 c.requires.1) c.frames-test.true).few

pub first_len-next-requires : goal.first_len-next-requires
first_len-next-requires c =
    let n = next_frame c.args.bytes.now c.args.at c.requires.0 c.frames.next c.frames.so_far
    (c.frames.invariant c.requires.0 c.requires.1) c.frames-test.true in
    (n.frame, begins_there c.args.bytes.now c.args.at c.requires.0 c.frames.next c.frames.so_far n)

pub overflow_add-next : goal.overflow_add-next
overflow_add-next c =
    let n = next_frame c.args.bytes.now c.args.at c.requires.0 c.frames.next c.frames.so_far
    (c.frames.invariant c.requires.0 c.requires.1) c.frames-test.true in
    let len = c.first_len-next.ensures n.frame
    (begins_there c.args.bytes.now c.args.at c.requires.0 c.frames.next c.frames.so_far n) in
    omega (arith, len, n.within, c.ranges.at.fits)

pub frames-smaller : goal.frames-smaller
frames-smaller c =
    let n = next_frame c.args.bytes.now c.args.at c.requires.0 c.frames.next c.frames.so_far
    (c.frames.invariant c.requires.0 c.requires.1) c.frames-test.true in
    let len = c.first_len-next.ensures n.frame
    (begins_there c.args.bytes.now c.args.at c.requires.0 c.frames.next c.frames.so_far n) in
    omega (arith, len, c.frames-test.true, length-frame_text n.frame)

pub frames-preserved : goal.frames-preserved
frames-preserved c = λ r same.
    let n = next_frame c.args.bytes.now c.args.at r c.frames.next c.frames.so_far (c.frames.invariant r same)
    c.frames-test.true in
    let begins = begins_there c.args.bytes.now c.args.at r c.frames.next c.frames.so_far n in
    let len = c.first_len-next.ensures n.frame begins in
    subst (λ (k : ℕ). IsPassed c.args.bytes.now c.args.at r (c.frames.next + k) c.step-so_far.result) (sym len)
    (n.passed c.step-so_far.result (record {
      place_is = c.step-so_far.ensures.place n.frame begins
          (subst (λ (h : Head). FitsAt h c.frames.so_far.place n.frame) same n.fits);
      records_are = c.step-so_far.ensures.records n.frame begins;
    }))

pub returns-clause-place : goal.returns-clause-place
returns-clause-place c = λ r same.
    (all_passed c.args.bytes.now c.args.at r c.frames.next c.frames.so_far (c.frames.invariant r same)
    c.frames-test.false).0

pub returns-clause-records : goal.returns-clause-records
returns-clause-records c = λ r same.
    (all_passed c.args.bytes.now c.args.at r c.frames.next c.frames.so_far (c.frames.invariant r same)
    c.frames-test.false).1
