use Rattle.std.proofs.Common.{◌∙◌, arith, length-drop, refl}
use Rattle.eve_tool.proofs.ListedLines.{at_any_err, lists-all, lists-more, lists-none, lists-stops}
use Rattle.eve_tool.proofs.listing.put_frames.Goals as goal

pub frames-init : goal.frames-init
frames-init g c = (λ h frames has. lists-none c.args.listing _ _ _ h frames has, omega arith, refl)

pub returns-in_default-clause-puts : goal.returns-in_default-clause-puts
returns-in_default-clause-puts g c =
    λ h frames has. lists-all c.args.listing _ _ _ _ c.args.bytes.now c.frames.at c.frames.number h frames
    c.in_default.ensures.short (c.frames.invariant.0 h frames has)

pub returns-in_err-room-clause-prefix : goal.returns-in_err-room-clause-prefix
returns-in_err-room-clause-prefix g c =
    λ h frames has. at_any_err c.from_residual.result
    (lists-stops c.frames_say_their_words.ensures c.frames_say_their_members.ensures c.args.listing _ _ _ _ _
    c.args.bytes.now c.frames.at c.frames.number h frames c.in-Some.view c.in-Some.view.whole
    c.in-Some.ensures.offset c.in-Some.ensures.bytes
    (c.frames.invariant.0 h frames has) c.in_err-room.ensures.prefix)

pub frames-preserved : goal.frames-preserved
frames-preserved g c = (
  λ h frames has. lists-more c.frames_say_their_words.ensures c.frames_say_their_members.ensures c.args.listing _ _
      _ _ _ _ c.args.bytes.now c.frames.at c.frames.number h frames c.in-Some.view c.in-Some.view.whole
      c.in-Some.ensures.offset c.in-Some.ensures.bytes
      (c.frames.invariant.0 h frames has) c.in_ok-room.ensures.puts,
  omega (arith, c.in-Some.view.whole, c.frames.invariant.1),
  c.in_ok-room.ensures.fine ∙ c.frames.invariant.2,
)

pub returns-clause-puts : goal.returns-clause-puts
returns-clause-puts g c =
    λ h frames has. lists-all c.args.listing _ _ _ _ c.args.bytes.now c.frames.at c.frames.number h frames
    (omega (arith, length-drop c.frames.at c.args.bytes.now, c.frames.invariant.1, c.frames-test.false))
    (c.frames.invariant.0 h frames has)
