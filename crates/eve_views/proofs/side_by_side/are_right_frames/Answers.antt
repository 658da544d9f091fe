use Rattle.std.proofs.Common.{ℕ, drop, get_or, subst}
use Rattle.std.proofs.lemmas.List.{take_rest, take_all}
use Rattle.std.proofs.lemmas.List.Elements.{All-more}
use Rattle.eve_views.specs.inner.SideBySide.{IsRightFrame, AreRightFrames}
use Rattle.eve_views.proofs.side_by_side.are_right_frames.Goals as goal

pub loop-offset-preserved : goal.loop-offset-preserved
loop-offset-preserved c =
    let rows = c.args.rows in
    let bytes = c.args.bytes.now in
    let offsets = c.args.offsets.now in
    let i = c.loop-offset.offset-index in
    let here : IsRightFrame rows (drop (get_or offsets i 0) bytes) = subst (IsRightFrame rows)
    (take_rest bytes (get_or offsets i 0)) (c.is_right_frame.ensures c.if-not-is_right_frame.false) in
    All-more (λ (at : ℕ). IsRightFrame rows (drop at bytes)) offsets i 0 c.loop-offset-test.true
    c.loop-offset.invariant here

pub returns : goal.returns
returns c = λ _. subst (AreRightFrames c.args.rows c.args.bytes.now)
    (take_all c.loop-offset.offset-index c.args.offsets.now c.loop-offset-test.false) c.loop-offset.invariant
