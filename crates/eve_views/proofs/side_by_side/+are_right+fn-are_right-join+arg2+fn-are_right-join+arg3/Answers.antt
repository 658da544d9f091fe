use Rattle.std.proofs.Common.{ℕ, drop, subst}
use Rattle.std.proofs.lemmas.List.Elements.{All-append}
use Rattle.eve_views.specs.inner.SideBySide.{IsRightFrame, AreRightFrames}
use Rattle.eve_views.proofs.UnjudgedFrames.{in_two}
use Rattle.eve_views.proofs.side_by_side.+are_right+fn-are_right-join+arg2+fn-are_right-join+arg3.Goals as goal

pub returns-then-first : goal.returns-then-first
returns-then-first g t c =
    let rows = c.args.rows in
    let bytes = c.args.bytes.now in
    let prefix = c.split_at.result.0.now in
    let back = c.split_at.result.1.now in
    let whole = in_two c.args.offsets.now prefix back _ c.split_at.ensures.front c.split_at.ensures.back in
    λ second. subst (AreRightFrames rows bytes) whole
    (All-append (λ (at : ℕ). IsRightFrame rows (drop at bytes)) prefix back (c.join-first.ensures.first c.if-first.true)
    (c.join-first.ensures.second second))
