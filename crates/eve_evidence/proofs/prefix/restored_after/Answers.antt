use Rattle.std.proofs.Common.{ℕ, [], ◌∷◌, ◌++◌, Some, refl, sym, subst}
use Rattle.eve_frames.specs.Decoded.{rollback_decoded}
use Rattle.eve_evidence.specs.inner.LastSource.{IsRestoredBy}
use Rattle.eve_evidence.proofs.LastSources.{restoring_now, restoring_grows}
use Rattle.eve_evidence.proofs.prefix.restored_after.Goals as goal

pub returns-then-restores : goal.returns-then-restores
returns-then-restores c = λ rs is.
    let r = rollback_decoded c.args.rollback.now in
    let at = c.args.rollback.now.offset in
    subst (λ (n : ℕ). IsRestoredBy c.args.row c.args.left.now (rs ++ (at, r) ∷ []) (Some n)) (sym c.offset.ensures)
    (restoring_now c.args.row [] at r c.args.left.now rs (c.if-restores.ensures.yes refl))

pub returns : goal.returns
returns c = λ rs is.
    restoring_grows c.args.row [] c.args.rollback.now.offset (rollback_decoded c.args.rollback.now) c.args.left.now rs
    c.args.restored is (c.if-restores.ensures.no refl)
