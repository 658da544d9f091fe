use Rattle.std.proofs.Common.{ℕ, ap, ◌∙◌}
use Rattle.eve_frames.specs.Decoded.{rollback_decoded}
use Rattle.eve_evidence.specs.declared.prefix.Since.TheVariants as since
use Rattle.eve_evidence.specs.inner.LastSource.{last_with, since_discarded}
use Rattle.eve_evidence.specs.Seen.{rollbacks_behind}
use Rattle.eve_evidence.proofs.LastSources.{prefix_rollback}
use Rattle.eve_evidence.proofs.prefix.after_rollback.Goals as goal

pub returns : goal.returns
returns c = λ t before is.
    let f = c.args.prefix in
    prefix_rollback c.args.row before c.args.rollback.now.offset (rollback_decoded c.args.rollback.now) t
    c.args.left.now f
    c.restored_after.result c.names_row.result c.last_after_discard.result c.names_row.ensures
    (c.last_after_discard.ensures
    ∙ ap (λ (n : ℕ). last_with (since_discarded (since.RolledBack n c.names_row.result)) f.last) c.offset.ensures)
    (c.restored_after.ensures (rollbacks_behind before) is.restored_is) is
