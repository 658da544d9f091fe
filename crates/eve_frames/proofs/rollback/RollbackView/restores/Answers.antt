use Rattle.std.proofs.Common.{refl, ◌∙◌}
use Rattle.eve_grammar.specs.Readers.{restore_at}
use Rattle.eve_grammar.specs.declared.limits.TheConstants.{MOST_ROWS}
use Rattle.eve_frames.specs.Views.{rollback_in}
use Rattle.eve_frames.proofs.RollbackPlaces.{restores_of, rollback_placed}
use Rattle.eve_frames.proofs.Lists.{stand_passes}
use Rattle.eve_frames.proofs.rollback.RollbackView.restores.Goals as goal

pub new-requires : goal.new-requires
new-requires c =
    let bytes = c.args.self.now.bytes.now in
    (stand_passes 20 (restores_of bytes) 17 (restore_at MOST_ROWS) bytes (rollback_in bytes).restores
    (rollback_placed bytes c.args.self.now.whole).restores c.len-count.result 17 c.len-count.ensures refl).there

pub returns : goal.returns
returns c =
    let bytes = c.args.self.now.bytes.now in
    c.new.ensures ∙ (stand_passes 20 (restores_of bytes) 17 (restore_at MOST_ROWS) bytes (rollback_in bytes).restores
    (rollback_placed bytes c.args.self.now.whole).restores c.len-count.result 17 c.len-count.ensures refl).list
