use Rattle.std.proofs.Common.{◌+◌, ◌*◌, refl}
use Rattle.eve_grammar.specs.Readers.{restore_at}
use Rattle.eve_grammar.specs.declared.limits.TheConstants.{MOST_ROWS}
use Rattle.eve_frames.specs.Views.{rollback_in}
use Rattle.eve_frames.proofs.RollbackPlaces.{restores_of, rollback_placed}
use Rattle.eve_frames.proofs.Lists.{stand_is, stand_some}
use Rattle.eve_frames.proofs.rollback.RollbackView.restore.Goals as goal

pub unreachable-requires : goal.unreachable-requires
unreachable-requires c =
    let bytes = c.args.self.now.bytes.now in
    stand_some 20 (restores_of bytes) 17 (restore_at MOST_ROWS) bytes (rollback_in bytes).restores
    (rollback_placed bytes c.args.self.now.whole).restores c.args.i (17 + 20 * c.args.i) c.requires refl
    c.in-None.ensures

pub returns : goal.returns
returns c =
    let bytes = c.args.self.now.bytes.now in
    stand_is 20 (restores_of bytes) 17 (restore_at MOST_ROWS) bytes (rollback_in bytes).restores
    (rollback_placed bytes c.args.self.now.whole).restores c.args.i (17 + 20 * c.args.i) c.requires refl
    c.in-Some.found c.in-Some.field-0-1.now c.in-Some.ensures
