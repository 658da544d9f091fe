use Rattle.std.proofs.Common.{arith}
use Rattle.std.proofs.lemmas.Grind.{common_steps}
use Rattle.eve_frames.specs.Views.{transfer_in}
use Rattle.eve_lines.proofs.StateRows.{rows_from}
use Rattle.eve_lines.proofs.lists.StateRows.put_next.Goals as goal

pub returns-clause-parts : goal.returns-clause-parts
returns-clause-parts c =
    let state = c.args.self.now in
    let here = rows_from (transfer_in state.transfer.bytes.now).rows state.came c.row-has.result c.row-has.ensures in
    grind (arith, common_steps, here)
