use Rattle.std.proofs.Common.{◌∙◌, sym, ap, arith}
use Rattle.eve_frames.specs.Decoded.{transfer_decoded}
use Rattle.eve_chains.specs.Visible.{transferred_table}
use Rattle.eve_chains.proofs.TransferredStates.{row_there, no_row}
use Rattle.eve_chains.proofs.bases.row_in.Goals as goal

pub returns-then-number-len : goal.returns-then-number-len
returns-then-number-len c =
    let rows = (transfer_decoded c.args.state.now).rows in
    sym (row_there rows c.number-number.result c.row.result c.row.ensures)
    ∙ ap (transferred_table rows) c.number-number.ensures.number

pub returns-else-number-len : goal.returns-else-number-len
returns-else-number-len c =
    c.nothing.ensures
    ∙ sym (no_row (transfer_decoded c.args.state.now).rows c.args.row
    (omega (arith, c.len.ensures, c.number-number.ensures.number, c.if-number-len.false)))
