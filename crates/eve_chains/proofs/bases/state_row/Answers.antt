use Rattle.std.proofs.Common.{◌∙◌, sym, ap, arith}
use Rattle.eve_frames.specs.Decoded.{transfer_decoded}
use Rattle.eve_chains.specs.Visible.{transferred_table}
use Rattle.eve_chains.proofs.TransferredStates.{state_there, no_state}
use Rattle.eve_chains.proofs.bases.state_row.Goals as goal

pub returns-then-k-transfers : goal.returns-then-k-transfers
returns-then-k-transfers c =
    c.row_in.ensures
    ∙ ap (λ rows. transferred_table rows c.args.row)
    (sym (state_there c.args.history.now.transfers c.args.k
    (c.transfer.result.offset, transfer_decoded c.transfer.result)
    c.transfer.ensures.says))

pub returns-else-k-transfers : goal.returns-else-k-transfers
returns-else-k-transfers c =
    c.nothing.ensures
    ∙ sym (ap (λ rows. transferred_table rows c.args.row)
    (no_state c.args.history.now.transfers c.args.k (omega (arith, c.transfers.ensures, c.if-k-transfers.false))))
