use Rattle.std.proofs.Common.{◌≡◌, subst}
use Rattle.std.proofs.lemmas.Result.{IfOk-weaker}
use Rattle.eve_attempts.specs.Ledgers.{Ledger}
use Rattle.eve_attempts.specs.Transfers.{rows_of_state, IsStateOf}
use Rattle.eve_attempts.specs.HeldLedgers.{ledger_of}
use Rattle.eve_attempts.proofs.LedgerSteps.{is_state}
use Rattle.eve_attempts.proofs.ledger.Ledger.state.Goals as goal

pub returns : goal.returns
returns c =
    let s : Ledger = ledger_of c.self.inside in
    IfOk-weaker c.listed.result (λ state. rows_of_state state.items ≡ c.undo_all.new.rows.rows)
    (λ state. IsStateOf c.args.self.now state.items)
    (λ state are. subst (λ (l : Ledger). IsStateOf l state.items) c.self.view_is
    (is_state s c.in_ok-rows.rows.rows c.undo_all.new.rows.rows c.as_slice.result.now state.items c.in_ok-rows.ensures
    c.as_slice.ensures.value c.undo_all.ensures.as_many c.undo_all.ensures.table are))
    c.listed.ensures
