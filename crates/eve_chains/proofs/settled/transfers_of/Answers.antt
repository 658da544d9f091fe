use Rattle.std.proofs.Common.{ℕ, ◌++◌, ◌∷◌, [], List, map, sym, ap, ◌∙◌, arith}
use Rattle.std.proofs.lemmas.List.{map-append, take_all}
use Rattle.eve_grammar.specs.Trace.{Transfer}
use Rattle.eve_grammar.proofs.Lists.{take_one_more}
use Rattle.eve_chains.specs.ReachedChanges.{transfer_at}
use Rattle.eve_chains.proofs.settled.transfers_of.Goals as goal

pub loop-i-preserved : goal.loop-i-preserved
loop-i-preserved c =
    let x = c.transfer.result in
    ap (map transfer_at) c.in_ok-push.ensures.items ∙ map-append transfer_at c.loop-i.transfers.items (x ∷ [])
    ∙ ap (λ (ys : List (ℕ × Transfer)). ys ++ transfer_at x ∷ []) c.loop-i.invariant
    ∙ sym (take_one_more c.args.history.now.transfers c.loop-i.i (transfer_at x) c.transfer.ensures.says)

pub returns : goal.returns
returns c =
    c.loop-i.invariant
    ∙ take_all c.loop-i.i c.args.history.now.transfers (omega (arith, c.loop-i-test.false, c.transfers-count.ensures))
