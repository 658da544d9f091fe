-- What a run under way has of its replicas, as they are lent.
use Rattle.std.proofs.Common.{◌≡◌, ℕ, ◌+◌, ◌-◌, ◌*◌, ◌<◌, ◌≤◌, List, length, sym, ap, subst, arith}
use Rattle.std.proofs.lemmas.List.{length-map}
use Rattle.eve_grammar.specs.declared.limits.TheConstants.{MOST_BYTES}
use Rattle.eve_write.specs.Data.{batch}
use Rattle.eve_replica.specs.declared.server.Server.{Server}
use Rattle.eve_replica.specs.declared.run_state.RunState.{RunState}
use Rattle.eve_replica.specs.Sections.{RunPlan}
use Rattle.eve_replica.specs.Transfers.{AreTransferredIn, AreCommittedByMost, states_in}
use Rattle.eve_replica.specs.inner.RunInvariant.{IsLeft, IsUnderWay, live_in, sections_in, states_len}
use Rattle.eve_replica.proofs.States.{states_len_rises}

-- a batch is left where one is awaited
pub batch_left : (p : RunPlan) (d : RunState) → IsUnderWay p d → IsLeft p.batches d.standing
batch_left p d was = λ some.
    let due = was.due in
    let many = ap length was.batches in
    let all = length-map d.batches.now (λ m. batch m.batch) in
    omega arith

-- more than half are live
pub lent_majority : (p : RunPlan) (d : RunState) (lent : List Server) → IsUnderWay p d → lent ≡ d.servers.items
    → length lent < 2 * live_in lent
lent_majority p d lent was same =
    subst (λ (servers : List Server). length servers < 2 * live_in servers) (sym same) was.majority

-- each batch so far was committed by most
pub lent_by_most : (p : RunPlan) (d : RunState) (lent : List Server) → IsUnderWay p d → lent ≡ d.servers.items
    → AreCommittedByMost d.standing.committed (sections_in lent)
lent_by_most p d lent was same =
    subst (λ (servers : List Server). AreCommittedByMost d.standing.committed (sections_in servers)) (sym same)
    was.committed

-- up to the one before the next
pub lent_before : (p : RunPlan) (d : RunState) (lent : List Server) → IsUnderWay p d → lent ≡ d.servers.items
    → AreCommittedByMost (d.standing.committed + 1 - 1) (sections_in lent)
lent_before p d lent was same =
    let here : d.standing.committed ≡ d.standing.committed + 1 - 1 = omega arith in
    subst (λ (n : ℕ). AreCommittedByMost n (sections_in lent)) here (lent_by_most p d lent was same)

-- what was transferred is right
pub lent_transferred : (p : RunPlan) (d : RunState) (lent : List Server) → IsUnderWay p d → lent ≡ d.servers.items
    → AreTransferredIn p (sections_in lent)
lent_transferred p d lent was same =
    subst (λ (servers : List Server). AreTransferredIn p (sections_in servers)) (sym same) was.transferred

-- what the states took from the room is gone from it, where replicas go on that keep theirs
pub lent_spent : (p : RunPlan) (d : RunState) (lent given : List Server) → IsUnderWay p d → lent ≡ d.servers.items
    → states_in (sections_in lent) ≤ states_in (sections_in given) → d.head.version ≡ 2
    → MOST_BYTES ≤ d.room + states_len d.head.customers (states_in (sections_in given))
lent_spent p d lent given was same kept two =
    let before = was.spent two in
    let here = ap (λ (servers : List Server). states_in (sections_in servers)) same in
    let more = states_len_rises d.head.customers (states_in (sections_in d.servers.items))
    (states_in (sections_in given)) (omega (arith, here, kept)) in
    omega (arith, before, more)

-- and where they spend some
pub lent_spends : (p : RunPlan) (d : RunState) (lent given : List Server) (room : ℕ) → IsUnderWay p d
    → lent ≡ d.servers.items → d.head.version ≡ 2
    → d.room + states_len d.head.customers (states_in (sections_in lent))
    ≤ room + states_len d.head.customers (states_in (sections_in given))
    → MOST_BYTES ≤ room + states_len d.head.customers (states_in (sections_in given))
lent_spends p d lent given room was same two spent =
    let before = was.spent two in
    let here = ap (λ (servers : List Server). states_len d.head.customers (states_in (sections_in servers))) same in
    omega (arith, before, here, spent)
