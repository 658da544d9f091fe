use Rattle.std.proofs.Common.{◌≡◌, ◌≢◌, ◌⊎◌, ℕ, ◌+◌, ◌-◌, ◌≤◌, length, inl, inr, subst}
use Rattle.std.proofs.lemmas.Result.{on_ok_weaker}
use Rattle.eve_replica.specs.inner.RunInvariant.{count_with, sections_in}
use Rattle.eve_replica.specs.inner.Commits.{AwaitNext}
use Rattle.eve_replica.specs.Transfers.{states_in}
use Rattle.eve_replica.proofs.States.{room_spent}
use Rattle.eve_replica.proofs.run_state.commit_each.Goals as goal

-- a version that isn't the first
second : (version : ℕ) → (version ≡ 1) ⊎ (version ≡ 2) → version ≢ 1 → version ≡ 2
second version (inl one) other = absurd (other one)
second version (inr two) other = two

pub commit_all-requires-clause-awaits : goal.commit_all-requires-clause-awaits
commit_all-requires-clause-awaits c =
    let h = c.args.head.now in (
      h.customers,
      subst (λ (n : ℕ). AwaitNext n h.customers c.args.seq c.args.servers.now) c.if-head-eq1.true c.requires.awaits,
    )

pub commit_or_transfer-requires-clause-awaits : goal.commit_or_transfer-requires-clause-awaits
commit_or_transfer-requires-clause-awaits c =
    let h = c.args.head.now in
    subst (λ (n : ℕ). AwaitNext n h.customers c.args.seq c.args.servers.now)
    (second h.version c.requires.version c.if-head-eq1.false) c.requires.awaits

pub returns-clause-spent : goal.returns-clause-spent
returns-clause-spent c = λ two.
    let customers = c.args.head.now.customers in
    let was = states_in (sections_in c.args.servers.now) in
    let all = states_in (sections_in c.commit_or_transfer.new.servers) in
    let others = length c.args.servers.now - count_with c.args.token c.args.servers.now in
    on_ok_weaker c.commit_or_transfer.result
    (λ (more : was + others ≤ all).
    room_spent customers c.args.room.now c.spend.new.room was others all c.in_ok-spend.ensures.spent more)
    c.commit_or_transfer.ensures.states
