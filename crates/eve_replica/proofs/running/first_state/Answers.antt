use Rattle.std.proofs.Common.{◌≡◌, ◌≤◌, ◌⊎◌, inl, inr, zero, suc, [], ℕ, ◌*◌, length, map, sym, refl, ap, ◌∙◌, arith}
use Rattle.std.proofs.lemmas.List.{length-map}
use Rattle.eve_grammar.specs.Trace.{opening_rows}
use Rattle.eve_grammar.specs.declared.limits.TheConstants.{NEWEST_VERSION}
use Rattle.eve_grammar.proofs.HeadLimits.{few_customers, head_has_limits}
use Rattle.eve_grammar.proofs.OpeningRows.{length-opening_rows}
use Rattle.eve_write.specs.Data.{customer}
use Rattle.eve_attempts.specs.Ledgers.{opening}
use Rattle.eve_replica.specs.inner.RunInvariant.{plan_with}
use Rattle.eve_replica.proofs.FirstStates.{plan_begun, none_led, none_voted, begun_transferred}
use Rattle.eve_replica.proofs.TokenCounts.{counted_all}
use Rattle.eve_replica.proofs.UndecidedBatches.{begun_undecided}
use Rattle.eve_replica.proofs.running.first_state.Goals as goal

-- what is the number of a format
one_or_two : (n : ℕ) → 1 ≤ n → n ≤ NEWEST_VERSION → (n ≡ 1) ⊎ (n ≡ 2)
one_or_two zero some few = absurd (omega arith)
one_or_two (suc zero) some few = inl refl
one_or_two (suc (suc zero)) some few = inr refl
one_or_two (suc (suc (suc n))) some few = absurd (omega arith)

pub servers_of-requires-clause-rows : goal.servers_of-requires-clause-rows
servers_of-requires-clause-rows c =
    let customers = map customer c.args.customers.now in
    ap length c.in_ok-balances.ensures ∙ length-opening_rows customers
    ∙ ap (λ (n : ℕ). 2 * n) (sym (ap length c.requires.named ∙ length-map customers (λ x. x.name)))

pub servers_of-requires-clause-some : goal.servers_of-requires-clause-some
servers_of-requires-clause-some c =
    let customers = map customer c.args.customers.now in
    let rows = ap length c.in_ok-balances.ensures ∙ length-opening_rows customers in
    let limits = head_has_limits c.args.head.now c.requires.right in
    omega (arith, rows, length-map c.args.customers.now customer, c.requires.customers, limits.some_customers)

pub servers_of-requires-clause-version : goal.servers_of-requires-clause-version
servers_of-requires-clause-version c =
    let limits = head_has_limits c.args.head.now c.requires.right in
    one_or_two c.args.head.now.version limits.some_version limits.known_version

pub servers_of-requires-clause-workers : goal.servers_of-requires-clause-workers
servers_of-requires-clause-workers c =
    let limits = head_has_limits c.args.head.now c.requires.right in (limits.some_workers, limits.few_workers)

pub servers_of-requires-clause-window : goal.servers_of-requires-clause-window
servers_of-requires-clause-window c =
    let limits = head_has_limits c.args.head.now c.requires.right in (limits.some_window, limits.few_window)

pub balances_of-requires : goal.balances_of-requires
balances_of-requires c = omega (arith, c.requires.customers, few_customers c.args.head.now c.requires.right)

pub returns-clause-under_way : goal.returns-clause-under_way
returns-clause-under_way c =
    let opened = opening_rows (map customer c.args.customers.now) in
    let p = plan_with c.args.names.now.items opened c.args.head.now c.args.batches.now in
    let servers = c.in_ok-servers.servers in
    let begun : p.first.opened ≡ [] =
    plan_begun c.args.names.now.items opened c.args.head.now c.args.batches.now in
    let h = c.args.head.now in
    let limits = head_has_limits h c.requires.right in
    let first = ap (λ zs. opening h.version zs h.workers h.window) (sym c.in_ok-balances.ensures) in
    let serve = c.in_ok-servers.ensures.serve p (refl, first) in
    record {
      none_reached = refl;
      begun = begun;
      customers = ap length c.requires.named ∙ length-map (map customer c.args.customers.now) (λ x. x.name)
          ∙ length-map c.args.customers.now customer ∙ c.requires.customers;
      window = refl;
      known = one_or_two h.version limits.some_version limits.known_version;
      version = refl;
      batches = refl;
      few = c.requires.few;
      room = limits.some_window;
      mixed = c.requires.mixed;
      due = omega arith;
      many = c.in_ok-servers.ensures.many;
      servers = none_led p c.new.result.items servers.items c.new.ensures.items serve;
      majority = omega (
        arith,
        counted_all (λ s. s.is_live) servers.items c.in_ok-servers.ensures.live,
        c.in_ok-servers.ensures.many,
        servers.ok.0,
        limits.some_replicas,
      );
      committed = λ n some few. absurd (omega arith);
      transferred = begun_transferred p servers.items refl serve;
      undecided = begun_undecided p servers.items begun serve;
      spent = λ two. omega arith;
      votes = none_voted (length c.args.batches.now) c.new.result.items c.new.ensures.items;
    }
