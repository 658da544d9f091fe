use Rattle.std.proofs.Common.{◌≡◌, true, [], All, List, ap, map, refl, sym, subst, arith}
use Rattle.std.proofs.lemmas.List.Elements.{All-push}
use Rattle.eve_write.specs.Data.{step}
use Rattle.eve_replica.specs.declared.server.Server.{Server}
use Rattle.eve_replica.specs.inner.RunInvariant.{Serves, first_standing}
use Rattle.eve_replica.proofs.FirstStates.{begins}
use Rattle.eve_replica.proofs.running.servers_of.Goals as goal

pub loop-number-preserved : goal.loop-number-preserved
loop-number-preserved c =
    let before : List Server = c.loop-number.servers.items in
    let one : Server = record {
      replica = c.in_ok-replica.replica;
      is_live = true;
      missing = 0;
      steps = c.new-steps.result;
    } in
    record {
      many = omega (arith, c.push_reserved.ensures.len, c.loop-number.invariant.many);
      room = omega (arith, c.push_reserved.ensures.capacity, c.loop-number.invariant.room);
      serve = λ p plan. subst (λ (servers : List Server). All (Serves p first_standing []) servers)
          (sym {A = List Server} c.push_reserved.ensures.items)
          (All-push (Serves p first_standing []) before one (c.loop-number.invariant.serve p plan)
          (begins p c.args.names.now.items c.args.balances.now c.args.head.now one plan c.requires.rows
          c.in_ok-replica.ensures (ap (map step) c.new-steps.ensures.items) refl refl));
      live = subst (λ (servers : List Server). All (λ s. s.is_live ≡ true) servers)
          (sym {A = List Server} c.push_reserved.ensures.items)
          (All-push (λ s. s.is_live ≡ true) before one c.loop-number.invariant.live refl);
    }
