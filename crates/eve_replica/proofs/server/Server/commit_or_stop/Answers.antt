use Rattle.std.proofs.Common.{rules, ◌≡◌, false, refl}
use Rattle.eve_replica.specs.Decisions.{is_some_of}
use Rattle.eve_replica.specs.inner.RunInvariant.{next_token}
use Rattle.eve_replica.proofs.Steps.{stop_goes}
use Rattle.eve_replica.proofs.server.Server.commit_or_stop.Goals as goal

pub returns-then-not-has_next-clause-on : goal.returns-then-not-has_next-clause-on
returns-then-not-has_next-clause-on c =
    let other : is_some_of c.args.token (next_token c.args.self.now) ≡ false = search rules in
    stop_goes c.args.token c.args.self.now _ c.requires.version c.requires.open other refl refl refl refl
