use Rattle.std.proofs.Common.{rules, sym, ◌∙◌}
use Rattle.eve_floor.proofs.UnusedSeats.{fresh_unused}
use Rattle.eve_floor.proofs.shared.share.Goals as goal

pub returns-clause-free : goal.returns-clause-free
returns-clause-free c = record {
  free = search rules;
  unused = fresh_unused (record { noters = c.in-Ok.noters; claims = c.in_ok-claims.own }) c.in-Ok.recorder.recorder
      c.in_ok-claims.claims c.in-Ok.ensures.seats c.in_ok-claims.ensures.fresh
      (c.in_ok-claims.ensures.seats ∙ sym c.in-Ok.ensures.workers);
}
