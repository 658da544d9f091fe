use Rattle.std.proofs.Common.{◌≡◌, All, IfSome}
use Rattle.eve_test_basics.proofs.stamps.recording.parties_of.Given as goal

abbrev pub invariant-loop-w : goal.invariant-loop-w
invariant-loop-w l = All (λ p. IfSome p.worker (λ s. s.recorder ≡ l.initial.seats.recorder)) l.parties.items
    × All (λ p. IfSome p.taker (λ s. s.recorder ≡ l.initial.seats.recorder)) l.parties.items
    × (l.seats.recorder ≡ l.initial.seats.recorder)
