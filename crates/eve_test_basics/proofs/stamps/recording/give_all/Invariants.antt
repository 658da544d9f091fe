use Rattle.std.proofs.Common.{◌≡◌, All, IfSome, vec_len}
use Rattle.eve_test_basics.proofs.stamps.recording.give_all.Given as goal

abbrev pub invariant-loop-party : goal.invariant-loop-party
invariant-loop-party l = All (λ p. IfSome p.worker (λ s. s.recorder ≡ l.initial.seats.recorder)) l.parties.items
    × All (λ p. IfSome p.taker (λ s. s.recorder ≡ l.initial.seats.recorder)) l.parties.items
    × (l.seats.recorder ≡ l.initial.seats.recorder)

abbrev pub decreases-loop-party : goal.decreases-loop-party
decreases-loop-party l = vec_len l.parties
