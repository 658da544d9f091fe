use Rattle.std.proofs.Common.{subst, sym, refl, true≢false, true, IsTrue, IsSome, Option, Some, None, ◌≡◌, ◌↔◌}
use Rattle.std.specs.Option.{is_some}
use Rattle.eve_recorder.specs.RecorderViews.{Taker, Places, HasAllSeats}
use Rattle.eve_recorder.proofs.seats.Seats.whole.Goals as goal

there : (o : Option Taker) → is_some o ≡ true → IsSome o
there None e = absurd (true≢false (sym e))
there (Some x) e = refl

pub returns-then-is_some : goal.returns-then-is_some
returns-then-is_some c = let h = c.has_below.ensures in
    subst (λ (p : Places). IsTrue c.has_below.result ↔ HasAllSeats p) c.self.view_is
    ((λ t. (there c.self.inside.taker (sym (c.if-is_some.ensures)), h.0 t)), λ w. h.1 w.1)
