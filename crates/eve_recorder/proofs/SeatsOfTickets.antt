-- The seats of tickets, each at its number.
use Rattle.std.proofs.Common.{◌≡◌, ℕ, ◌<◌, nat_lt, if◌then◌else◌, Bool, true, false, List, [], refl, ◌∙◌, subst, get_or}
use Rattle.std.proofs.Common.{Option, Some, None, IfSome}
use Rattle.std.proofs.lemmas.Bool.{ltb-true}
use Rattle.std.proofs.lemmas.Option.{IfSome_then}
use Rattle.eve_recorder.specs.TicketViews.{TicketSource, Drawer, IsDrawerOf, AreDrawersSeated, fresh_seat, fresh_seats}
use Rattle.eve_recorder.proofs.SeatTable.{own_of, seated_by}

fresh_by : (t : TicketSource) (k : ℕ) (x : Drawer) (b : Bool) → (b ≡ true → k < t.seats)
    → (if b then Some record { tickets = t; number = k; drawn = [] } else None) ≡ Some x → IsDrawerOf t k x
fresh_by t k x true lt e = let s : Drawer = record { tickets = t; number = k; drawn = [] } in let same : s ≡ x =
    let f : Some s ≡ Some x = e in cc in
    subst (IsDrawerOf t k) same (refl, refl, lt refl)
fresh_by t k x false lt e = absurd (let f : None ≡ Some x = e in cc)

pub fresh_seated : (t : TicketSource) → AreDrawersSeated t (fresh_seats t).places
fresh_seated t = seated_by (IsDrawerOf t) (fresh_seat t)
    (λ k x e. fresh_by t k x (nat_lt k t.seats) (ltb-true k t.seats) e)

-- what lies at a place, as the tickets themselves see it
pub own_at : (t u : TicketSource) (places : List (Option Drawer)) (k : ℕ) (r : Option Drawer) → t ≡ u
    → AreDrawersSeated t places
    → r ≡ get_or places k None
    → IfSome r (λ s. (s.tickets ≡ u) × (k < u.seats))
own_at t u places k r same h e = IfSome_then r (own_of (IsDrawerOf t) places k r h e)
    (λ s f. (f.0 ∙ same, subst (λ (v : TicketSource). k < v.seats) same f.2))
