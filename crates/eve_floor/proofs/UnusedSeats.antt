-- Seats that no worker has used.
use Rattle.std.proofs.Common.{◌≡◌, ◌≢◌, ℕ, zero, suc, ◌+◌, ◌<◌, ◌≤◌, Bool, true, false, if◌then◌else◌, nat_lt, arith}
use Rattle.std.proofs.Common.{List, [], ◌∷◌, ◌++◌, length, get_or, set, Option, Some, None, refl, sym, ap, ◌∙◌, subst}
use Rattle.std.proofs.lemmas.List.{length-append}
use Rattle.eve_recorder.specs.RecorderViews.{Noter, Places, RecorderId, fresh_noter, fresh_places}
use Rattle.eve_recorder.specs.SeatTables.{table_by}
use Rattle.eve_recorder.specs.TicketViews.{Drawer, Drawers, TicketSource, fresh_seat, fresh_seats}
use Rattle.eve_floor.specs.declared.shared.FreeSeats.{FreeSeats}
use Rattle.eve_floor.specs.SharedBatches.{AreUnused}

-- what lies at one of eight places is what that place asks for
table_at : {A : Type 0} (f : ℕ → Option A) (w : ℕ) (x : A) → get_or (table_by f) w None ≡ Some x
    → (f w ≡ Some x) × (w < 8)
table_at f zero x e = (e, omega arith)
table_at f (suc zero) x e = (e, omega arith)
table_at f (suc (suc zero)) x e = (e, omega arith)
table_at f (suc (suc (suc zero))) x e = (e, omega arith)
table_at f (suc (suc (suc (suc zero)))) x e = (e, omega arith)
table_at f (suc (suc (suc (suc (suc zero))))) x e = (e, omega arith)
table_at f (suc (suc (suc (suc (suc (suc zero)))))) x e = (e, omega arith)
table_at f (suc (suc (suc (suc (suc (suc (suc zero))))))) x e = (e, omega arith)
table_at f (suc (suc (suc (suc (suc (suc (suc (suc k)))))))) x e = absurd (let h : None ≡ Some x = e in cc)

table_has : {A : Type 0} (f : ℕ → Option A) (w : ℕ) → w < 8 → get_or (table_by f) w None ≡ f w
table_has f zero there = refl
table_has f (suc zero) there = refl
table_has f (suc (suc zero)) there = refl
table_has f (suc (suc (suc zero))) there = refl
table_has f (suc (suc (suc (suc zero)))) there = refl
table_has f (suc (suc (suc (suc (suc zero))))) there = refl
table_has f (suc (suc (suc (suc (suc (suc zero)))))) there = refl
table_has f (suc (suc (suc (suc (suc (suc (suc zero))))))) there = refl
table_has f (suc (suc (suc (suc (suc (suc (suc (suc k)))))))) there = let no : ⊥ = omega arith in absurd no

-- of two that are there together, where one is
both_there : {A B : Type 0} (b : Bool) (x c : A) (y : B) → (if b then Some x else None) ≡ Some c
    → (x ≡ c) × ((if b then Some y else None) ≡ Some y)
both_there true x c y e = (cc, refl)
both_there false x c y e = absurd (let h : None ≡ Some c = e in cc)

-- all seats of a recorder and of tickets, of as many workers
pub fresh_unused : (s : FreeSeats) (recorder : RecorderId) (tickets : TicketSource)
    → s.noters ≡ fresh_places recorder → s.claims ≡ fresh_seats tickets → tickets.seats ≡ recorder.workers
    → AreUnused s
fresh_unused s recorder tickets noters claims many w c is =
    let at = table_at (fresh_seat tickets) w c
    (ap (λ (d : Drawers). get_or d.places w None) (sym claims) ∙ is) in
    let own : Noter = record { recorder = recorder; worker = w; noted = [] } in
    let both = both_there (nat_lt w tickets.seats) (record { tickets = tickets; number = w; drawn = [] }) c own at.0 in
    let At : ℕ → Type 0 = λ n. (let o : Option Noter = if nat_lt w n then Some own else None in o ≡ Some own) in
    let noter : fresh_noter recorder w ≡ Some own = subst (λ (n : ℕ). At n) many both.1 in
    let is_of : s.noters.recorder ≡ recorder = ap (λ (p : Places). p.recorder) noters in (
      ap (λ (d : Drawer). d.drawn) (sym both.0),
      ap (λ (p : Places). get_or p.seats w None) noters ∙ table_has (fresh_noter recorder) w at.1 ∙ noter
          ∙ ap (λ (r : RecorderId). Some (record { recorder = r; worker = w; noted = [] })) (sym is_of),
    )

-- nothing lies where a seat was taken out
taken_out : {A : Type 0} (places : List (Option A)) (w : ℕ) (x : A) → get_or (set places w None) w None ≢ Some x
taken_out [] w x e = let h : None ≡ Some x = e in cc
taken_out (o ∷ places) zero x e = let h : None ≡ Some x = e in cc
taken_out (o ∷ places) (suc w) x e = taken_out places w x e

-- one more number drawn on a seat that had not drawn its limit
pub drawn_more : (old new : Drawer) (n limit : ℕ) → new ≡ record old { drawn = old.drawn ++ n ∷ [] }
    → length old.drawn ≤ limit → length old.drawn ≢ limit
    → (length new.drawn ≤ limit) × (length old.drawn < length new.drawn)
drawn_more old new n limit is most left =
    let more = length-append old.drawn (n ∷ []) in
    let long : length new.drawn ≡ length old.drawn + 1 =
    ap (λ (d : Drawer). length d.drawn) is ∙ (omega (arith, more)) in
    let less : length old.drawn < limit = omega (arith, most, left) in
    (omega (arith, long, less), omega (arith, long))
