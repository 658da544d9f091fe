-- A table of seats, each at its place, of which one is taken out or put back.
use Rattle.std.proofs.Common.{◌≡◌, ℕ, zero, suc, List, [], ◌∷◌, ◌++◌, append_assoc, append-nil, flat_map, get_or, set}
use Rattle.std.proofs.Common.{sym, refl, ap, ◌∙◌, subst, Option, Some, None, IfSome, ◌⊎◌, inl, inr, ⊎_elim}
use Rattle.std.specs.Prelude.{slice_get}
use Rattle.eve_recorder.specs.SeatTables.{table_by, AreSeated}

get_or-slice_get : {A : Type 0} (l : List (Option A)) (k : ℕ) (x : A) → get_or l k None ≡ Some x → slice_get l k
    ≡ Some (Some x)
get_or-slice_get [] k x e = absurd (let h : None ≡ Some x = e in cc)
get_or-slice_get (y ∷ l) zero x e = ap Some e
get_or-slice_get (y ∷ l) (suc k) x e = get_or-slice_get l k x e

-- what lies at a place is as that place asks
pub own_of : {A : Type 0} (P : ℕ → A → Type 0) (places : List (Option A)) (k : ℕ) (r : Option A) → AreSeated P places
    → r ≡ get_or places k None → IfSome r (P k)
own_of P places k None h e = tt
own_of P places k (Some x) h e = h k x (get_or-slice_get places k x (sym e))

-- what lies there after a seat was taken out lay there before
get_without : {A : Type 0} (l : List (Option A)) (w k : ℕ) (x : A) → slice_get (set l w None) k ≡ Some (Some x)
    → slice_get l k ≡ Some (Some x)
get_without [] w k x e = e
get_without (y ∷ l) zero zero x e = absurd (let h : Some None ≡ Some (Some x) = e in cc)
get_without (y ∷ l) zero (suc k) x e = e
get_without (y ∷ l) (suc w) zero x e = e
get_without (y ∷ l) (suc w) (suc k) x e = get_without l w k x e

pub seated_without : {A : Type 0} (P : ℕ → A → Type 0) (places : List (Option A)) (w : ℕ) → AreSeated P places
    → AreSeated P (set places w None)
seated_without P places w h k x e = h k x (get_without places w k x e)

-- what lies there after a seat was put in is that seat, or lay there before
get_with : {A : Type 0} (l : List (Option A)) (w k : ℕ) (y x : A) → slice_get (set l w (Some y)) k ≡ Some (Some x)
    → ((k ≡ w) × (y ≡ x)) ⊎ (slice_get l k ≡ Some (Some x))
get_with [] w k y x e = inr e
get_with (z ∷ l) zero zero y x e = inl (refl, (let f : Some (Some y) ≡ Some (Some x) = e in cc))
get_with (z ∷ l) zero (suc k) y x e = inr e
get_with (z ∷ l) (suc w) zero y x e = inr e
get_with (z ∷ l) (suc w) (suc k) y x e = ⊎_elim (λ t. inl (ap suc t.0, t.1)) (λ t. inr t) (get_with l w k y x e)

pub seated_with : {A : Type 0} (P : ℕ → A → Type 0) (places : List (Option A)) (w : ℕ) (y : A) → AreSeated P places
    → P w y → AreSeated P (set places w (Some y))
seated_with {A} P places w y h own k x e = ⊎_elim
    (λ f. subst (λ (z : ℕ × A). P z.0 z.1) (λ i. (sym f.0 i, f.1 i)) own)
    (λ f. h k x f) (get_with places w k y x e)

-- eight places, each with what it asks for
pub seated_by : {A : Type 0} (P : ℕ → A → Type 0) (f : ℕ → Option A) → ((k : ℕ) (x : A) → f k ≡ Some x → P k x)
    → AreSeated P (table_by f)
seated_by P f own zero x e = own 0 x (let h : Some (f 0) ≡ Some (Some x) = e in cc)
seated_by P f own (suc zero) x e = own 1 x (let h : Some (f 1) ≡ Some (Some x) = e in cc)
seated_by P f own (suc (suc zero)) x e = own 2 x (let h : Some (f 2) ≡ Some (Some x) = e in cc)
seated_by P f own (suc (suc (suc zero))) x e = own 3 x (let h : Some (f 3) ≡ Some (Some x) = e in cc)
seated_by P f own (suc (suc (suc (suc zero)))) x e = own 4 x (let h : Some (f 4) ≡ Some (Some x) = e in cc)
seated_by P f own (suc (suc (suc (suc (suc zero))))) x e = own 5 x (let h : Some (f 5) ≡ Some (Some x) = e in cc)
seated_by P f own (suc (suc (suc (suc (suc (suc zero)))))) x e = own 6 x (let h : Some (f 6) ≡ Some (Some x) = e in cc)
seated_by P f own (suc (suc (suc (suc (suc (suc (suc zero))))))) x e =
    own 7 x (let h : Some (f 7) ≡ Some (Some x) = e in cc)
seated_by P f own (suc (suc (suc (suc (suc (suc (suc (suc k)))))))) x e =
    absurd (let h : None ≡ Some (Some x) = e in cc)

-- what was gathered before a seat is joined, with what lies there and after it, is what is gathered after it with the
-- rest
gathered : {S A : Type 0} (on : S → List A) (before after : List A) (s : S) (rest : List S) → after ≡ before ++ on s
    → before ++ flat_map on (s ∷ rest) ≡ after ++ flat_map on rest
gathered on before after s rest e = sym (append_assoc before (on s) (flat_map on rest))
    ∙ ap (λ l. l ++ flat_map on rest) (sym e)

-- what eight joins one after another gather
pub all_gathered : {S A : Type 0} (on : S → List A) (m0 m1 m2 m3 m4 m5 m6 m7 m8 : List A) (s0 s1 s2 s3 s4 s5 s6 s7 : S)
    → m0 ≡ []
    → m1 ≡ m0 ++ on s0 → m2 ≡ m1 ++ on s1 → m3 ≡ m2 ++ on s2 → m4 ≡ m3 ++ on s3 → m5 ≡ m4 ++ on s4 → m6 ≡ m5 ++ on s5
    → m7 ≡ m6 ++ on s6 → m8 ≡ m7 ++ on s7
    → flat_map on (s0 ∷ s1 ∷ s2 ∷ s3 ∷ s4 ∷ s5 ∷ s6 ∷ s7 ∷ []) ≡ m8
all_gathered on m0 m1 m2 m3 m4 m5 m6 m7 m8 s0 s1 s2 s3 s4 s5 s6 s7 none e0 e1 e2 e3 e4 e5 e6 e7 =
    let r6 = s7 ∷ [] in let r5 = s6 ∷ r6 in let r4 = s5 ∷ r5 in let r3 = s4 ∷ r4 in let r2 = s3 ∷ r3 in let r1 =
    s2 ∷ r2 in let r0 = s1 ∷ r1 in
    ap (λ l. l ++ flat_map on (s0 ∷ r0)) (sym none) ∙ gathered on m0 m1 s0 r0 e0 ∙ gathered on m1 m2 s1 r1 e1
    ∙ gathered on m2 m3 s2 r2 e2 ∙ gathered on m3 m4 s3 r3 e3
    ∙ gathered on m4 m5 s4 r4 e4 ∙ gathered on m5 m6 s5 r5 e5 ∙ gathered on m6 m7 s6 r6 e6 ∙ gathered on m7 m8 s7 [] e7
    ∙ append-nil m8
