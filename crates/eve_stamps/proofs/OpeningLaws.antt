-- Public: other crates cite these lemmas. The opening rows of a stripe: one customer more, and what `Stripe::new`
-- requires of them.
use Rattle.std.proofs.Common.{◌≡◌, ◌≢◌, ℕ, ℤ, zero, suc, ◌+◌, ◌*◌, ◌<◌, ◌≤◌, Bool, true, false, ◌==◌, cond, List, []}
use Rattle.std.proofs.Common.{◌∷◌, ◌++◌, filter, flat_map, refl, ap, ◌∙◌, arith}
use Rattle.std.specs.List.{range_with_len, AllByRecursion}
use Rattle.std.proofs.lemmas.List.{append-nil}
use Rattle.std.proofs.lemmas.Bool.{eq-eqb, ne_eqb}
use Rattle.std.proofs.lemmas.List.Elements.{filter-append}
use Rattle.std.proofs.lemmas.Grind.{flat_map-append}
use Rattle.eve_stamps.specs.Stripes.{HeldRow, RowsRise, AreWithinLimit}
use Rattle.eve_stamps.specs.OpeningRows.{stripe_of_customer, rows_of_customer, rows_of_stripe}

-- ---- one customer more

pub range_more : (a n : ℕ) → range_with_len a (suc n) ≡ range_with_len a n ++ (a + n) ∷ []
range_more a zero = let e : a ≡ a + 0 = omega arith in ap (λ x. x ∷ []) e
range_more a (suc n) =
    let e : a + 1 + n ≡ a + suc n = omega arith in
    ap (λ l. a ∷ l) (range_more (a + 1) n ∙ ap (λ x. range_with_len (a + 1) n ++ x ∷ []) e)

-- the rows of the customers that pass the test
abbrev rows_of_each : List ℤ → (ℕ → Bool) → List ℕ → List HeldRow
rows_of_each balances p customers = flat_map (rows_of_customer balances) (filter p customers)

one : (balances : List ℤ) (c : ℕ) (b : Bool)
    → flat_map (rows_of_customer balances) (cond b (c ∷ []) []) ≡ cond b (rows_of_customer balances c) []
one balances c true = refl
one balances c false = refl

pub opening_rows_more : (balances : List ℤ) (stripe n : ℕ) → rows_of_stripe balances stripe (suc n)
    ≡ rows_of_stripe balances stripe n ++ cond (stripe_of_customer n == stripe) (rows_of_customer balances n) []
opening_rows_more balances stripe n =
    let p : ℕ → Bool = λ c. stripe_of_customer c == stripe in
    let first : 0 + n ≡ n = omega arith in
    ap (rows_of_each balances p) (range_more 0 n ∙ ap (λ x. range_with_len 0 n ++ x ∷ []) first)
    ∙ ap (flat_map (rows_of_customer balances)) (filter-append p (range_with_len 0 n) (n ∷ []))
    ∙ flat_map-append (rows_of_customer balances) (filter p (range_with_len 0 n)) (cond (p n) (n ∷ []) [])
    ∙ ap (λ l. rows_of_stripe balances stripe n ++ l) (one balances n (p n))

-- a customer of the stripe
pub opening_rows_with : (balances : List ℤ) (stripe n : ℕ) → stripe_of_customer n ≡ stripe →
    rows_of_stripe balances stripe (n + 1) ≡ rows_of_stripe balances stripe n ++ rows_of_customer balances n
opening_rows_with balances stripe n is =
    let e : n + 1 ≡ suc n = omega arith in
    ap (rows_of_stripe balances stripe) e
    ∙ opening_rows_more balances stripe n
    ∙ ap (λ b. rows_of_stripe balances stripe n ++ cond b (rows_of_customer balances n) [])
    (eq-eqb (stripe_of_customer n) stripe is)

-- a customer of another
pub opening_rows_without : (balances : List ℤ) (stripe n : ℕ) → stripe_of_customer n ≢ stripe →
    rows_of_stripe balances stripe (n + 1) ≡ rows_of_stripe balances stripe n
opening_rows_without balances stripe n other =
    let e : n + 1 ≡ suc n = omega arith in
    ap (rows_of_stripe balances stripe) e
    ∙ opening_rows_more balances stripe n
    ∙ ap (λ b. rows_of_stripe balances stripe n ++ cond b (rows_of_customer balances n) [])
    (ne_eqb (stripe_of_customer n) stripe other)
    ∙ append-nil (rows_of_stripe balances stripe n)

-- ---- they rise

all_above : (low high : ℕ) (rows : List HeldRow) → low < high
    → AllByRecursion (λ r. high ≤ r.row) rows → AllByRecursion (λ r. low < r.row) rows
all_above low high [] lt all = tt
all_above low high (r ∷ rows) lt all = (let h = all.0 in omega arith, all_above low high rows lt all.1)

all_from : (low high : ℕ) (rows : List HeldRow) → low ≤ high
    → AllByRecursion (λ r. high ≤ r.row) rows → AllByRecursion (λ r. low ≤ r.row) rows
all_from low high [] le all = tt
all_from low high (r ∷ rows) le all = (let h = all.0 in omega arith, all_from low high rows le all.1)

-- the rows rise, from this customer's on
abbrev RiseFrom : ℕ → List HeldRow → Type 0
RiseFrom c rows = RowsRise rows × AllByRecursion (λ r. 2 * c ≤ r.row) rows

rise_with : (balances : List ℤ) (c : ℕ) (customers : List ℕ) (b : Bool)
    → RiseFrom (c + 1) (flat_map (rows_of_customer balances) customers)
    → RiseFrom c (flat_map (rows_of_customer balances) (cond b (c ∷ customers) customers))
rise_with balances c customers false h =
    let rows : List HeldRow = flat_map (rows_of_customer balances) customers in
    (h.0, all_from (2 * c) (2 * (c + 1)) rows (omega arith) h.1)
rise_with balances c customers true h =
    let rows : List HeldRow = flat_map (rows_of_customer balances) customers in (
      (
        (omega arith, all_above (2 * c) (2 * (c + 1)) rows (omega arith) h.1),
        (all_above (2 * c + 1) (2 * (c + 1)) rows (omega arith) h.1, h.0),
      ),
      (omega arith, (omega arith, all_from (2 * c) (2 * (c + 1)) rows (omega arith) h.1)),
    )

rise_from : (balances : List ℤ) (p : ℕ → Bool) (c n : ℕ) → RiseFrom c (rows_of_each balances p (range_with_len c n))
rise_from balances p c zero = (tt, tt)
rise_from balances p c (suc n) =
    rise_with balances c (filter p (range_with_len (c + 1) n)) (p c) (rise_from balances p (c + 1) n)

pub opening_rows_rise : (balances : List ℤ) (stripe n : ℕ) → RowsRise (rows_of_stripe balances stripe n)
opening_rows_rise balances stripe n = (rise_from balances (λ c. stripe_of_customer c == stripe) 0 n).0

-- ---- no version is past the limit

within_each : (balances : List ℤ) (customers : List ℕ) → AreWithinLimit (flat_map (rows_of_customer balances) customers)
within_each balances [] = tt
within_each balances (c ∷ customers) = (omega arith, (omega arith, within_each balances customers))

pub opening_rows_within : (balances : List ℤ) (stripe n : ℕ) → AreWithinLimit (rows_of_stripe balances stripe n)
opening_rows_within balances stripe n =
    within_each balances (filter (λ c. stripe_of_customer c == stripe) (range_with_len 0 n))
