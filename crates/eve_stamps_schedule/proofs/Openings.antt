-- A schedule at first.
use Rattle.std.proofs.Common.{◌≡◌, ℕ, ℤ, pos, zero, suc, ◌+◌, ◌*◌, ◌<◌, ◌/◌, Bool, true, false, nat_lt, ◌&&◌, ◌||◌}
use Rattle.std.proofs.Common.{◌==◌, cond, List, [], ◌∷◌, map, flat_map, filter, length, replicate, Option, None, refl}
use Rattle.std.proofs.Common.{sym, subst, ap, ap₂, ◌∙◌, inl, inr, arith}
use mathlib.Core.Path.{fun_ext}
use Rattle.std.specs.List.{range_with_len, AllByRecursion}
use Rattle.std.proofs.lemmas.Bool.{cases_Bool, cases_lt, cases_eq, and_right, eqb-true, eq-eqb, ne_eqb, lt-ltb, le-ltb}
use Rattle.std.proofs.lemmas.List.{get_or_past, length-replicate}
use Rattle.std.proofs.lemmas.List.Folds.{list_any-append}
use Rattle.std.proofs.lemmas.List.FromFn.{get_or-map-range_with_len, length-map-range_with_len}
use Rattle.eve_smallbank.specs.Access.{balance_of_row}
use Rattle.eve_smallbank.specs.SmallBank.{Request}
use Rattle.eve_smallbank.specs.Chain.{Table}
use Rattle.eve_smallbank.specs.declared.versioned.Versioned.{Versioned}
use Rattle.eve_stamps.specs.Applied.{Applied}
use Rattle.eve_stamps.specs.Stripes.{HeldRow, Stripe, lies_in, table_in, has_row, committed, rows_now, is_above}
use Rattle.eve_stamps.specs.declared.limits.TheConstants.{STRIPES}
use Rattle.eve_stamps.specs.OpeningRows.{stripe_of, stripe_of_customer, rows_of_customer, rows_of_stripe}
use Rattle.eve_stamps.proofs.OpeningLaws.{opening_rows_more}
use Rattle.eve_stamps_schedule.specs.declared.stage.Stage.{Stage}
use Rattle.eve_stamps_schedule.specs.declared.stage.Stage.TheVariants as at
use Rattle.eve_stamps_schedule.specs.World.{first_world, noted_count}
use Rattle.eve_stamps_schedule.specs.Serial.{IsReachedWorld}
use Rattle.eve_stamps_schedule.specs.Schedule.{Schedule, stripe_at, table_of_stripes, base_of, plan_of, world_of}
use Rattle.eve_stamps_schedule.specs.AppliedRequests.{HaveTheirRows}
use Rattle.eve_stamps_schedule.specs.Scheduled.{IsHeldSchedule}
use Rattle.eve_stamps_schedule.proofs.Places.{all_alike}
use Rattle.eve_stamps_schedule.proofs.CommonStripes.{stripe_below}
use Rattle.eve_stamps_schedule.proofs.ReachedWorlds.{nothing_noted}
use Rattle.eve_stamps_schedule.proofs.EventSteps.{reached_first}
use Rattle.eve_stamps_schedule.proofs.ScheduleSteps.{idle_not_ticked}

-- ---- the rows of a stripe

of_customer : (balances : List ℤ) (c : Bool) (n row : ℕ) → lies_in (cond c (rows_of_customer balances n) []) row
    ≡ (c && ((2 * n == row) || (2 * n + 1 == row)))
of_customer balances true n row = by (2 * n == row) (2 * n + 1 == row)
  where
    by : (a b : Bool) → (a || (b || false)) ≡ (a || b)
    by true b = refl
    by false true = refl
    by false false = refl
of_customer balances false n row = refl

both_rows : (n row i : ℕ) (q : Bool) → row / 2 ≡ n → q ≡ (stripe_of_customer n == i)
    → (2 * n == row || 2 * n + 1 == row) ≡ true
both_rows n row i q half is = elim (cases_eq (2 * n) row) [
  | inl even ↦ ap (λ b. b || (2 * n + 1 == row)) (eq-eqb (2 * n) row even)
  | inr not ↦ ap₂ (λ a b. a || b) (ne_eqb (2 * n) row not) (eq-eqb (2 * n + 1) row (omega arith))
]

pub lies_opening : (balances : List ℤ) (i n row : ℕ) → lies_in (rows_of_stripe balances i n) row
    ≡ ((stripe_of row == i) && nat_lt row (2 * n))
lies_opening balances i zero row =
    sym (and_right (stripe_of row == i) (nat_lt row (2 * 0)) (le-ltb row (2 * 0) (omega arith)))
lies_opening balances i (suc n) row =
    ap (λ rs. lies_in rs row) (opening_rows_more balances i n)
    ∙ list_any-append (λ (r : HeldRow). r.row == row) (rows_of_stripe balances i n)
    (cond (stripe_of_customer n == i) (rows_of_customer balances n) [])
    ∙ ap₂ (λ a b. a || b) (lies_opening balances i n row) (of_customer balances (stripe_of_customer n == i) n row)
    ∙ elim (cases_lt row (2 * n)) [
      | inl low ↦
          ap₂ (λ a b. ((stripe_of row == i) && a) || ((stripe_of_customer n == i) && b)) (lt-ltb row (2 * n) low)
          (ap₂ (λ a b. a || b) (ne_eqb (2 * n) row (λ e. omega arith)) (ne_eqb (2 * n + 1) row (λ e. omega arith)))
          ∙ neither (stripe_of row == i) (stripe_of_customer n == i)
          ∙ sym (ap (λ a. (stripe_of row == i) && a) (lt-ltb row (2 * suc n) (omega arith)))
      | inr high ↦ elim (cases_lt row (2 * suc n)) [
        | inl here ↦
            let half : row / 2 ≡ n = omega arith in
            ap₂ (λ a b. ((stripe_of row == i) && a) || ((stripe_of_customer n == i) && b)) (le-ltb row (2 * n) high)
            (both_rows n row i (stripe_of_customer n == i) half refl)
            ∙ ap (λ k. ((stripe_of row == i) && false) || ((stripe_of_customer k == i) && true)) (sym half)
            ∙ one (stripe_of row == i)
            ∙ sym (ap (λ a. (stripe_of row == i) && a) (lt-ltb row (2 * suc n) here))
        | inr above ↦
            ap₂ (λ a b. ((stripe_of row == i) && a) || ((stripe_of_customer n == i) && b)) (le-ltb row (2 * n) high)
            (ap₂ (λ a b. a || b) (ne_eqb (2 * n) row (λ e. omega arith)) (ne_eqb (2 * n + 1) row (λ e. omega arith)))
            ∙ none (stripe_of row == i) (stripe_of_customer n == i)
            ∙ sym (ap (λ a. (stripe_of row == i) && a) (le-ltb row (2 * suc n) above))
      ]
    ]
  where
    neither : (a b : Bool) → ((a && true) || (b && false)) ≡ (a && true)
    neither true true = refl
    neither true false = refl
    neither false true = refl
    neither false false = refl

    one : (a : Bool) → ((a && false) || (a && true)) ≡ (a && true)
    one true = refl
    one false = refl

    none : (a b : Bool) → ((a && false) || (b && false)) ≡ (a && false)
    none true true = refl
    none true false = refl
    none false true = refl
    none false false = refl

-- what a row has at first
abbrev opening_at : List ℤ → ℕ → Versioned
opening_at balances row = record { version = 0; value = balance_of_row balances row }

-- each at version 0, with its balance
abbrev AreOpening : List ℤ → List HeldRow → Type 0
AreOpening balances rows = AllByRecursion (λ r. (r.version ≡ 0) × (r.value ≡ balance_of_row balances r.row)) rows

all_opening : (balances : List ℤ) (customers : List ℕ)
    → AreOpening balances (flat_map (rows_of_customer balances) customers)
all_opening balances [] = tt
all_opening balances (c ∷ customers) = ((refl, refl), ((refl, refl), all_opening balances customers))

table_opening : (balances : List ℤ) (rows : List HeldRow) (row : ℕ) → AreOpening balances rows
    → table_in rows row ≡ cond (lies_in rows row) (opening_at balances row) (record { version = 0; value = pos 0 })
table_opening balances [] row are = refl
table_opening balances (r ∷ rows) row are =
    elim (cases_Bool (r.row == row)) [
      | inl here ↦
          let first : ◌≡◌ {A = Versioned} (record { version = r.version; value = r.value }) (opening_at balances row) =
          (λ k. record {
            version = are.0.0 k;
            value = (are.0.1 ∙ ap (balance_of_row balances) (eqb-true r.row row here))
                k;
          }) in
          ap (λ b. cond b (record { version = r.version; value = r.value }) (table_in rows row)) here ∙ first
          ∙ ap (λ b. cond (b || lies_in rows row) (opening_at balances row) (record { version = 0; value = pos 0 }))
          (sym here)
      | inr other ↦
          ap (λ b. cond b (record { version = r.version; value = r.value }) (table_in rows row)) other
          ∙ table_opening balances rows row are.1
          ∙ ap (λ b. cond (b || lies_in rows row) (opening_at balances row) (record { version = 0; value = pos 0 }))
          (sym other)
    ]

-- ---- all stripes

abbrev pub opening_stripe : List ℤ → ℕ → ℕ → Stripe
opening_stripe balances customers i = record {
  base = rows_of_stripe balances i customers;
  journal = [];
  greatest = None;
}

abbrev pub opening_stripes : List ℤ → ℕ → List Stripe
opening_stripes balances customers = map (opening_stripe balances customers) (range_with_len 0 STRIPES)

at_first : (balances : List ℤ) (customers i : ℕ) → i < STRIPES → stripe_at (opening_stripes balances customers) i
    ≡ opening_stripe balances customers i
at_first balances customers i small =
    get_or-map-range_with_len (opening_stripe balances customers) 0 STRIPES i i
    (record { base = []; journal = []; greatest = None }) small (omega arith)

pub opening_have : (balances : List ℤ) (customers : ℕ) → HaveTheirRows customers (opening_stripes balances customers)
opening_have balances customers i row small =
    ap (λ (s : Stripe). has_row s row) (at_first balances customers i small) ∙ lies_opening balances i customers row

pub opening_base : (balances : List ℤ) (customers : ℕ) → length balances ≡ 2 * customers
    → base_of (opening_stripes balances customers) ≡ opening_at balances
opening_base balances customers long =
    fun_ext (λ row.
    let i : ℕ = stripe_of row in
    ap (λ (s : Stripe). committed s row) (at_first balances customers i (stripe_below row))
    ∙ table_opening balances (rows_of_stripe balances i customers) row
    (all_opening balances (filter (λ c. stripe_of_customer c == i) (range_with_len 0 customers)))
    ∙ ap (λ b. cond b (opening_at balances row) (record { version = 0; value = pos 0 }))
    (lies_opening balances i customers row ∙ ap (λ b. b && nat_lt row (2 * customers)) (eq-eqb i i refl))
    ∙ elim (cases_lt row (2 * customers)) [
      | inl there ↦ ap (λ b. cond b (opening_at balances row) (record { version = 0; value = pos 0 }))
          (lt-ltb row (2 * customers) there)
      | inr past ↦
          let none : balance_of_row balances row ≡ pos 0 = get_or_past balances row (pos 0) (omega arith) in
          ap (λ b. cond b (opening_at balances row) (record { version = 0; value = pos 0 }))
          (le-ltb row (2 * customers) past)
          ∙ sym (ap (λ (z : ℤ). record { version = 0; value = z }) none)
    ])

opening_table : (balances : List ℤ) (customers : ℕ) → table_of_stripes (opening_stripes balances customers)
    ≡ base_of (opening_stripes balances customers)
opening_table balances customers =
    fun_ext (λ row.
    let same = at_first balances customers (stripe_of row) (stripe_below row) in
    ap (λ (s : Stripe). rows_now s row) same ∙ sym (ap (λ (s : Stripe). committed s row) same))

-- ---- the schedule

abbrev pub opening_schedule : List (List ℕ) → List ℤ → List ℕ → List Request → ℕ → Schedule
opening_schedule names balances sizes requests workers = record {
  names = names;
  sizes = sizes;
  requests = requests;
  stripes = opening_stripes balances (length names);
  owners = replicate STRIPES None;
  claimed = 0;
  counter = 0;
  stages = replicate workers at.Idle;
  noted = replicate workers [];
  applied = [];
}

pub opening_plan_is : (names : List (List ℕ)) (balances : List ℤ) (sizes : List ℕ) (requests : List Request)
    (workers : ℕ) → length balances ≡ 2 * length names
    → plan_of (opening_schedule names balances sizes requests workers)
    ≡ record {
      names = names;
      base = λ row. record { version = 0; value = balance_of_row balances row };
      sizes = sizes;
      requests = requests;
      workers = workers;
    }
opening_plan_is names balances sizes requests workers long =
    let base = opening_base balances (length names) long in
    let count : length (replicate workers at.Idle) ≡ workers = length-replicate workers at.Idle in
    (λ k. record { names = names; base = base k; sizes = sizes; requests = requests; workers = count k })

pub opening_world : (names : List (List ℕ)) (balances : List ℤ) (sizes : List ℕ) (requests : List Request) (workers : ℕ)
    → world_of (opening_schedule names balances sizes requests workers)
    ≡ first_world (plan_of (opening_schedule names balances sizes requests workers))
opening_world names balances sizes requests workers =
    let none : List Applied = [] in
    let table = opening_table balances (length names) in
    let owners = all_alike {A = Option ℕ} STRIPES None in
    let stages = all_alike workers at.Idle in
    let noted = all_alike workers none in
    (λ k. record {
      table = table k;
      owners = owners k;
      claimed = 0;
      counter = 0;
      stages = stages k;
      noted = noted k;
      applied = none;
    })

pub opening_held : (names : List (List ℕ)) (balances : List ℤ) (sizes : List ℕ) (requests : List Request) (workers : ℕ)
    → length balances ≡ 2 * length names → length requests < 65536
    → IsHeldSchedule (opening_schedule names balances sizes requests workers) 0
opening_held names balances sizes requests workers long few =
    let s : Schedule = opening_schedule names balances sizes requests workers in
    let none : List Applied = [] in
    record {
      few = few;
      stripes = length-map-range_with_len (opening_stripe balances (length names)) 0 STRIPES;
      owners = length-replicate {A = Option ℕ} STRIPES None;
      noted = length-replicate workers none ∙ sym (length-replicate workers at.Idle);
      counted = sym (ap (λ (f : ℕ → List Applied). noted_count f (length s.stages)) (all_alike workers none)
          ∙ nothing_noted (length s.stages));
      from_opening = λ row. ap (λ (t : Table). (t row).version) (opening_base balances (length names) long);
      reached = subst (IsReachedWorld (plan_of s)) (sym (opening_world names balances sizes requests workers))
          (reached_first (plan_of s));
      rows = opening_have balances (length names);
      timely = λ i small. record {
        counter = ap (λ (r : Stripe). is_above 0 r.greatest) (at_first balances (length names) i small);
        owned = λ v index tick stage own. absurd
            (idle_not_ticked index tick (sym (ap (λ (f : ℕ → Stage). f v) (all_alike workers at.Idle)) ∙ stage));
      };
    }
