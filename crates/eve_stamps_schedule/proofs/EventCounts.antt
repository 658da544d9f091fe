-- Each event keeps the counts.
use Rattle.std.proofs.Common.{◌≡◌, ℕ, zero, suc, ◌+◌, ◌-◌, ◌<◌, ◌≤◌, Bool, true, ◌==◌, nat_lt, List, [], ◌∷◌, ◌++◌}
use Rattle.std.proofs.Common.{length, Option, Some, None, inl, inr, refl, sym, subst, ap, ◌∙◌, arith}
use Rattle.std.proofs.lemmas.Bool.{cases_Bool, cases_eq, cases_lt, cases_order, and_parts, eqb-true, eq-eqb, ne_eqb}
use Rattle.std.proofs.lemmas.Bool.{ltb-true, lt-ltb, le-ltb, cond-true, cond-false}
use Rattle.std.proofs.lemmas.List.{length-append}
use Rattle.eve_grammar.specs.Certificate.{group_of}
use Rattle.eve_stamps.specs.Applied.{Applied}
use Rattle.eve_stamps_schedule.specs.declared.event.Event.TheVariants.{Claim, Tick}
use Rattle.eve_stamps_schedule.specs.declared.stage.Stage.{Stage}
use Rattle.eve_stamps_schedule.specs.declared.stage.Stage.TheVariants as at
use Rattle.eve_stamps_schedule.specs.World.{Plan, World, noted_count}
use Rattle.eve_stamps_schedule.specs.Events.{changed, current_group, may_claim, with_owner, with_applied, with_noted}
use Rattle.eve_stamps_schedule.specs.Events.{placed_by_tick, then_happens}
use Rattle.eve_stamps_schedule.proofs.Changes.{counted, counted-changed}
use Rattle.eve_stamps_schedule.proofs.InsertedRecords.{count-placed_by_tick}
use Rattle.eve_stamps_schedule.proofs.WorldInvariant.{flag, held, is_busy, is_claimed, is_ticked, has_index, has_tick}
use Rattle.eve_stamps_schedule.proofs.WorldInvariant.{Counts}

-- ---- numbers

pub group_of-mono : (sizes : List ℕ) (i j : ℕ) → i ≤ j → group_of sizes i ≤ group_of sizes j
group_of-mono [] i j h = omega arith
group_of-mono (size ∷ sizes) i j h =
    elim (cases_lt i size) [
      | inl low ↦ subst (λ k. k ≤ group_of (size ∷ sizes) j)
          (sym (cond-true (nat_lt i size) 0 (suc (group_of sizes (i - size))) (lt-ltb i size low))) (omega arith)
      | inr high ↦
          let here = cond-false (nat_lt i size) 0 (suc (group_of sizes (i - size))) (le-ltb i size high) in
          let there = cond-false (nat_lt j size) 0 (suc (group_of sizes (j - size))) (le-ltb j size (omega arith)) in
          let rest : group_of sizes (i - size) ≤ group_of sizes (j - size) = group_of-mono sizes (i - size) (j - size)
          (omega arith) in
          subst (λ k. k ≤ group_of (size ∷ sizes) j) (sym here)
          (subst (λ k. suc (group_of sizes (i - size)) ≤ k) (sym there) (omega arith))
    ]

pub noted_counted : (noted : ℕ → List Applied) (n : ℕ) → noted_count noted n ≡ counted length noted n
noted_counted noted zero = refl
noted_counted noted (suc n) = ap (λ k. k + length (noted n)) (noted_counted noted n)

pub noted_more : (noted : ℕ → List Applied) (v n : ℕ) (x : Applied) → v < n
    → noted_count (changed noted v (noted v ++ x ∷ [])) n ≡ noted_count noted n + 1
noted_more noted v n x h =
    let more = counted-changed length noted v (noted v ++ x ∷ []) n h in
    let longer : length (noted v ++ x ∷ []) ≡ length (noted v) + 1 = length-append (noted v) (x ∷ []) in
    let new = noted_counted (changed noted v (noted v ++ x ∷ [])) n in
    let old = noted_counted noted n in
    omega (arith, more, longer, new, old)

flag_more : (i c : ℕ) → flag (nat_lt i (c + 1)) ≡ flag (nat_lt i c) + flag (c == i)
flag_more i c =
    elim (cases_order i c) [
      | inl e ↦
          let a = cond-true {A = ℕ} (nat_lt i (c + 1)) 1 0 (lt-ltb i (c + 1) (omega arith)) in
          let b = cond-false {A = ℕ} (nat_lt i c) 1 0 (le-ltb i c (omega arith)) in
          let d = cond-true {A = ℕ} (c == i) 1 0 (eq-eqb c i (sym e)) in
          omega (arith, a, b, d)
      | inr r ↦ elim r [
        | inl low ↦
            let a = cond-true {A = ℕ} (nat_lt i (c + 1)) 1 0 (lt-ltb i (c + 1) (omega arith)) in
            let b = cond-true {A = ℕ} (nat_lt i c) 1 0 (lt-ltb i c low) in
            let d = cond-false {A = ℕ} (c == i) 1 0 (ne_eqb c i (λ e. omega arith)) in
            omega (arith, a, b, d)
        | inr high ↦
            let a = cond-false {A = ℕ} (nat_lt i (c + 1)) 1 0 (le-ltb i (c + 1) (omega arith)) in
            let b = cond-false {A = ℕ} (nat_lt i c) 1 0 (le-ltb i c (omega arith)) in
            let d = cond-false {A = ℕ} (c == i) 1 0 (ne_eqb c i (λ e. omega arith)) in
            omega (arith, a, b, d)
      ]
    ]

length-placed_by_tick : (x : Applied) (xs : List Applied) → length (placed_by_tick x xs) ≡ length xs + 1
length-placed_by_tick x [] = refl
length-placed_by_tick x (y ∷ ys) =
    elim (cases_Bool (nat_lt x.tick y.tick)) [
      | inl t ↦ ap length (cond-true (nat_lt x.tick y.tick) (x ∷ y ∷ ys) (y ∷ placed_by_tick x ys) t) ∙ omega arith
      | inr f ↦ ap length (cond-false (nat_lt x.tick y.tick) (x ∷ y ∷ ys) (y ∷ placed_by_tick x ys) f)
          ∙ ap suc (length-placed_by_tick x ys) ∙ omega arith
    ]

-- a worker goes from one stage to another
shifted : (test : Stage → Bool) (stages : ℕ → Stage) (v n : ℕ) (old new : Stage) → v < n → stages v ≡ old
    → held test (changed stages v new) n + flag (test old) ≡ held test stages n + flag (test new)
shifted test stages v n old new h stage =
    subst (λ s. held test (changed stages v new) n + flag (test s) ≡ held test stages n + flag (test new)) stage
    (counted-changed (λ s. flag (test s)) stages v new n h)

-- so that each count moves by what the two stages say
abbrev Moves : (ℕ → Stage) → ℕ → ℕ → Stage → Stage → Type 0
Moves stages v n old new = (test : Stage → Bool)
    → held test (changed stages v new) n + flag (test old) ≡ held test stages n + flag (test new)

-- ---- events

pub counts_claim : (p : Plan) (w : World) (v : ℕ) → v < p.workers → w.stages v ≡ at.Idle → may_claim p w ≡ true
    → Counts p w → Counts p (then_happens p w (Claim v) at.Idle)
counts_claim p w v h stage may c =
    let parts = and_parts (nat_lt w.claimed (length p.requests)) (group_of p.sizes w.claimed == current_group p w) may
    in
    let move : Moves w.stages v p.workers at.Idle (at.Claimed w.claimed) =
    λ test. shifted test w.stages v p.workers at.Idle (at.Claimed w.claimed) h stage in
    let there : w.claimed < length p.requests = ltb-true w.claimed (length p.requests) parts.0 in
    record {
      indexes = λ i. omega (arith, move (has_index i), c.indexes i, flag_more i w.claimed);
      ticks = λ n. omega (arith, move (has_tick n), c.ticks n);
      claimed = omega (arith, move is_busy, c.claimed);
      ticked = omega (arith, move is_claimed, c.ticked);
      applied = omega (arith, move is_ticked, c.applied);
      within = omega (arith, there);
      current = λ i below.
          elim (cases_eq i w.claimed) [
            | inl e ↦
                let same : group_of p.sizes i ≡ current_group p w = ap (group_of p.sizes) e
                ∙ eqb-true (group_of p.sizes w.claimed) (current_group p w) parts.1 in
                omega (arith, same)
            | inr e ↦ c.current i (omega arith)
          ];
    }

pub counts_tick : (p : Plan) (w : World) (v i : ℕ) → v < p.workers → w.stages v ≡ at.Claimed i → Counts p w
    → Counts p (then_happens p w (Tick v) (at.Claimed i))
counts_tick p w v i h stage c =
    let old : Stage = at.Claimed i in
    let new : Stage = at.Ticked i w.counter in
    let move : Moves w.stages v p.workers old new = λ test. shifted test w.stages v p.workers old new h stage in
    record {
      indexes = λ j. omega (arith, move (has_index j), c.indexes j);
      ticks = λ n. omega (arith, move (has_tick n), c.ticks n, flag_more n w.counter);
      claimed = omega (arith, move is_busy, c.claimed);
      ticked = omega (arith, move is_claimed, c.ticked);
      applied = omega (arith, move is_ticked, c.applied);
      within = c.within;
      current = c.current;
    }

pub counts_apply : (p : Plan) (w : World) (v : ℕ) (x : Applied) → v < p.workers → w.stages v ≡ at.Ticked x.index x.tick
    → Counts p w → Counts p (with_applied w v x)
counts_apply p w v x h stage c =
    let old : Stage = at.Ticked x.index x.tick in
    let new : Stage = at.Applied x in
    let move : Moves w.stages v p.workers old new = λ test. shifted test w.stages v p.workers old new h stage in
    record {
      indexes = λ j. omega (arith, move (has_index j), c.indexes j, count-placed_by_tick (λ y. y.index) j x w.applied);
      ticks = λ n. omega (arith, move (has_tick n), c.ticks n, count-placed_by_tick (λ y. y.tick) n x w.applied);
      claimed = omega (arith, move is_busy, c.claimed);
      ticked = omega (arith, move is_claimed, c.ticked);
      applied = omega (arith, move is_ticked, c.applied, length-placed_by_tick x w.applied);
      within = c.within;
      current = c.current;
    }

-- one more is noted, and no earlier parallelBatch becomes current
pub current_later : (p : Plan) (w : World) (v : ℕ) (x : Applied) → v < p.workers
    → current_group p w ≤ current_group p (with_noted w v x)
current_later p w v x h =
    group_of-mono p.sizes (noted_count w.noted p.workers)
    (noted_count (changed w.noted v (w.noted v ++ x ∷ [])) p.workers)
    (omega (arith, noted_more w.noted v p.workers x h))

pub counts_note : (p : Plan) (w : World) (v : ℕ) (x : Applied) → v < p.workers → w.stages v ≡ at.Applied x → Counts p w
    → Counts p (with_noted w v x)
counts_note p w v x h stage c =
    let old : Stage = at.Applied x in
    let new : Stage = at.Idle in
    let move : Moves w.stages v p.workers old new = λ test. shifted test w.stages v p.workers old new h stage in
    record {
      indexes = λ j. omega (arith, move (has_index j), c.indexes j);
      ticks = λ n. omega (arith, move (has_tick n), c.ticks n);
      claimed = omega (arith, move is_busy, c.claimed, noted_more w.noted v p.workers x h);
      ticked = omega (arith, move is_claimed, c.ticked);
      applied = omega (arith, move is_ticked, c.applied);
      within = c.within;
      current = λ i below. omega (arith, c.current i below, current_later p w v x h);
    }

pub counts_owner : (p : Plan) (w : World) (o owner : Option ℕ) → Counts p w → Counts p (with_owner w o owner)
counts_owner p w None owner c = c
counts_owner p w (Some s) owner c = record {
  indexes = c.indexes;
  ticks = c.ticks;
  claimed = c.claimed;
  ticked = c.ticked;
  applied = c.applied;
  within = c.within;
  current = c.current;
}
