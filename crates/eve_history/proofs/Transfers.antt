-- Public: other crates cite these lemmas. The states that are transferred to a section, in the order of its steps.
use Rattle.std.proofs.Common.{◌≡◌, ℕ, zero, suc, ◌-◌, ◌+◌, ◌≤◌, List, [], ◌∷◌, ◌++◌, length, replicate, slice_get}
use Rattle.std.proofs.Common.{Some, refl, sym, ap, ◌∙◌, append_assoc, arith}
use Rattle.std.proofs.lemmas.List.{append-nil}
use Rattle.std.proofs.lemmas.Option.{same_Some}
use Rattle.eve_grammar.specs.Trace.{Attempt, Commit, Rollback, Transfer, Step, Attempts, Commits, RollsBack, Transfers}
use Rattle.eve_grammar.specs.Trace.{Trace}
use Rattle.eve_grammar.specs.Spelling.{steps_at}
use Rattle.eve_history.specs.Section.{Placed, HowReached, ByAttempt, ByTransfer, Skipped, transfers_by, SectionState}
use Rattle.eve_history.specs.Section.{start, committing, after_transfer, next, state_after}
use Rattle.eve_history.specs.SectionHistory.{section_history, history}

-- the transfers among the steps, with the offsets of their frames
abbrev pub transfers_among : List (ℕ × Step) → List (ℕ × Transfer)
transfers_among [] = []
transfers_among ((at, Attempts a) ∷ steps) = transfers_among steps
transfers_among ((at, Commits c) ∷ steps) = transfers_among steps
transfers_among ((at, RollsBack r) ∷ steps) = transfers_among steps
transfers_among ((at, Transfers x) ∷ steps) = (at, x) ∷ transfers_among steps

pub transfers_few : (steps : List (ℕ × Step)) → length (transfers_among steps) ≤ length steps
transfers_few [] = omega arith
transfers_few ((at, Attempts a) ∷ steps) = let few = transfers_few steps in omega (arith, few)
transfers_few ((at, Commits c) ∷ steps) = let few = transfers_few steps in omega (arith, few)
transfers_few ((at, RollsBack r) ∷ steps) = let few = transfers_few steps in omega (arith, few)
transfers_few ((at, Transfers x) ∷ steps) = let few = transfers_few steps in omega (arith, few)

-- ---- by numbers that were reached

-- how numbers are reached with a state: numbers are skipped, and then it is transferred
abbrev pub over : ℕ → ℕ → Transfer → List HowReached
over skipped at x = replicate skipped Skipped ++ ByTransfer at x ∷ []

transfers_by-append : (xs ys : List HowReached) → transfers_by (xs ++ ys) ≡ transfers_by xs ++ transfers_by ys
transfers_by-append [] ys = refl
transfers_by-append (ByAttempt p ∷ xs) ys = transfers_by-append xs ys
transfers_by-append (ByTransfer at x ∷ xs) ys =
    ap (λ (zs : List (ℕ × Transfer)). (at, x) ∷ zs) (transfers_by-append xs ys)
transfers_by-append (Skipped ∷ xs) ys = transfers_by-append xs ys

transfers_over : (skipped at : ℕ) (x : Transfer) → transfers_by (over skipped at x) ≡ (at, x) ∷ []
transfers_over zero at x = refl
transfers_over (suc n) at x = transfers_over n at x

pub transfers_commit : (s : SectionState) (pending : List Placed) → transfers_by (committing s pending).ways_reached
    ≡ transfers_by s.ways_reached
transfers_commit s [] = refl
transfers_commit s (p ∷ ps) = transfers_by-append s.ways_reached (ByAttempt p ∷ [])
    ∙ append-nil (transfers_by s.ways_reached)

pub transfers_transferring : (s : SectionState) (at : ℕ) (x : Transfer)
    → transfers_by (after_transfer s at x).ways_reached
    ≡ transfers_by s.ways_reached ++ (at, x) ∷ []
transfers_transferring s at x = transfers_by-append s.ways_reached (over (x.seq - (s.last + 1)) at x)
    ∙ ap (λ (zs : List (ℕ × Transfer)). transfers_by s.ways_reached ++ zs) (transfers_over (x.seq - (s.last + 1)) at x)

pub transfers_after : (s : SectionState) (steps : List (ℕ × Step)) → transfers_by (state_after s steps).ways_reached
    ≡ transfers_by s.ways_reached ++ transfers_among steps
transfers_after s [] = sym (append-nil (transfers_by s.ways_reached))
transfers_after s ((at, Attempts a) ∷ steps) = transfers_after (next s (at, Attempts a)) steps
transfers_after s ((at, Commits c) ∷ steps) = transfers_after (next s (at, Commits c)) steps
    ∙ ap (λ (zs : List (ℕ × Transfer)). zs ++ transfers_among steps) (transfers_commit s s.pending)
transfers_after s ((at, RollsBack r) ∷ steps) = transfers_after (next s (at, RollsBack r)) steps
transfers_after s ((at, Transfers x) ∷ steps) = transfers_after (next s (at, Transfers x)) steps
    ∙ ap (λ (zs : List (ℕ × Transfer)). zs ++ transfers_among steps) (transfers_transferring s at x)
    ∙ append_assoc (transfers_by s.ways_reached) ((at, x) ∷ []) (transfers_among steps)

-- the states that a section tells are those of its steps
pub transfers_of_steps : (t : Trace) (e : ℕ) → transfers_by (history t e).ways_reached ≡ transfers_among (steps_at t e)
unfolding history
transfers_of_steps t e = transfers_after start (steps_at t e)

pub transfers_told : (t : Trace) (e : ℕ) → (section_history t e).transfers ≡ transfers_by (history t e).ways_reached
unfolding section_history history
transfers_told t e = refl

-- ---- one of them

-- one of the steps
pub transfer_step : (steps : List (ℕ × Step)) (i : ℕ) (x : ℕ × Transfer) → slice_get (transfers_among steps) i ≡ Some x
    → (k : ℕ) × (slice_get steps k ≡ Some (x.0, Transfers x.1))
transfer_step [] i x e = absurd (cc)
transfer_step ((at, Transfers y) ∷ steps) zero x e =
    (0, ap (λ (z : ℕ × Transfer). Some (z.0, Transfers z.1)) (same_Some (at, y) x e))
transfer_step ((at, Transfers y) ∷ steps) (suc i) x e = let found = transfer_step steps i x e in (suc found.0, found.1)
transfer_step ((at, Attempts a) ∷ steps) i x e = let found = transfer_step steps i x e in (suc found.0, found.1)
transfer_step ((at, Commits c) ∷ steps) i x e = let found = transfer_step steps i x e in (suc found.0, found.1)
transfer_step ((at, RollsBack r) ∷ steps) i x e = let found = transfer_step steps i x e in (suc found.0, found.1)

other_step : (at : ℕ) (x : Transfer) (step : ℕ × Step) → Some step ≡ Some (at, Transfers x) → step.1 ≡ Transfers x
other_step at x step e = ap (λ (s : ℕ × Step). s.1) (same_Some step (at, Transfers x) e)

no_attempt : (a : Attempt) (x : Transfer) → Attempts a ≡ Transfers x → ⊥
no_attempt a x e = cc

no_commit : (c : Commit) (x : Transfer) → Commits c ≡ Transfers x → ⊥
no_commit c x e = cc

no_rollback : (r : Rollback) (x : Transfer) → RollsBack r ≡ Transfers x → ⊥
no_rollback r x e = cc

same_transfer : (y x : Transfer) → Transfers y ≡ Transfers x → y ≡ x
same_transfer y x e = cc

-- a step is one of them
pub step_transfer : (steps : List (ℕ × Step)) (k at : ℕ) (x : Transfer) → slice_get steps k ≡ Some (at, Transfers x)
    → (i : ℕ) × (slice_get (transfers_among steps) i ≡ Some (at, x))
step_transfer [] k at x e = absurd (cc)
step_transfer ((o, Transfers y) ∷ steps) zero at x e = (
  0,
  λ i. Some (
    ap (λ (s : ℕ × Step). s.0) (same_Some (o, Transfers y) (at, Transfers x) e) i,
    same_transfer y x (other_step at x (o, Transfers y) e) i,
  ),
)
step_transfer ((o, Attempts a) ∷ steps) zero at x e = absurd (no_attempt a x (other_step at x (o, Attempts a) e))
step_transfer ((o, Commits c) ∷ steps) zero at x e = absurd (no_commit c x (other_step at x (o, Commits c) e))
step_transfer ((o, RollsBack r) ∷ steps) zero at x e = absurd (no_rollback r x (other_step at x (o, RollsBack r) e))
step_transfer ((o, Transfers y) ∷ steps) (suc k) at x e =
    let found = step_transfer steps k at x e in (suc found.0, found.1)
step_transfer ((o, Attempts a) ∷ steps) (suc k) at x e = step_transfer steps k at x e
step_transfer ((o, Commits c) ∷ steps) (suc k) at x e = step_transfer steps k at x e
step_transfer ((o, RollsBack r) ∷ steps) (suc k) at x e = step_transfer steps k at x e

-- a number that was reached by one of them
pub transfer_how_reached : (ls : List HowReached) (i at : ℕ) (x : Transfer) → slice_get (transfers_by ls) i
    ≡ Some (at, x)
    → (n : ℕ) × (slice_get ls n ≡ Some (ByTransfer at x))
transfer_how_reached [] i at x e = absurd (cc)
transfer_how_reached (ByTransfer o y ∷ ls) zero at x e =
    (0, ap (λ (z : ℕ × Transfer). Some (ByTransfer z.0 z.1)) (same_Some (o, y) (at, x) e))
transfer_how_reached (ByTransfer o y ∷ ls) (suc i) at x e =
    let found = transfer_how_reached ls i at x e in (suc found.0, found.1)
transfer_how_reached (ByAttempt p ∷ ls) i at x e = let found = transfer_how_reached ls i at x e in
    (suc found.0, found.1)
transfer_how_reached (Skipped ∷ ls) i at x e = let found = transfer_how_reached ls i at x e in (suc found.0, found.1)
