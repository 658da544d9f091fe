-- What goes window by window, move after move.
use Rattle.std.proofs.Common.{◌≡◌, ℕ, ◌+◌, ◌-◌, ◌<◌, ◌≤◌, ◌==◌, min, Bool, true, false, if◌then◌else◌, List, [], ◌∷◌}
use Rattle.std.proofs.Common.{◌++◌, length, refl, sym, ap, subst, append_assoc, arith}
use Rattle.std.proofs.lemmas.Bool.Decides.{nat_tests}
use Rattle.eve_grammar.specs.Trace.{Batch, Step}
use Rattle.eve_replica.specs.declared.standing.Standing.{Standing}
use Rattle.eve_replica.specs.Sections.{RunPlan}
use Rattle.eve_replica.specs.Windows.{ComesTo, WindowState, GoByWindows, window_with}
use Rattle.eve_replica.specs.inner.RunInvariant.{AreWholeWindow, window_at, after_attempts, after_commit}
use Rattle.eve_replica.specs.inner.RunInvariant.{after_rollback}
use Rattle.eve_replica.specs.inner.RunInvariant.{attempt_move, commit_move, rollback_move}

-- states that are equal in their numbers
pub same_state : (left : ℕ) {due due' opened opened' : ℕ} → due ≡ due' → opened ≡ opened' → Path WindowState
    (record { left = left; due = due; opened = opened }) (record { left = left; due = due'; opened = opened' })
same_state left e f = cc

-- one step more
pub comes_more : (size batches : ℕ) (steps : List Step) (x : Step) (from to : WindowState)
    → ((rest : List Step) → GoByWindows size to rest → GoByWindows size from (x ∷ rest))
    → ComesTo size batches steps from → ComesTo size batches (steps ++ x ∷ []) to
comes_more size batches steps x from to leads comes = λ rest goes.
    subst (GoByWindows size (window_with size batches 0)) (sym (append_assoc steps (x ∷ []) rest))
    (comes (x ∷ rest) (leads rest goes))

-- where some are open none is due
none_due : (size left opened : ℕ) → 0 < opened → (window_with size left opened).due ≡ 0
none_due size left opened some =
    let open_now : (opened == 0) ≡ false = grind (arith, nat_tests) in
    ap (λ (b : Bool). if b then min size left else 0) open_now

-- where none is open all are
all_due : (size left opened : ℕ) → opened ≡ 0 → (window_with size left opened).due ≡ min size left
all_due size left opened none =
    let none_open : (opened == 0) ≡ true = grind (arith, nat_tests) in
    ap (λ (b : Bool). if b then min size left else 0) none_open

-- a whole window is attempted
pub window_attempted : (p : RunPlan) (at : Standing) (many : ℕ) (window : List Batch) → AreWholeWindow p at many
    → (attempt_move many window).InWindow p.first.window (window_at p at) (window_at p (after_attempts many at))
window_attempted p at many window are =
    let size = p.first.window in
    let left = length p.batches - at.committed in
    let before = all_due size left at.opened are.none_open in
    let after = none_due size left (at.opened + many) (omega (arith, are.some)) in
    let made : (window_with size left (at.opened + many)).due ≡ (window_at p at).due - many =
    omega (arith, before, after, are.whole) in (
      omega (arith, before, are.whole),
      same_state left made refl,
    )

-- the first open batch is committed
pub window_committed : (p : RunPlan) (at : Standing) (token : List ℕ) → 0 < at.opened
    → (commit_move token).InWindow p.first.window (window_at p at) (window_at p (after_commit at))
window_committed p at token some =
    let left = length p.batches - at.committed in
    let fewer : length p.batches - (at.committed + 1) ≡ left - 1 = omega arith in (
      none_due p.first.window left at.opened some,
      ap (λ (n : ℕ). window_with p.first.window n (at.opened - 1)) fewer,
    )

-- all that is open is rolled back
pub window_rolled_back : (p : RunPlan) (at : Standing) → 0 < at.opened
    → rollback_move.InWindow p.first.window (window_at p at) (window_at p (after_rollback at))
window_rolled_back p at some = (none_due p.first.window (length p.batches - at.committed) at.opened some, refl)

-- A section may end where some are open,
pub window_ends : (p : RunPlan) (at : Standing) → 0 < at.opened → (window_at p at).due ≡ 0
window_ends p at some = none_due p.first.window (length p.batches - at.committed) at.opened some

-- and where every batch is committed.
pub windows_end : (p : RunPlan) (at : Standing) → length p.batches ≤ at.committed → (window_at p at).due ≡ 0
windows_end p at all = nothing (at.opened == 0) (length p.batches - at.committed) (omega arith)
  where
    nothing : (b : Bool) (left : ℕ) → left ≡ 0 → (if b then min p.first.window left else 0) ≡ 0
    nothing true left none = omega arith
    nothing false left none = refl
