-- How a section goes window by window. docs/DEPLOYMENT.md, "A run".
use Rattle.std.specs.Prelude.{◌≡◌, ℕ, ◌+◌, ◌-◌, ◌<◌, ◌==◌, min, if◌then◌else◌, List, [], ◌∷◌, ◌++◌}
use Rattle.eve_grammar.specs.Trace.{Step, Attempts, Commits, RollsBack, Transfers}

-- How far a section is in a window: the numbers of batches that aren't reached, of attempts of the window that are
-- still due, and of batches of the window that were attempted and aren't decided.
pub record WindowState : Type 0 where
  pub left : ℕ
  pub due : ℕ
  pub opened : ℕ

-- The state at first, after a batch is reached, and after a rollback, by the numbers of batches that are left and that
-- are open. Where none is open a window begins: an attempt is due for each batch that is left, but for no more than a
-- window has. Where some are open no more are due.
abbrev pub window_with : (window left opened : ℕ) → WindowState
window_with window left opened =
    record { left = left; due = if opened == 0 then min window left else 0; opened = opened }

-- From this state on the steps go window by window: all attempts of a window are made, and then its batches are reached
-- one after another, or what is left of them is rolled back together. The next window begins where none is open any
-- more. The steps end where no attempt is due: after the last attempt of a window, or later.
abbrev pub GoByWindows : (window : ℕ) → WindowState → List Step → Type 0
GoByWindows window at [] = at.due ≡ 0
GoByWindows window at (Attempts a ∷ steps) =
    (0 < at.due) × GoByWindows window (record at { due = at.due - 1; opened = at.opened + 1 }) steps
GoByWindows window at (Commits c ∷ steps) =
    (at.due ≡ 0) × GoByWindows window (window_with window (at.left - 1) (at.opened - 1)) steps
GoByWindows window at (RollsBack r ∷ steps) = (at.due ≡ 0) × GoByWindows window (window_with window at.left 0) steps
GoByWindows window at (Transfers x ∷ steps) =
    (at.due ≡ 0) × GoByWindows window (window_with window (at.left - 1) (at.opened - 1)) steps

-- These steps have come to this state of a window: whatever goes on window by window from there does so after them from
-- the first on.
abbrev pub ComesTo : (window batches : ℕ) → List Step → WindowState → Type 0
ComesTo window batches steps at =
    (rest : List Step) → GoByWindows window at rest → GoByWindows window (window_with window batches 0) (steps ++ rest)
