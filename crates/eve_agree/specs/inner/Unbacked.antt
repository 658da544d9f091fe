-- The commits, rollbacks and transfers that no majority voted for, section by section. docs/MODEL.md, "Majority".
use Rattle.std.specs.Prelude.{◌≡◌, ℕ, ◌+◌, ◌^◌, ◌<◌, ◌≤◌, ⊤, Some}
use Rattle.eve_grammar.specs.Trace.{Step, Attempts, Commits, RollsBack, Transfers, Trace}
use Rattle.eve_grammar.specs.Spelling.{steps_at}
use Rattle.eve_views.specs.declared.fault.Code.{Code}
use Rattle.eve_views.specs.declared.fault.Code.TheVariants as code
use Rattle.eve_views.specs.declared.fault.Fault.{Fault}
use Rattle.eve_views.specs.Form.{IsUpTo, SomePlace}
use Rattle.eve_agree.specs.Majority.{IsBacked}

-- a rollback's next number has room in 32 bits, and it has a view before its own
abbrev pub HasRoom : Step → Type 0
HasRoom (RollsBack r) = (r.to + 1 < 2 ^ 32) × (1 ≤ r.view)
HasRoom _ = ⊤

-- what is wrong with a step where no majority voted for it
abbrev pub lacks : Step → Code → Type 0
lacks (Attempts a) c = ⊥
lacks (Commits d) c = c ≡ code.NoMajority
lacks (RollsBack r) c = c ≡ code.RollbackNoMajority
lacks (Transfers x) c = c ≡ code.TransferNoMajority

-- the fault is that no majority voted for this step of replica e
pub record IsUnbacked (t : Trace) (e : ℕ) (step : ℕ × Step) (f : Fault) : Type 0 where
  pub unbacked : ¬ IsBacked t step.1
  pub lacking : lacks step.1 f.code
  pub offset : step.0 ≡ f.offset
  pub inside : f.replica ≡ Some e

-- the fault is at some step of replica e
abbrev pub IsUnbackedIn : Trace → ℕ → Fault → Type 0
IsUnbackedIn t e f = SomePlace (steps_at t e) (λ _ step. IsUnbacked t e step f)

-- it is the first in replica e's section
pub record IsFirstUnbackedIn (t : Trace) (e : ℕ) (f : Fault) : Type 0 where
  pub is : IsUnbackedIn t e f
  pub first : (g : Fault) → IsUnbackedIn t e g → IsUpTo f g
