use Rattle.std.proofs.Common.{◌≡◌, ℕ, None, Option, Some, refl, subst, ap, ◌∙◌}
use Rattle.eve_views.specs.First.{first_of}
use Rattle.eve_views.specs.declared.fault.Fault.{Fault}
use Rattle.eve_chains.specs.Along.{fault_if}
use Rattle.eve_chains.specs.inner.Gathered.{as_noted}
use Rattle.eve_chains.specs.inner.Walked.{IsMismatch}
use Rattle.eve_chains.proofs.row_walk.RowWalk.judge.Goals as goal

-- nothing more is wrong
none_more : (first : Option Fault) → first ≡ first_of first None
none_more None = refl
none_more (Some f) = refl

pub returns-in-Some-clause-first : goal.returns-in-Some-clause-first
returns-in-Some-clause-first c = (
  Some c.in-Some.code,
  subst (IsMismatch c.args.self.now.working (as_noted c.args.note.now).entry) c.in-Some.is
      c.wrong_sight.ensures,
  c.tell.ensures.first
      ∙ ap (λ (at : ℕ). first_of c.args.self.now.first (fault_if c.args.replica at (Some c.in-Some.code)))
      c.from.ensures,
)

pub returns-in_default-clause-first : goal.returns-in_default-clause-first
returns-in_default-clause-first c = (
  None,
  subst (IsMismatch c.args.self.now.working (as_noted c.args.note.now).entry) c.in_default.is
      c.wrong_sight.ensures,
  none_more c.args.self.now.first,
)
