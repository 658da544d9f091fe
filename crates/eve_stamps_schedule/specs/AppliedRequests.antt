-- Stripes that a request is applied to. docs/DEPLOYMENT.md, "Schedule".
use Rattle.std.specs.Prelude.{◌≡◌, ℕ, ◌<◌, ◌*◌, ◌==◌, nat_lt, Bool, ◌&&◌, if◌then◌else◌, List, Some}
use Rattle.eve_smallbank.specs.Chain.{Table}
use Rattle.eve_grammar.specs.declared.limits.TheConstants.{MOST_VERSIONS}
use Rattle.eve_stamps.specs.Stripes.{Stripe, has_row}
use Rattle.eve_stamps.specs.declared.limits.TheConstants.{STRIPES}
use Rattle.eve_stamps.specs.OpeningRows.{stripe_of}
use Rattle.eve_stamps_schedule.specs.Schedule.{stripe_at}

-- each stripe has the rows of its customers, of this number of customers
abbrev pub HaveTheirRows : ℕ → List Stripe → Type 0
HaveTheirRows customers stripes =
    (i row : ℕ) → i < STRIPES → has_row (stripe_at stripes i) row
    ≡ ((stripe_of row == i) && nat_lt row (2 * customers))

-- no row is at the greatest version
abbrev pub AreFresh : Table → Type 0
AreFresh table = (row : ℕ) → (table row).version < MOST_VERSIONS

-- it has the committed rows that it had, and where it was changed the tick is its greatest
pub record IsKeptAt (tick : ℕ) (is_changed : Bool) (old new : Stripe) : Type 0 where
  pub base : new.base ≡ old.base
  pub greatest : new.greatest ≡ (if is_changed then Some tick else old.greatest)
