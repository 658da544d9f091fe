-- How a stripe is held: its rows as they are committed beside its rows as they are now.
use Rattle.std.specs.Prelude.{◌≡◌, ℕ, ◌==◌, nat_le, Bool, true, false, if◌then◌else◌, List, [], ◌∷◌, slice_get, Option}
use Rattle.std.specs.Prelude.{Some, None}
use Rattle.eve_smallbank.specs.declared.entry.Entry.{Entry}
use Rattle.eve_smallbank.specs.declared.decision.Effect.{Effect}
use Rattle.eve_smallbank.specs.Access.{is_write}
use Rattle.eve_smallbank.specs.Chain.{Table, Sees}
use Rattle.eve_grammar.specs.declared.limits.TheConstants.{MOST_VERSIONS}
use Rattle.eve_stamps.specs.declared.journal.Journaled.{Journaled}
use Rattle.eve_stamps.specs.Stripes.{HeldRow, Stripe, IsStripe, lies_in, rows_in_table, rows_now}

abbrev pub stripe_held : List HeldRow → List Journaled → Option ℕ → Stripe
stripe_held base journal greatest = record { base = base; journal = journal; greatest = greatest }

-- the rows now are those of the stripe that is held
pub record IsHeldStripe (base now : List HeldRow) (journal : List Journaled) (greatest : Option ℕ) : Type 0 where
  pub stands : IsStripe (stripe_held base journal greatest)
  pub as_now : now ≡ rows_in_table (rows_now (stripe_held base journal greatest)) base

-- where a row stands among these, if it does
abbrev pub IsPlaceOf : List HeldRow → ℕ → Option ℕ → Type 0
IsPlaceOf rows row (Some place) = (r : HeldRow) × (slice_get rows place ≡ Some r) × (r.row ≡ row)
IsPlaceOf rows row None = lies_in rows row ≡ false

-- the rows of the first whose version is another in the second
abbrev pub rows_changed : List HeldRow → List HeldRow → List HeldRow
rows_changed (b ∷ base) (n ∷ now) = if b.version == n.version then rows_changed base now else b ∷ rows_changed base now
rows_changed base now = []

-- one entry for each row seen
abbrev pub entries_on : List HeldRow → List Effect → List Entry
entries_on (r ∷ seen) (effect ∷ effects) =
    record { row = r.row; kind = effect.kind; version = r.version; seen = r.value; after = effect.after } ∷ entries_on
    seen effects
entries_on seen effects = []

-- An entry of a row that is there, that sees the table, and that writes no row whose version is the greatest.
pub record CanBeNoted (is_there : ℕ → Bool) (table : Table) (e : Entry) : Type 0 where
  pub there : is_there e.row ≡ true
  pub sees : Sees table e
  pub fresh : is_write e.kind ≡ true → nat_le MOST_VERSIONS (table e.row).version ≡ false
