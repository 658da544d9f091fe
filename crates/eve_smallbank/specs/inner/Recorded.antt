-- Entries beside the rows that a request touches and what becomes of them. docs/MODEL.md, "A record fits its request".
use Rattle.std.specs.Prelude.{◌≡◌, ℕ, List, map}
use Rattle.eve_smallbank.specs.declared.entry.Entry.{Entry}
use Rattle.eve_smallbank.specs.declared.decision.Effect.{Effect}
use Rattle.eve_smallbank.specs.Access.{RowKinds}
use Rattle.eve_smallbank.specs.Decide.{entries_from}

-- the entries on these rows with the versions and values that these entries saw, and with these effects
abbrev pub noted_from : RowKinds → List Entry → List Effect → List Entry
noted_from rows es effects = entries_from rows (map (λ e. e.version) es) (map (λ e. e.seen) es) effects

-- the entry is of this row, with this effect
pub record HasEffect (its_row : ℕ) (e : Entry) (effect : Effect) : Type 0 where
  pub row : e.row ≡ its_row
  pub kind : e.kind ≡ effect.kind
  pub after : e.after ≡ effect.after
