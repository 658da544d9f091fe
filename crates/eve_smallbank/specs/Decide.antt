-- What is decided of a request from the values seen in the rows that it touches.
-- docs/MODEL.md, "Entries" and "A record fits its request".
use Rattle.std.specs.Prelude.{◌≡◌, ℕ, ℤ, List, [], ◌∷◌, map}
use Rattle.eve_smallbank.specs.declared.entry.Entry.{Entry}
use Rattle.eve_smallbank.specs.declared.decision.Effect.{Effect}
use Rattle.eve_smallbank.specs.declared.decision.Decision.{Decision}
use Rattle.eve_smallbank.specs.SmallBank.{Request}
use Rattle.eve_smallbank.specs.Access.{Executed, RowKinds}
use Rattle.eve_smallbank.specs.Chain.{Table}
use Rattle.eve_smallbank.specs.Execution.{executed_on}

-- what became of an entry's row
abbrev pub effect_in : Entry → Effect
effect_in e = record { kind = e.kind; after = e.after }

-- the reply, and what became of each row
abbrev pub decision_in : Executed → Decision
decision_in x = record { reply = x.reply; effects = map effect_in x.entries }

-- the entries of these rows with the versions and values seen, one of each for each row
abbrev pub entries_from : RowKinds → List ℕ → List ℤ → List Effect → List Entry
entries_from (r ∷ rows) (version ∷ versions) (seen ∷ values) (effect ∷ effects) =
    record { row = r.0; kind = effect.kind; version = version; seen = seen; after = effect.after }
    ∷ entries_from rows versions values effects
entries_from rows versions values effects = []

-- the executed request
abbrev pub executed_from : Request → RowKinds → List ℕ → List ℤ → Decision → Executed
executed_from request rows versions values decision =
    record { request = request; reply = decision.reply; entries = entries_from rows versions values decision.effects }

-- The decision is what the request does to every table of these customers that has the values in the rows.
abbrev pub IsExact : List (List ℕ) → Request → RowKinds → List ℤ → Decision → Type 0
IsExact names request rows values decision =
    (table : Table) → values ≡ map (λ r. (table r.0).value) rows
    → decision ≡ decision_in (executed_on names table request)
