-- What holds of a replica's settled attempts where no fault of records or chains stands.
-- docs/MODEL.md, "A record fits its request", "Visible version, chained".
use Rattle.std.specs.Prelude.{ℕ, []}
use Rattle.std.specs.List.{AllByRecursion}
use Rattle.eve_smallbank.specs.Access.{Fits}
use Rattle.eve_smallbank.specs.Chain.{Sees}
use Rattle.eve_smallbank.specs.SerialOrder.{IsSound}
use Rattle.eve_grammar.specs.Trace.{Access, Trace}
use Rattle.eve_history.specs.Section.{Placed, settled}
use Rattle.eve_history.specs.SectionHistory.{history, names_of}
use Rattle.eve_chains.specs.Visible.{executed_by, execution, rows_after, visible_to}

-- of each access record of each settled attempt of replica e
abbrev pub OfSettledAccesses : Trace → ℕ → (Placed → Access → Type 0) → Type 0
OfSettledAccesses t e P = AllByRecursion (λ p. AllByRecursion (P p) p.attempt.accesses) (settled (history t e))

-- each record fits its request
abbrev pub RecordsFit : Trace → ℕ → Type 0
RecordsFit t e = OfSettledAccesses t e (λ p x. Fits (names_of t) (executed_by t p.attempt x))

-- each entry sees the version and the value that it must
abbrev pub EntriesSee : Trace → ℕ → Type 0
EntriesSee t e = OfSettledAccesses t e (λ p x. AllByRecursion (Sees (visible_to t p x.index)) x.entries)

-- the attempt's records fit, and its rows are chained, each by itself, from what they have after its path
abbrev pub IsSoundAlong : Trace → Placed → Type 0
IsSoundAlong t p = IsSound (names_of t) (rows_after t p.path) [] (execution t p.attempt)

-- each settled attempt of replica e is sound
abbrev pub SettledAreSound : Trace → ℕ → Type 0
SettledAreSound t e = AllByRecursion (IsSoundAlong t) (settled (history t e))
