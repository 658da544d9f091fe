-- The faults of records and of chains, and where they stand. docs/MODEL.md, "Faults".
use Rattle.std.specs.Prelude.{◌≡◌, ◌≢◌, ℕ, ◌⊎◌}
use Rattle.eve_smallbank.specs.Access.{Fits}
use Rattle.eve_grammar.specs.Trace.{Access, Trace}
use Rattle.eve_grammar.specs.Spelling.{accesses_at}
use Rattle.eve_views.specs.declared.fault.Code.{Code}
use Rattle.eve_views.specs.declared.fault.Code.TheVariants as code
use Rattle.eve_views.specs.declared.fault.Fault.{Fault}
use Rattle.eve_views.specs.Form.{SomePlace, IsLeast, HasNone, IsFaultIn}
use Rattle.eve_history.specs.Section.{Placed, settled}
use Rattle.eve_history.specs.SectionHistory.{history, names_of}
use Rattle.eve_chains.specs.Visible.{executed_by, visible_to}

-- of an access record whose frame stands at this offset, in a settled attempt of replica e
abbrev pub AtSettledAccess : Trace → ℕ → ℕ → (Placed → Access → Type 0) → Type 0
AtSettledAccess t e at P =
    SomePlace (settled (history t e)) (λ _ p. SomePlace (accesses_at p.offset p.attempt) (λ _ x. (x.0 ≡ at) × P p x.1))

-- ---- records

-- a fault of records stands at this offset in replica e's section
abbrev pub StandsInRecords : Code → Trace → ℕ → ℕ → Type 0
StandsInRecords code.Record t e at = AtSettledAccess t e at (λ p x. ¬ Fits (names_of t) (executed_by t p.attempt x))
StandsInRecords _ t e at = ⊥

-- ---- chains

-- A fault of chains stands at this offset in replica e's section: an entry sees another version, or another
-- value, than it must. It's judged by what the entries before say that they left, also where they are wrong.
abbrev pub StandsInChains : Code → Trace → ℕ → ℕ → Type 0
StandsInChains code.Version t e at =
    AtSettledAccess t e at (λ p x. SomePlace x.entries (λ _ y. y.version ≢ (visible_to t p x.index y.row).version))
StandsInChains code.Value t e at =
    AtSettledAccess t e at (λ p x. SomePlace x.entries (λ _ y. y.seen ≢ (visible_to t p x.index y.row).value))
StandsInChains _ t e at = ⊥

-- ---- both phases

-- the first of the faults of records, or of those of chains where there are none of records
abbrev pub IsLeastFault : Trace → ℕ → Fault → Type 0
IsLeastFault t e f = IsLeast (IsFaultIn StandsInRecords t e) f
    ⊎ (((g : Fault) → ¬ IsFaultIn StandsInRecords t e g) × IsLeast (IsFaultIn StandsInChains t e) f)

-- no fault of records, and none of chains
pub record HasNoFault (t : Trace) (e : ℕ) : Type 0 where
  pub records : HasNone (IsFaultIn StandsInRecords t e)
  pub chains : HasNone (IsFaultIn StandsInChains t e)
