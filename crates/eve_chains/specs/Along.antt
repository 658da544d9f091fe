-- An attempt's records one after another, and what is wrong with what an entry sees. docs/MODEL.md, "What an entry must
-- see".
use Rattle.std.specs.Prelude.{◌≢◌, ℕ, IsTrue, List, Option, Some, None}
use Rattle.std.specs.List.{list_all, flat_map}
use Rattle.eve_smallbank.specs.declared.entry.Entry.{Entry}
use Rattle.eve_smallbank.specs.declared.versioned.Versioned.{Versioned}
use Rattle.eve_grammar.specs.Trace.{Access}
use Rattle.eve_grammar.specs.Limits.{is_entry}
use Rattle.eve_frames.specs.Decoded.{access_decoded}
use Rattle.eve_frames.specs.declared.access.AccessView.{AccessView}
use Rattle.eve_views.specs.declared.fault.Code.{Code}
use Rattle.eve_views.specs.declared.fault.Code.TheVariants as code
use Rattle.eve_views.specs.declared.fault.Fault.{Fault}

-- what an access frame says, with its offset
abbrev pub decoded_at : AccessView → ℕ × Access
decoded_at v = (v.offset, access_decoded v)

-- the entries of one record after another
abbrev pub entries_along : List (ℕ × Access) → List Entry
entries_along xs = flat_map (λ x. x.1.entries) xs

-- the entries lie within the limits of this many rows
abbrev pub AreWithin : ℕ → List (ℕ × Access) → Type 0
AreWithin rows xs = IsTrue (list_all (λ x. list_all (is_entry rows) x.1.entries) xs)

-- the entry sees another version, or another value, than its row has
abbrev pub SeesAnother : Code → Versioned → Entry → Type 0
SeesAnother code.Version v e = e.version ≢ v.version
SeesAnother code.Value v e = e.seen ≢ v.value
SeesAnother _ v e = ⊥

-- a fault of replica e at this offset, if there is one
abbrev pub fault_if : ℕ → ℕ → Option Code → Option Fault
fault_if e at None = None
fault_if e at (Some c) = Some (record { code = c; offset = at; replica = Some e })
