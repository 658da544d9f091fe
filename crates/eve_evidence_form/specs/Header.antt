-- What shows a fault of the header. docs/MODEL.md, "Evidence"; docs/TRACE.md, "Header".
use Rattle.std.specs.Prelude.{◌≡◌, ◌≢◌, ℕ, ◌+◌, ◌/◌, ◌<◌, ◌≤◌, List, [], ◌∷◌, length, take, drop}
use Rattle.std.specs.Prelude.{IsTrue, IsFalse, Option, Some, None}
use Rattle.std.specs.List.{AllByRecursion}
use Rattle.byteorder.specs.Endian.{big_number}
use Rattle.eve_grammar.specs.Limits.{most_customers}
use Rattle.eve_grammar.specs.declared.head.TheConstants.{HEADER_LEN}
use Rattle.eve_grammar.specs.declared.limits.TheConstants.{MOST_REPLICAS, MOST_VERIFIERS, MOST_WINDOW, MOST_WORKERS}
use Rattle.eve_grammar.specs.declared.limits.TheConstants.{MOST_BATCHES, MOST_BYTES, NEWEST_VERSION}
use Rattle.eve_views.specs.Form.{SomePlace, has_magic}
use Rattle.eve_evidence.specs.declared.evidence.LengthFault.{LengthFault}
use Rattle.eve_evidence.specs.declared.evidence.LengthFault.TheVariants as length_is
use Rattle.eve_evidence.specs.declared.evidence.HeadField.{HeadField}
use Rattle.eve_evidence.specs.declared.evidence.HeadField.TheVariants as field
use Rattle.eve_evidence_form.specs.declared.head.HeadNumber.{HeadNumber}

-- the number of n bytes at a place
abbrev pub decoded : ℕ → ℕ → List ℕ → ℕ
decoded n at bytes = big_number n (drop at bytes)

-- what is wrong with the length
abbrev pub IsLengthFault : List ℕ → LengthFault → Type 0
IsLengthFault bytes length_is.TooShort = length bytes < HEADER_LEN
IsLengthFault bytes length_is.TooLong = MOST_BYTES < length bytes
IsLengthFault bytes (length_is.Another total) =
    (HEADER_LEN ≤ length bytes) × (length bytes ≤ MOST_BYTES) × (total ≡ decoded 8 24 bytes) × (total ≢ length bytes)

-- the first six bytes, if there are as many as a header has, and these aren't a trace's
abbrev pub TellsMagic : List ℕ → Option (List ℕ) → Type 0
TellsMagic bytes None = HEADER_LEN ≤ length bytes → IsTrue (has_magic bytes)
TellsMagic bytes (Some six) = (HEADER_LEN ≤ length bytes) × IsFalse (has_magic bytes) × (six ≡ take 6 bytes)

-- a number of the header: its name, its first byte, what it says, and the least and the most that it may say
abbrev pub number : HeadField → ℕ → ℕ → ℕ → ℕ → HeadNumber
number name at found least most = record { field = name; at = at; found = found; least = least; most = most }

-- the numbers of a header, in the order of their bytes
abbrev pub head_numbers : List ℕ → List HeadNumber
head_numbers bytes =
    number field.Version 6 (decoded 2 6 bytes) 1 NEWEST_VERSION
    ∷ number field.Replicas 8 (decoded 1 8 bytes) 1 MOST_REPLICAS
    ∷ number field.Verifiers 9 (decoded 1 9 bytes) 1 MOST_VERIFIERS
    ∷ number field.Quorum 10 (decoded 1 10 bytes) (decoded 1 9 bytes / 2 + 1) (decoded 1 9 bytes)
    ∷ number field.Window 11 (decoded 1 11 bytes) 1 MOST_WINDOW
    ∷ number field.Workers 12 (decoded 1 12 bytes) 1 MOST_WORKERS
    ∷ number field.Zero 13 (decoded 1 13 bytes) 0 0
    ∷ number field.Zero 14 (decoded 1 14 bytes) 0 0
    ∷ number field.Zero 15 (decoded 1 15 bytes) 0 0
    ∷ number field.Customers 16 (decoded 4 16 bytes) 1 (most_customers (decoded 2 6 bytes))
    ∷ number field.Batches 20 (decoded 4 20 bytes) 0 MOST_BATCHES
    ∷ []

-- it says a number of its range
abbrev pub LiesWithin : HeadNumber → Type 0
LiesWithin n = (n.least ≤ n.found) × (n.found ≤ n.most)

-- the number is the first of the header that doesn't
abbrev pub IsFirstWrongNumber : List ℕ → HeadNumber → Type 0
IsFirstWrongNumber bytes n =
    SomePlace (head_numbers bytes) (λ before m. (m ≡ n) × AllByRecursion LiesWithin before × ¬ LiesWithin m)
