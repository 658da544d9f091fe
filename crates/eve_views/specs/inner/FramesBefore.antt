-- Which frames stand before the parts of a trace. docs/TRACE.md, "Order of frames".
use Rattle.std.specs.Prelude.{ℕ, List, ◌++◌, map, take}
use Rattle.std.specs.List.{flat_map}
use Rattle.eve_grammar.specs.Trace.{Trace}
use Rattle.eve_grammar.specs.Frames.{Frame, OfCustomer, OfBatch, section_frames, verifier_frames, batches_of}
use Rattle.eve_grammar.specs.Frames.{sections_of, verifiers_of}

-- the frames before the first batch
abbrev pub before_batches : Trace → List Frame
before_batches t = map OfCustomer t.customers

-- before the first section
abbrev pub before_sections : Trace → List Frame
before_sections t = before_batches t ++ map (λ b. OfBatch b.0 b.1) (batches_of t)

-- before the section of replica e, or after the last
unfoldable pub before_section : Trace → ℕ → List Frame
before_section t e = before_sections t ++ flat_map section_frames (take e (sections_of t))

-- before the first verifier
abbrev pub before_verifiers : Trace → List Frame
before_verifiers t = before_sections t ++ flat_map section_frames (sections_of t)

-- before the part of verifier v, or after the last
unfoldable pub before_verifier : Trace → ℕ → List Frame
before_verifier t v = before_verifiers t ++ flat_map verifier_frames (take v (verifiers_of t))

-- before the first reply sent
unfoldable pub before_sent : Trace → List Frame
before_sent t = before_verifiers t ++ flat_map verifier_frames (verifiers_of t)
