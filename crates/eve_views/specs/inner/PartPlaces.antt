-- Where the parts of a trace stand, by their bytes. docs/TRACE.md, "Order of frames" and "Parts".
use Rattle.std.specs.Prelude.{ℕ, ◌+◌, ◌≤◌, length}
use Rattle.std.specs.List.{AllByRecursion}
use Rattle.eve_grammar.specs.Trace.{Attempt, Attempts, Trace}
use Rattle.eve_grammar.specs.Frames.{OfAccess, OfVote, OfSent}
use Rattle.eve_grammar.specs.Spelling.{frame_text, customer_text, batch_text, step_text, batches_start, sections_start}
use Rattle.eve_grammar.specs.Spelling.{section_start, verifiers_start, sent_start, length_of, customers_at, batches_at}
use Rattle.eve_grammar.specs.Spelling.{steps_at, accesses_at, votes_at, sent_at}
use Rattle.eve_grammar.specs.declared.head.TheConstants.{HEADER_LEN}

-- what has this many bytes, the first of them at this offset, lies between two offsets
abbrev pub LiesBetween : ℕ → ℕ → ℕ → ℕ → Type 0
LiesBetween from to at many = (from ≤ at) × (at + many ≤ to)

-- One part stands after another: customers, batches, sections, votes and replies sent. Each customer, batch, step,
-- access record, vote and reply sent lies in its part, as a whole.
pub record StandInOrder (t : Trace) : Type 0 where
  pub customers : AllByRecursion
      (λ c. LiesBetween HEADER_LEN (batches_start t) c.0 (length (customer_text c.1))) (customers_at t)
  pub batches : AllByRecursion
      (λ b. LiesBetween (batches_start t) (sections_start t) b.0 (length (batch_text b.1))) (batches_at t)
  -- a section ends where the next one begins, or where the votes do
  pub sections : (e : ℕ) → section_start t e ≤ section_start t (e + 1)
  pub last_section : (e : ℕ) → section_start t e ≤ verifiers_start t
  pub steps : (e : ℕ) → AllByRecursion
      (λ s. LiesBetween (section_start t e) (section_start t (e + 1)) s.0 (length (step_text s.1))) (steps_at t e)
  pub accesses : (at : ℕ) (a : Attempt) → AllByRecursion
      (λ x. LiesBetween at (at + length (step_text (Attempts a))) x.0 (length (frame_text (OfAccess x.1))))
      (accesses_at at a)
  pub votes : (v : ℕ) → AllByRecursion
      (λ w. LiesBetween (verifiers_start t) (sent_start t) w.0 (length (frame_text (OfVote w.1)))) (votes_at t v)
  pub sent : AllByRecursion
      (λ s. LiesBetween (sent_start t) (length_of t) s.0 (length (frame_text (OfSent s.1)))) (sent_at t)
  pub end : sent_start t ≤ length_of t
