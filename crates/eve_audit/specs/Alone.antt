-- What a replica is judged by where it is judged by itself. docs/MODEL.md, "Faults".
use Rattle.std.specs.Prelude.{◌≡◌, ℕ}
use Rattle.eve_grammar.specs.Trace.{Trace}
use Rattle.eve_grammar.specs.Spelling.{section_start, steps_of}

-- two traces have one header, the same customers and batches, and the same section of replica e, which begins at the
-- same byte
pub record AgreeFor (t u : Trace) (e : ℕ) : Type 0 where
  pub head : t.head ≡ u.head
  pub customers : t.customers ≡ u.customers
  pub batches : t.batches ≡ u.batches
  pub steps : steps_of t e ≡ steps_of u e
  pub begins : section_start t e ≡ section_start u e
