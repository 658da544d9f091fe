-- What is found on the rows that there are is what stands in chains.
use Rattle.std.proofs.Common.{ℕ, ◌<◌, None, sym, subst, inl, inr, arith}
use Rattle.std.proofs.lemmas.Bool.{cases_lt}
use Rattle.eve_grammar.specs.Limits.{row_count, HasLimits}
use Rattle.eve_grammar.specs.Trace.{Trace, head_of}
use Rattle.eve_views.specs.declared.fault.Fault.{Fault}
use Rattle.eve_chains.specs.Rows.{bases_of, IsWrongOnRow, EachSees}
use Rattle.eve_chains.specs.inner.Walked.{IsFirstOnRows, notes_on}
use Rattle.eve_chains.proofs.ToldAttempts.{none_past}
use Rattle.eve_chains.proofs.WalkedRows.{none_on_row}

module _ (t : Trace) (e : ℕ) (limits : HasLimits t) where
  -- where nothing is wrong on the rows that there are, nothing is on any row
  pub each_row_sees : IsFirstOnRows t e 0 (row_count (head_of t)) None → (row : ℕ)
      → EachSees (bases_of t e row) (notes_on t e row)
  each_row_sees none row = elim (cases_lt row (row_count (head_of t))) [
    | inl below ↦ none.0 row (omega arith) below
    | inr past ↦ subst (EachSees (bases_of t e row)) (sym (none_past t e row limits past))
        (none_on_row e (bases_of t e row)).0
  ]

  -- what is wrong on a row is wrong on one that there is
  pub wrong_below : (row : ℕ) (f : Fault) → IsWrongOnRow e (bases_of t e row) (notes_on t e row) f
      → row < row_count (head_of t)
  wrong_below row f wrong = elim (cases_lt row (row_count (head_of t))) [
    | inl below ↦ below
    | inr past ↦ absurd ((none_on_row e (bases_of t e row)).1 f
        (subst (λ ns. IsWrongOnRow e (bases_of t e row) ns f) (none_past t e row limits past) wrong))
  ]
