use Rattle.std.proofs.Common.{◌≡◌, ℕ, List, Some, is_some, sym, ◌∙◌, arith}
use Rattle.std.specs.Prelude.{IsTrue}
use Rattle.eve_smallbank.specs.declared.entry.Entry.{Entry}
use Rattle.eve_grammar.specs.Readers.{entry_at}
use Rattle.eve_frames.specs.inner.Items.{are_there}
use Rattle.eve_grammar.specs.declared.limits.TheConstants.{MOST_ROWS}
use Rattle.eve_frames.proofs.Lists.{Steps, none_left, there_first, there_steps, goes_on}
use Rattle.eve_frames.proofs.entries.EntriesIterator.next.Goals as goal

entry_steps : (n : ℕ) (bytes : List ℕ) → (n ≡ 0 → ⊥) → IsTrue (are_there (entry_at MOST_ROWS) n bytes)
    → (entry : Entry) (rest : List ℕ)
    → ((rows : ℕ) → IsTrue (is_some (entry_at rows bytes)) → entry_at rows bytes ≡ Some (entry, rest))
    → Steps (entry_at MOST_ROWS) n bytes entry rest
entry_steps n bytes some there entry rest read =
    there_steps (entry_at MOST_ROWS) n bytes some there entry rest
    (read MOST_ROWS (there_first (entry_at MOST_ROWS) n bytes some there))

pub returns-then-count-eq0-clause-steps : goal.returns-then-count-eq0-clause-steps
returns-then-count-eq0-clause-steps c = let none = sym c.self.view_is
    ∙ none_left (entry_at MOST_ROWS) c.self.inside.count c.self.inside.bytes.now c.if-count-eq0.true in (none, none)

pub entry_again-entry-requires : goal.entry_again-entry-requires
entry_again-entry-requires c = (
  MOST_ROWS,
  omega arith,
  there_first (entry_at MOST_ROWS) c.self.inside.count c.self.inside.bytes.now c.if-count-eq0.false c.self.invariant,
)

pub invariant_of-self : goal.invariant_of-self
invariant_of-self c = (entry_steps c.self.inside.count c.self.inside.bytes.now c.if-count-eq0.false c.self.invariant
    c.entry_again-entry.result.0 c.entry_again-entry.result.1.now c.entry_again-entry.ensures).there

pub returns-clause-steps : goal.returns-clause-steps
returns-clause-steps c =
    sym c.self.view_is ∙ (entry_steps c.self.inside.count c.self.inside.bytes.now c.if-count-eq0.false c.self.invariant
    c.entry_again-entry.result.0 c.entry_again-entry.result.1.now c.entry_again-entry.ensures).list

pub returns-clause-goes : goal.returns-clause-goes
returns-clause-goes c =
    goes_on _ (λ _. tt) _ _ _ c.entry_again-entry.result.0
    (sym c.self.view_is ∙ (entry_steps c.self.inside.count c.self.inside.bytes.now c.if-count-eq0.false c.self.invariant
    c.entry_again-entry.result.0 c.entry_again-entry.result.1.now c.entry_again-entry.ensures).list)
