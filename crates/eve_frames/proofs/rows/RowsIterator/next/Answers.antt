use Rattle.std.proofs.Common.{sym, ◌∙◌}
use Rattle.eve_grammar.specs.Readers.{versioned_at}
use Rattle.eve_frames.proofs.Lists.{none_left, there_some, there_steps, goes_on}
use Rattle.eve_frames.proofs.rows.RowsIterator.next.Goals as goal

pub returns-then-count-eq0-clause-steps : goal.returns-then-count-eq0-clause-steps
returns-then-count-eq0-clause-steps c = let none = sym c.self.view_is
    ∙ none_left versioned_at c.self.inside.count c.self.inside.bytes.now c.if-count-eq0.true in (none, none)

pub unreachable-requires : goal.unreachable-requires
unreachable-requires c = there_some versioned_at c.self.inside.count c.self.inside.bytes.now
    c.if-count-eq0.false c.self.invariant c.in_default.ensures

pub invariant_of-self : goal.invariant_of-self
invariant_of-self c = (there_steps versioned_at c.self.inside.count c.self.inside.bytes.now
    c.if-count-eq0.false c.self.invariant c.in-Some.found c.in-Some.rest.now c.in-Some.ensures).there

pub returns-clause-steps : goal.returns-clause-steps
returns-clause-steps c =
    sym c.self.view_is ∙ (there_steps versioned_at c.self.inside.count c.self.inside.bytes.now
    c.if-count-eq0.false c.self.invariant c.in-Some.found c.in-Some.rest.now c.in-Some.ensures).list

pub returns-clause-goes : goal.returns-clause-goes
returns-clause-goes c =
    goes_on _ (λ _. tt) _ _ _ c.in-Some.found
    (sym c.self.view_is ∙ (there_steps versioned_at c.self.inside.count c.self.inside.bytes.now
    c.if-count-eq0.false c.self.invariant c.in-Some.found c.in-Some.rest.now c.in-Some.ensures).list)
