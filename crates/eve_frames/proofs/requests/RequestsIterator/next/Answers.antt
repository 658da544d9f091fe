use Rattle.std.proofs.Common.{sym, ◌∙◌}
use Rattle.eve_grammar.specs.Readers.{asked_at}
use Rattle.eve_grammar.specs.Bodies.{borrowed_asked}
use Rattle.eve_frames.proofs.Lists.{none_left, there_first, there_steps, goes_on}
use Rattle.eve_frames.proofs.requests.RequestsIterator.next.Goals as goal

pub returns-then-count-eq0-clause-steps : goal.returns-then-count-eq0-clause-steps
returns-then-count-eq0-clause-steps c = let none = sym c.self.view_is
    ∙ none_left asked_at c.self.inside.count c.self.inside.bytes.now c.if-count-eq0.true in (none, none)

pub asked_again-found-requires : goal.asked_again-found-requires
asked_again-found-requires c = there_first asked_at c.self.inside.count c.self.inside.bytes.now c.if-count-eq0.false
    c.self.invariant

pub invariant_of-self : goal.invariant_of-self
invariant_of-self c = (there_steps asked_at c.self.inside.count c.self.inside.bytes.now c.if-count-eq0.false
    c.self.invariant (borrowed_asked c.asked_again-found.result.0) c.asked_again-found.result.1.now
    c.asked_again-found.ensures).there

pub returns-clause-steps : goal.returns-clause-steps
returns-clause-steps c =
    sym c.self.view_is ∙ (there_steps asked_at c.self.inside.count c.self.inside.bytes.now c.if-count-eq0.false
    c.self.invariant (borrowed_asked c.asked_again-found.result.0) c.asked_again-found.result.1.now
    c.asked_again-found.ensures).list

pub returns-clause-goes : goal.returns-clause-goes
returns-clause-goes c =
    goes_on _ (λ _. tt) _ _ _ (borrowed_asked c.asked_again-found.result.0)
    (sym c.self.view_is ∙ (there_steps asked_at c.self.inside.count c.self.inside.bytes.now c.if-count-eq0.false
    c.self.invariant (borrowed_asked c.asked_again-found.result.0) c.asked_again-found.result.1.now
    c.asked_again-found.ensures).list)
