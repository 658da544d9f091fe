-- What a ledger goes through, step after step.
use Rattle.std.proofs.Common.{◌≡◌, ◌+◌, List, [], ◌∷◌, ◌++◌, refl, sym, ap, ◌∙◌, subst}
use Rattle.std.proofs.Common.{add-zero, arith}
use Rattle.eve_grammar.specs.Trace.{Step, Attempts, Commits, RollsBack, Transfers, Vote}
use Rattle.eve_attempts.specs.Ledgers.{Ledger}
use Rattle.eve_replica.specs.Sections.{RunPlan, MakesOf, GoesThrough, AreVotesOf, reached_in}

-- one step more
pub through_more : (p : RunPlan) (steps : List Step) (x : Step) (a b c : Ledger) → GoesThrough p steps a b
    → MakesOf p x b c → GoesThrough p (steps ++ x ∷ []) a c
through_more p [] x a b c same makes = (c, subst (λ (s : Ledger). MakesOf p x s c) (sym same) makes, refl)
through_more p (y ∷ steps) x a b c goes makes = (goes.0, goes.1, through_more p steps x goes.0 b c goes.2 makes)

-- the votes on one step more
pub votes_more : (steps : List Step) (x : Step) (own more : List Vote) → AreVotesOf steps own
    → AreVotesOf (x ∷ []) more → AreVotesOf (steps ++ x ∷ []) (own ++ more)
votes_more [] x own more are led = subst (λ (vs : List Vote). AreVotesOf (x ∷ []) (vs ++ more)) (sym are) led
votes_more (Attempts a ∷ steps) x own more are led = votes_more steps x own more are led
votes_more (Commits c ∷ steps) x own more are led = (
  are.0 ++ more,
  ap (λ (vs : List Vote). vs ++ more) are.1,
  votes_more steps x are.0 more are.2 led,
)
votes_more (RollsBack r ∷ steps) x own more are led = (
  are.0 ++ more,
  ap (λ (vs : List Vote). vs ++ more) are.1,
  votes_more steps x are.0 more are.2 led,
)
votes_more (Transfers y ∷ steps) x own more are led = (
  are.0,
  are.1 ++ more,
  ap (λ (vs : List Vote). vs ++ more) are.2,
  votes_more steps x are.1 more are.3 led,
)

-- each batch that a section reaches counts one up in the ledger
pub reached_through : (p : RunPlan) (steps : List Step) (a b : Ledger) → GoesThrough p steps a b
    → b.committed ≡ a.committed + reached_in steps
reached_through p [] a b same = ap (λ (s : Ledger). s.committed) (sym same) ∙ sym (add-zero a.committed)
reached_through p (Attempts x ∷ steps) a b goes =
    reached_through p steps goes.0 b goes.2
    ∙ ap (λ (s : Ledger). s.committed + reached_in steps) goes.1.closed.opens.changed
reached_through p (Commits x ∷ steps) a b goes =
    let rest = reached_through p steps goes.0 b goes.2 in
    let one = ap (λ (s : Ledger). s.committed) goes.1.changed in
    omega arith
reached_through p (RollsBack x ∷ steps) a b goes =
    reached_through p steps goes.0 b goes.2
    ∙ ap (λ (s : Ledger). s.committed + reached_in steps) goes.1.rolled_back.changed
reached_through p (Transfers x ∷ steps) a b goes =
    let rest = reached_through p steps goes.0 b goes.2 in
    let one = ap (λ (s : Ledger). s.committed) goes.1.transferred.changed in
    omega (arith, rest, one, goes.1.next)
