use Rattle.std.proofs.Common.{ℕ, ◌≤◌, List, subst}
use Rattle.std.specs.Prelude.{IfNone}
use Rattle.eve_grammar.specs.Trace.{Trace}
use Rattle.eve_votes.specs.Votes.{IsDecided}
use Rattle.eve_votes.proofs.sorted_votes.SortedVotes.next_decision.Goals as goal

pub returns-clause-none : goal.returns-clause-none
returns-clause-none c =
    subst
    (λ (t : Trace). IfNone c.next_decision.result
    ((view : ℕ) (token : List ℕ) → c.args.from ≤ view → ¬ IsDecided t c.args.n view token))
    c.self.view_is c.next_decision.ensures.none
