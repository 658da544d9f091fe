-- The least view from some on in which a batch is decided. docs/MODEL.md, "Decided, rolled back".
use Rattle.std.specs.Prelude.{◌≡◌, ℕ, ◌≤◌, List}
use Rattle.eve_grammar.specs.Trace.{ForCommit, Trace}
use Rattle.eve_votes.specs.Votes.{IsDecided, backers}
use Rattle.eve_votes.specs.declared.decided.Decided.{Decided}

-- the batch is decided in the view, with the token, by that many verifiers, and the view is no earlier than this one
pub record IsTimelyDecision (t : Trace) (n from : ℕ) (d : Decided) : Type 0 where
  pub after : from ≤ d.view
  pub decided : IsDecided t n d.view d.token
  pub votes_are : d.votes ≡ backers t n d.view (ForCommit d.token)

-- and no other of these views is less
pub record IsNextDecision (t : Trace) (n from : ℕ) (d : Decided) : Type 0 where
  pub is : IsTimelyDecision t n from d
  pub least : (view : ℕ) (token : List ℕ) → from ≤ view → IsDecided t n view token → d.view ≤ view
