-- The one token that may have more than half of the votes: Boyer and Moore's majority vote.
use Rattle.std.specs.Prelude.{◌≡◌, ◌≢◌, ℕ, ◌≤◌, ◌+◌, ◌*◌, List}
use Rattle.eve_votes.specs.declared.majority.Lead.{Lead}

-- no token but this has the votes of more than half of the voters: twice its votes are at most the voters and its lead,
-- and twice any other's votes at most the voters less this lead
pub record HasLead (votes : List ℕ → ℕ) (voters : ℕ) (lead : Lead) : Type 0 where
  pub low : lead.by ≤ voters
  pub this : 2 * votes lead.token.now ≤ voters + lead.by
  pub others : (token : List ℕ) → token ≢ lead.token.now → 2 * votes token + lead.by ≤ voters

-- this token has one vote more, and the others have no more
pub record IsOneMore (before after : List ℕ → ℕ) (token : List ℕ) : Type 0 where
  pub this : after token ≡ before token + 1
  pub others : (other : List ℕ) → other ≢ token → after other ≡ before other
