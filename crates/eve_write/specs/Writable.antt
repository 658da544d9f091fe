-- Which parts have a spelling. docs/MODEL.md, "Limits".
use Rattle.std.specs.Prelude.{Bool, IsTrue}
use Rattle.std.specs.List.{list_all}
use Rattle.eve_grammar.specs.Limits.{HasLimits}
use Rattle.eve_write.specs.declared.vote.VoteData.{VoteData}
use Rattle.eve_write.specs.declared.parts.Parts.{Parts}
use Rattle.eve_write.specs.Data.{has_due_token, trace}

-- a vote for a rollback has zeros for its token
abbrev pub fits_vote : VoteData → Bool
fits_vote v = has_due_token v.choice v.token

-- Parts have a spelling: their trace lies within all limits but that on the length, and a vote for a
-- rollback has zeros for its token.
pub record HasSpelling (p : Parts) : Type 0 where
  pub limits : HasLimits (trace p)
  pub tokens : IsTrue (list_all (λ v. list_all fits_vote v.items) p.verifiers.items)
