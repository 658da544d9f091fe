-- The token that a committed attempt must have, and the faults of tokens. docs/MODEL.md, "Due tokens".
use Rattle.std.specs.Prelude.{◌≡◌, ◌≢◌, ◌<◌, ◌≤◌, ℕ, List, Option, Some, None}
use Rattle.eve_grammar.specs.Trace.{Trace}
use Rattle.eve_views.specs.declared.fault.Code.{Code}
use Rattle.eve_views.specs.declared.fault.Code.TheVariants as code
use Rattle.eve_token.specs.Token.{token_of}
use Rattle.eve_history.specs.Section.{Placed}
use Rattle.eve_history.specs.SectionHistory.{committed_at}
use Rattle.eve_chains.specs.Committed.{balances_to}
use Rattle.eve_agree.specs.ByNumber.{SomeCommitted}

-- the version's token of the balances after the attempt's batch, as replica e committed it, and of its replies
-- Another one is F60 Token.
abbrev pub due_token : Trace → ℕ → Placed → List ℕ
due_token t e p = token_of t.head.version p.attempt.seq (balances_to t e p.attempt.seq) p.attempt.replies

-- replica e's attempt of batch n, if it committed one, has the token that it must have
abbrev pub IsDueIn : Trace → ℕ → ℕ → Type 0
IsDueIn t e n = (p : Placed) → committed_at t e n ≡ Some p → p.attempt.token ≡ due_token t e p

-- so has its attempt of each batch
abbrev pub TokensAreDue : Trace → ℕ → Type 0
TokensAreDue t e = (n : ℕ) → IsDueIn t e n

-- a fault of tokens stands at this offset in replica e's section
abbrev pub StandsInTokens : Code → Trace → ℕ → ℕ → Type 0
StandsInTokens code.Token t e at = SomeCommitted t e at (λ n p. p.attempt.token ≢ due_token t e p)
StandsInTokens _ t e at = ⊥

-- ---- from batch to batch

-- batch n is the first, after those up to `before`, whose attempt has another token, and stands at this offset
pub record IsFirstWrongToken (t : Trace) (e before last at : ℕ) : Type 0 where
  pub n : ℕ
  pub low : before < n
  pub high : n ≤ last
  pub item : Placed
  pub is : committed_at t e n ≡ Some item
  pub offset : at ≡ item.offset
  pub wrong : item.attempt.token ≢ due_token t e item
  pub early : (m : ℕ) → before < m → m < n → IsDueIn t e m

-- where replica e's first wrong token of these batches stands, if there is one
abbrev pub IsFirstWrong : Trace → ℕ → ℕ → ℕ → Option ℕ → Type 0
IsFirstWrong t e before last None = (n : ℕ) → before < n → n ≤ last → IsDueIn t e n
IsFirstWrong t e before last (Some at) = IsFirstWrongToken t e before last at
