-- What shows that the token of a committed attempt isn't due. docs/MODEL.md, "Due tokens" and "Evidence".
use Rattle.std.specs.Prelude.{◌≡◌, ◌≢◌, ℕ, ◌+◌, ◌-◌, ℤ, List, [], ◌∷◌, map, slice_index_or, Option, Some, None}
use Rattle.std.specs.List.{AllByRecursion}
use Rattle.eve_smallbank.specs.declared.request.Reply.{Reply}
use Rattle.eve_smallbank.specs.declared.request.Reply.TheVariants.{Done}
use Rattle.eve_grammar.specs.Trace.{Attempt, Trace}
use Rattle.eve_views.specs.Form.{SomePlace}
use Rattle.eve_token.specs.Token.{token_of}
use Rattle.eve_chains.specs.Committed.{balances_to}
use Rattle.eve_history.specs.Section.{Placed}
use Rattle.eve_history.specs.SectionHistory.{committed_at}
use Rattle.eve_agree.specs.DueTokens.{due_token}
use Rattle.eve_evidence.specs.declared.evidence.ToldAttempt.{ToldAttempt}
use Rattle.eve_evidence.specs.declared.evidence.TokenMatch.{TokenMatch}
use Rattle.eve_evidence.specs.declared.evidence.TokenMatch.TheVariants as of
use Rattle.eve_evidence_outcomes.specs.declared.matched.MadeToken.{MadeToken}
use Rattle.eve_evidence.specs.declared.evidence.Evidence.{Evidence}
use Rattle.eve_evidence.specs.declared.evidence.Evidence.TheVariants as shown
use Rattle.eve_evidence.specs.Told.{told_attempt}

-- ---- what else it may be made of

-- an attempt's replies in its certificate's order
abbrev pub ordered_replies : Attempt → List Reply
ordered_replies a = map (λ i. slice_index_or a.replies i Done) a.certificate

-- a token, and in what it differs from the one that is due
abbrev pub made_so : TokenMatch → List ℕ → MadeToken
made_so what token = record { what = what; token = token }

-- the tokens that are tried, in this order: of the balances before the batch, of the replies in the certificate's
-- order,
-- of both, of the number before, of the number after, and of the other version
abbrev pub made_tokens : ℕ → ℕ → List ℤ → List ℤ → List Reply → List Reply → List MadeToken
made_tokens version n before after replies ordered =
    made_so of.Before (token_of version n before replies)
    ∷ made_so of.Ordered (token_of version n after ordered)
    ∷ made_so of.BeforeOrdered (token_of version n before ordered)
    ∷ made_so (of.Batch (n - 1)) (token_of version (n - 1) after replies)
    ∷ made_so (of.Batch (n + 1)) (token_of version (n + 1) after replies)
    ∷ made_so (of.Version (3 - version)) (token_of (3 - version) n after replies) ∷ []

-- those of an attempt by which replica e committed batch n
abbrev pub tokens_for : Trace → ℕ → ℕ → Attempt → List MadeToken
tokens_for t e n a =
    made_tokens t.head.version n (balances_to t e (n - 1)) (balances_to t e n) a.replies (ordered_replies a)

-- of what the first of these is made that was found, or none was
abbrev pub TellsFirst : List MadeToken → List ℕ → Option TokenMatch → Type 0
TellsFirst ms found None = AllByRecursion (λ m. m.token ≢ found) ms
TellsFirst ms found (Some what) =
    SomePlace ms (λ before m. (m.what ≡ what) × (m.token ≡ found) × AllByRecursion (λ z. z.token ≢ found) before)

-- that as it is told
abbrev pub match_told : Option TokenMatch → TokenMatch
match_told None = of.Nothing
match_told (Some what) = what

-- it is told of these tokens and the one that was found
abbrev pub TellsMatch : List MadeToken → List ℕ → TokenMatch → Type 0
TellsMatch ms found what = (first : Option TokenMatch) × (what ≡ match_told first) × TellsFirst ms found first

-- ---- the token

-- The attempt at this byte, by which replica e committed a batch, has this token, and that one is due.
pub record IsOtherToken (t : Trace) (e place : ℕ) (attempt : ToldAttempt) (found due : List ℕ) (matches : TokenMatch)
    : Type 0 where
  pub n : ℕ
  pub placed : Placed
  pub committed : committed_at t e n ≡ Some placed
  pub place_is : placed.offset ≡ place
  pub attempt_is : attempt ≡ told_attempt placed.offset placed.attempt
  pub found_is : found ≡ placed.attempt.token
  pub due_is : due ≡ due_token t e placed
  pub other : found ≢ due
  pub matches_is : TellsMatch (tokens_for t e n placed.attempt) found matches

-- the evidence is of a token, and tells it of the attempt at this byte
abbrev pub TellsToken : Trace → ℕ → ℕ → Evidence → Type 0
TellsToken t e place (shown.Token attempt found due matches) = IsOtherToken t e place attempt found.now due matches
TellsToken t e place _ = ⊥

-- the attempt by which replica e committed batch n has the token that is due, if it stands at this byte
abbrev pub IsDueAt : Trace → ℕ → ℕ → ℕ → Type 0
IsDueAt t e place n =
    (p : Placed) → committed_at t e n ≡ Some p → p.offset ≡ place → p.attempt.token ≡ due_token t e p
