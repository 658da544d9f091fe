-- What was found to be decided as commit. docs/MODEL.md, "Decided, rolled back".
use Rattle.std.specs.Prelude.{◌≡◌, ◌≢◌, ℕ, ◌+◌, List, length, Option, Some, None, IfSome, slice_index_or, ◌⊎◌}
use Rattle.std.specs.Option.{option_map}
use Rattle.eve_grammar.specs.Trace.{Trace}
use Rattle.eve_grammar.specs.Spelling.{batches_at}
use Rattle.eve_views.specs.declared.fault.Code.TheVariants as code
use Rattle.eve_votes.specs.Votes.{IsDecided}
use Rattle.eve_views.specs.Form.{SomePlace}
use Rattle.eve_votes.specs.Faults.{StandsInVotes}
use Rattle.eve_views.specs.Least.{IsBelow}
use Rattle.eve_votes.specs.declared.decisions.Decision.{Decision}

abbrev pub decision_decoded : Decision → ℕ × List ℕ
decision_decoded d = (d.view, d.token.now)

-- the view and the token in which the batch is decided, as far as it was found
unfoldable pub decision_on : List (Option Decision) → ℕ → Option (ℕ × List ℕ)
decision_on ds n = option_map decision_decoded (slice_index_or ds n None)

-- what was found is decided, with a token of 32 bytes
pub record IsKnown (t : Trace) (n : ℕ) (d : ℕ × List ℕ) : Type 0 where
  pub decided : IsDecided t n d.0 d.1
  pub token : length d.1 ≡ 32

-- what holds all along: a place for each number, what was found is decided, and there are two decisions at
-- the least offset so far
pub record Judging (t : Trace) (ds : List (Option Decision)) (least : Option ℕ) : Type 0 where
  pub long : length ds ≡ length t.batches + 1
  pub known : (n : ℕ) → IfSome (decision_on ds n) (IsKnown t n)
  pub stands : IfSome least (StandsInVotes code.TwoDecisions t)

-- nothing was found for the batch in this view
abbrev pub IsUnnoted : List (Option Decision) → ℕ → ℕ → Type 0
IsUnnoted ds n view = (d : ℕ × List ℕ) → decision_on ds n ≡ Some d → d.0 ≢ view

-- what was found stays, and what is new is of the batch in this view
pub record Notes (before after : List (Option Decision)) (n view : ℕ) : Type 0 where
  pub keeps : (m : ℕ) (d : ℕ × List ℕ) → decision_on before m ≡ Some d → decision_on after m ≡ Some d
  pub adds : (m : ℕ) (d : ℕ × List ℕ) → decision_on after m ≡ Some d
      → (decision_on before m ≡ Some d) ⊎ ((m ≡ n) × (d.0 ≡ view))

-- the batch of this number stands at this offset
abbrev pub IsBatchAt : Trace → ℕ → ℕ → Type 0
IsBatchAt t n at = SomePlace (batches_at t) (λ _ b. (b.0 ≡ at) × (b.1.0 ≡ n))

-- two decisions were found for the batch, which stands at this offset alone
pub record IsClash (t : Trace) (n : ℕ) (least : Option ℕ) : Type 0 where
  pub offset : ℕ
  pub only : (at : ℕ) → IsBatchAt t n at → at ≡ offset
  pub below : IsBelow least offset

-- a decision was found for the batch, in this view or in another, which is then known
pub record IsFound (t : Trace) (ds : List (Option Decision)) (least : Option ℕ) (n view : ℕ) : Type 0 where
  pub found : ℕ × List ℕ
  pub is : decision_on ds n ≡ Some found
  pub same : (found.0 ≡ view) ⊎ IsClash t n least

-- what is decided for the batch in this view was found
abbrev pub Agrees : Trace → List (Option Decision) → Option ℕ → ℕ → ℕ → Type 0
Agrees t ds least n view = (token : List ℕ) → IsDecided t n view token → IsFound t ds least n view

-- the decisions are those of the trace
pub record AreDecisions (t : Trace) (ds : List (Option Decision)) : Type 0 where
  pub known : (n : ℕ) → IfSome (decision_on ds n) (IsKnown t n)
  pub all : (n view : ℕ) (token : List ℕ) → IsDecided t n view token → decision_on ds n ≡ Some (view, token)
