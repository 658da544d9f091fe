-- What a draft keeps of the lines that it has taken. Of the lines before, the nearest stands first.
use Rattle.std.specs.Prelude.{◌≡◌, ℕ, ◌*◌, ◌<◌, ◌≤◌, Bool, take, List, [], ◌∷◌, ◌++◌, map, length, Option, Some, None}
use Rattle.std.specs.Prelude.{IfSome, IsTrue, MatchBool}
use Rattle.std.specs.List.{list_any}
use Rattle.std.specs.Borrow.{Bor}
use Rattle.eve_accounts.specs.Names.{same_name}
use Rattle.eve_grammar.specs.declared.limits.TheConstants.{MOST_CUSTOMERS, MOST_BATCHES, MOST_REQUESTS}
use Rattle.eve_grammar.specs.Trace.{Asked, request_id}
use Rattle.eve_write.specs.Data.{customer}
use Rattle.eve_workload.specs.declared.deployment.Deployment.{Deployment}
use Rattle.eve_workload.specs.declared.draft.Last.{Last}
use Rattle.eve_workload.specs.declared.draft.Last.TheVariants as last
use Rattle.eve_workload.specs.declared.draft.Draft.{Draft}
use Rattle.eve_workload.specs.Workload.{customer_names}
use Rattle.eve_workload.specs.Batches.{asked_lists, push_last}
use Rattle.eve_workload.specs.Lines.{Line, HeadLine, CustomerLine, BatchLine, RequestLine, line_text}
use Rattle.eve_workload.specs.Steps.{customers_in, requests_in, last_requests, IsRightBehind, AreRightLines}
use Rattle.eve_workload.specs.Steps.{text_before, may_end}
use Rattle.eve_workload.specs.inner.RequestIds.{AreSeen}

-- what the last line is
abbrev pub last_in : List Line → Last
last_in [] = last.Nothing
last_in (HeadLine d ∷ before) = last.Head
last_in (CustomerLine c ∷ before) = last.Customer
last_in (BatchLine ∷ before) = last.Batch
last_in (RequestLine a ∷ before) = last.Request

-- the deployment of the last head
abbrev pub deployment_in : List Line → Option Deployment
deployment_in [] = None
deployment_in (HeadLine d ∷ before) = Some d
deployment_in (CustomerLine c ∷ before) = deployment_in before
deployment_in (BatchLine ∷ before) = deployment_in before
deployment_in (RequestLine a ∷ before) = deployment_in before

-- the requests of each batch that lines open
abbrev pub listed_in : List Line → List (List Asked)
listed_in [] = []
listed_in (HeadLine d ∷ before) = listed_in before
listed_in (CustomerLine c ∷ before) = listed_in before
listed_in (BatchLine ∷ before) = listed_in before ++ [] ∷ []
listed_in (RequestLine a ∷ before) = push_last (listed_in before) a

-- the number of the line after the head, or of the head
abbrev pub next_of : List Line → ℕ
next_of [] = 1
next_of (line ∷ before) = 2

-- whether a name is among keys
abbrev pub has_name : List (Bor (List ℕ)) → List ℕ → Bool
has_name keys name = list_any (λ key. same_name name key.now) keys

-- few enough that their counts fit
pub record IsSmall (d : Draft) : Type 0 where
  pub customers : length d.customers.items ≤ MOST_CUSTOMERS
  pub batches : length d.batches.items ≤ MOST_BATCHES
  pub requests : d.requests ≤ MOST_BATCHES * MOST_REQUESTS

-- the draft keeps these lines, which are right in its format
pub record Keeps (d : Draft) (before : List Line) : Type 0 where
  pub right : AreRightLines d.format before
  pub last : d.last ≡ last_in before
  pub deployment : IfSome (deployment_in before) (λ e. d.deployment ≡ e)
  pub customers : map customer d.customers.items ≡ customers_in before
  pub batches : asked_lists d.batches.items ≡ listed_in before
  pub requests : d.requests ≡ length (requests_in before)
  pub count : d.count ≡ last_requests before
  pub names : (name : List ℕ) → has_name d.names.keys name ≡ list_any (same_name name)
      (customer_names (customers_in before))
  pub request_ids : AreSeen d.request_ids (map request_id (requests_in before))

-- the line was taken, or it may not stand after these
abbrev pub Takes : Draft → List Line → Line → Bool → Type 0
Takes new before line accepted = MatchBool accepted (Keeps new (line ∷ before))
    (¬ IsRightBehind new.format before line)

-- the first `n` bytes of the text are a line that was taken, or none that may stand after these is there
abbrev pub TakesLine : Draft → List Line → List ℕ → Option ℕ → Type 0
TakesLine new before text (Some len) =
    (line : Line) × (take len text ≡ line_text line) × (len ≤ length text) × (0 < len) × Keeps new (line ∷ before)
TakesLine new before text None = (line : Line) (behind : List ℕ) → text ≡ line_text line ++ behind
    → ¬ IsRightBehind new.format before line

-- the draft keeps all lines of the text, which may end after them
pub record KeepsAll (d : Draft) (text : List ℕ) : Type 0 where
  pub before : List Line
  pub keeps : Keeps d before
  pub ends : IsTrue (may_end before)
  pub text_is : text_before before ≡ text
