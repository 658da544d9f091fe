-- Which line may stand after which in a format, and the first that may not. Of the lines before, the nearest stands
-- first.
-- docs/DEPLOYMENT.md, "Workload"; docs/TRACE.md, "Workload".
use Rattle.std.specs.Prelude.{◌≡◌, ℕ, ◌+◌, nat_lt, Bool, true, false, IsTrue, List, [], ◌∷◌, ◌++◌, ⊤, map, length}
use Rattle.std.specs.Prelude.{Contains}
use Rattle.eve_grammar.specs.declared.limits.TheConstants.{MOST_BATCHES, MOST_REQUESTS}
use Rattle.eve_grammar.specs.Trace.{Customer, Asked}
use Rattle.eve_grammar.specs.Limits.{is_customer, is_asked, most_customers}
use Rattle.eve_workload.specs.Workload.{is_deployment, customer_names}
use Rattle.eve_grammar.specs.Trace.{request_id}
use Rattle.eve_workload.specs.Lines.{Line, HeadLine, CustomerLine, BatchLine, RequestLine, line_text}

-- the customers of lines, as they are listed
abbrev pub customers_in : List Line → List Customer
customers_in [] = []
customers_in (HeadLine d ∷ before) = customers_in before
customers_in (CustomerLine c ∷ before) = customers_in before ++ c ∷ []
customers_in (BatchLine ∷ before) = customers_in before
customers_in (RequestLine a ∷ before) = customers_in before

-- the requests of lines, as they are listed
abbrev pub requests_in : List Line → List Asked
requests_in [] = []
requests_in (HeadLine d ∷ before) = requests_in before
requests_in (CustomerLine c ∷ before) = requests_in before
requests_in (BatchLine ∷ before) = requests_in before
requests_in (RequestLine a ∷ before) = requests_in before ++ a ∷ []

-- how many batches lines open
abbrev pub batches_in : List Line → ℕ
batches_in [] = 0
batches_in (HeadLine d ∷ before) = batches_in before
batches_in (CustomerLine c ∷ before) = batches_in before
batches_in (BatchLine ∷ before) = batches_in before + 1
batches_in (RequestLine a ∷ before) = batches_in before

-- how many requests stand after the last line that isn't one
abbrev pub last_requests : List Line → ℕ
last_requests [] = 0
last_requests (HeadLine d ∷ before) = 0
last_requests (CustomerLine c ∷ before) = 0
last_requests (BatchLine ∷ before) = 0
last_requests (RequestLine a ∷ before) = last_requests before + 1

-- whether lines of these kinds may follow one another
abbrev pub may_follow : List Line → Line → Bool
may_follow [] (HeadLine d) = true
may_follow [] (CustomerLine c) = false
may_follow [] BatchLine = false
may_follow [] (RequestLine a) = false
may_follow (HeadLine d ∷ before) (HeadLine e) = false
may_follow (HeadLine d ∷ before) (CustomerLine c) = true
may_follow (HeadLine d ∷ before) BatchLine = false
may_follow (HeadLine d ∷ before) (RequestLine a) = false
may_follow (CustomerLine c ∷ before) (HeadLine d) = false
may_follow (CustomerLine c ∷ before) (CustomerLine e) = true
may_follow (CustomerLine c ∷ before) BatchLine = true
may_follow (CustomerLine c ∷ before) (RequestLine a) = false
may_follow (BatchLine ∷ before) (HeadLine d) = false
may_follow (BatchLine ∷ before) (CustomerLine c) = false
may_follow (BatchLine ∷ before) BatchLine = false
may_follow (BatchLine ∷ before) (RequestLine a) = true
may_follow (RequestLine a ∷ before) (HeadLine d) = false
may_follow (RequestLine a ∷ before) (CustomerLine c) = false
may_follow (RequestLine a ∷ before) BatchLine = true
may_follow (RequestLine a ∷ before) (RequestLine b) = true

-- whether the text may end after the lines: a customer is there, and the last batch has a request
abbrev pub may_end : List Line → Bool
may_end [] = false
may_end (HeadLine d ∷ before) = false
may_end (CustomerLine c ∷ before) = true
may_end (BatchLine ∷ before) = false
may_end (RequestLine a ∷ before) = true

-- whether what the line says lies in its ranges
abbrev pub is_line : Line → Bool
is_line (HeadLine d) = is_deployment d
is_line (CustomerLine c) = is_customer c
is_line BatchLine = true
is_line (RequestLine a) = is_asked a

-- whether there are fewer of them than there may be: as many customers as the format has, 65,535 batches, 256 requests
-- of a batch
abbrev pub has_room : ℕ → List Line → Line → Bool
has_room format before (HeadLine d) = true
has_room format before (CustomerLine c) = nat_lt (length (customers_in before)) (most_customers format)
has_room format before BatchLine = nat_lt (batches_in before) MOST_BATCHES
has_room format before (RequestLine a) = nat_lt (last_requests before) MOST_REQUESTS

-- no customer has the name yet, no request the id
abbrev pub IsNew : List Line → Line → Type 0
IsNew before (HeadLine d) = ⊤
IsNew before (CustomerLine c) = ¬ Contains (customer_names (customers_in before)) c.name
IsNew before BatchLine = ⊤
IsNew before (RequestLine a) = ¬ Contains (map request_id (requests_in before)) (request_id a)

-- the line may stand after these in this format
pub record IsRightBehind (format : ℕ) (before : List Line) (line : Line) : Type 0 where
  pub follows : IsTrue (may_follow before line)
  pub ranges : IsTrue (is_line line)
  pub room : IsTrue (has_room format before line)
  pub new : IsNew before line

-- each line may stand after those before it
abbrev pub AreRightLines : ℕ → List Line → Type 0
AreRightLines format [] = ⊤
AreRightLines format (line ∷ before) = IsRightBehind format before line × AreRightLines format before

-- the text of lines
abbrev pub text_before : List Line → List ℕ
text_before [] = []
text_before (line ∷ before) = text_before before ++ line_text line

-- The first line that isn't right in this format, counted from 1: those before it are complete and right one after
-- another, no complete line that may stand there follows, and the text may not end there.
pub record IsBadLine (format : ℕ) (bytes : List ℕ) (number : ℕ) : Type 0 where
  pub before : List Line
  pub rest : List ℕ
  pub text : bytes ≡ text_before before ++ rest
  pub right : AreRightLines format before
  pub count : number ≡ length before + 1
  pub wrong : (line : Line) (behind : List ℕ) → rest ≡ line_text line ++ behind
      → ¬ IsRightBehind format before line
  pub unended : rest ≡ [] → may_end before ≡ false
