-- The replies that replicas send. docs/DEPLOYMENT.md, "A run".
use Rattle.std.specs.Prelude.{ℕ, zero, suc, ◌+◌, List, [], ◌∷◌, ◌++◌, slice_get, Option, Some, None}
use Rattle.eve_smallbank.specs.declared.request.Reply.{Reply}
use Rattle.eve_grammar.specs.Trace.{Asked, Batch, Attempt, Step, Attempts, Commits, RollsBack, Transfers, Sent}

-- what replica e sends for these requests of the batch with this number: a reply for each
abbrev pub answered : ℕ → ℕ → List Asked → List Reply → List Sent
answered e seq [] replies = []
answered e seq (asked ∷ requests) [] = []
answered e seq (asked ∷ requests) (reply ∷ replies) =
    record { client = asked.client; number = asked.number; replica = e; seq = seq; reply = reply }
    ∷ answered e seq requests replies

-- the requests of a batch, where there is one
abbrev pub requests_there : Option Batch → List Asked
requests_there None = []
requests_there (Some b) = b.requests

-- those of the batch with this number
abbrev pub requests_numbered : List Batch → ℕ → List Asked
requests_numbered batches zero = []
requests_numbered batches (suc place) = requests_there (slice_get batches place)

-- what replica e sends for an attempt
abbrev pub answers_of : List Batch → ℕ → Attempt → List Sent
answers_of batches e a = answered e a.seq (requests_numbered batches a.seq) a.replies

-- what replica e sends along its section, where these attempts are open: at each commit the replies of the first of
-- them
abbrev pub sent_along : List Batch → ℕ → List Attempt → List Step → List Sent
sent_along batches e opened [] = []
sent_along batches e opened (Attempts a ∷ steps) = sent_along batches e (opened ++ a ∷ []) steps
sent_along batches e [] (Commits c ∷ steps) = sent_along batches e [] steps
sent_along batches e (a ∷ opened) (Commits c ∷ steps) = answers_of batches e a ++ sent_along batches e opened steps
sent_along batches e opened (RollsBack r ∷ steps) = sent_along batches e [] steps
sent_along batches e opened (Transfers x ∷ steps) = sent_along batches e [] steps

-- what all replicas from e on send, one after another
abbrev pub sent_from_on : List Batch → ℕ → List (List Step) → List Sent
sent_from_on batches e [] = []
sent_from_on batches e (steps ∷ sections) = sent_along batches e [] steps ++ sent_from_on batches (e + 1) sections
