-- The lines of a workload, and its one text. docs/DEPLOYMENT.md, "Workload"; docs/TRACE.md, "Workload".
use Rattle.std.specs.Prelude.{ℕ, List, [], ◌∷◌, ◌++◌, map, codes}
use Rattle.std.specs.List.{flat_map, join_with_byte}
use Rattle.std.specs.Fmt.{decimal, signed_decimal}
use Rattle.eve_smallbank.specs.SmallBank.{Request, Balance, DepositChecking, TransactSaving, Amalgamate, WriteCheck}
use Rattle.eve_grammar.specs.Trace.{Customer, Asked}
use Rattle.eve_workload.specs.declared.deployment.Deployment.{Deployment}
use Rattle.eve_workload.specs.Workload.{Workload}

-- what a line says
pub data Line : Type 0 where
  HeadLine : Deployment → Line
  CustomerLine : Customer → Line
  BatchLine : Line
  RequestLine : Asked → Line

-- a request's words: what is asked for, the client and its number, and the rest
abbrev pub request_words : List ℕ → List ℕ → Request → List (List ℕ)
request_words client number (Balance name) = codes "balance" ∷ client ∷ number ∷ name ∷ []
request_words client number (DepositChecking name amount) =
    codes "deposit" ∷ client ∷ number ∷ name ∷ signed_decimal amount ∷ []
request_words client number (TransactSaving name amount) =
    codes "transact" ∷ client ∷ number ∷ name ∷ signed_decimal amount ∷ []
request_words client number (Amalgamate from to) = codes "amalgamate" ∷ client ∷ number ∷ from ∷ to ∷ []
request_words client number (WriteCheck name amount) =
    codes "check" ∷ client ∷ number ∷ name ∷ signed_decimal amount ∷ []

-- the words of a line; numbers are decimal without leading zeros
abbrev pub line_words : Line → List (List ℕ)
line_words (HeadLine d) =
    codes "eve" ∷ decimal d.replicas ∷ decimal d.verifiers ∷ decimal d.quorum ∷ decimal d.window ∷ decimal d.workers ∷
    []
line_words (CustomerLine c) = codes "customer" ∷ c.name ∷ signed_decimal c.saving ∷ signed_decimal c.checking ∷ []
line_words BatchLine = codes "batch" ∷ []
line_words (RequestLine a) = request_words (decimal a.client) (decimal a.number) a.request

-- one space between words, and a line feed
abbrev pub text_of_words : List (List ℕ) → List ℕ
text_of_words words = join_with_byte 32 words ++ 10 ∷ []

abbrev pub line_text : Line → List ℕ
line_text line = text_of_words (line_words line)

-- a batch: its line, and one for each request
abbrev pub batch_lines : List Asked → List Line
batch_lines requests = BatchLine ∷ map RequestLine requests

abbrev pub lines_of : Workload → List Line
lines_of w = HeadLine w.deployment ∷ (map CustomerLine w.customers ++ flat_map batch_lines w.batches)

-- the workload as a person types it
abbrev pub workload_text : Workload → List ℕ
workload_text w = flat_map line_text (lines_of w)
