-- What a replica committed: the bank and the replies after each batch.
-- docs/MODEL.md, "Bank and replies after a committed batch".
use Rattle.std.specs.Prelude.{◌≡◌, ℕ, ℤ, zero, suc, List, [], ◌∷◌, ◌++◌, map, take, length, ◌*◌}
use Rattle.std.specs.List.{flat_map}
use Rattle.eve_smallbank.specs.SmallBank.{Bank, run}
use Rattle.eve_smallbank.specs.Access.{Executed, bank_of}
use Rattle.eve_smallbank.specs.Conflict.{AgreesWithConflicts, IsReordering}
use Rattle.eve_grammar.specs.Trace.{Attempt, Trace}
use Rattle.eve_history.specs.Section.{Came, Placed, came_by, attempts_by}
use Rattle.eve_history.specs.SectionHistory.{asked_in, history, names_of}
use Rattle.eve_grammar.specs.Trace.{RequestId, request_id}
use Rattle.eve_chains.specs.Visible.{opening_of, rows_after}

-- ---- banks

abbrev pub attempts_of : List Placed → List Attempt
attempts_of ps = map (λ p. p.attempt) ps

-- the attempts by which replica e reached numbers up to n
abbrev pub committed_to : Trace → ℕ → ℕ → List Attempt
committed_to t e n = attempts_of (attempts_by (take n (history t e).ways_reached))

-- what happened to replica e's rows where it reached the numbers up to n
abbrev pub path_to : Trace → ℕ → ℕ → List Came
path_to t e n = flat_map came_by (take n (history t e).ways_reached)

-- the opening balances with what came up to number n, by row
abbrev pub values_to : Trace → ℕ → ℕ → ℕ → ℤ
values_to t e n row = (rows_after t (path_to t e n) row).value

-- the same as a bank
unfoldable pub bank_after : Trace → ℕ → ℕ → Bank
bank_after t e n = bank_of (names_of t) (values_to t e n)

-- the values of the rows below this number, in order
abbrev pub first_rows : ℕ → (ℕ → ℤ) → List ℤ
first_rows zero values = []
first_rows (suc n) values = first_rows n values ++ values n ∷ []

-- the balances of all customers after batch n, row by row
abbrev pub balances_to : Trace → ℕ → ℕ → List ℤ
balances_to t e n = first_rows (2 * length t.customers) (values_to t e n)

-- the bank of the opening balances
unfoldable pub opening_bank : Trace → Bank
opening_bank t = bank_of (names_of t) (opening_of t)

-- ---- one-thread SmallBank

-- run one after another from the first bank, the requests lead to the last bank, with the replies that they have
abbrev pub Leads : Bank → List Executed → Bank → Type 0
Leads first xs last = run first (map (λ x. x.request) xs) ≡ (last, map (λ x. x.reply) xs)

-- What was executed between two banks is SmallBank on one thread in this order, which agrees with the conflict order,
-- and in every order of the same requests that agrees with it.
pub record IsSerialBetween (first last : Bank) (xs : List Executed) : Type 0 where
  pub serial : Leads first xs last
  pub agrees : AgreesWithConflicts xs
  pub any_order : (ys : List Executed) → IsReordering ys xs → AgreesWithConflicts ys → Leads first ys last

-- ---- which requests took effect

-- the requests of an attempt in its certificate's order, by client and number
abbrev pub request_ids_in : Trace → Attempt → List RequestId
request_ids_in t a = map (λ index. request_id (asked_in t a index)) a.certificate

-- of all that replica e committed, in order
unfoldable pub committed_request_ids : Trace → ℕ → List RequestId
committed_request_ids t e = flat_map (request_ids_in t) (attempts_of (attempts_by (history t e).ways_reached))

-- those of all batches
unfoldable pub batch_request_ids : Trace → List RequestId
batch_request_ids t = flat_map (λ b. map request_id b.requests) t.batches
