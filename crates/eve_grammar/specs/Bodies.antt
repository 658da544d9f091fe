-- What readers return and callers lend, without where it lies in memory.
use Rattle.std.specs.Prelude.{ℕ, List, [], Option, Some, None}
use Rattle.eve_smallbank.specs.SmallBank.{plain}
use Rattle.eve_grammar.specs.declared.request.Asked as code
use Rattle.eve_grammar.specs.declared.vote.Choice as chosen
use Rattle.eve_grammar.specs.declared.vote.Choice.TheVariants as of
use Rattle.eve_grammar.specs.declared.transfer.TransferData.{TransferData}
use Rattle.eve_grammar.specs.Trace.{Asked, Transfer, Choice, ForRollback, ForCommit}
use Rattle.eve_grammar.specs.Readers.{Reader, many_at}

-- the values of a reading, none where it failed
abbrev pub values : {A : Type 0} → Option (List A × List ℕ) → List A
values (Some x) = x.0
values None = []

-- this many values of a field that stand in bytes
abbrev pub list_in : {A : Type 0} → Reader A → ℕ → List ℕ → List A
list_in one n bytes = values (many_at one n bytes)

-- a request with its client and number
abbrev pub borrowed_asked : code.Asked → Asked
borrowed_asked a = record { client = a.client; number = a.number; request = plain a.request }

-- what was voted for
abbrev pub borrowed_choice : chosen.Choice → Choice
borrowed_choice of.ForRollback = ForRollback
borrowed_choice (of.ForCommit token) = ForCommit token.now

-- a state transferred
abbrev pub transfer : TransferData → Transfer
transfer x = record { seq = x.seq; view = x.view; rows = x.rows.items }
