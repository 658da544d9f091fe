-- The words of lines: names, tokens, replies, requests, entries, what rows have.
-- docs/USING.md, "What `show --long` prints".
use Rattle.std.specs.Prelude.{ℕ, ℤ, Bool, true, false, if◌then◌else◌, List, [], ◌∷◌, ◌++◌, take, codes, decimal}
use Rattle.std.specs.Fmt.{signed_decimal}
use Rattle.hex.specs.Hex.{encode_lower}
use Rattle.eve_smallbank.specs.SmallBank.{Request, Balance, DepositChecking, TransactSaving, Amalgamate, WriteCheck}
use Rattle.eve_smallbank.specs.declared.request.Abort.{Abort}
use Rattle.eve_smallbank.specs.declared.request.Abort.TheVariants.{NoSuchName, BadAmount, Insufficient, OutOfRange}
use Rattle.eve_smallbank.specs.declared.request.Reply.{Reply}
use Rattle.eve_smallbank.specs.declared.request.Reply.TheVariants.{Done, Total, Aborted}
use Rattle.eve_smallbank.specs.declared.entry.Kind.{Kind}
use Rattle.eve_smallbank.specs.declared.entry.Kind.TheVariants.{Read, Write}
use Rattle.eve_smallbank.specs.declared.entry.Entry.{Entry}
use Rattle.eve_smallbank.specs.declared.versioned.Versioned.{Versioned}
use Rattle.eve_grammar.specs.Trace.{Asked}
use Rattle.eve_lines.specs.declared.line.TheConstants.{LONGEST_NAME, TOKEN_LEN}

-- a name, of which a trace has no longer ones
abbrev pub name_words : List ℕ → List ℕ
name_words name = take LONGEST_NAME name

-- a token, of 32 bytes: two hexadecimal digits for each
abbrev pub token_words : List ℕ → List ℕ
token_words token = encode_lower (take TOKEN_LEN token)

-- how the requests of an attempt were executed
abbrev pub mode_words : Bool → List ℕ
mode_words serial = if serial then codes "serial" else codes "parallel"

-- ---- lists

-- what parts an item from what stands before it: from the first of them, or from the one before
abbrev pub parting : Bool → List ℕ
parting has_begun = if has_begun then codes "; " else codes ": "

-- the words of the items of a list that are still to come
abbrev pub list_words : Bool → List (List ℕ) → List ℕ
list_words has_begun [] = []
list_words has_begun (words ∷ rest) = parting has_begun ++ (words ++ list_words true rest)

-- the words of a list's items, `none` where it has none
abbrev pub list_or_none : List (List ℕ) → List ℕ
list_or_none [] = codes ": none"
list_or_none (words ∷ rest) = list_words false (words ∷ rest)

-- ---- replies

-- why a transaction changed nothing
abbrev pub abort_words : Abort → List ℕ
abort_words NoSuchName = codes "NoSuchName"
abort_words BadAmount = codes "BadAmount"
abort_words Insufficient = codes "Insufficient"
abort_words OutOfRange = codes "OutOfRange"

-- `Done`, `Total 2000`, or why nothing changed
abbrev pub reply_words : Reply → List ℕ
reply_words Done = codes "Done"
reply_words (Total total) = codes "Total " ++ signed_decimal total
reply_words (Aborted why) = abort_words why

-- ---- requests, as a workload has them

-- what the line of a workload begins with
abbrev pub request_word : Request → List ℕ
request_word (Balance name) = codes "balance "
request_word (DepositChecking name amount) = codes "deposit "
request_word (TransactSaving name amount) = codes "transact "
request_word (Amalgamate from to) = codes "amalgamate "
request_word (WriteCheck name amount) = codes "check "

-- a name and an amount
abbrev pub move_words : List ℕ → ℤ → List ℕ
move_words name amount = name_words name ++ (codes " " ++ signed_decimal amount)

-- the names, and the amount
abbrev pub operand_words : Request → List ℕ
operand_words (Balance name) = name_words name
operand_words (DepositChecking name amount) = move_words name amount
operand_words (TransactSaving name amount) = move_words name amount
operand_words (Amalgamate from to) = name_words from ++ (codes " " ++ name_words to)
operand_words (WriteCheck name amount) = move_words name amount

-- `deposit 7 2 ann 7`: what is asked for, the client, the client's number for it, the operands
unfoldable pub asked_words : Asked → List ℕ
asked_words a =
    request_word a.request ++ (decimal a.client ++ (codes " " ++ (decimal a.number ++ (codes " "
    ++ operand_words a.request))))

-- ---- rows and entries

-- ` version 1 value 100`
unfoldable pub versioned_words : ℕ → ℤ → List ℕ
versioned_words version value = codes " version " ++ (decimal version ++ (codes " value " ++ signed_decimal value))

-- `row 1 version 1 value 100`: a row, and what it has
abbrev pub row_words : ℕ × Versioned → List ℕ
row_words r = codes "row " ++ (decimal r.0 ++ versioned_words r.1.version r.1.value)

-- `read` or `write`
abbrev pub kind_word : Kind → List ℕ
kind_word Read = codes "read"
kind_word Write = codes "write"

-- what a write left
abbrev pub after_words : Kind → ℤ → List ℕ
after_words Read after = []
after_words Write after = codes " to " ++ signed_decimal after

-- `read row 0 version 0 value 0`, `write row 1 version 0 value 0 to 500`
unfoldable pub entry_words : Entry → List ℕ
entry_words e =
    kind_word e.kind ++ (codes " row " ++ (decimal e.row ++ (versioned_words e.version e.seen
    ++ after_words e.kind e.after)))
