-- What an attempt executed, and what its entries must see. docs/MODEL.md, "What an entry must see".
use Rattle.std.specs.Prelude.{ℕ, ℤ, pos, ◌==◌, if◌then◌else◌, List, [], ◌∷◌, map, fold, slice_index_or}
use Rattle.std.specs.List.{flat_map}
use Rattle.eve_smallbank.specs.declared.request.Reply.TheVariants.{Done}
use Rattle.eve_smallbank.specs.declared.entry.Entry.{Entry}
use Rattle.eve_smallbank.specs.Access.{Executed}
use Rattle.eve_smallbank.specs.Chain.{Table, before_rest, table_after_all}
use Rattle.eve_smallbank.specs.declared.versioned.Versioned.{Versioned}
use Rattle.eve_grammar.specs.Trace.{Access, Attempt, Trace}
use Rattle.eve_history.specs.Section.{Came, Ran, Transferred, Placed}
use Rattle.eve_history.specs.SectionHistory.{asked_in}

-- ---- the opening

-- the opening balance of a row
abbrev pub opening_of : Trace → ℕ → ℤ
opening_of t row = slice_index_or (flat_map (λ c. c.saving ∷ c.checking ∷ []) t.customers) row (pos 0)

-- every row at version 0, with its opening balance
abbrev pub opening_table : Trace → Table
opening_table t row = record { version = 0; value = opening_of t row }

-- ---- what an attempt executed

-- what was noted of the request with this index
abbrev pub entries_with : List Access → ℕ → List Entry
entries_with [] index = []
entries_with (x ∷ xs) index = if x.index == index then x.entries else entries_with xs index

-- the request with this index, with its reply and these entries
abbrev pub executed_with : Trace → Attempt → ℕ → List Entry → Executed
executed_with t a index entries =
    record { request = (asked_in t a index).request; reply = slice_index_or a.replies index Done; entries = entries }

-- the request with this index, as the attempt executed it
abbrev pub executed_at : Trace → Attempt → ℕ → Executed
executed_at t a index = executed_with t a index (entries_with a.accesses index)

-- the request that an access record is of
abbrev pub executed_by : Trace → Attempt → Access → Executed
executed_by t a x = executed_with t a x.index x.entries

-- the requests with these indexes
abbrev pub executed_in : Trace → Attempt → List ℕ → List Executed
executed_in t a order = map (executed_at t a) order

-- the attempt's requests in its certificate's order
abbrev pub execution : Trace → Attempt → List Executed
execution t a = executed_in t a a.certificate

-- those of one attempt after another
abbrev pub executions : Trace → List Attempt → List Executed
executions t attempts = flat_map (execution t) attempts

-- ---- what an entry must see

-- a state that was transferred, row by row; past its end version 0 and value 0
abbrev pub transferred_table : List Versioned → Table
transferred_table rows row = slice_index_or rows row (record { version = 0; value = pos 0 })

-- a table after what happened to the rows: what an attempt executed, or a state in its place
abbrev pub with_came : Trace → Table → Came → Table
with_came t table (Ran a) = table_after_all table (execution t a)
with_came t table (Transferred rows) = transferred_table rows

-- what the rows have after a path: the opening balances, and what came since
abbrev pub rows_after : Trace → List Came → Table
rows_after t path = fold (with_came t) (opening_table t) path

-- the indexes that stand before this one
abbrev pub before_index : ℕ → List ℕ → List ℕ
before_index index [] = []
before_index index (j ∷ order) = if j == index then [] else j ∷ before_index index order

-- What the request with this index must see: the rows as the path leaves them, and in the attempt itself the requests
-- that stand before this index in the certificate.
-- What is seen instead is F40 Version or F41 Value.
abbrev pub visible_to : Trace → Placed → ℕ → Table
visible_to t p index = table_after_all (rows_after t p.path)
    (executed_in t p.attempt (before_index index p.attempt.certificate))

-- ---- the same by the nearest write

-- The entries along attempts, the nearest first: the law on nearest writes is said of them, and nothing else.
abbrev pub entries_before : Trace → List Attempt → List Entry
entries_before t attempts = before_rest [] (executions t attempts)
