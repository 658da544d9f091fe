-- What a chain of executed requests says: SmallBank on one thread gives the same bank and replies.
-- docs/MODEL.md, "Conflict order, serial order".
use Rattle.std.specs.Prelude.{◌≡◌, ℕ, List, map}
use Rattle.std.specs.List.{AllByRecursion}
use Rattle.eve_smallbank.specs.SmallBank.{Bank, run}
use Rattle.eve_smallbank.specs.declared.entry.Entry.{Entry}
use Rattle.eve_smallbank.specs.Access.{Executed, bank_of, Fits}
use Rattle.eve_smallbank.specs.Chain.{Table, visible_at, values_of, before_rest, IsRowChained}
use Rattle.eve_smallbank.specs.Conflict.{AgreesWithConflicts, IsReordering}

-- the bank that is visible after these entries, of which the nearest stands first
abbrev pub bank_at : List (List ℕ) → Table → List Entry → Bank
bank_at names base before = bank_of names (values_of (visible_at base before))

-- run in the order ys, the requests lead from the bank before to the bank after xs, with their replies
abbrev pub RunsTo : List (List ℕ) → Table → List Entry → List Executed → List Executed → Type 0
RunsTo names base before xs ys =
    run (bank_at names base before) (map (λ x. x.request) ys)
    ≡ (bank_at names base (before_rest before xs), map (λ x. x.reply) ys)

-- each request fits by itself, and each row is chained by itself
pub record IsSound (names : List (List ℕ)) (base : Table) (before : List Entry) (xs : List Executed) : Type 0 where
  pub fits : AllByRecursion (Fits names) xs
  pub chained : (row : ℕ) → IsRowChained base row before xs

-- The order is serial, agrees with the conflict order, and so is each other order that does.
pub record IsSerial (names : List (List ℕ)) (base : Table) (before : List Entry) (xs : List Executed) : Type 0 where
  pub serial : RunsTo names base before xs xs
  pub agrees : AgreesWithConflicts xs
  pub any_order : (ys : List Executed) → IsReordering ys xs → AgreesWithConflicts ys → RunsTo names base before xs ys
