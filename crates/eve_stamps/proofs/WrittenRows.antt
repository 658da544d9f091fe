-- What write after write makes of rows.
use Rattle.std.proofs.Common.{◌≡◌, ℕ, zero, suc, ◌+◌, cond, IsTrue, List, [], ◌∷◌}
use Rattle.std.proofs.Common.{take, drop, filter, length, slice_get, get_or, Some, refl, sym, subst, ap, ◌∙◌, ◌≤◌, ◌<◌}
use Rattle.std.proofs.Common.{arith}
use Rattle.std.specs.List.{AllByRecursion}
use Rattle.std.proofs.lemmas.Bool.{le-leb, le-ltb}
use Rattle.eve_smallbank.specs.declared.entry.Entry.{Entry}
use Rattle.eve_smallbank.specs.Chain.{Table, table_after}
use Rattle.eve_smallbank.proofs.Chains.{table_after-append}
use Rattle.eve_grammar.proofs.Lists.{take_one_more}
use Rattle.eve_stamps.specs.declared.journal.Journaled.{Journaled}
use Rattle.eve_stamps.specs.Stripes.{HeldRow, table_in, rows_in_table, RowsRise, IsEntryIn, JournalLiesIn}
use Rattle.eve_stamps.specs.Stripes.{JournalRises, table_after_journal}
use Rattle.eve_stamps.proofs.RowLaws.{table_in-whole, table_in-outside, rows_in_table-twice, rows_in_table-self}
use Rattle.eve_stamps.proofs.RowLaws.{RowsRise-rows, lies_in-rows}
use Rattle.eve_stamps.proofs.JournalLaws.{table_after-outside, all_after, up_to, behind}

pub all_taken : {A : Type 0} (P : A → Type 0) (n : ℕ) (xs : List A) → AllByRecursion P xs → AllByRecursion P (take n xs)
all_taken P zero xs all = tt
all_taken P (suc n) [] all = tt
all_taken P (suc n) (x ∷ xs) all = (all.0, all_taken P n xs all.1)

-- an entry of the rows is one of the rows after writes
pub still_in : (rows : List HeldRow) (table : Table) (e : Entry) → IsEntryIn rows e
    → IsEntryIn (rows_in_table table rows) e
still_in rows table e own =
    record { there = subst IsTrue (sym (lies_in-rows table rows e.row)) own.there; limit = own.limit }

pub all_still_in : (rows : List HeldRow) (table : Table) (es : List Entry) → AllByRecursion (IsEntryIn rows) es
    → AllByRecursion (IsEntryIn (rows_in_table table rows)) es
all_still_in rows table [] own = tt
all_still_in rows table (e ∷ es) own = (still_in rows table e own.0, all_still_in rows table es own.1)

-- ---- entry by entry

pub write_more : (first now next : List HeldRow) (es : List Entry) (place : ℕ) (e : Entry)
    → AllByRecursion (IsEntryIn first) es → slice_get es place ≡ Some e
    → now ≡ rows_in_table (table_after (table_in first) (take place es)) first
    → next ≡ rows_in_table (table_after (table_in now) (e ∷ [])) now
    → next ≡ rows_in_table (table_after (table_in first) (take (place + 1) es)) first
write_more first now next es place e own at so step =
    let table : Table = table_after (table_in first) (take place es) in
    let whole : table_in now ≡ table = ap table_in so ∙ table_in-whole table first
    (λ row out. table_after-outside first (table_in first) (take place es) row
    (all_taken (IsEntryIn first) place es own) out ∙ table_in-outside first row out) in
    step
    ∙ ap (λ (t : Table). rows_in_table (table_after t (e ∷ [])) now) whole
    ∙ ap (rows_in_table (table_after table (e ∷ []))) so
    ∙ rows_in_table-twice (table_after table (e ∷ [])) table first
    ∙ ap (λ (t : Table). rows_in_table t first) (sym (table_after-append (table_in first) (take place es) (e ∷ []))
    ∙ ap (table_after (table_in first)) (sym (take_one_more es place e at)))

-- ---- tick by tick

pub all_own_still : (base : List HeldRow) (t : Table) (js : List Journaled) → JournalLiesIn base js
    → JournalLiesIn (rows_in_table t base) js
all_own_still base t [] own = tt
all_own_still base t (j ∷ js) own = (all_still_in base t j.entries own.0, all_own_still base t js own.1)

-- rows that took what a journal lost at its beginning, and what is left of it
pub record Settling (first : List HeldRow) (js : List Journaled) (tick : ℕ) (now : List HeldRow)
    (rest : List Journaled) : Type 0 where
  pub rise : RowsRise now
  pub ticks : JournalRises rest
  pub own : JournalLiesIn now rest
  pub written : rows_in_table (table_after_journal (table_in now) (filter (up_to tick) rest)) now
      ≡ rows_in_table (table_after_journal (table_in first) (filter (up_to tick) js)) first
  pub kept : filter (behind tick) rest ≡ filter (behind tick) js

pub settling_more : (first : List HeldRow) (js : List Journaled) (tick : ℕ) (now next : List HeldRow) (j : Journaled)
    (rest : List Journaled) → Settling first js tick now (j ∷ rest) → j.tick ≤ tick
    → next ≡ rows_in_table (table_after (table_in now) j.entries) now → Settling first js tick next rest
settling_more first js tick now next j rest s fits is =
    let table : Table = table_after (table_in now) j.entries in
    let left : List Journaled = filter (up_to tick) rest in
    let whole : table_in (rows_in_table table now) ≡ table = table_in-whole table now
    (λ row out. table_after-outside now (table_in now) j.entries row s.own.0 out ∙ table_in-outside now row out) in
    subst (λ (rows : List HeldRow). Settling first js tick rows rest) (sym is) (record {
      rise = RowsRise-rows table now s.rise;
      ticks = s.ticks.1;
      own = all_own_still now table rest s.own.1;
      written = ap (λ (t : Table). rows_in_table (table_after_journal t left) (rows_in_table table now)) whole
          ∙ rows_in_table-twice (table_after_journal table left) table now
          ∙ ap (λ b. rows_in_table (table_after_journal (table_in now) (cond b (j ∷ left) left)) now)
          (sym (le-leb j.tick tick fits)) ∙ s.written;
      kept = ap (λ b. cond b (j ∷ filter (behind tick) rest) (filter (behind tick) rest))
          (sym (le-ltb tick j.tick fits)) ∙ s.kept;
    })

-- with the first of what is left
pub settling_prefix : (first : List HeldRow) (js : List Journaled) (tick : ℕ) (now : List HeldRow)
    (rest : List Journaled) (j : Journaled) → Settling first js tick now rest → 0 < length rest
    → j ≡ get_or rest 0 j → Settling first js tick now (j ∷ drop 1 rest)
settling_prefix first js tick now [] j s some is = absurd (omega arith)
settling_prefix first js tick now (k ∷ rest) j s some is =
    subst (λ (i : Journaled). Settling first js tick now (i ∷ rest)) (sym is) s

pub one_less : {A : Type 0} (xs : List A) → 0 < length xs → length (drop 1 xs) < length xs
one_less [] some = absurd (omega arith)
one_less (x ∷ xs) some = omega arith

-- the rows took what was up to the tick, and what is left is what was after it
abbrev pub IsSettled : List HeldRow → List Journaled → ℕ → List HeldRow → List Journaled → Type 0
IsSettled first js tick now rest =
    (now ≡ rows_in_table (table_after_journal (table_in first) (filter (up_to tick) js)) first)
    × (rest ≡ filter (behind tick) js)

settling_end : (first : List HeldRow) (js : List Journaled) (tick : ℕ) (now : List HeldRow) (rest : List Journaled)
    → Settling first js tick now rest → (filter (up_to tick) rest ≡ []) × (filter (behind tick) rest ≡ rest)
    → IsSettled first js tick now rest
settling_end first js tick now rest s after = (
  sym (rows_in_table-self now s.rise)
      ∙ ap (λ (ks : List Journaled). rows_in_table (table_after_journal (table_in now) ks) now) (sym after.0)
      ∙ s.written,
  sym after.1 ∙ s.kept,
)

pub none_left : (first : List HeldRow) (js : List Journaled) (tick : ℕ) (now : List HeldRow) (rest : List Journaled)
    → Settling first js tick now rest → length rest ≤ 0 → IsSettled first js tick now rest
none_left first js tick now [] s none = settling_end first js tick now [] s (refl, refl)
none_left first js tick now (j ∷ rest) s none = absurd (omega arith)

pub rest_is_after : (first : List HeldRow) (js : List Journaled) (tick : ℕ) (now : List HeldRow)
    (rest : List Journaled) (j : Journaled) → Settling first js tick now rest → 0 < length rest
    → j ≡ get_or rest 0 j → tick < j.tick → IsSettled first js tick now rest
rest_is_after first js tick now [] j s some is less = absurd (omega arith)
rest_is_after first js tick now (k ∷ rest) j s some is less =
    settling_end first js tick now (k ∷ rest) s
    (all_after tick k rest (subst (λ (i : Journaled). tick < i.tick) is less) s.ticks)
