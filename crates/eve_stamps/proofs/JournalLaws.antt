-- Public: other crates cite these lemmas. Journals, entry by entry and tick by tick.
use Rattle.std.proofs.Common.{◌≡◌, ℕ, ◌<◌, nat_le, nat_lt, ◌==◌, Bool, true, false, cond, ◌&&◌, List, [], ◌∷◌, ◌++◌}
use Rattle.std.proofs.Common.{filter, refl, sym, ap, ap₂, ◌∙◌, inl, inr, arith}
use Rattle.std.specs.List.{AllByRecursion}
use Rattle.std.proofs.lemmas.Bool.{cases_lt, eqb-true, lt-leb, le-leb, lt-ltb, le-ltb, false≢true}
use Rattle.eve_smallbank.specs.declared.entry.Entry.{Entry}
use Rattle.eve_smallbank.specs.Access.{is_write, writes_row}
use Rattle.eve_smallbank.specs.Chain.{Table, left_by, table_after}
use Rattle.eve_grammar.proofs.Lists.{all-filter}
use Rattle.eve_stamps.specs.declared.journal.Journaled.{Journaled}
use Rattle.eve_stamps.specs.Stripes.{HeldRow, Stripe, IsStripe, lies_in, table_in, rows_in_table, committed, rows_now}
use Rattle.eve_stamps.specs.Stripes.{table_after_journal, IsEntryIn, JournalLiesIn, JournalRises, stripe_with}
use Rattle.eve_stamps.specs.Stripes.{settled_to}
use Rattle.eve_stamps.proofs.RowLaws.{table_in-outside, table_in-whole}

pub table_after_journal-append : (table : Table) (xs ys : List Journaled) → table_after_journal table (xs ++ ys)
    ≡ table_after_journal (table_after_journal table xs) ys
table_after_journal-append table [] ys = refl
table_after_journal-append table (x ∷ xs) ys = table_after_journal-append (table_after table x.entries) xs ys

pub rows_now-noted : (s : Stripe) (tick : ℕ) (entries : List Entry) → rows_now (stripe_with s tick entries)
    ≡ table_after (rows_now s) entries
rows_now-noted s tick entries = table_after_journal-append (committed s) s.journal
    (record { tick = tick; entries = entries } ∷ [])

-- ---- rows that lie elsewhere are kept

elsewhere : (rows : List HeldRow) (e : Entry) (row : ℕ) → IsEntryIn rows e → lies_in rows row ≡ false → writes_row row e
    ≡ false
elsewhere rows e row own out = step (is_write e.kind) (e.row == row) refl refl
  where
    step : (b c : Bool) → is_write e.kind ≡ b → (e.row == row) ≡ c → (b && c) ≡ false
    step false c h g = refl
    step true false h g = refl
    step true true h g = absurd (false≢true (sym out ∙ ap (lies_in rows) (sym (eqb-true e.row row g)) ∙ own.there))

pub table_after-outside : (rows : List HeldRow) (table : Table) (es : List Entry) (row : ℕ)
    → AllByRecursion (IsEntryIn rows) es → lies_in rows row ≡ false → table_after table es row ≡ table row
table_after-outside rows table [] row own out = refl
table_after-outside rows table (e ∷ es) row own out =
    table_after-outside rows (λ r. cond (writes_row r e) (left_by e) (table r)) es row own.1 out
    ∙ ap (λ b. cond b (left_by e) (table row)) (elsewhere rows e row own.0 out)

pub journal_outside : (rows : List HeldRow) (table : Table) (js : List Journaled) (row : ℕ) → JournalLiesIn rows js
    → lies_in rows row ≡ false → table_after_journal table js row ≡ table row
journal_outside rows table [] row own out = refl
journal_outside rows table (j ∷ js) row own out =
    journal_outside rows (table_after table j.entries) js row own.1 out
    ∙ table_after-outside rows table j.entries row own.0 out

-- the rows after a journal of theirs tell the whole table
pub table_in-journal : (rows : List HeldRow) (js : List Journaled) → JournalLiesIn rows js
    → table_in (rows_in_table (table_after_journal (table_in rows) js) rows) ≡ table_after_journal (table_in rows) js
table_in-journal rows js own =
    table_in-whole (table_after_journal (table_in rows) js) rows
    (λ row out. journal_outside rows (table_in rows) js row own out ∙ table_in-outside rows row out)

-- ---- up to a tick, and after it

abbrev pub up_to : ℕ → Journaled → Bool
up_to tick j = nat_le j.tick tick

abbrev pub behind : ℕ → Journaled → Bool
behind tick j = nat_lt tick j.tick

-- after a tick that is after, all are
none_up_to : (tick above : ℕ) (js : List Journaled) → tick < above → AllByRecursion (λ k. above < k.tick) js
    → filter (up_to tick) js ≡ []
none_up_to tick above [] less rise = refl
none_up_to tick above (j ∷ js) less rise =
    ap (λ b. cond b (j ∷ filter (up_to tick) js) (filter (up_to tick) js)) (lt-leb j.tick tick (omega (arith, rise.0)))
    ∙ none_up_to tick above js less rise.1

all_behind : (tick above : ℕ) (js : List Journaled) → tick < above → AllByRecursion (λ k. above < k.tick) js
    → filter (behind tick) js ≡ js
all_behind tick above [] less rise = refl
all_behind tick above (j ∷ js) less rise =
    ap (λ b. cond b (j ∷ filter (behind tick) js) (filter (behind tick) js))
    (lt-ltb tick j.tick (omega (arith, rise.0)))
    ∙ ap (λ (ks : List Journaled). j ∷ ks) (all_behind tick above js less rise.1)

-- of a journal that begins after the tick nothing is up to it
pub all_after : (tick : ℕ) (j : Journaled) (js : List Journaled) → tick < j.tick → JournalRises (j ∷ js)
    → (filter (up_to tick) (j ∷ js) ≡ []) × (filter (behind tick) (j ∷ js) ≡ j ∷ js)
all_after tick j js less rise = (
  ap (λ b. cond b (j ∷ filter (up_to tick) js) (filter (up_to tick) js)) (lt-leb j.tick tick less)
      ∙ none_up_to tick j.tick js less rise.0,
  ap (λ b. cond b (j ∷ filter (behind tick) js) (filter (behind tick) js)) (lt-ltb tick j.tick less)
      ∙ ap (λ (ks : List Journaled). j ∷ ks) (all_behind tick j.tick js less rise.0),
)

-- a journal that rises is what is up to the tick, and then what is after it
pub split_at_tick : (tick : ℕ) (js : List Journaled) → JournalRises js
    → filter (up_to tick) js ++ filter (behind tick) js ≡ js
split_at_tick tick [] rise = refl
split_at_tick tick (j ∷ js) rise =
    elim (cases_lt tick j.tick) [
      | inl less ↦
          let after = all_after tick j js less rise in
          ap₂ (λ (ks ls : List Journaled). ks ++ ls) after.0 after.1
      | inr not_less ↦
          ap₂ (λ b c. cond b (j ∷ filter (up_to tick) js) (filter (up_to tick) js) ++ cond c
          (j ∷ filter (behind tick) js) (filter (behind tick) js)) (le-leb j.tick tick not_less)
          (le-ltb tick j.tick not_less)
          ∙ ap (λ (ks : List Journaled). j ∷ ks) (split_at_tick tick js rise.1)
    ]

-- settling keeps the rows now
pub rows_now-settled : (s : Stripe) (tick : ℕ) → IsStripe s → rows_now (settled_to tick s) ≡ rows_now s
rows_now-settled s tick stands =
    let settled : List Journaled = filter (up_to tick) s.journal in
    let rest : List Journaled = filter (behind tick) s.journal in
    ap (λ (table : Table). table_after_journal table rest)
    (table_in-journal s.base settled
    (all-filter (λ (j : Journaled). AllByRecursion (IsEntryIn s.base) j.entries) (up_to tick) s.journal stands.own))
    ∙ sym (table_after_journal-append (committed s) settled rest)
    ∙ ap (table_after_journal (committed s)) (split_at_tick tick s.journal stands.rising)
