-- What is noted of a request is what it makes of the rows that it sees.
use Rattle.std.proofs.Common.{◌≡◌, ℕ, ℤ, nat_le, Bool, true, false, cond, ◌&&◌, List, [], ◌∷◌, map, refl, sym, subst}
use Rattle.std.proofs.Common.{ap, ◌∙◌}
use Rattle.std.specs.List.{AllByRecursion, list_all}
use Rattle.std.proofs.lemmas.Bool.{and_parts, or_parts, false≢true}
use Rattle.eve_smallbank.specs.declared.decision.Effect.{Effect}
use Rattle.eve_smallbank.specs.declared.decision.Decision.{Decision}
use Rattle.eve_smallbank.specs.declared.entry.Kind.{Kind}
use Rattle.eve_smallbank.specs.declared.entry.Entry.{Entry}
use Rattle.eve_smallbank.specs.declared.request.Abort.TheVariants.{NoSuchName, BadAmount, Insufficient, OutOfRange}
use Rattle.eve_smallbank.specs.declared.request.Reply.{Reply}
use Rattle.eve_smallbank.specs.declared.request.Reply.TheVariants.{Done, Total, Aborted}
use Rattle.eve_smallbank.specs.declared.rows.Touched.{Touched}
use Rattle.eve_smallbank.specs.declared.rows.Touched.TheVariants as touched
use Rattle.eve_smallbank.specs.SmallBank.{Request, Bank, does}
use Rattle.eve_smallbank.specs.Access.{Executed, RowKinds, Fits, is_write, rows_of, as_reads, noted_rows, bank_of}
use Rattle.eve_smallbank.specs.Chain.{Table, Sees, values_of}
use Rattle.eve_smallbank.specs.Touch.{touched_of, rows_in, knows_names, has_bad_amount}
use Rattle.eve_smallbank.specs.Decide.{entries_from, executed_from}
use Rattle.eve_smallbank.specs.Execution.{executed_on, entry_on}
use Rattle.eve_grammar.specs.declared.limits.TheConstants.{MOST_VERSIONS}
use Rattle.eve_stamps.specs.Stripes.{HeldRow, row_in}
use Rattle.eve_stamps.specs.Requests.{is_worn}
use Rattle.eve_stamps.specs.HeldRows.{entries_on, CanBeNoted}

-- the rows, as a table has them
abbrev pub seen_rows : Table → RowKinds → List HeldRow
seen_rows table rows = map (λ r. row_in table r.0) rows

same_entries : (table : Table) (rows : RowKinds) (effects : List Effect)
    → entries_from rows (map (λ r. r.version) (seen_rows table rows)) (map (λ r. r.value) (seen_rows table rows))
    effects ≡ entries_on (seen_rows table rows) effects
same_entries table [] effects = refl
same_entries table (r ∷ rows) [] = refl
same_entries table (r ∷ rows) (effect ∷ effects) =
    ap (λ (es : List Entry). record {
      row = r.0;
      kind = effect.kind;
      version = (table r.0).version;
      seen = (table r.0).value;
      after = effect.after;
    } ∷ es) (same_entries table rows effects)

all_see : (table : Table) (rows : RowKinds) (effects : List Effect)
    → AllByRecursion (Sees table) (entries_on (seen_rows table rows) effects)
all_see table [] effects = tt
all_see table (r ∷ rows) [] = tt
all_see table (r ∷ rows) (effect ∷ effects) = (record { version = refl; value = refl }, all_see table rows effects)

-- the record of a decision is the request, executed on the table
pub executed_is : (names : List (List ℕ)) (table : Table) (request : Request) (rows : RowKinds) (seen : List HeldRow)
    (values : List ℤ) (entries : List Entry) (decision : Decision)
    → ((x : Executed) → Fits names x → AllByRecursion (Sees table) x.entries → x ≡ executed_on names table x.request)
    → seen ≡ seen_rows table rows → values ≡ map (λ r. r.value) seen
    → Fits names (executed_from request rows (map (λ r. r.version) seen) values decision)
    → entries ≡ entries_on seen decision.effects
    → executed_on names table request ≡ record { request = request; reply = decision.reply; entries = entries }
executed_is names table request rows seen values entries decision unique so told fits made =
    let all : List Entry = entries_on (seen_rows table rows) decision.effects in
    let x : Executed = record { request = request; reply = decision.reply; entries = all } in
    let valued : values ≡ map (λ r. r.value) (seen_rows table rows) = told
    ∙ ap (λ (rs : List HeldRow). map (λ r. r.value) rs) so in
    let whole : executed_from request rows (map (λ r. r.version) seen) values decision ≡ x =
    ap (λ (rs : List HeldRow). executed_from request rows (map (λ r. r.version) rs) values decision) so
    ∙ ap (λ (vs : List ℤ). executed_from request rows (map (λ r. r.version) (seen_rows table rows)) vs decision) valued
    ∙ ap (λ (es : List Entry). record { request = request; reply = decision.reply; entries = es })
    (same_entries table rows decision.effects) in
    sym (unique x (subst (Fits names) whole fits) (all_see table rows decision.effects))
    ∙ ap (λ (es : List Entry). record { request = request; reply = decision.reply; entries = es })
    (sym (made ∙ ap (λ (rs : List HeldRow). entries_on rs decision.effects) so))

-- ---- the entries are of rows that are there

record IsNotable (is_there : ℕ → Bool) (table : Table) (r : ℕ × Kind) : Type 0 where
  there : is_there r.0 ≡ true
  fresh : is_write r.1 ≡ true → nat_le MOST_VERSIONS (table r.0).version ≡ false

notable : (is_there : ℕ → Bool) (table : Table) (rows : RowKinds) → list_all (λ r. is_there r.0) rows ≡ true
    → is_worn table rows ≡ false → AllByRecursion (IsNotable is_there table) rows
notable is_there table [] there fresh = tt
notable is_there table (r ∷ rows) there fresh =
    let here = and_parts (is_there r.0) (list_all (λ q. is_there q.0) rows) there in
    let worn = or_parts (is_write r.1 && nat_le MOST_VERSIONS (table r.0).version) (is_worn table rows) fresh in (
      record {
        there = here.0;
        fresh = λ writes. ap (λ b. b && nat_le MOST_VERSIONS (table r.0).version) (sym writes)
            ∙ worn.0;
      },
      notable is_there table rows here.1 worn.1,
    )

notable_reads : (is_there : ℕ → Bool) (table : Table) (rows : RowKinds) → AllByRecursion (IsNotable is_there table) rows
    → AllByRecursion (IsNotable is_there table) (as_reads rows)
notable_reads is_there table [] all = tt
notable_reads is_there table (r ∷ rows) all = (
  record { there = all.0.there; fresh = λ writes. absurd (false≢true writes) },
  notable_reads is_there table rows all.1,
)

notable_rows : (is_there : ℕ → Bool) (table : Table) (reply : Reply) (rows : RowKinds)
    → AllByRecursion (IsNotable is_there table) rows → AllByRecursion (IsNotable is_there table) (noted_rows reply rows)
notable_rows is_there table Done rows all = all
notable_rows is_there table (Total sum) rows all = all
notable_rows is_there table (Aborted NoSuchName) rows all = tt
notable_rows is_there table (Aborted BadAmount) rows all = tt
notable_rows is_there table (Aborted Insufficient) rows all = notable_reads is_there table rows all
notable_rows is_there table (Aborted OutOfRange) rows all = notable_reads is_there table rows all

noted_entries : (is_there : ℕ → Bool) (names : List (List ℕ)) (table : Table) (bank : Bank) (rows : RowKinds)
    → AllByRecursion (IsNotable is_there table) rows
    → AllByRecursion (CanBeNoted is_there table) (map (entry_on names table bank) rows)
noted_entries is_there names table bank [] all = tt
noted_entries is_there names table bank (r ∷ rows) all = (
  record { there = all.0.there; sees = record { version = refl; value = refl }; fresh = all.0.fresh },
  noted_entries is_there names table bank rows all.1,
)

none_left : {A B : Type 0} (f : A → B) (xs : List A) → map f xs ≡ [] → xs ≡ []
none_left f [] e = refl
none_left f (x ∷ xs) e = cc

pub all_noted : (names : List (List ℕ)) (table : Table) (request : Request) (reached : Touched) (is_there : ℕ → Bool)
    → reached ≡ touched_of names request
    → map (λ e. e.row) (executed_on names table request).entries ≡ map (λ r. r.0) (rows_in (touched_of names request))
    → list_all (λ r. is_there r.0) (rows_in reached) ≡ true → is_worn table (rows_in reached) ≡ false
    → AllByRecursion (CanBeNoted is_there table) (executed_on names table request).entries
all_noted names table request reached is_there is touch there fresh =
    by (knows_names names request) (has_bad_amount request) is touch
  where
    refused : map (λ e. e.row) (executed_on names table request).entries ≡ []
        → AllByRecursion (CanBeNoted is_there table) (executed_on names table request).entries
    refused none = subst (AllByRecursion (CanBeNoted is_there table))
        (sym (none_left (λ (e : Entry). e.row) (executed_on names table request).entries none)) tt

    by : (b c : Bool) → reached ≡ cond b (cond c (touched.Refused BadAmount) (touched.Rows (rows_of names request)))
        (touched.Refused NoSuchName)
        → map (λ e. e.row) (executed_on names table request).entries
        ≡ map (λ r. r.0) (rows_in
        (cond b (cond c (touched.Refused BadAmount) (touched.Rows (rows_of names request)))
        (touched.Refused NoSuchName)))
        → AllByRecursion (CanBeNoted is_there table) (executed_on names table request).entries
    by true false told along =
        let outcome : Bank × Reply = does (bank_of names (values_of table)) request in
        let same : rows_in reached ≡ rows_of names request = ap rows_in told in
        noted_entries is_there names table outcome.0 (noted_rows outcome.1 (rows_of names request))
        (notable_rows is_there table outcome.1 (rows_of names request)
        (notable is_there table (rows_of names request)
        (ap (λ (rs : RowKinds). list_all (λ r. is_there r.0) rs) (sym same)
        ∙ there) (ap (is_worn table) (sym same) ∙ fresh)))
    by true true told along = refused along
    by false c told along = refused along
