-- What is held stays a stripe: when it is made, noted in, settled and undone.
use Rattle.std.proofs.Common.{◌≡◌, ℕ, ◌<◌, ◌≤◌, nat_le, nat_lt, Bool, true, false, cond, ◌||◌, not, IsTrue, List, []}
use Rattle.std.proofs.Common.{◌∷◌, ◌++◌, map, filter, slice_get, get_or, Option, Some, None, refl, sym, subst, ap, ◌∙◌}
use Rattle.std.proofs.Common.{arith}
use Rattle.std.specs.List.{AllByRecursion}
use Rattle.std.proofs.lemmas.Bool.{ltb-true, leb-true, le-leb, le-ltb, false≢true, not-true}
use Rattle.std.proofs.lemmas.Option.{get_or_from_slice_get}
use Rattle.eve_smallbank.specs.declared.entry.Entry.{Entry}
use Rattle.eve_smallbank.specs.declared.versioned.Versioned.{Versioned}
use Rattle.eve_smallbank.specs.Chain.{Table, Sees, table_after}
use Rattle.eve_grammar.specs.declared.limits.TheConstants.{MOST_VERSIONS}
use Rattle.eve_grammar.proofs.Lists.{all-push, all-filter, all-slice_get}
use Rattle.eve_stamps.specs.declared.journal.Journaled.{Journaled}
use Rattle.eve_stamps.specs.Stripes.{HeldRow, Stripe, IsStripe, lies_in, has_row, table_in, row_in, rows_in_table}
use Rattle.eve_stamps.specs.Stripes.{RowsRise, AreWithinLimit, committed, rows_now, table_after_journal, AreJournaled}
use Rattle.eve_stamps.specs.Stripes.{JournalRises, IsEntryIn, is_within, is_above, stripe_with}
use Rattle.eve_stamps.specs.Stripes.{settled_to, row_with, row_installed, HaveRightVersions}
use Rattle.eve_stamps.specs.Requests.{has_row_in_two, rows_in_two, entries_within, entries_outside}
use Rattle.eve_stamps.specs.HeldRows.{stripe_held, IsHeldStripe, IsPlaceOf, CanBeNoted}
use Rattle.eve_stamps.proofs.RowLaws.{rows_in_table-self, rows_in_table-twice, RowsRise-rows, row_at, lies_at}
use Rattle.eve_stamps.proofs.JournalLaws.{rows_now-noted, rows_now-settled, table_in-journal, up_to, behind}
use Rattle.eve_stamps.proofs.JournalLaws.{split_at_tick}
use Rattle.eve_stamps.proofs.WrittenRows.{all_still_in, all_own_still}
use Rattle.eve_stamps.proofs.Versions.{limit_at, limit_after, limit_before, all_sees}

-- ---- nothing journaled

pub held_alone : (rows : List HeldRow) (greatest : Option ℕ) → RowsRise rows → AreWithinLimit rows
    → IsHeldStripe rows rows [] greatest
held_alone rows greatest rise limit = record {
  stands = record {
    rows = rise;
    own = tt;
    rising = tt;
    within = tt;
    seen = tt;
    limit = subst AreWithinLimit (sym (rows_in_table-self rows rise)) limit;
  };
  as_now = sym (rows_in_table-self rows rise);
}

-- the committed rows lie within the limit, too
committed_limit : (base rows : List HeldRow) (journal : List Journaled) (greatest : Option ℕ)
    → IsHeldStripe base rows journal greatest → AreWithinLimit base
committed_limit base rows journal greatest holds =
    subst AreWithinLimit (rows_in_table-self base holds.stands.rows)
    (limit_before (table_in base) journal base holds.stands.seen holds.stands.limit)

pub held_undone : (base rows : List HeldRow) (journal : List Journaled) (greatest : Option ℕ)
    → IsHeldStripe base rows journal greatest → IsHeldStripe base base [] greatest
held_undone base rows journal greatest holds =
    held_alone base greatest holds.stands.rows (committed_limit base rows journal greatest holds)

-- ---- a state installed

same_row : (from : List Versioned) (r : HeldRow) → (row_installed from r).row ≡ r.row
same_row from r = step (slice_get from r.row)
  where
    step : (o : Option Versioned) → (row_with r o).row ≡ r.row
    step None = refl
    step (Some v) = refl

all_above : (from : List Versioned) (row : ℕ) (rows : List HeldRow) → AllByRecursion (λ q. row < q.row) rows
    → AllByRecursion (λ q. row < q.row) (map (row_installed from) rows)
all_above from row [] above = tt
all_above from row (r ∷ rows) above =
    (subst (λ n. row < n) (sym (same_row from r)) above.0, all_above from row rows above.1)

installed_rise : (from : List Versioned) (rows : List HeldRow) → RowsRise rows
    → RowsRise (map (row_installed from) rows)
installed_rise from [] rise = tt
installed_rise from (r ∷ rows) rise = (
  subst (λ n. AllByRecursion (λ q. n < q.row) (map (row_installed from) rows)) (sym (same_row from r))
      (all_above from r.row rows rise.0),
  installed_rise from rows rise.1,
)

installed_limit : (from : List Versioned) (rows : List HeldRow) → HaveRightVersions from → AreWithinLimit rows
    → AreWithinLimit (map (row_installed from) rows)
installed_limit from [] versions limit = tt
installed_limit from (r ∷ rows) versions limit =
    (step (slice_get from r.row) refl, installed_limit from rows versions limit.1)
  where
    step : (o : Option Versioned) → slice_get from r.row ≡ o → (row_with r o).version ≤ MOST_VERSIONS
    step None at = limit.0
    step (Some v) at = all-slice_get (λ (w : Versioned). w.version ≤ MOST_VERSIONS) from r.row v versions at

pub held_installed : (from : List Versioned) (base rows : List HeldRow) (journal : List Journaled)
    (greatest : Option ℕ) → HaveRightVersions from → IsHeldStripe base rows journal greatest
    → IsHeldStripe (map (row_installed from) base) (map (row_installed from) base) [] greatest
held_installed from base rows journal greatest versions holds =
    held_alone (map (row_installed from) base) greatest (installed_rise from base holds.stands.rows)
    (installed_limit from base versions (committed_limit base rows journal greatest holds))

-- ---- one row

pub seen_at : (base rows : List HeldRow) (journal : List Journaled) (greatest : Option ℕ) (row place : ℕ)
    (held : HeldRow) → IsHeldStripe base rows journal greatest → IsPlaceOf base row (Some place)
    → held ≡ get_or rows place held
    → Some held ≡ cond (has_row (stripe_held base journal greatest) row)
    (Some (row_in (rows_now (stripe_held base journal greatest)) row)) None
seen_at base rows journal greatest row place held holds at read =
    let table : Table = rows_now (stripe_held base journal greatest) in
    let there : slice_get rows place ≡ Some (row_in table at.0.row) =
    ap (λ (xs : List HeldRow). slice_get xs place) holds.as_now ∙ row_at table base place at.0 at.1 in
    ap (λ (x : HeldRow). Some x) (read ∙ get_or_from_slice_get rows place (row_in table at.0.row) held there
    ∙ ap (row_in table) at.2)
    ∙ ap (λ b. cond b (Some (row_in table row)) None) (sym (lies_at base place row at.0 at.1 at.2))

-- ---- one request more

below_all : (greatest : Option ℕ) (tick : ℕ) (js : List Journaled) → is_above tick greatest ≡ true
    → AllByRecursion (λ j. IsTrue (is_within greatest j.tick)) js → AllByRecursion (λ j. j.tick < tick) js
below_all greatest tick [] above within = tt
below_all None tick (j ∷ js) above within = absurd (false≢true within.0)
below_all (Some greatest) tick (j ∷ js) above within = (
  let less : greatest < tick = ltb-true greatest tick above in let up : j.tick ≤ greatest = leb-true j.tick greatest
      within.0 in omega arith,
  below_all (Some greatest) tick js above within.1,
)

-- where the greatest tick isn't past this one, no tick of the journal is
pub all_up_to : (greatest tick : ℕ) (js : List Journaled) → greatest ≤ tick
    → AllByRecursion (λ j. IsTrue (is_within (Some greatest) j.tick)) js
    → (filter (up_to tick) js ≡ js) × (filter (behind tick) js ≡ [])
all_up_to greatest tick [] le within = (refl, refl)
all_up_to greatest tick (j ∷ js) le within =
    let up : j.tick ≤ greatest = leb-true j.tick greatest within.0 in let fits : j.tick ≤ tick = omega arith in
    let rest = all_up_to greatest tick js le within.1 in (
      ap (λ b. cond b (j ∷ filter (up_to tick) js) (filter (up_to tick) js)) (le-leb j.tick tick fits)
          ∙ ap (λ (ks : List Journaled). j ∷ ks) rest.0,
      ap (λ b. cond b (j ∷ filter (behind tick) js) (filter (behind tick) js)) (le-ltb tick j.tick fits) ∙ rest.1,
    )

rises_on : (js : List Journaled) (k : Journaled) → JournalRises js → AllByRecursion (λ j. j.tick < k.tick) js
    → JournalRises (js ++ k ∷ [])
rises_on [] k rise below = (tt, tt)
rises_on (j ∷ js) k rise below =
    (all-push (λ (i : Journaled). j.tick < i.tick) js k rise.0 below.0, rises_on js k rise.1 below.1)

within_tick : (js : List Journaled) (tick : ℕ) → AllByRecursion (λ j. j.tick < tick) js
    → AllByRecursion (λ j. IsTrue (is_within (Some tick) j.tick)) js
within_tick [] tick below = tt
within_tick (j ∷ js) tick below =
    (let less : j.tick < tick = below.0 in le-leb j.tick tick (omega arith), within_tick js tick below.1)

journaled_on : (t : Table) (js : List Journaled) (k : Journaled) → AreJournaled t js
    → AllByRecursion (Sees (table_after_journal t js)) k.entries → AreJournaled t (js ++ k ∷ [])
journaled_on t [] k seen sees = (sees, tt)
journaled_on t (j ∷ js) k seen sees = (seen.0, journaled_on (table_after t j.entries) js k seen.1 sees)

entries_in : (base : List HeldRow) (t : Table) (es : List Entry) → AreWithinLimit (rows_in_table t base)
    → AllByRecursion (CanBeNoted (lies_in base) t) es → AllByRecursion (IsEntryIn base) es
entries_in base t [] limit noted = tt
entries_in base t (e ∷ es) limit noted = (
  record {
    there = noted.0.there;
    limit = subst (λ n. n ≤ MOST_VERSIONS) (sym noted.0.sees.version)
        (limit_at t base e.row limit noted.0.there);
  },
  entries_in base t es limit noted.1,
)

-- the rows lie among themselves as they are now
pub entries_in_rows : (base rows : List HeldRow) (journal : List Journaled) (greatest : Option ℕ) (es : List Entry)
    → IsHeldStripe base rows journal greatest
    → AllByRecursion (CanBeNoted (lies_in base) (rows_now (stripe_held base journal greatest))) es
    → AllByRecursion (IsEntryIn rows) es
entries_in_rows base rows journal greatest es holds noted =
    subst (λ (xs : List HeldRow). AllByRecursion (IsEntryIn xs) es) (sym holds.as_now)
    (all_still_in base (rows_now (stripe_held base journal greatest)) es
    (entries_in base (rows_now (stripe_held base journal greatest)) es holds.stands.limit noted))

pub rows_rise : (base rows : List HeldRow) (journal : List Journaled) (greatest : Option ℕ)
    → IsHeldStripe base rows journal greatest → RowsRise rows
rows_rise base rows journal greatest holds =
    subst RowsRise (sym holds.as_now)
    (RowsRise-rows (rows_now (stripe_held base journal greatest)) base holds.stands.rows)

pub noted_stands : (s : Stripe) (tick : ℕ) (es : List Entry) → IsStripe s → is_above tick s.greatest ≡ true
    → AllByRecursion (CanBeNoted (has_row s) (rows_now s)) es → IsStripe (stripe_with s tick es)
noted_stands s tick es stands above noted =
    let k : Journaled = record { tick = tick; entries = es } in
    let below = below_all s.greatest tick s.journal above stands.within in record {
      rows = stands.rows;
      own = all-push (λ (j : Journaled). AllByRecursion (IsEntryIn s.base) j.entries) s.journal k stands.own
          (entries_in s.base (rows_now s) es stands.limit noted);
      rising = rises_on s.journal k stands.rising below;
      within = all-push (λ (j : Journaled). IsTrue (is_within (Some tick) j.tick)) s.journal k
          (within_tick s.journal tick below) (le-leb tick tick (omega arith));
      seen = journaled_on (committed s) s.journal k stands.seen (all_sees (has_row s) (rows_now s) es noted);
      limit = subst (λ (t : Table). AreWithinLimit (rows_in_table t s.base)) (sym (rows_now-noted s tick es))
          (limit_after (has_row s) (rows_now s) es s.base noted stands.limit);
    }

pub held_noted : (base rows written : List HeldRow) (journal longer : List Journaled) (greatest : Option ℕ) (tick : ℕ)
    (es : List Entry) → IsHeldStripe base rows journal greatest → is_above tick greatest ≡ true
    → AllByRecursion (CanBeNoted (lies_in base) (rows_now (stripe_held base journal greatest))) es
    → written ≡ rows_in_table (table_after (table_in rows) es) rows
    → longer ≡ journal ++ record { tick = tick; entries = es } ∷ [] → IsHeldStripe base written longer (Some tick)
held_noted base rows written journal longer greatest tick es holds above noted write push =
    let s : Stripe = stripe_held base journal greatest in
    let table : Table = rows_now s in
    let whole : table_in rows ≡ table = ap table_in holds.as_now ∙ table_in-journal base journal holds.stands.own in
    subst (λ (js : List Journaled). IsHeldStripe base written js (Some tick)) (sym push) (record {
      stands = noted_stands s tick es holds.stands above noted;
      as_now = write ∙ ap (λ (t : Table). rows_in_table (table_after t es) rows) whole
          ∙ ap (rows_in_table (table_after table es)) holds.as_now
          ∙ rows_in_table-twice (table_after table es) table base
          ∙ ap (λ (t : Table). rows_in_table t base) (sym (rows_now-noted s tick es));
    })

-- ---- two stripes

all_filtered : {A : Type 0} (P Q : A → Type 0) (p : A → Bool) (xs : List A) → ((x : A) → p x ≡ true → P x → Q x)
    → AllByRecursion P xs → AllByRecursion Q (filter p xs)
all_filtered P Q p [] so all = tt
all_filtered P Q p (x ∷ xs) so all = step (p x) (so x) (all_filtered P Q p xs so all.1)
  where
    step : (b : Bool) → (b ≡ true → P x → Q x) → AllByRecursion Q (filter p xs)
        → AllByRecursion Q (cond b (x ∷ filter p xs) (filter p xs))
    step true here rest = (here refl all.0, rest)
    step false here rest = rest

noted_as : (is_there also : ℕ → Bool) (t u : Table) (e : Entry) → also e.row ≡ true → t e.row ≡ u e.row
    → CanBeNoted is_there t e → CanBeNoted also u e
noted_as is_there also t u e there same noted = record {
  there = there;
  sees = record {
    version = noted.sees.version ∙ ap (λ v. v.version) same;
    value = noted.sees.value
        ∙ ap (λ v. v.value) same;
  };
  fresh = λ writes. ap (λ v. nat_le MOST_VERSIONS v.version) (sym same) ∙ noted.fresh writes;
}

-- of the first stripe's rows, in a stripe that is the first
pub noted_within : (first second s : Stripe) (es own : List Entry) → s ≡ first → own ≡ entries_within first es
    → AllByRecursion (CanBeNoted (has_row_in_two first second) (rows_in_two first second)) es
    → AllByRecursion (CanBeNoted (has_row s) (rows_now s)) own
noted_within first second s es own same is noted =
    subst (λ (q : Stripe). AllByRecursion (CanBeNoted (has_row q) (rows_now q)) own) (sym same)
    (subst (AllByRecursion (CanBeNoted (has_row first) (rows_now first))) (sym is)
    (all_filtered (CanBeNoted (has_row_in_two first second) (rows_in_two first second))
    (CanBeNoted (has_row first) (rows_now first)) (λ (e : Entry). has_row first e.row) es
    (λ e here. noted_as (has_row_in_two first second) (has_row first) (rows_in_two first second) (rows_now first) e here
    (ap (λ b. cond b (rows_now first e.row) (rows_now second e.row)) here)) noted))

-- of the other rows, in a stripe that is the second
pub noted_outside : (first second s : Stripe) (es own : List Entry) → s ≡ second → own ≡ entries_outside first es
    → AllByRecursion (CanBeNoted (has_row_in_two first second) (rows_in_two first second)) es
    → AllByRecursion (CanBeNoted (has_row s) (rows_now s)) own
noted_outside first second s es own same is noted =
    subst (λ (q : Stripe). AllByRecursion (CanBeNoted (has_row q) (rows_now q)) own) (sym same)
    (subst (AllByRecursion (CanBeNoted (has_row second) (rows_now second))) (sym is)
    (all_filtered (CanBeNoted (has_row_in_two first second) (rows_in_two first second))
    (CanBeNoted (has_row second) (rows_now second)) (λ (e : Entry). not (has_row first e.row)) es
    (λ e out h. let not_there = not-true (has_row first e.row) out in
    noted_as (has_row_in_two first second) (has_row second) (rows_in_two first second) (rows_now second) e
    (ap (λ b. b || has_row second e.row) (sym not_there) ∙ h.there)
    (ap (λ b. cond b (rows_now first e.row) (rows_now second e.row)) not_there) h) noted))

-- ---- settled

behind_rises : (tick : ℕ) (js : List Journaled) → JournalRises js → JournalRises (filter (behind tick) js)
behind_rises tick [] rise = tt
behind_rises tick (j ∷ js) rise = step (nat_lt tick j.tick) (behind_rises tick js rise.1)
  where
    step : (b : Bool) → JournalRises (filter (behind tick) js)
        → JournalRises (cond b (j ∷ filter (behind tick) js) (filter (behind tick) js))
    step true rest = (all-filter (λ (k : Journaled). j.tick < k.tick) (behind tick) js rise.0, rest)
    step false rest = rest

journaled_behind : (t : Table) (xs ys : List Journaled) → AreJournaled t (xs ++ ys)
    → AreJournaled (table_after_journal t xs) ys
journaled_behind t [] ys seen = seen
journaled_behind t (x ∷ xs) ys seen = journaled_behind (table_after t x.entries) xs ys seen.1

pub settled_stands : (s : Stripe) (tick : ℕ) → IsStripe s → IsStripe (settled_to tick s)
settled_stands s tick stands =
    let settled : List Journaled = filter (up_to tick) s.journal in
    let rest : List Journaled = filter (behind tick) s.journal in
    let table : Table = table_after_journal (committed s) settled in
    let own_settled = all-filter (λ (j : Journaled). AllByRecursion (IsEntryIn s.base) j.entries)
    (up_to tick) s.journal stands.own in
    let own_rest = all-filter (λ (j : Journaled). AllByRecursion (IsEntryIn s.base) j.entries) (behind tick) s.journal
    stands.own in record {
      rows = RowsRise-rows table s.base stands.rows;
      own = all_own_still s.base table rest own_rest;
      rising = behind_rises tick s.journal stands.rising;
      within = all-filter (λ (j : Journaled). IsTrue (is_within s.greatest j.tick)) (behind tick) s.journal
          stands.within;
      seen = subst (λ (t : Table). AreJournaled t rest) (sym (table_in-journal s.base settled own_settled))
          (journaled_behind (committed s) settled rest
          (subst (AreJournaled (committed s)) (sym (split_at_tick tick s.journal stands.rising)) stands.seen));
      limit = subst AreWithinLimit
          (sym (ap (λ (t : Table). rows_in_table t (rows_in_table table s.base)) (rows_now-settled s tick stands)
          ∙ rows_in_table-twice (rows_now s) table s.base)) stands.limit;
    }

pub held_settled : (base rows settled : List HeldRow) (journal rest : List Journaled) (greatest : Option ℕ) (tick : ℕ)
    → IsHeldStripe base rows journal greatest
    → settled ≡ rows_in_table (table_after_journal (table_in base) (filter (up_to tick) journal)) base
    → rest ≡ filter (behind tick) journal → IsHeldStripe settled rows rest greatest
held_settled base rows settled journal rest greatest tick holds e f =
    let s : Stripe = stripe_held base journal greatest in
    let t : Stripe = settled_to tick s in
    let whole : IsHeldStripe t.base rows t.journal greatest = record {
      stands = settled_stands s tick holds.stands;
      as_now = holds.as_now ∙ sym (ap (λ (u : Table). rows_in_table u t.base) (rows_now-settled s tick holds.stands)
          ∙ rows_in_table-twice (rows_now s) (table_after_journal (committed s) (filter (up_to tick) journal)) base);
    } in
    subst (λ (bs : List HeldRow). IsHeldStripe bs rows rest greatest) (sym e)
    (subst (λ (js : List Journaled). IsHeldStripe t.base rows js greatest) (sym f) whole)
