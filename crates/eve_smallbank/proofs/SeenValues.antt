-- A record that fits is what its request makes of what its own entries saw.
use Rattle.std.proofs.Common.{◌≡◌, ℕ, ◌==◌, List, [], ◌∷◌, map, refl, sym, ap, ◌∙◌}
use Rattle.std.specs.List.{AllByRecursion}
use Rattle.std.proofs.lemmas.Bool.{eq-eqb, ne_eqb, cond-true, cond-false}
use Rattle.eve_smallbank.specs.declared.entry.Entry.{Entry}
use Rattle.eve_smallbank.specs.declared.versioned.Versioned.{Versioned}
use Rattle.eve_smallbank.specs.Access.{Executed, Fits}
use Rattle.eve_smallbank.specs.Chain.{Sees}
use Rattle.eve_smallbank.specs.Execution.{executed_on}
use Rattle.eve_smallbank.specs.inner.Seen.{as_seen}
use Rattle.eve_smallbank.proofs.Unique.{AreDistinct, entries_are_rows, made_of_table}

abbrev rows : List Entry → List ℕ
rows es = map (λ e. e.row) es

abbrev Apart : ℕ → ℕ → Type 0
Apart row other = ¬ (other ≡ row)

sees_one : (e : Entry) (es : List Entry) → Sees (as_seen (e ∷ es)) e
sees_one e es =
    let has : as_seen (e ∷ es) e.row ≡ record { version = e.version; value = e.seen } =
    cond-true (e.row == e.row) _ _ (eq-eqb e.row e.row refl) in
    record { version = sym (ap (λ (v : Versioned). v.version) has); value = sym (ap (λ (v : Versioned). v.value) has) }

sees_others : (e : Entry) (all es : List Entry) → AllByRecursion (Apart e.row) (rows es)
    → AllByRecursion (Sees (as_seen all)) es → AllByRecursion (Sees (as_seen (e ∷ all))) es
sees_others e all [] apart sees = tt
sees_others e all (d ∷ es) apart sees =
    let has : as_seen (e ∷ all) d.row ≡ as_seen all d.row =
    cond-false (e.row == d.row) _ _ (ne_eqb e.row d.row (λ same. apart.0 (sym same))) in (
      record {
        version = sees.0.version ∙ sym (ap (λ (v : Versioned). v.version) has);
        value = sees.0.value ∙ sym (ap (λ (v : Versioned). v.value) has);
      },
      sees_others e all es apart.1 sees.1,
    )

-- entries of distinct rows saw what they say they saw
all_see : (es : List Entry) → AreDistinct (rows es) → AllByRecursion (Sees (as_seen es)) es
all_see [] distinct = tt
all_see (e ∷ es) distinct = (sees_one e es, sees_others e es es distinct.0 (all_see es distinct.1))

pub made_of_seen : (names : List (List ℕ)) (x : Executed) → Fits names x
    → x ≡ executed_on names (as_seen x.entries) x.request
made_of_seen names x fits =
    made_of_table names (as_seen x.entries) x fits (all_see x.entries (entries_are_rows names x fits).distinct)
