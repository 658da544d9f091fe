-- Along an attempt's records, one after another.
use Rattle.std.proofs.Common.{◌≡◌, ℕ, ◌+◌, ◌<◌, ◌≤◌, Bool, true, false, cond, leb, List, [], ◌∷◌, ◌++◌, map, drop}
use Rattle.std.proofs.Common.{length, get_or, refl, sym, subst, ap, ◌∙◌, append_assoc}
use Rattle.std.specs.Bool.{Decides}
use Rattle.std.specs.List.{AllByRecursion, list_all}
use Rattle.std.proofs.lemmas.List.Folds.{list_all-append, list_all-map}
use Rattle.std.proofs.lemmas.List.{drop_more}
use Rattle.std.proofs.lemmas.Bool.{false≢true, and_parts, and_from, leb-true}
use Rattle.eve_smallbank.specs.declared.entry.Entry.{Entry}
use Rattle.eve_smallbank.specs.Access.{is_write}
use Rattle.eve_smallbank.specs.Chain.{Table, Sees, table_after}
use Rattle.eve_grammar.specs.Limits.{is_number, is_entry, is_access}
use Rattle.eve_grammar.proofs.Lists.{all-get_or}
use Rattle.eve_stamps.specs.Applied.{Applied}
use Rattle.eve_attempts.specs.Ledgers.{values_before, is_write_in}
use Rattle.eve_attempts.specs.ClosedAttempts.{access_noted, entries_in_order, writes_along}
use Rattle.eve_attempts.specs.inner.RecordKeys.{Key, record_of, records_in, no_record, IsKeyOf, AreSeenAlong}
use Rattle.eve_attempts.specs.inner.RecordKeys.{table_after_records}
use Rattle.std.proofs.lemmas.List.Elements.{filter-append}
use Rattle.eve_attempts.proofs.Lists.{mapped_at, all_read}
use Rattle.eve_attempts.proofs.TableLaws.{writes_among, undone_further}

-- so far each entry saw what it must, and these records are left; `written` goes back to where it began
pub record Walking (base : Table) (all : List Applied) (now : Table) (rest : List Applied) (written : List Entry) : Type
    0 where
  pub to : AreSeenAlong base all → AreSeenAlong now rest
  pub from : AreSeenAlong now rest → AreSeenAlong base all
  pub table : table_after_records now rest ≡ table_after_records base all
  pub noted : written ++ writes_along rest ≡ writes_along all
  pub back : values_before now written ≡ base

pub walking_start : (base : Table) (all : List Applied) (written : List Entry) → written ≡ []
    → Walking base all base all written
walking_start base all written none = record {
  to = λ h. h;
  from = λ h. h;
  table = refl;
  noted = ap (λ (ws : List Entry). ws ++ writes_along all) none;
  back = ap (values_before base) none;
}

pub walking_more : (base : Table) (all : List Applied) (now next : Table) (r : Applied) (rest : List Applied)
    (written more : List Entry) → Walking base all now (r ∷ rest) written
    → AllByRecursion (Sees now) r.entries → next ≡ table_after now r.entries → more ≡ written ++ writes_among r.entries
    → Walking base all next rest more
walking_more base all now next r rest written more w seen is are = record {
  to = λ h. subst (λ (t : Table). AreSeenAlong t rest) (sym is) (w.to h).1;
  from = λ h. w.from (seen, subst (λ (t : Table). AreSeenAlong t rest) is h);
  table = ap (λ (t : Table). table_after_records t rest) is ∙ w.table;
  noted = ap (λ (ws : List Entry). ws ++ writes_along rest) are
      ∙ append_assoc written (writes_among r.entries) (writes_along rest)
      ∙ ap (λ (ws : List Entry). written ++ ws)
      (sym (filter-append (λ e. is_write e.kind) r.entries (entries_in_order rest))) ∙ w.noted;
  back = ap (λ (t : Table). values_before t more) is ∙ ap (values_before (table_after now r.entries)) are
      ∙ undone_further base now written r.entries w.back seen;
}

pub walking_stop : (base : Table) (all : List Applied) (now : Table) (r : Applied) (rest : List Applied)
    (written : List Entry) → Walking base all now (r ∷ rest) written
    → (AllByRecursion (Sees now) r.entries → ⊥) → Decides false (AreSeenAlong base all)
walking_stop base all now r rest written w fails = ((λ e. absurd (false≢true e)), (λ h. absurd (fails (w.to h).0)))

-- the record of the key at a place
pub record_read : (records : List Applied) (k : Key) (r : Applied) → IsKeyOf records k → r ≡ get_or records k.2 r
    → r ≡ record_of records k
record_read records k r key is = sym (ap (λ (xs : List Applied). get_or xs k.2 no_record) (sym (map_same records))
    ∙ mapped_at (λ (x : Applied). x) records k.2 r no_record key.there is)
  where
    map_same : (xs : List Applied) → map (λ (x : Applied). x) xs ≡ xs
    map_same [] = refl
    map_same (x ∷ xs) = ap (λ (ys : List Applied). x ∷ ys) (map_same xs)

-- ---- the limits

pub access_parts : (n : ℕ) (r : Applied) → is_access n (access_noted r) ≡ true → (length r.entries ≤ 3)
    × (list_all (is_entry n) r.entries ≡ true)
access_parts n r right =
    let one = and_parts (is_number 1 r.worker) _ right in
    let two = and_parts (is_number 2 r.place) _ one.1 in
    let three = and_parts (is_number 2 r.index) _ two.1 in
    let four = and_parts (leb (length r.entries) 3) _ three.1 in
    (leb-true (length r.entries) 3 four.0, four.1)

pub limits_at : (n : ℕ) (records : List Applied) (i : ℕ) (r : Applied)
    → list_all (is_access n) (map access_noted records)
    ≡ true → i < length records → r ≡ get_or records i r
    → (length r.entries ≤ 3) × (list_all (is_entry n) r.entries ≡ true)
limits_at n records i r all within is =
    access_parts n r (all_read (λ (x : Applied). is_access n (access_noted x)) records i r
    (sym (list_all-map (is_access n) access_noted records) ∙ all) within is)

writes_right : (n : ℕ) (es : List Entry) → list_all (is_entry n) es ≡ true → list_all (is_write_in n) (writes_among es)
    ≡ true
writes_right n [] all = refl
writes_right n (e ∷ es) all =
    by (is_write e.kind) refl (writes_right n es (and_parts (is_entry n e) (list_all (is_entry n) es) all).1)
  where
    by : (b : Bool) → is_write e.kind ≡ b → list_all (is_write_in n) (writes_among es) ≡ true
        → list_all (is_write_in n) (cond b (e ∷ writes_among es) (writes_among es)) ≡ true
    by true is rest = and_from (is_write_in n e) _
        (and_from (is_write e.kind) (is_entry n e) is (and_parts (is_entry n e) (list_all (is_entry n) es) all).0) rest
    by false is rest = rest

pub written_more : (n : ℕ) (written more es : List Entry) → list_all (is_write_in n) written ≡ true
    → list_all (is_entry n) es ≡ true → more ≡ written ++ writes_among es → list_all (is_write_in n) more ≡ true
written_more n written more es all right is =
    ap (list_all (is_write_in n)) is ∙ list_all-append (is_write_in n) written (writes_among es)
    ∙ and_from (list_all (is_write_in n) written) _ all (writes_right n es right)

-- ---- the key that a loop is at, and its record

module _ (records : List Applied) (order : List Key) (i : ℕ) (r : Applied)
    (all : AllByRecursion (IsKeyOf records) order) (within : i < length order)
    (is : r ≡ get_or records (get_or order i (0, 0, 0)).2 r) where
  key_at : IsKeyOf records (get_or order i (0, 0, 0))
  key_at = all-get_or (IsKeyOf records) order i (0, 0, 0) all within

  pub rest_at : records_in records (drop i order) ≡ r ∷ records_in records (drop (i + 1) order)
  rest_at =
      ap (records_in records) (drop_more order i (0, 0, 0) within)
      ∙ ap (λ (q : Applied). q ∷ records_in records (drop (i + 1) order))
      (sym (record_read records (get_or order i (0, 0, 0)) r key_at is))

  pub limits_in : (n : ℕ) (es : List Entry) → list_all (is_access n) (map access_noted records) ≡ true → es ≡ r.entries
      → (length es ≤ 3) × (list_all (is_entry n) es ≡ true)
  limits_in n es limits are =
      subst (λ (ds : List Entry). (length ds ≤ 3) × (list_all (is_entry n) ds ≡ true)) (sym are)
      (limits_at n records (get_or order i (0, 0, 0)).2 r limits key_at.there is)

  pub walking_at : (base : Table) (whole : List Applied) (now : Table) (written : List Entry)
      → Walking base whole now (records_in records (drop i order)) written
      → Walking base whole now (r ∷ records_in records (drop (i + 1) order)) written
  walking_at base whole now written w = subst (λ (rest : List Applied). Walking base whole now rest written) rest_at w
