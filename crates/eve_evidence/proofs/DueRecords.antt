-- Records beside what is due.
use Rattle.std.proofs.Common.{◌≡◌, ◌≢◌, ℕ, ℤ, List, [], ◌∷◌, map, length, take, slice_get, Some, refl, sym}
use Rattle.std.proofs.Common.{subst, ap, ◌∙◌, arith}
use Rattle.std.proofs.lemmas.Bool.{false≢true}
use Rattle.std.proofs.lemmas.List.{length-map}
use Rattle.eve_smallbank.specs.declared.entry.Entry.{Entry}
use Rattle.eve_smallbank.specs.declared.entry.Kind.{Kind}
use Rattle.eve_smallbank.specs.declared.entry.Kind.TheVariants.{Read, Write}
use Rattle.eve_smallbank.specs.declared.decision.Effect.{Effect}
use Rattle.eve_smallbank.specs.declared.decision.Decision.{Decision}
use Rattle.eve_smallbank.specs.SmallBank.{Request}
use Rattle.eve_smallbank.specs.Access.{Executed, RowKinds, Fits, is_write}
use Rattle.eve_smallbank.specs.Touch.{rows_in}
use Rattle.eve_smallbank.specs.Decide.{effect_in, entries_from, executed_from}
use Rattle.eve_smallbank.specs.declared.request.Reply.{Reply}
use Rattle.eve_smallbank.specs.declared.rows.Touched.{Touched}
use Rattle.eve_grammar.specs.Trace.{Trace}
use Rattle.eve_chains.specs.Records.{recorded}
use Rattle.eve_grammar.proofs.Lists.{unmapped}
use Rattle.eve_evidence.specs.declared.evidence.ToldRow.{ToldRow}
use Rattle.eve_evidence.specs.Told.{IsToldRow}
use Rattle.eve_evidence.specs.Record.{IsDueRecord, IsOtherRow, IsOtherEntry, touched_rows, rows_noted}
use Rattle.eve_evidence.proofs.Lists.{get_mapped}

-- ---- rows

pub other_row : (t : Trace) (names : List (List ℕ)) (x : Executed) (es : List Entry) (rows : RowKinds) (i : ℕ)
    (e : Entry)
    (r : ℕ × Kind) (found due : ToldRow) → x.entries ≡ es → touched_rows names x.request ≡ map (λ q. q.0) rows
    → length es ≡ length rows → take i (rows_noted es) ≡ take i (map (λ q. q.0) rows) → slice_get es i ≡ Some e
    → slice_get rows i ≡ Some r → (e.row ≡ r.0 → ⊥) → IsToldRow t e.row found → IsToldRow t r.0 due
    → (length x.entries ≡ length (touched_rows names x.request))
    × IsOtherRow t (rows_noted x.entries) (touched_rows names x.request) i found due
other_row t names x es rows i e r found due is touched count before got due_got other found_is due_is =
    let own : rows_noted x.entries ≡ rows_noted es = ap rows_noted is in (
      ap length is ∙ count ∙ sym (length-map rows (λ (q : ℕ × Kind). q.0)) ∙ ap length (sym touched),
      record {
        before = ap (take i) own ∙ before ∙ ap (take i) (sym touched);
        row = e.row;
        due_row = r.0;
        there = ap (λ (ys : List ℕ). slice_get ys i) own ∙ get_mapped (λ (y : Entry). y.row) es i e got;
        touched = ap (λ (ys : List ℕ). slice_get ys i) touched
            ∙ get_mapped (λ (q : ℕ × Kind). q.0) rows i r due_got;
        other = other;
        found_is = found_is;
        due_is = due_is;
      },
    )

-- ---- kinds and values after

pub same_kind : (k j : Kind) → is_write k ≡ is_write j → k ≡ j
same_kind Read Read e = refl
same_kind Read Write e = absurd (false≢true e)
same_kind Write Read e = absurd (false≢true (sym e))
same_kind Write Write e = refl

module _ (names : List (List ℕ)) (x due : Executed) (es : List Entry) (effects : List Effect) (i : ℕ) (e : Entry)
    (f : Effect) (is : x.entries ≡ es) (due_is : IsDueRecord names x due)
    (effects_are : map effect_in due.entries ≡ effects)
    (before : take i (map effect_in es) ≡ take i effects) (got : slice_get es i ≡ Some e)
    (due_got : slice_get effects i ≡ Some f) where
  abbrev its : (d : Entry) × (slice_get due.entries i ≡ Some d) × (effect_in d ≡ f)
  its = unmapped effect_in due.entries i f (ap (λ (ys : List Effect). slice_get ys i) effects_are ∙ due_got)

  beside : IsOtherEntry names x i e its.0
  beside = record {
    record_is = due;
    due = due_is;
    before = ap (λ (ys : List Entry). take i (map effect_in ys)) is ∙ before ∙ ap (take i) (sym effects_are);
    there = ap (λ (ys : List Entry). slice_get ys i) is ∙ got;
    due_there = its.1;
  }

  pub other_kind : (e.kind ≡ f.kind → ⊥) → (a : Entry) × (d : Entry) × IsOtherEntry names x i a d × (e.kind ≡ a.kind)
      × (f.kind ≡ d.kind) × (e.kind ≢ f.kind)
  other_kind other = (e, its.0, beside, refl, sym (ap (λ (g : Effect). g.kind) its.2), other)

  pub other_after : e.kind ≡ f.kind → (e.after ≡ f.after → ⊥) → (a : Entry) × (d : Entry) × IsOtherEntry names x i a d
      × (a.kind ≡ d.kind) × (e.after ≡ a.after) × (f.after ≡ d.after) × (e.after ≢ f.after)
  other_after kind other = (
    e,
    its.0,
    beside,
    kind ∙ sym (ap (λ (g : Effect). g.kind) its.2),
    refl,
    sym (ap (λ (g : Effect). g.after) its.2),
    other,
  )

-- ---- the record that is due

module _ where
  abbrev pub noted : RowKinds → List Entry → List Effect → List Entry
  noted rows es effects = entries_from rows (map (λ e. e.version) es) (map (λ e. e.seen) es) effects

  pub noted_rows_are : (rows : RowKinds) (es : List Entry) (effects : List Effect) → length es ≡ length rows
      → length effects ≡ length rows → rows_noted (noted rows es effects) ≡ map (λ r. r.0) rows
  noted_rows_are [] es effects n m = refl
  noted_rows_are (r ∷ rows) [] effects n m = absurd (omega (arith, n))
  noted_rows_are (r ∷ rows) (e ∷ es) [] n m = absurd (omega (arith, m))
  noted_rows_are (r ∷ rows) (e ∷ es) (f ∷ effects) n m =
      ap (λ ys. r.0 ∷ ys) (noted_rows_are rows es effects (omega (arith, n)) (omega (arith, m)))

  pub noted_versions_are : (rows : RowKinds) (es : List Entry) (effects : List Effect) → length es ≡ length rows
      → length effects ≡ length rows → map (λ e. e.version) (noted rows es effects) ≡ map (λ e. e.version) es
  noted_versions_are [] [] effects n m = refl
  noted_versions_are [] (e ∷ es) effects n m = absurd (omega (arith, n))
  noted_versions_are (r ∷ rows) [] effects n m = absurd (omega (arith, n))
  noted_versions_are (r ∷ rows) (e ∷ es) [] n m = absurd (omega (arith, m))
  noted_versions_are (r ∷ rows) (e ∷ es) (f ∷ effects) n m =
      ap (λ ys. e.version ∷ ys) (noted_versions_are rows es effects (omega (arith, n)) (omega (arith, m)))

  pub noted_seen_are : (rows : RowKinds) (es : List Entry) (effects : List Effect) → length es ≡ length rows
      → length effects ≡ length rows → map (λ e. e.seen) (noted rows es effects) ≡ map (λ e. e.seen) es
  noted_seen_are [] [] effects n m = refl
  noted_seen_are [] (e ∷ es) effects n m = absurd (omega (arith, n))
  noted_seen_are (r ∷ rows) [] effects n m = absurd (omega (arith, n))
  noted_seen_are (r ∷ rows) (e ∷ es) [] n m = absurd (omega (arith, m))
  noted_seen_are (r ∷ rows) (e ∷ es) (f ∷ effects) n m =
      ap (λ ys. e.seen ∷ ys) (noted_seen_are rows es effects (omega (arith, n)) (omega (arith, m)))

  pub noted_effects_are : (rows : RowKinds) (es : List Entry) (effects : List Effect) → length es ≡ length rows
      → length effects ≡ length rows → map effect_in (noted rows es effects) ≡ effects
  noted_effects_are [] [] [] n m = refl
  noted_effects_are [] es (f ∷ effects) n m = absurd (omega (arith, m))
  noted_effects_are [] (e ∷ es) effects n m = absurd (omega (arith, n))
  noted_effects_are (r ∷ rows) [] effects n m = absurd (omega (arith, n))
  noted_effects_are (r ∷ rows) (e ∷ es) [] n m = absurd (omega (arith, m))
  noted_effects_are (r ∷ rows) (e ∷ es) (f ∷ effects) n m =
      ap (λ ys. f ∷ ys) (noted_effects_are rows es effects (omega (arith, n)) (omega (arith, m)))

  -- entries of these rows with these effects are those that are due
  pub noted_again : (rows : RowKinds) (es : List Entry) (effects : List Effect) → rows_noted es ≡ map (λ r. r.0) rows
      → map effect_in es ≡ effects → noted rows es effects ≡ es
  noted_again [] [] effects own same = refl
  noted_again [] (e ∷ es) effects own same = absurd (cc)
  noted_again (r ∷ rows) [] effects own same = absurd (cc)
  noted_again (r ∷ rows) (e ∷ es) [] own same = absurd (cc)
  noted_again (r ∷ rows) (e ∷ es) (f ∷ effects) own same =
      let row : e.row ≡ r.0 = cc in
      let rest : rows_noted es ≡ map (λ q. q.0) rows = cc in
      let effect : effect_in e ≡ f = cc in
      let others : map effect_in es ≡ effects = cc in
      λ i. record {
        row = sym row i;
        kind = (sym effect i).kind;
        version = e.version;
        seen = e.seen;
        after = (sym effect i).after;
      } ∷ noted_again rows es effects rest others i

-- ---- what was decided

module _ (names : List (List ℕ)) (request : Request) (reply : Reply) (es : List Entry) (rows : RowKinds)
    (touched : Touched) (values : List ℤ) (decision : Decision) (rows_is : rows ≡ rows_in touched)
    (count : length es ≡ length rows) (same_rows : rows_noted es ≡ map (λ r. r.0) rows)
    (values_is : values ≡ map (λ e. e.seen) es) (each : length decision.effects ≡ length values)
    (fits : Fits names (executed_from request (rows_in touched) (map (λ e. e.version) es) values decision)) where
  abbrev pub due_record : Executed
  due_record = executed_from request rows (map (λ e. e.version) es) (map (λ e. e.seen) es) decision

  many : length decision.effects ≡ length rows
  many = each ∙ ap length values_is ∙ length-map es (λ (e : Entry). e.seen) ∙ count

  due_fits : Fits names due_record
  due_fits = subst (Fits names)
      (λ i. executed_from request (sym rows_is i) (map (λ e. e.version) es) (values_is i) decision) fits

  pub due_effects : map effect_in due_record.entries ≡ decision.effects
  due_effects = noted_effects_are rows es decision.effects count many

  pub is_due : IsDueRecord names (recorded request reply es) due_record
  is_due = record {
    fits = due_fits;
    request = refl;
    rows = noted_rows_are rows es decision.effects count many ∙ sym same_rows;
    versions = noted_versions_are rows es decision.effects count many;
    seen = noted_seen_are rows es decision.effects count many;
  }

  pub fits_alike : map effect_in es ≡ decision.effects → decision.reply ≡ reply → Fits names (recorded request reply es)
  fits_alike same reply_is = subst (Fits names)
      (λ i. recorded request (reply_is i) (noted_again rows es decision.effects same_rows same i)) due_fits
