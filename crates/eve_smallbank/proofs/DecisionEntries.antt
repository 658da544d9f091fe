-- Entries beside what was decided for their request.
use Rattle.std.proofs.Common.{◌≡◌, ◌≢◌, ℕ, ℤ, zero, suc, ◌<◌, Bool, true, false, List, [], ◌∷◌, map, length}
use Rattle.std.proofs.Common.{take, slice_get, Some, refl, sym, subst, ap, ap₂, ◌∙◌, arith}
use Rattle.std.specs.Bool.{Decides}
use Rattle.std.proofs.lemmas.Bool.{false≢true}
use Rattle.std.proofs.lemmas.List.{length-map}
use Rattle.std.proofs.lemmas.Option.{same_Some, none-some}
use Rattle.eve_smallbank.specs.declared.request.Reply.{Reply}
use Rattle.eve_smallbank.specs.declared.entry.Kind.{Kind}
use Rattle.eve_smallbank.specs.declared.entry.Entry.{Entry}
use Rattle.eve_smallbank.specs.declared.decision.Effect.{Effect}
use Rattle.eve_smallbank.specs.declared.decision.Decision.{Decision}
use Rattle.eve_smallbank.specs.declared.rows.Touched.{Touched}
use Rattle.eve_smallbank.specs.SmallBank.{Request}
use Rattle.eve_smallbank.specs.Access.{Executed, Fits, RowKinds}
use Rattle.eve_smallbank.specs.Touch.{touched_of, rows_in}
use Rattle.eve_smallbank.specs.Decide.{executed_from}
use Rattle.eve_smallbank.proofs.Records.{touches_rows}
use Rattle.eve_smallbank.specs.inner.Recorded.{noted_from, HasEffect}

-- the record of a request
abbrev recorded : Request → Reply → List Entry → Executed
recorded request reply entries = record { request = request; reply = reply; entries = entries }

-- ---- entries beside rows and effects

-- the entry of the row with the effect that saw what this entry saw
abbrev noted : ℕ × Kind → Entry → Effect → Entry
noted r e f = record { row = r.0; kind = f.kind; version = e.version; seen = e.seen; after = f.after }

noted_entry : (r : ℕ × Kind) (e : Entry) (f : Effect) → HasEffect r.0 e f → e ≡ noted r e f
noted_entry r e f is =
    ap (λ n. record e { row = n }) is.row ∙ ap (λ k. record e { row = r.0; kind = k }) is.kind
    ∙ ap (λ z. record e { row = r.0; kind = f.kind; after = z }) is.after

pub noted_get : (rows : RowKinds) (es : List Entry) (effects : List Effect) (j : ℕ) (r : ℕ × Kind) (e : Entry)
    (f : Effect)
    → slice_get rows j ≡ Some r → slice_get es j ≡ Some e → slice_get effects j ≡ Some f
    → slice_get (noted_from rows es effects) j ≡ Some (noted r e f)
noted_get [] es effects j r e f a b c = absurd (none-some r a)
noted_get (q ∷ rows) [] effects j r e f a b c = absurd (none-some e b)
noted_get (q ∷ rows) (d ∷ es) [] j r e f a b c = absurd (none-some f c)
noted_get (q ∷ rows) (d ∷ es) (g ∷ effects) zero r e f a b c =
    ap (λ (x : ℕ × Kind). Some (noted x d g)) (same_Some q r a)
    ∙ ap (λ (x : Entry). Some (noted r x g)) (same_Some d e b)
    ∙ ap (λ (x : Effect). Some (noted r e x)) (same_Some g f c)
noted_get (q ∷ rows) (d ∷ es) (g ∷ effects) (suc j) r e f a b c = noted_get rows es effects j r e f a b c

-- at each place
abbrev pub AreNotedBelow : RowKinds → List Entry → List Effect → ℕ → Type 0
AreNotedBelow rows es effects n =
    (j : ℕ) → j < n → (r : ℕ × Kind) (e : Entry) (f : Effect) → slice_get rows j ≡ Some r → slice_get es j ≡ Some e
    → slice_get effects j ≡ Some f → HasEffect r.0 e f

pub all_noted : (rows : RowKinds) (es : List Entry) (effects : List Effect) → length es ≡ length rows → length effects
    ≡ length rows → AreNotedBelow rows es effects (length rows)
    → es ≡ noted_from rows es effects
all_noted [] [] effects m n noted = refl
all_noted [] (e ∷ es) effects m n noted = absurd (omega arith)
all_noted (r ∷ rows) [] effects m n noted = absurd (omega arith)
all_noted (r ∷ rows) (e ∷ es) [] m n noted = absurd (omega arith)
all_noted (r ∷ rows) (e ∷ es) (f ∷ effects) m n noted =
    ap₂ (λ (x : Entry) (xs : List Entry). x ∷ xs) (noted_entry r e f (noted zero (omega arith) r e f refl refl refl))
    (all_noted rows es effects (omega arith) (omega arith)
    (λ j below q d g x y z. noted (suc j) (more j below) q d g x y z))
  where
    more : (j : ℕ) → j < length rows → suc j < length (r ∷ rows)
    more j h = omega arith

pub noted_at : (rows : RowKinds) (es : List Entry) (effects : List Effect) (j : ℕ) (r : ℕ × Kind) (e : Entry)
    (f : Effect)
    → slice_get rows j ≡ Some r → slice_get es j ≡ Some e → slice_get effects j ≡ Some f
    → es ≡ noted_from rows es effects → HasEffect r.0 e f
noted_at rows es effects j r e f a b c all =
    let same : e ≡ noted r e f = same_Some e (noted r e f) (sym b ∙ ap (λ (xs : List Entry). slice_get xs j) all
    ∙ noted_get rows es effects j r e f a b c) in
    record {
      row = ap (λ (x : Entry). x.row) same;
      kind = ap (λ (x : Entry). x.kind) same;
      after = ap (λ (x : Entry). x.after) same;
    }

-- ---- the whole record

module _ (names : List (List ℕ)) (request : Request) (reached : Touched) (rows : RowKinds) (reply : Reply)
    (es : List Entry)
    (is_reached : reached ≡ touched_of names request) (are_rows : rows ≡ rows_in reached) where
  -- another number of entries than of rows
  pub other_length : length es ≢ length rows → ¬ Fits names (recorded request reply es)
  other_length other fits =
      other (sym (length-map es (λ (e : Entry). e.row))
      ∙ ap length (touches_rows names (recorded request reply es) fits)
      ∙ length-map (rows_in (touched_of names request)) (λ (r : ℕ × Kind). r.0)
      ∙ ap (λ (o : Touched). length (rows_in o)) (sym is_reached) ∙ ap length (sym are_rows))

  module _ (seen : List ℤ) (decision : Decision) (are_seen : seen ≡ map (λ e. e.seen) es) where
    abbrev decided : Executed
    decided = executed_from request (rows_in reached) (map (λ e. e.version) es) seen decision

    as_noted : decided.entries ≡ noted_from rows es decision.effects
    as_noted =
        ap (λ (values : List ℤ).
        (executed_from request (rows_in reached) (map (λ e. e.version) es) values decision).entries) are_seen
        ∙ ap (λ (own : RowKinds). noted_from own es decision.effects) (sym are_rows)

    fits_as_decided : Fits names decided → decision.reply ≡ reply → es ≡ noted_from rows es decision.effects
        → Fits names (recorded request reply es)
    fits_as_decided fits same noted =
        subst (λ (r : Reply). Fits names (recorded request r es)) same
        (subst (λ (xs : List Entry). Fits names (recorded request decision.reply xs)) (as_noted ∙ sym noted) fits)

    module _ (fits : Fits names decided) (only : Fits names (recorded request reply es) → recorded request reply es
        ≡ decided) (same : Bool) (is_same : Decides same (decision.reply ≡ reply)) where
      -- with that reply, it fits where the entries are those that were decided
      pub judged_by_entries : (result : Bool) → Decides result (es ≡ noted_from rows es decision.effects) → same ≡ true
          → Decides result (Fits names (recorded request reply es))
      judged_by_entries result is_noted equal = (
        λ h. fits_as_decided fits (is_same.0 equal) (is_noted.0 h),
        λ h. is_noted.1 (ap (λ (x : Executed). x.entries) (only h) ∙ as_noted),
      )

      -- with another it doesn't
      pub judged_by_reply : same ≡ false → Decides same (Fits names (recorded request reply es))
      judged_by_reply unequal = (
        λ h. absurd (false≢true (sym unequal ∙ h)),
        λ h. is_same.1 (sym (ap (λ (x : Executed). x.reply) (only h))),
      )

-- the values seen are as many as the rows
pub seen_in : (values : List ℤ) (rows : RowKinds) (es : List Entry) (n m k : ℕ) → n ≡ length rows → m ≡ length rows
    → k ≡ m
    → k ≡ length es → take (length es) values ≡ map (λ e. e.seen) es
    → take n values ≡ map (λ e. e.seen) es
seen_in values rows es n m k e f g h seen = ap (λ i. take i values) (e ∙ sym f ∙ sym g ∙ h) ∙ seen

-- and as the versions
pub as_many_versions : (values : List ℤ) (es : List Entry) → values ≡ map (λ e. e.seen) es
    → length (map (λ (e : Entry). e.version) es) ≡ length values
as_many_versions values es seen = length-map es (λ (e : Entry). e.version)
    ∙ sym (ap length seen ∙ length-map es (λ (e : Entry). e.seen))
