-- The balances of all customers after a request.
use Rattle.std.proofs.Common.{◌≡◌, ℕ, ℤ, pos, zero, suc, ◌+◌, ◌*◌, ◌<◌, ◌==◌, Bool, true, false, cond, ◌&&◌, List, []}
use Rattle.std.proofs.Common.{◌∷◌, ◌++◌, map, length, take, drop, get_or, set, Some, slice_get, All, Contains, refl}
use Rattle.std.proofs.Common.{sym, subst, ap, ap₂, ◌∙◌, inl, inr, arith, add-one, drop-cons}
use Rattle.std.specs.Prelude.{slice_set}
use Rattle.std.specs.List.{AllByRecursion}
use Rattle.std.proofs.lemmas.Option.{get_or_from_slice_get, slice_get_within, slice_get-get_or}
use mathlib.Core.Path.{fun_ext}
use Rattle.std.proofs.lemmas.Bool.{cases_eq, eq-eqb, ne_eqb, cond-true, cond-false}
use Rattle.std.proofs.lemmas.List.{get_or-set_same, get_or-set_other, length-set, length-map, map_more, take_more_set}
use Rattle.eve_smallbank.specs.declared.decision.Effect.{Effect}
use Rattle.eve_smallbank.specs.declared.entry.Kind.{Kind}
use Rattle.eve_smallbank.specs.declared.entry.Kind.TheVariants.{Read, Write}
use Rattle.eve_smallbank.specs.declared.decision.Decision.{Decision}
use Rattle.eve_smallbank.specs.declared.entry.Entry.{Entry}
use Rattle.eve_smallbank.specs.declared.request.Abort.{Abort}
use Rattle.eve_smallbank.specs.declared.request.Abort.TheVariants.{NoSuchName, BadAmount, Insufficient, OutOfRange}
use Rattle.eve_smallbank.specs.declared.request.Reply.{Reply}
use Rattle.eve_smallbank.specs.declared.request.Reply.TheVariants.{Done, Total, Aborted}
use Rattle.eve_smallbank.specs.declared.rows.Touched.{Touched}
use Rattle.eve_smallbank.specs.declared.rows.Touched.TheVariants as touched
use Rattle.eve_smallbank.specs.SmallBank.{Request, does}
use Rattle.eve_smallbank.specs.Access.{RowKinds, is_write, balance_of_row, bank_of, rows_of, as_reads, noted_rows}
use Rattle.eve_smallbank.specs.Access.{written_rows}
use Rattle.eve_smallbank.specs.Access.{values_after, Fits}
use Rattle.eve_smallbank.specs.Touch.{touched_of, rows_in}
use Rattle.eve_smallbank.specs.Decide.{entries_from, executed_from}
use Rattle.eve_smallbank.specs.inner.FromValues.{balances_after}
use Rattle.eve_smallbank.proofs.Unique.{numbers, request_rows}
use Rattle.eve_smallbank.proofs.Records.{accepted}

-- ---- one place more

pub seen_more : (values balances : List ℤ) (rows : RowKinds) (k : ℕ) (r : ℕ × Kind) (v : ℤ) → k < length values
    → slice_get rows k ≡ Some r → slice_get balances r.0 ≡ Some v
    → take k values ≡ map (λ r. balance_of_row balances r.0) (take k rows) → take (k + 1) (slice_set values k v)
    ≡ map (λ r. balance_of_row balances r.0) (take (k + 1) rows)
seen_more values balances rows k r v room e f so =
    take_more_set values k v room
    ∙ ap₂ (λ (xs : List ℤ) (x : ℤ). xs ++ x ∷ []) so
    (sym (ap (λ (q : ℕ × Kind). balance_of_row balances q.0) (get_or_from_slice_get rows k r r e)
    ∙ get_or_from_slice_get balances r.0 v (pos 0) f))
    ∙ sym (map_more (λ r. balance_of_row balances r.0) rows k r (slice_get_within rows k r e))

pub written_more : (balances after : List ℤ) (rows : RowKinds) (effects : List Effect) (k : ℕ) (r : ℕ × Kind)
    (effect : Effect) → slice_get rows k ≡ Some r → slice_get effects k ≡ Some effect
    → balances_after balances (drop k rows) (drop k effects) ≡ after
    → balances_after (cond (is_write effect.kind) (slice_set balances r.0 effect.after) balances) (drop (k + 1) rows)
    (drop (k + 1) effects) ≡ after
written_more balances after rows effects k r effect e f so =
    sym (ap₂ (balances_after balances) (next rows k r e) (next effects k effect f)) ∙ so
  where
    next : {A : Type 0} (xs : List A) (k : ℕ) (x : A) → slice_get xs k ≡ Some x → drop k xs ≡ x ∷ drop (k + 1) xs
    next xs k x e = rw (add-one, drop-cons xs k x (slice_get_within xs k x e))
        (ap (λ y. y ∷ drop (suc k) xs) (get_or_from_slice_get xs k x x e))

pub written_read : (balances after : List ℤ) (rows : RowKinds) (effects : List Effect) (k : ℕ) (effect : Effect)
    → k < length rows → slice_get effects k ≡ Some effect → effect.kind ≡ Read
    → balances_after balances (drop k rows) (drop k effects) ≡ after
    → balances_after balances (drop (k + 1) rows) (drop (k + 1) effects) ≡ after
written_read balances after rows effects k effect room f is so =
    ap (λ (kind : Kind). balances_after
    (cond (is_write kind) (slice_set balances (get_or rows k (0, Read)).0 effect.after) balances)
    (drop (k + 1) rows) (drop (k + 1) effects)) (sym is)
    ∙ written_more balances after rows effects k (get_or rows k (0, Read)) effect
    (slice_get-get_or rows k (0, Read) room) f so

pub written_write : (balances after : List ℤ) (rows : RowKinds) (effects : List Effect) (k : ℕ) (r : ℕ × Kind)
    (effect : Effect) → slice_get rows k ≡ Some r → slice_get effects k ≡ Some effect
    → effect.kind ≡ Write → balances_after balances (drop k rows) (drop k effects) ≡ after
    → balances_after (slice_set balances r.0 effect.after) (drop (k + 1) rows) (drop (k + 1) effects) ≡ after
written_write balances after rows effects k r effect e f is so =
    ap (λ (kind : Kind). balances_after (cond (is_write kind) (slice_set balances r.0 effect.after) balances)
    (drop (k + 1) rows) (drop (k + 1) effects)) (sym is)
    ∙ written_more balances after rows effects k r effect e f so

-- ---- the rows are there

index_all : (P : ℕ → Type 0) (rows : RowKinds) → AllByRecursion P (numbers rows) → All (λ r. P r.0) rows
index_all P [] all k d h = absurd (omega arith)
index_all P (r ∷ rows) all zero d h = all.0
index_all P (r ∷ rows) all (suc k) d h = index_all P rows all.1 k d (omega arith)

below : (names : List (List ℕ)) (request : Request) (rows : RowKinds) (n : ℕ) → touched_of names request
    ≡ touched.Rows rows
    → n ≡ 2 * length names → AllByRecursion (λ row. row < n) (numbers rows)
below names request rows n t e =
    subst (λ m. AllByRecursion (λ row. row < m) (numbers rows)) (sym e)
    (subst (λ (rs : RowKinds). AllByRecursion (λ row. row < 2 * length names) (numbers rs))
    (accepted names request rows t).own (request_rows names request).within)

pub rows_within : (names : List (List ℕ)) (request : Request) (reached : Touched) (rows : RowKinds) (balances : List ℤ)
    → reached ≡ touched_of names request → reached ≡ touched.Rows rows
    → length balances ≡ 2 * length names → All (λ r. r.0 < length balances) rows
rows_within names request reached rows balances t is n = index_all (λ row. row < length balances) rows
    (below names request rows (length balances) (sym t ∙ is) n)

-- ---- the values after

one_written : (balances : List ℤ) (r : ℕ × Kind) (effect : Effect) → r.0 < length balances
    → balance_of_row (cond (is_write effect.kind) (slice_set balances r.0 effect.after) balances)
    ≡ (λ row. cond (is_write effect.kind && (r.0 == row)) effect.after (balance_of_row balances row))
one_written balances r effect within = fun_ext (λ row. by (is_write effect.kind) row)
  where
    by : (b : Bool) (row : ℕ) → balance_of_row (cond b (slice_set balances r.0 effect.after) balances) row
        ≡ cond (b && (r.0 == row)) effect.after (balance_of_row balances row)
    by false row = refl
    by true row =
        elim (cases_eq r.0 row) [
          | inl same ↦ ap (λ n. get_or (set balances r.0 effect.after) n (pos 0)) (sym same)
              ∙ get_or-set_same balances r.0 effect.after (pos 0) within
              ∙ sym (cond-true (r.0 == row) effect.after (balance_of_row balances row) (eq-eqb r.0 row same))
          | inr other ↦ get_or-set_other balances r.0 row effect.after (pos 0) (λ e. other (sym e))
              ∙ sym (cond-false (r.0 == row) effect.after (balance_of_row balances row) (ne_eqb r.0 row other))
        ]

length-one : (balances : List ℤ) (row : ℕ) (effect : Effect)
    → length (cond (is_write effect.kind) (slice_set balances row effect.after) balances) ≡ length balances
length-one balances row effect = by (is_write effect.kind)
  where
    by : (b : Bool) → length (cond b (slice_set balances row effect.after) balances) ≡ length balances
    by true = length-set balances row effect.after
    by false = refl

-- what the rows have afterwards is what the entries leave
after_entries : (balances : List ℤ) (rows : RowKinds) (versions : List ℕ) (values : List ℤ) (effects : List Effect)
    → length versions ≡ length effects → length values ≡ length effects
    → AllByRecursion (λ row. row < length balances) (numbers rows)
    → balance_of_row (balances_after balances rows effects) ≡ values_after (balance_of_row balances)
    (entries_from rows versions values effects)
after_entries balances [] versions values effects m n within = refl
after_entries balances (r ∷ rows) [] values [] m n within = refl
after_entries balances (r ∷ rows) [] values (effect ∷ effects) m n within = absurd (omega arith)
after_entries balances (r ∷ rows) (v ∷ versions) [] [] m n within = refl
after_entries balances (r ∷ rows) (v ∷ versions) [] (effect ∷ effects) m n within = absurd (omega arith)
after_entries balances (r ∷ rows) (v ∷ versions) (z ∷ values) [] m n within = absurd (omega arith)
after_entries balances (r ∷ rows) (v ∷ versions) (z ∷ values) (effect ∷ effects) m n within =
    after_entries (cond (is_write effect.kind) (slice_set balances r.0 effect.after) balances) rows versions values
    effects (omega arith) (omega arith)
    (subst (λ k. AllByRecursion (λ row. row < k) (numbers rows)) (sym (length-one balances r.0 effect)) within.1)
    ∙ ap (λ (w : ℕ → ℤ). values_after w (entries_from rows versions values effects))
    (one_written balances r effect within.0)

are_seen : (w : ℕ → ℤ) (rows : RowKinds) (versions : List ℕ) (effects : List Effect)
    → AllByRecursion (λ (e : Entry). e.seen ≡ w e.row) (entries_from rows versions (map (λ r. w r.0) rows) effects)
are_seen w [] versions effects = tt
are_seen w (r ∷ rows) [] effects = tt
are_seen w (r ∷ rows) (v ∷ versions) [] = tt
are_seen w (r ∷ rows) (v ∷ versions) (effect ∷ effects) = (refl, are_seen w rows versions effects)

-- no versions are needed to say what a request does
abbrev pub zeros : List ℤ → List ℕ
zeros values = map (λ z. 0) values

pub applied : (names : List (List ℕ)) (request : Request) (reached : Touched) (rows : RowKinds) (balances seen : List ℤ)
    (decision : Decision) → reached ≡ touched_of names request → reached ≡ touched.Rows rows
    → length balances ≡ 2 * length names → seen ≡ map (λ r. balance_of_row balances r.0) rows → length decision.effects
    ≡ length seen
    → Fits names (executed_from request (rows_in reached) (zeros seen) seen decision)
    → does (bank_of names (balance_of_row balances)) request
    ≡ (bank_of names (balance_of_row (balances_after balances rows decision.effects)), decision.reply)
applied names request reached rows balances seen decision t is n shown each fits =
    let entries : List Entry = entries_from rows (zeros seen) seen decision.effects in
    let fits_here : Fits names (executed_from request rows (zeros seen) seen decision)
    = subst (λ (r : Touched). Fits names (executed_from request (rows_in r) (zeros seen) seen decision)) is fits in
    let sees : AllByRecursion (λ (e : Entry). e.seen ≡ balance_of_row balances e.row) entries
    = subst (λ (zs : List ℤ). AllByRecursion (λ (e : Entry). e.seen ≡ balance_of_row balances e.row)
    (entries_from rows (zeros seen) zs decision.effects))
    (sym shown) (are_seen (balance_of_row balances) rows (zeros seen) decision.effects) in
    fits_here.effect (balance_of_row balances) sees
    ∙ ap (λ (w : ℕ → ℤ). (bank_of names w, decision.reply))
    (sym (after_entries balances rows (zeros seen) seen decision.effects (length-map seen (λ z. 0) ∙ sym each)
    (sym each) (below names request rows (length balances) (sym t ∙ is) n)))

pub applied_refused : (names : List (List ℕ)) (request : Request) (reached : Touched) (why : Abort) (balances : List ℤ)
    (decision : Decision) → reached ≡ touched.Refused why
    → Fits names (executed_from request (rows_in reached) [] [] decision)
    → does (bank_of names (balance_of_row balances)) request ≡ (bank_of names (balance_of_row balances), decision.reply)
applied_refused names request reached why balances decision is fits =
    let fits_here : Fits names (executed_from request [] [] [] decision) =
    subst (λ (r : Touched). Fits names (executed_from request (rows_in r) [] [] decision)) is fits in
    fits_here.effect (balance_of_row balances) tt

-- ---- rows that aren't written

-- none of these writes the row
abbrev Spares : ℕ → RowKinds → Type 0
Spares row rows = AllByRecursion (λ r. r.1 ≡ Write → ¬ (r.0 ≡ row)) rows

written_first : (n : ℕ) (rows : RowKinds) → Contains (written_rows ((n, Write) ∷ rows)) n
written_first n rows = (0, omega arith, refl)

written_later : (row n : ℕ) (kind : Kind) (rows : RowKinds) → Contains (written_rows rows) row
    → Contains (written_rows ((n, kind) ∷ rows)) row
written_later row n Read rows has = has
written_later row n Write rows has = (suc has.0, (let low = has.1 in omega arith), has.2)

spares_unwritten : (row : ℕ) (rows : RowKinds) → ¬ Contains (written_rows rows) row → Spares row rows
spares_unwritten row [] none = tt
spares_unwritten row (r ∷ rows) none = (
  (λ write same. none (subst (λ (kind : Kind). Contains (written_rows ((r.0, kind) ∷ rows)) row) (sym write)
      (subst (λ n. Contains (written_rows ((n, Write) ∷ rows)) row) (sym same) (written_first row rows)))),
  spares_unwritten row rows (λ has. none (written_later row r.0 r.1 rows has)),
)

spares_reads : (row : ℕ) (rows : RowKinds) → Spares row (as_reads rows)
spares_reads row [] = tt
spares_reads row (r ∷ rows) = ((λ write. absurd (unlike write)), spares_reads row rows)
  where
    unlike : ◌≡◌ {A = Kind} Read Write → ⊥
    unlike e = cc

spares_noted : (row : ℕ) (reply : Reply) (rows : RowKinds) → Spares row rows → Spares row (noted_rows reply rows)
spares_noted row Done rows spares = spares
spares_noted row (Total sum) rows spares = spares
spares_noted row (Aborted NoSuchName) rows spares = tt
spares_noted row (Aborted BadAmount) rows spares = tt
spares_noted row (Aborted Insufficient) rows spares = spares_reads row rows
spares_noted row (Aborted OutOfRange) rows spares = spares_reads row rows

get-set_other : (xs : List ℤ) (n row : ℕ) (z : ℤ) → ¬ (n ≡ row) → slice_get (set xs n z) row ≡ slice_get xs row
get-set_other [] n row z apart = refl
get-set_other (x ∷ xs) zero zero z apart = absurd (apart refl)
get-set_other (x ∷ xs) zero (suc row) z apart = refl
get-set_other (x ∷ xs) (suc n) zero z apart = refl
get-set_other (x ∷ xs) (suc n) (suc row) z apart = get-set_other xs n row z (λ e. apart (ap suc e))

left_alone : (balances : List ℤ) (row n : ℕ) (kind : Kind) (after : ℤ) → (kind ≡ Write → ¬ (n ≡ row))
    → slice_get (cond (is_write kind) (slice_set balances n after) balances) row ≡ slice_get balances row
left_alone balances row n Read after spares = refl
left_alone balances row n Write after spares = get-set_other balances n row after (spares refl)

kept_rows : (balances : List ℤ) (row : ℕ) (rows : RowKinds) (versions : List ℕ) (values : List ℤ)
    (effects : List Effect)
    → length versions ≡ length effects → length values ≡ length effects
    → Spares row (map (λ e. (e.row, e.kind)) (entries_from rows versions values effects))
    → slice_get (balances_after balances rows effects) row ≡ slice_get balances row
kept_rows balances row [] versions values effects m n spares = refl
kept_rows balances row (r ∷ rows) [] values [] m n spares = refl
kept_rows balances row (r ∷ rows) [] values (effect ∷ effects) m n spares = absurd (omega arith)
kept_rows balances row (r ∷ rows) (v ∷ versions) [] [] m n spares = refl
kept_rows balances row (r ∷ rows) (v ∷ versions) [] (effect ∷ effects) m n spares = absurd (omega arith)
kept_rows balances row (r ∷ rows) (v ∷ versions) (z ∷ values) [] m n spares = absurd (omega arith)
kept_rows balances row (r ∷ rows) (v ∷ versions) (z ∷ values) (effect ∷ effects) m n spares =
    kept_rows (cond (is_write effect.kind) (slice_set balances r.0 effect.after) balances) row rows versions values
    effects (omega arith) (omega arith) spares.1
    ∙ left_alone balances row r.0 effect.kind effect.after spares.0

pub others_kept : (names : List (List ℕ)) (request : Request) (reached : Touched) (rows : RowKinds)
    (balances seen : List ℤ)
    (decision : Decision) → reached ≡ touched.Rows rows
    → length decision.effects ≡ length seen
    → Fits names (executed_from request (rows_in reached) (zeros seen) seen decision)
    → (row : ℕ) → ¬ Contains (written_rows (rows_of names request)) row
    → slice_get (balances_after balances rows decision.effects) row ≡ slice_get balances row
others_kept names request reached rows balances seen decision is each fits row none =
    let fits_here : Fits names (executed_from request rows (zeros seen) seen decision)
    = subst (λ (r : Touched). Fits names (executed_from request (rows_in r) (zeros seen) seen decision)) is fits in
    kept_rows balances row rows (zeros seen) seen decision.effects (length-map seen (λ z. 0) ∙ sym each) (sym each)
    (subst (Spares row) (sym fits_here.rows)
    (spares_noted row decision.reply (rows_of names request) (spares_unwritten row (rows_of names request) none)))
