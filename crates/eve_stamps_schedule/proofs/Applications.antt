-- Stripes that a request is applied to.
use Rattle.std.proofs.Common.{◌≡◌, ℕ, ◌+◌, ◌-◌, ◌++◌, ◌<◌, ◌*◌, Bool, true, false, not, nat_le, nat_lt, ◌&&◌, ◌||◌}
use Rattle.std.proofs.Common.{◌==◌, cond, List, [], ◌∷◌, length, set, get_or, Option, Some, None, Result, Ok, Err, IfOk}
use Rattle.std.proofs.Common.{IfErr, ◌⊎◌, inl, inr, refl, sym, subst, ap, ap₂, ◌∙◌, arith}
use mathlib.Core.Path.{fun_ext}
use Rattle.std.specs.List.{AllByRecursion, list_all}
use Rattle.std.proofs.lemmas.Bool.{cases_eq, or_cases, and_from, and_right, eqb-true, eq-eqb, ne_eqb, lt-ltb, lt-leb}
use Rattle.std.proofs.lemmas.Bool.{cond-true, cond-false}
use Rattle.std.proofs.lemmas.Grind.{get_or-set_at}
use Rattle.std.proofs.lemmas.List.{get_or-set_other, length-set, set-append_left, set-append_right, get_or_append_left}
use Rattle.std.proofs.lemmas.List.{get_or-append-add, get_or_default}
use Rattle.eve_smallbank.specs.declared.entry.Entry.{Entry}
use Rattle.eve_smallbank.specs.SmallBank.{Request}
use Rattle.eve_smallbank.specs.Access.{RowKinds, is_write}
use Rattle.eve_smallbank.specs.Chain.{Table, table_after}
use Rattle.eve_smallbank.specs.Touch.{touched_of, rows_in}
use Rattle.eve_smallbank.specs.Execution.{executed_on}
use Rattle.eve_smallbank.proofs.Members.{all_in, all_from_in}
use Rattle.eve_smallbank.proofs.Unique.{numbers}
use Rattle.eve_smallbank.proofs.Orders.{same_row}
use Rattle.eve_grammar.specs.declared.limits.TheConstants.{MOST_VERSIONS}
use Rattle.eve_grammar.proofs.Lists.{all-weaker}
use Rattle.eve_stamps.specs.declared.fault.StampFault.{StampFault}
use Rattle.eve_stamps.specs.declared.fault.StampFault.TheVariants as fault
use Rattle.eve_stamps.specs.Stripes.{Stripe, has_row, rows_now, is_above, stripe_with}
use Rattle.eve_stamps.specs.Requests.{has_row_in_two, rows_in_two, entries_within, entries_outside, is_worn}
use Rattle.eve_stamps.specs.Requests.{refused_for, refusal, refusal_of_two, IsRefusedFor}
use Rattle.eve_stamps.specs.declared.limits.TheConstants.{STRIPES}
use Rattle.eve_stamps.specs.OpeningRows.{stripe_of}
use Rattle.eve_stamps.proofs.JournalLaws.{rows_now-noted}
use Rattle.eve_stamps_schedule.specs.Stripes.{needs}
use Rattle.eve_stamps_schedule.specs.Schedule.{stripe_at, table_of_stripes}
use Rattle.eve_stamps_schedule.specs.AppliedRequests.{HaveTheirRows, AreFresh, IsKeptAt}
use Rattle.eve_stamps_schedule.proofs.Changes.{below_itself}
use Rattle.eve_stamps_schedule.proofs.Spans.{AreEnds}
use Rattle.eve_stamps_schedule.proofs.Tables.{table_after-none, table_after-some}
use Rattle.eve_stamps_schedule.proofs.RequestRows.{IsPlaced, rows_placed, entries_placed, executed_alike}

-- ---- stripes by number

at_set : (ss : List Stripe) (a : ℕ) (s : Stripe) (i : ℕ) → a < length ss → i ≡ a → stripe_at (set ss a s) i ≡ s
at_set ss a s i within same = get_or-set_at ss a i s (record { base = []; journal = []; greatest = None }) same within

off_set : (ss : List Stripe) (a : ℕ) (s : Stripe) (i : ℕ) → ¬ (i ≡ a) → stripe_at (set ss a s) i ≡ stripe_at ss i
off_set ss a s i other = get_or-set_other ss a i s (record { base = []; journal = []; greatest = None }) other

-- ---- one stripe

-- entries of rows of one stripe
none_elsewhere : (a row : ℕ) (es : List Entry) → ¬ (stripe_of row ≡ a) → AllByRecursion (λ e. stripe_of e.row ≡ a) es
    → AllByRecursion (λ e. ¬ (e.row ≡ row)) es
none_elsewhere a row [] other own = tt
none_elsewhere a row (e ∷ es) other own =
    (λ same. other (ap stripe_of (sym same) ∙ own.0), none_elsewhere a row es other own.1)

pub one_table : (ss : List Stripe) (a tick : ℕ) (es : List Entry) → a < length ss
    → AllByRecursion (λ e. stripe_of e.row ≡ a) es
    → table_of_stripes (set ss a (stripe_with (stripe_at ss a) tick es)) ≡ table_after (table_of_stripes ss) es
one_table ss a tick es within own =
    let new : Stripe = stripe_with (stripe_at ss a) tick es in
    fun_ext (λ row. elim (cases_eq (stripe_of row) a) [
      | inl same ↦
          ap (λ (s : Stripe). rows_now s row) (at_set ss a new (stripe_of row) within same)
          ∙ ap (λ (t : Table). t row) (rows_now-noted (stripe_at ss a) tick es)
          ∙ same_row (rows_now (stripe_at ss a)) (table_of_stripes ss) row es
          (ap (λ i. rows_now (stripe_at ss i) row) (sym same))
      | inr other ↦
          ap (λ (s : Stripe). rows_now s row) (off_set ss a new (stripe_of row) other)
          ∙ sym (table_after-none (table_of_stripes ss) es row (none_elsewhere a row es other own))
    ])

pub one_kept : (ss : List Stripe) (a tick : ℕ) (es : List Entry) (test : ℕ → Bool) (i : ℕ) → a < length ss
    → AreEnds test a a
    → IsKeptAt tick (test i) (stripe_at ss i) (stripe_at (set ss a (stripe_with (stripe_at ss a) tick es)) i)
one_kept ss a tick es test i within ends =
    let new : Stripe = stripe_with (stripe_at ss a) tick es in
    elim (cases_eq i a) [
      | inl same ↦
          let is = at_set ss a new i within same in
          let changed : test i ≡ true = ends i ∙ ap₂ (λ b c. b || c) (eq-eqb a i (sym same)) (eq-eqb a i (sym same)) in
          record {
            base = ap (λ (s : Stripe). s.base) is ∙ ap (λ j. (stripe_at ss j).base) (sym same);
            greatest = ap (λ (s : Stripe). s.greatest) is
                ∙ sym (cond-true (test i) (Some tick) (stripe_at ss i).greatest changed);
          }
      | inr other ↦
          let is = off_set ss a new i other in
          let kept : test i ≡ false = ends i ∙ ap₂ (λ b c. b || c) (ne_eqb a i (λ e. other (sym e)))
          (ne_eqb a i (λ e. other (sym e))) in
          record {
            base = ap (λ (s : Stripe). s.base) is;
            greatest = ap (λ (s : Stripe). s.greatest) is
                ∙ sym (cond-false (test i) (Some tick) (stripe_at ss i).greatest kept);
          }
    ]

-- ---- two stripes

-- an entry of the first stripe, or of the last
abbrev pub IsParted : Stripe → ℕ → ℕ → Entry → Type 0
IsParted s a b e = ((stripe_of e.row ≡ a) × (has_row s e.row ≡ true))
    ⊎ ((stripe_of e.row ≡ b) × (has_row s e.row ≡ false))

not_same : {m n k : ℕ} → m ≡ n → m ≡ k → n < k → ⊥
not_same e f h = omega arith

within_first : (s : Stripe) (a b row : ℕ) (es : List Entry) → a < b → stripe_of row ≡ a
    → AllByRecursion (IsParted s a b) es
    → AllByRecursion (λ e. e.row ≡ row → has_row s e.row ≡ true) es
within_first s a b row [] less at parted = tt
within_first s a b row (e ∷ es) less at parted = (
  (λ same. elim parted.0 [
    | inl one ↦ one.1
    | inr two
        ↦ absurd (below_itself (sym at ∙ ap stripe_of (sym same) ∙ two.0) less)
  ]),
  within_first s a b row es less at parted.1,
)

within_last : (s : Stripe) (a b row : ℕ) (es : List Entry) → a < b → stripe_of row ≡ b
    → AllByRecursion (IsParted s a b) es
    → AllByRecursion (λ e. e.row ≡ row → not (has_row s e.row) ≡ true) es
within_last s a b row [] less at parted = tt
within_last s a b row (e ∷ es) less at parted = (
  (λ same. elim parted.0 [
    | inl one ↦ absurd (below_itself (sym one.0 ∙ ap stripe_of same ∙ at) less)
    | inr two
        ↦ ap not two.1
  ]),
  within_last s a b row es less at parted.1,
)

in_neither : (s : Stripe) (a b row : ℕ) (es : List Entry) → ¬ (stripe_of row ≡ a) → ¬ (stripe_of row ≡ b)
    → AllByRecursion (IsParted s a b) es
    → AllByRecursion (λ e. ¬ (e.row ≡ row)) es
in_neither s a b row [] one two parted = tt
in_neither s a b row (e ∷ es) one two parted = (
  (λ same. elim parted.0 [ inl x ↦ one (ap stripe_of (sym same) ∙ x.0) | inr y ↦ two (ap stripe_of (sym same) ∙ y.0) ]),
  in_neither s a b row es one two parted.1,
)

-- both stripes with their entries
abbrev pub both_noted : List Stripe → ℕ → ℕ → ℕ → List Entry → List Stripe
both_noted ss a b tick es =
    set (set ss a (stripe_with (stripe_at ss a) tick (entries_within (stripe_at ss a) es))) b
    (stripe_with (stripe_at ss b) tick (entries_outside (stripe_at ss a) es))

pub two_table : (ss : List Stripe) (a b tick : ℕ) (es : List Entry) → a < b → b < length ss
    → AllByRecursion (IsParted (stripe_at ss a) a b) es
    → table_of_stripes (both_noted ss a b tick es) ≡ table_after (table_of_stripes ss) es
two_table ss a b tick es less within parted =
    let first : Stripe = stripe_at ss a in
    let one : Stripe = stripe_with first tick (entries_within first es) in
    let two : Stripe = stripe_with (stripe_at ss b) tick (entries_outside first es) in
    let long : length (set ss a one) ≡ length ss = length-set ss a one in
    fun_ext (λ row. elim (cases_eq (stripe_of row) b) [
      | inl same ↦
          ap (λ (s : Stripe). rows_now s row) (at_set (set ss a one) b two (stripe_of row) (omega arith) same)
          ∙ ap (λ (t : Table). t row) (rows_now-noted (stripe_at ss b) tick (entries_outside first es))
          ∙ table_after-some (rows_now (stripe_at ss b)) (λ e. not (has_row first e.row)) es row
          (within_last first a b row es less same parted)
          ∙ same_row (rows_now (stripe_at ss b)) (table_of_stripes ss) row es
          (ap (λ i. rows_now (stripe_at ss i) row) (sym same))
      | inr other ↦
          ap (λ (s : Stripe). rows_now s row) (off_set (set ss a one) b two (stripe_of row) other)
          ∙ elim (cases_eq (stripe_of row) a) [
            | inl same ↦
                ap (λ (s : Stripe). rows_now s row) (at_set ss a one (stripe_of row) (omega arith) same)
                ∙ ap (λ (t : Table). t row) (rows_now-noted first tick (entries_within first es))
                ∙ table_after-some (rows_now first) (λ e. has_row first e.row) es row
                (within_first first a b row es less same parted)
                ∙ same_row (rows_now first) (table_of_stripes ss) row es
                (ap (λ i. rows_now (stripe_at ss i) row) (sym same))
            | inr else ↦
                ap (λ (s : Stripe). rows_now s row) (off_set ss a one (stripe_of row) else)
                ∙ sym (table_after-none (table_of_stripes ss) es row (in_neither first a b row es else other parted))
          ]
    ])

pub two_kept : (ss : List Stripe) (a b tick : ℕ) (es : List Entry) (test : ℕ → Bool) (i : ℕ) → a < b → b < length ss
    → AreEnds test a b
    → IsKeptAt tick (test i) (stripe_at ss i) (stripe_at (both_noted ss a b tick es) i)
two_kept ss a b tick es test i less within ends =
    let first : Stripe = stripe_at ss a in
    let one : Stripe = stripe_with first tick (entries_within first es) in
    let two : Stripe = stripe_with (stripe_at ss b) tick (entries_outside first es) in
    let long : length (set ss a one) ≡ length ss = length-set ss a one in
    elim (cases_eq i b) [
      | inl same ↦
          let is = at_set (set ss a one) b two i (omega arith) same in
          let changed : test i ≡ true = ends i ∙ ap (λ c. (a == i) || c) (eq-eqb b i (sym same)) ∙ or_true (a == i) in
          record {
            base = ap (λ (s : Stripe). s.base) is ∙ ap (λ j. (stripe_at ss j).base) (sym same);
            greatest = ap (λ (s : Stripe). s.greatest) is
                ∙ sym (cond-true (test i) (Some tick) (stripe_at ss i).greatest changed);
          }
      | inr other ↦ elim (cases_eq i a) [
        | inl same ↦
            let is = off_set (set ss a one) b two i other ∙ at_set ss a one i (omega arith) same in
            let changed : test i ≡ true = ends i ∙ ap (λ c. c || (b == i)) (eq-eqb a i (sym same)) in
            record {
              base = ap (λ (s : Stripe). s.base) is ∙ ap (λ j. (stripe_at ss j).base) (sym same);
              greatest = ap (λ (s : Stripe). s.greatest) is
                  ∙ sym (cond-true (test i) (Some tick) (stripe_at ss i).greatest changed);
            }
        | inr else ↦
            let is = off_set (set ss a one) b two i other ∙ off_set ss a one i else in
            let kept : test i ≡ false = ends i ∙ ap₂ (λ b c. b || c) (ne_eqb a i (λ e. else (sym e)))
            (ne_eqb b i (λ e. other (sym e))) in
            record {
              base = ap (λ (s : Stripe). s.base) is;
              greatest = ap (λ (s : Stripe). s.greatest) is
                  ∙ sym (cond-false (test i) (Some tick) (stripe_at ss i).greatest kept);
            }
      ]
    ]
  where
    or_true : (b : Bool) → (b || true) ≡ true
    or_true true = refl
    or_true false = refl

-- both stripes, written each in its part of the list
both_set : (ss prefix back : List Stripe) (a b : ℕ) (x y : Stripe) → ss ≡ prefix ++ back → a < length prefix
    → length prefix
    ≡ b → set prefix a x ++ set back 0 y ≡ set (set ss a x) b y
both_set ss prefix back a b x y is within cut =
    let long : length (set prefix a x) ≡ b = length-set prefix a x ∙ cut in
    let none : b - b ≡ 0 = omega arith in
    sym (ap (λ (l : List Stripe). set (set l a x) b y) is
    ∙ ap (λ (l : List Stripe). set l b y) (set-append_left prefix back a x within)
    ∙ set-append_right (set prefix a x) back b b y long (omega arith) ∙ ap (λ n. set prefix a x ++ set back n y) none)

pub two_written : (ss prefix back : List Stripe) (a b tick : ℕ) (s u one two : Stripe) (es : List Entry)
    → ss ≡ prefix ++ back → a < length prefix → length prefix ≡ b
    → s ≡ stripe_at ss a → u ≡ stripe_at ss b → one ≡ stripe_with s tick (entries_within s es)
    → two ≡ stripe_with u tick (entries_outside s es)
    → set prefix a one ++ set back 0 two ≡ both_noted ss a b tick es
two_written ss prefix back a b tick s u one two es is within cut first last x y =
    both_set ss prefix back a b one two is within cut
    ∙ ap₂ (λ (p q : Stripe). set (set ss a p) b q)
    (x ∙ ap (λ (r : Stripe). stripe_with r tick (entries_within r es)) first)
    (y ∙ ap₂ (λ (q r : Stripe). stripe_with q tick (entries_outside r es)) last first)

-- a stripe of the first part, and the first of the second
pub in_prefix : (ss prefix back : List Stripe) (a : ℕ) (d : Stripe) → ss ≡ prefix ++ back → a < length prefix
    → get_or prefix a d ≡ stripe_at ss a
in_prefix ss prefix back a d is within =
    get_or_default prefix a d (record { base = []; journal = []; greatest = None }) within
    ∙ sym (get_or_append_left prefix back (record { base = []; journal = []; greatest = None }) a within)
    ∙ ap (λ (l : List Stripe). stripe_at l a) (sym is)

pub in_back : (ss prefix back : List Stripe) (b : ℕ) (d : Stripe) → ss ≡ prefix ++ back → length prefix ≡ b
    → 0 < length back → get_or back 0 d ≡ stripe_at ss b
in_back ss prefix back b d is cut some =
    let long : length prefix + 0 ≡ b = omega arith in
    get_or_default back 0 d (record { base = []; journal = []; greatest = None }) some
    ∙ sym (get_or-append-add prefix back 0 (record { base = []; journal = []; greatest = None }))
    ∙ ap (stripe_at (prefix ++ back)) long ∙ ap (λ (l : List Stripe). stripe_at l b) (sym is)

-- ---- the rows of a request

-- a row of the request is in the first stripe or in the last
pub in_ends : (test : ℕ → Bool) (first last i : ℕ) → AreEnds test first last → test i ≡ true → (i ≡ first) ⊎ (i ≡ last)
in_ends test first last i ends t =
    elim (or_cases (first == i) (last == i) (sym (ends i) ∙ t)) [
      | inl one ↦ inl (sym (eqb-true first i one))
      | inr two ↦ inr (sym (eqb-true last i two))
    ]

same_end : (i a : ℕ) → (i ≡ a) ⊎ (i ≡ a) → i ≡ a
same_end i a (inl e) = e
same_end i a (inr e) = e

-- it lies in its stripe
has_own : (names : List (List ℕ)) (ss : List Stripe) (request : Request) (i row : ℕ) → HaveTheirRows (length names) ss
    → i < STRIPES → IsPlaced names request row → stripe_of row ≡ i
    → has_row (stripe_at ss i) row ≡ true
has_own names ss request i row have small placed own =
    have i row small ∙ and_from (stripe_of row == i) (nat_lt row (2 * length names)) (eq-eqb (stripe_of row) i own)
    (lt-ltb row (2 * length names) placed.within)

-- and in no other
has_no_other : (names : List (List ℕ)) (ss : List Stripe) (i row : ℕ) → HaveTheirRows (length names) ss
    → i < STRIPES → ¬ (stripe_of row ≡ i)
    → has_row (stripe_at ss i) row ≡ false
has_no_other names ss i row have small other =
    have i row small ∙ ap (λ b. b && nat_lt row (2 * length names)) (ne_eqb (stripe_of row) i other)

-- ---- what is made

pub one_made : (names : List (List ℕ)) (ss : List Stripe) (request : Request) (a : ℕ)
    → AreEnds (needs names request) a a
    → executed_on names (rows_now (stripe_at ss a)) request ≡ executed_on names (table_of_stripes ss) request
one_made names ss request a ends =
    executed_alike names (rows_now (stripe_at ss a)) (table_of_stripes ss) request (λ row placed.
    ap (λ i. rows_now (stripe_at ss i) row)
    (sym (same_end (stripe_of row) a (in_ends (needs names request) a a (stripe_of row) ends placed.needed))))

pub one_own : (names : List (List ℕ)) (table : Table) (request : Request) (a : ℕ) → AreEnds (needs names request) a a
    → AllByRecursion (λ e. stripe_of e.row ≡ a) (executed_on names table request).entries
one_own names table request a ends =
    all_from_in (λ e. stripe_of e.row ≡ a) (executed_on names table request).entries (λ e i.
    let placed : IsPlaced names request e.row = all_in (λ (f : Entry). IsPlaced names request f.row)
    (entries_placed names table request) i in
    same_end (stripe_of e.row) a (in_ends (needs names request) a a (stripe_of e.row) ends placed.needed))

-- a row is the first stripe's where it has it
two_rows : (names : List (List ℕ)) (ss : List Stripe) (request : Request) (a b row : ℕ)
    → HaveTheirRows (length names) ss → a < b → b < STRIPES → IsPlaced names request row
    → (stripe_of row ≡ a) ⊎ (stripe_of row ≡ b) → rows_in_two (stripe_at ss a) (stripe_at ss b) row
    ≡ table_of_stripes ss row
two_rows names ss request a b row have less small placed (inl one) =
    cond-true (has_row (stripe_at ss a) row) (rows_now (stripe_at ss a) row) (rows_now (stripe_at ss b) row)
    (has_own names ss request a row have (omega arith) placed one)
    ∙ ap (λ i. rows_now (stripe_at ss i) row) (sym one)
two_rows names ss request a b row have less small placed (inr two) =
    cond-false (has_row (stripe_at ss a) row) (rows_now (stripe_at ss a) row) (rows_now (stripe_at ss b) row)
    (has_no_other names ss a row have (omega arith) (λ one. not_same one two less))
    ∙ ap (λ i. rows_now (stripe_at ss i) row) (sym two)

pub two_made : (names : List (List ℕ)) (ss : List Stripe) (request : Request) (a b : ℕ)
    → HaveTheirRows (length names) ss → a < b → b < STRIPES → AreEnds (needs names request) a b
    → executed_on names (rows_in_two (stripe_at ss a) (stripe_at ss b)) request
    ≡ executed_on names (table_of_stripes ss) request
two_made names ss request a b have less small ends =
    executed_alike names (rows_in_two (stripe_at ss a) (stripe_at ss b)) (table_of_stripes ss) request (λ row placed.
    two_rows names ss request a b row have less small placed
    (in_ends (needs names request) a b (stripe_of row) ends placed.needed))

pub two_parted : (names : List (List ℕ)) (ss : List Stripe) (table : Table) (request : Request) (a b : ℕ)
    → HaveTheirRows (length names) ss → a < b → b < STRIPES
    → AreEnds (needs names request) a b → AllByRecursion (IsParted (stripe_at ss a) a b)
    (executed_on names table request).entries
two_parted names ss table request a b have less small ends =
    all_from_in (IsParted (stripe_at ss a) a b) (executed_on names table request).entries (λ e i.
    let placed : IsPlaced names request e.row = all_in (λ (f : Entry). IsPlaced names request f.row)
    (entries_placed names table request) i in
    elim (in_ends (needs names request) a b (stripe_of e.row) ends placed.needed) [
      | inl one ↦ inl (one, has_own names ss request a e.row have (omega arith) placed one)
      | inr two ↦ inr (two, has_no_other names ss a e.row have (omega arith) (λ one. not_same one two less))
    ])

-- ---- nothing is refused

all_numbers : (p : ℕ → Bool) (rows : RowKinds) → AllByRecursion (λ row. p row ≡ true) (numbers rows)
    → list_all (λ r. p r.0) rows ≡ true
all_numbers p [] all = refl
all_numbers p (r ∷ rows) all = and_from (p r.0) (list_all (λ q. p q.0) rows) all.0 (all_numbers p rows all.1)

none_worn : (now : Table) (rows : RowKinds) → AllByRecursion (λ row. (now row).version < MOST_VERSIONS) (numbers rows)
    → is_worn now rows ≡ false
none_worn now [] fresh = refl
none_worn now (r ∷ rows) fresh =
    ap₂ (λ b c. b || c) (and_right (is_write r.1) (nat_le MOST_VERSIONS (now r.0).version)
    (lt-leb MOST_VERSIONS (now r.0).version fresh.0)) (none_worn now rows fresh.1)

none_refused : (is_there : ℕ → Bool) (is_new : Bool) (now : Table) (rows : RowKinds) → list_all (λ r. is_there r.0) rows
    ≡ true → is_new ≡ true → is_worn now rows ≡ false
    → refused_for is_there is_new now rows ≡ None
none_refused is_there is_new now rows lie timely fresh =
    ap₂ (λ a b. cond a (cond b (cond (is_worn now rows) (Some fault.Worn) None) (Some fault.TickOrder))
    (Some fault.NoRow)) lie timely
    ∙ ap (λ c. cond c (Some fault.Worn) None) fresh

memory_alone : {A : Type 0} (o : Option StampFault) (result : Result A StampFault) → o ≡ None → IsRefusedFor o result
    → IfErr result (λ why. why ≡ fault.Memory)
memory_alone {A} o result none refused = subst (λ (p : Option StampFault). IsRefusedFor {A = A} p result) none refused

pub one_memory : {A : Type 0} (names : List (List ℕ)) (ss : List Stripe) (request : Request) (a tick : ℕ)
    (result : Result A StampFault) → HaveTheirRows (length names) ss → a < STRIPES
    → AreEnds (needs names request) a a
    → ((i : ℕ) → needs names request i ≡ true → is_above tick (stripe_at ss i).greatest ≡ true)
    → AreFresh (table_of_stripes ss)
    → IsRefusedFor (refusal (stripe_at ss a) tick (rows_in (touched_of names request))) result
    → IfErr result (λ why. why ≡ fault.Memory)
one_memory names ss request a tick result have small ends above fresh refused =
    let rows : RowKinds = rows_in (touched_of names request) in
    let at : (row : ℕ) → IsPlaced names request row → stripe_of row ≡ a =
    λ row placed. same_end (stripe_of row) a (in_ends (needs names request) a a (stripe_of row) ends placed.needed) in
    memory_alone (refusal (stripe_at ss a) tick rows) result
    (none_refused (has_row (stripe_at ss a)) (is_above tick (stripe_at ss a).greatest) (rows_now (stripe_at ss a)) rows
    (all_numbers (has_row (stripe_at ss a)) rows
    (all-weaker (IsPlaced names request) (λ row. has_row (stripe_at ss a) row ≡ true) (numbers rows)
    (λ row placed. has_own names ss request a row have small placed (at row placed)) (rows_placed names request)))
    (above a (ends a ∙ ap₂ (λ b c. b || c) (eq-eqb a a refl) (eq-eqb a a refl)))
    (none_worn (rows_now (stripe_at ss a)) rows
    (all-weaker (IsPlaced names request) (λ row. (rows_now (stripe_at ss a) row).version < MOST_VERSIONS) (numbers rows)
    (λ row placed. subst (λ i. (rows_now (stripe_at ss i) row).version < MOST_VERSIONS) (at row placed) (fresh row))
    (rows_placed names request))))
    refused

pub two_memory : {A : Type 0} (names : List (List ℕ)) (ss : List Stripe) (request : Request) (a b tick : ℕ)
    (result : Result A StampFault) → HaveTheirRows (length names) ss → a < b → b < STRIPES
    → AreEnds (needs names request) a b
    → ((i : ℕ) → needs names request i ≡ true → is_above tick (stripe_at ss i).greatest ≡ true)
    → AreFresh (table_of_stripes ss)
    → IsRefusedFor (refusal_of_two (stripe_at ss a) (stripe_at ss b) tick (rows_in (touched_of names request))) result
    → IfErr result (λ why. why ≡ fault.Memory)
two_memory names ss request a b tick result have less small ends above fresh refused =
    let rows : RowKinds = rows_in (touched_of names request) in
    let first : Stripe = stripe_at ss a in
    let last : Stripe = stripe_at ss b in
    memory_alone (refusal_of_two first last tick rows) result
    (none_refused (has_row_in_two first last) (is_above tick first.greatest && is_above tick last.greatest)
    (rows_in_two first last) rows
    (all_numbers (has_row_in_two first last) rows
    (all-weaker (IsPlaced names request) (λ row. has_row_in_two first last row ≡ true) (numbers rows) (λ row placed.
    elim (in_ends (needs names request) a b (stripe_of row) ends placed.needed) [
      | inl one ↦ ap (λ c. c || has_row last row) (has_own names ss request a row have (omega arith) placed one)
      | inr two ↦ ap₂ (λ c d. c || d) (has_no_other names ss a row have (omega arith) (λ one. not_same one two less))
          (has_own names ss request b row have small placed two)
    ]) (rows_placed names request)))
    (and_from (is_above tick first.greatest) (is_above tick last.greatest)
    (above a (ends a ∙ ap (λ c. c || (b == a)) (eq-eqb a a refl)))
    (above b (ends b ∙ ap₂ (λ c d. c || d) (ne_eqb a b (λ e. omega arith)) (eq-eqb b b refl))))
    (none_worn (rows_in_two first last) rows
    (all-weaker (IsPlaced names request) (λ row. (rows_in_two first last row).version < MOST_VERSIONS) (numbers rows)
    (λ row placed. subst (λ v. v.version < MOST_VERSIONS)
    (sym (two_rows names ss request a b row have less small placed
    (in_ends (needs names request) a b (stripe_of row) ends placed.needed))) (fresh row))
    (rows_placed names request))))
    refused

-- ---- by the answer

pub if_ok_both : {A E : Type 0} (P R Q : A → Type 0) (result : Result A E) → IfOk result P → IfOk result R
    → ((x : A) → P x → R x → Q x) → IfOk result Q
if_ok_both P R Q (Ok x) p r h = h x p r
if_ok_both P R Q (Err e) p r h = tt
