-- Parts that are passed over.
use Rattle.std.proofs.Common.{◌≡◌, ℕ, zero, suc, ◌-◌, ◌*◌, ◌<◌, ◌≤◌, Bool, true, false, ◌&&◌, cond, ltb, leb, List}
use Rattle.std.proofs.Common.{length, drop, sum, Option, Some, None, refl, sym, ap, ◌∙◌, arith}
use Rattle.std.specs.List.{list_all}
use Rattle.std.proofs.lemmas.Bool.{le-leb, ltb-false, leb-true, and_parts, and_from}
use Rattle.std.proofs.lemmas.List.{length-drop}
use Rattle.std.proofs.lemmas.Option.{same_Some}
use Rattle.eve_smallbank.specs.declared.request.Reply.{Reply}
use Rattle.eve_grammar.specs.Limits.{is_between, is_rising, are_no_debts}
use Rattle.eve_grammar.specs.Readers.{◌>>=◌, Reader, number_at, both, many_at, reply_at, restore_at, are_sizes}
use Rattle.eve_grammar.specs.Readers.{sizes_at}
use Rattle.eve_grammar.specs.Readers.{certified_at, restores_at, versioned_at, state_rows_at, Gives}
use Rattle.eve_grammar.specs.inner.Scans.{Passes, total_at, rest_at, rising_at, saved_at}
use Rattle.eve_grammar.proofs.Codec.{bind_some, guard_some}
use Rattle.eve_grammar.proofs.Scans.{rest_some, rest_none, many_length, many_numbers, summed, total_is, risen}
use Rattle.eve_grammar.proofs.Scans.{rising_is, counted}
use Rattle.eve_grammar.proofs.Scans.{is_rising_from, rising_from_zero, saved, saved_is}
use Rattle.eve_grammar.proofs.Loops.{rest_short}
use Rattle.eve_grammar.specs.declared.restore.Restore.{Restore}
use Rattle.eve_smallbank.specs.declared.versioned.Versioned.{Versioned}

-- ---- loops

-- the last of this many was read
pub all_passed : {A : Type 0} (one : Reader A) (count i : ℕ) (bytes rest : List ℕ) → count ≤ i
    → rest_at one (count - i) rest ≡ rest_at one count bytes
    → (xs : List A) × (many_at one count bytes ≡ Some (xs, rest))
unfolding rest_at
all_passed one count i bytes rest le so_far =
    let none : count - i ≡ 0 = omega arith in
    let left : rest_at one (count - i) rest ≡ Some rest = rw none refl in
    rest_some one count bytes rest (sym so_far ∙ left)

-- one of them is not there
pub one_missing : {A : Type 0} (one : Reader A) (count i : ℕ) (bytes rest : List ℕ) → i < count → one rest ≡ None
    → rest_at one (count - i) rest ≡ rest_at one count bytes → many_at one count bytes ≡ None
one_missing one count i bytes rest lt read so_far =
    rest_none one count bytes (rest_short one count i rest (rest_at one count bytes) lt read so_far)

-- ---- restores

abbrev some_restores : List Restore → List ℕ → Option (List Restore × List ℕ)
some_restores xs rest = Some (xs, rest)

restores_are : (rows count : ℕ) (bytes restores rest behind : List ℕ) (xs : List Restore)
    → number_at 4 bytes ≡ Some (count, restores) → many_at (restore_at rows) count restores ≡ Some (xs, rest)
    → is_rising xs ≡ true → rest ≡ behind → restores_at rows bytes ≡ Some (xs, behind)
unfolding restores_at
restores_are rows count bytes restores rest behind xs read many rising same =
    rw (read, many, rising) (ap (some_restores xs) same)

-- what stands after rising restores stands after restores that rise
pub restores_passed : {X : Type 0} (view : X → List ℕ) (result : Option X) (rows count : ℕ) (bytes restores : List ℕ)
    → number_at 4 bytes ≡ Some (count, restores) → Gives view result (rising_at rows 0 count restores)
    → Passes view result (restores_at rows bytes)
unfolding restores_at
restores_passed view (Some x) rows count bytes restores read e =
    let r = bind_some (many_at (restore_at rows) count restores) (λ x. cond (is_rising_from 0 x.0) (Some x.1) None)
    (view x) (sym (rising_is rows 0 count restores) ∙ e) in
    let g = guard_some (is_rising_from 0 r.0.0) (Some r.0.1) (view x) r.2 in
    let rising : is_rising r.0.0 ≡ true = sym (rising_from_zero r.0.0) ∙ g.0 in
    let same : r.0.1 ≡ view x = same_Some r.0.1 (view x) g.1 in
    (r.0.0, restores_are rows count bytes restores r.0.1 (view x) r.0.0 read r.1 rising same)
restores_passed view None rows count bytes restores read e =
    rw read (by (many_at (restore_at rows) count restores) (sym (rising_is rows 0 count restores) ∙ e))
  where
    all : (xs : List Restore) (rest : List ℕ) (b : Bool) → is_rising_from 0 xs ≡ b → cond b (Some rest) None ≡ None
        → cond (is_rising xs) (some_restores xs rest) None ≡ None
    all xs rest true e f = absurd cc
    all xs rest false e f = rw (sym (rising_from_zero xs) ∙ e) refl

    by : (m : Option (List Restore × List ℕ)) → risen 0 m ≡ None → (m >>= λ x. cond (is_rising x.0) (Some x) None)
        ≡ None
    by None e = refl
    by (Some x) e = all x.0 x.1 (is_rising_from 0 x.0) refl e

-- ---- rows

abbrev some_rows : List Versioned → List ℕ → Option (List Versioned × List ℕ)
some_rows xs rest = Some (xs, rest)

rows_are : (rows : ℕ) (bytes rest behind : List ℕ) (xs : List Versioned) → many_at versioned_at rows bytes
    ≡ Some (xs, rest) → are_no_debts 0 xs ≡ true → rest ≡ behind → state_rows_at rows bytes ≡ Some (xs, behind)
unfolding state_rows_at
rows_are rows bytes rest behind xs many saved same = rw (many, saved) (ap (some_rows xs) same)

-- what stands after rows one by one stands after rows
pub rows_passed : {X : Type 0} (view : X → List ℕ) (result : Option X) (rows : ℕ) (bytes : List ℕ)
    → Gives view result (saved_at 0 rows bytes) → Passes view result (state_rows_at rows bytes)
unfolding state_rows_at
rows_passed view (Some x) rows bytes e =
    let r = bind_some (many_at versioned_at rows bytes) (λ x. cond (are_no_debts 0 x.0) (Some x.1) None) (view x)
    (sym (saved_is 0 rows bytes) ∙ e) in
    let g = guard_some (are_no_debts 0 r.0.0) (Some r.0.1) (view x) r.2 in
    (r.0.0, rows_are rows bytes r.0.1 (view x) r.0.0 r.1 g.0 (same_Some r.0.1 (view x) g.1))
rows_passed view None rows bytes e = by (many_at versioned_at rows bytes) (sym (saved_is 0 rows bytes) ∙ e)
  where
    all : (xs : List Versioned) (rest : List ℕ) (b : Bool) → cond b (Some rest) None ≡ None
        → cond b (some_rows xs rest) None ≡ None
    all xs rest true e = absurd cc
    all xs rest false e = refl

    by : (m : Option (List Versioned × List ℕ)) → saved 0 m ≡ None
        → (m >>= λ x. cond (are_no_debts 0 x.0) (Some x) None) ≡ None
    by None e = refl
    by (Some x) e = all x.0 x.1 (are_no_debts 0 x.0) e

-- ---- certificates and replies

-- a certificate of a right length, and its replies
pub certified_passed : (count : ℕ) (bytes rest behind : List ℕ) (replies : List Reply)
    → number_at 2 bytes ≡ Some (count, rest) → 1 ≤ count → count ≤ 256 → 2 * count ≤ length rest
    → many_at reply_at count (drop (2 * count) rest) ≡ Some (replies, behind)
    → (c : List ℕ × List Reply) × (certified_at bytes ≡ Some (c, behind)) × (length c.0 ≡ count)
unfolding certified_at
certified_passed count bytes rest behind replies read low high le e =
    let n = many_numbers count rest le in
    let test : is_between 1 256 count ≡ true = and_from (leb 1 count) (leb count 256) (le-leb 1 count low)
    (le-leb count 256 high) in (
      (n.0, replies),
      rw (read, test, n.1, e) refl,
      many_length (number_at 2) count rest (n.0, drop (2 * count) rest) n.1,
    )

-- fewer bytes than the numbers have
short_numbers : (n : ℕ) (bytes : List ℕ) → length bytes < 2 * n → many_at (number_at 2) n bytes ≡ None
unfolding many_at
short_numbers zero bytes lt = absurd (omega arith)
short_numbers (suc n) bytes lt = by (ltb (length bytes) 2) refl (short_numbers n (drop 2 bytes))
  where
    by : (b : Bool) → ltb (length bytes) 2 ≡ b
        → (length (drop 2 bytes) < 2 * n → many_at (number_at 2) n (drop 2 bytes) ≡ None)
        → many_at (number_at 2) (suc n) bytes ≡ None
    by true e more = rw e refl
    by false e more =
        let le = ltb-false (length bytes) 2 e in
        rw (e, more (omega (arith, length-drop 2 bytes))) refl

-- what stands after the count of a certificate
after_count : (count : ℕ) (bytes rest : List ℕ) → number_at 2 bytes ≡ Some (count, rest)
    → (1 ≤ count → count ≤ 256 → both (many_at (number_at 2) count) (many_at reply_at count) rest ≡ None)
    → certified_at bytes ≡ None
unfolding certified_at
after_count count bytes rest read none = rw read (by (is_between 1 256 count) refl)
  where
    by : (b : Bool) → is_between 1 256 count ≡ b
        → (cond b (counted count rest) None >>= λ x. both (many_at (number_at 2) x.0) (many_at reply_at x.0) x.1)
        ≡ None
    by true e = let p = and_parts (leb 1 count) (leb count 256) e in
        none (leb-true 1 count p.0) (leb-true count 256 p.1)
    by false e = refl

-- a count outside 1 to 256
pub certified_out : (count : ℕ) (bytes rest : List ℕ) → number_at 2 bytes ≡ Some (count, rest)
    → (1 ≤ count → count ≤ 256 → ⊥) → certified_at bytes ≡ None
certified_out count bytes rest read out = after_count count bytes rest read (λ low high. absurd (out low high))

-- too short for the certificate
pub certified_short : (count : ℕ) (bytes rest : List ℕ) → number_at 2 bytes ≡ Some (count, rest)
    → length rest < 2 * count → certified_at bytes ≡ None
certified_short count bytes rest read lt =
    after_count count bytes rest read (λ low high. rw (short_numbers count rest lt) refl)

-- the replies are not there
pub certified_none : (count : ℕ) (bytes rest : List ℕ) → number_at 2 bytes ≡ Some (count, rest)
    → 2 * count ≤ length rest → many_at reply_at count (drop (2 * count) rest) ≡ None → certified_at bytes ≡ None
certified_none count bytes rest read le e =
    after_count count bytes rest read (λ low high. let n = many_numbers count rest le in rw (n.1, e) refl)

-- ---- sizes

abbrev some_sizes : List ℕ → List ℕ → Option (List ℕ × List ℕ)
some_sizes sizes rest = Some (sizes, rest)

sizes_are : (count : ℕ) (bytes rest last behind sizes : List ℕ) → number_at 2 bytes ≡ Some (count, rest)
    → many_at (number_at 2) count rest ≡ Some (sizes, last) → are_sizes sizes ≡ true → last ≡ behind
    → sizes_at bytes ≡ Some (sizes, behind)
unfolding sizes_at
sizes_are count bytes rest last behind sizes read many test same =
    rw (read, many, test) (ap (some_sizes sizes) same)

-- sizes of a right sum
pub sizes_passed : (count total : ℕ) (bytes rest behind : List ℕ) → number_at 2 bytes ≡ Some (count, rest)
    → 1 ≤ count → total ≤ 256 → total_at count rest ≡ Some (total, behind)
    → (sizes : List ℕ) × (sizes_at bytes ≡ Some (sizes, behind)) × (sum sizes ≡ total)
sizes_passed count total bytes rest behind read low high e =
    let r = bind_some (many_at (number_at 2) count rest) (λ s. cond (list_all (leb 1) s.0) (Some (sum s.0, s.1)) None)
    (total, behind) (sym (total_is count rest) ∙ e) in
    let there : ℕ × List ℕ = (sum r.0.0, r.0.1) in
    let g = guard_some (list_all (leb 1) r.0.0) (Some there) (total, behind) r.2 in
    let same = same_Some there (total, behind) g.1 in
    let sum_same : sum r.0.0 ≡ total = ap (λ (x : ℕ × List ℕ). x.0) same in
    let rest_same : r.0.1 ≡ behind = ap (λ (x : ℕ × List ℕ). x.1) same in
    let as_many : length r.0.0 ≡ count = many_length (number_at 2) count rest r.0 r.1 in
    let test : are_sizes r.0.0 ≡ true = and_from (leb 1 (length r.0.0)) (list_all (leb 1) r.0.0 && leb (sum r.0.0) 256)
    (le-leb 1 (length r.0.0) (omega (arith, as_many)))
    (and_from (list_all (leb 1) r.0.0) (leb (sum r.0.0) 256) g.0 (le-leb (sum r.0.0) 256 (omega (arith, sum_same))))
    in (r.0.0, sizes_are count bytes rest r.0.1 behind r.0.0 read r.1 test rest_same, sum_same)

-- no sum of sizes
pub sizes_none : (count : ℕ) (bytes rest : List ℕ) → number_at 2 bytes ≡ Some (count, rest) → total_at count rest ≡ None
    → sizes_at bytes ≡ None
unfolding sizes_at
sizes_none count bytes rest read e = rw read (by (many_at (number_at 2) count rest) (sym (total_is count rest) ∙ e))
  where
    all : (s rest : List ℕ) (b : Bool) → list_all (leb 1) s ≡ b → cond b (counted (sum s) rest) None ≡ None
        → cond (are_sizes s) (some_sizes s rest) None ≡ None
    all s rest true e f = absurd cc
    all s rest false e f = first (leb 1 (length s))
      where
        first : (a : Bool) → cond (a && (list_all (leb 1) s && leb (sum s) 256)) (some_sizes s rest) None ≡ None
        first true = rw e refl
        first false = refl

    by : (m : Option (List ℕ × List ℕ)) → summed m ≡ None → (m >>= λ x. cond (are_sizes x.0) (Some x) None) ≡ None
    by None e = refl
    by (Some x) e = all x.0 x.1 (list_all (leb 1) x.0) refl e

-- no size, or a sum past 256
pub sizes_wrong : (count total : ℕ) (bytes rest behind : List ℕ) → number_at 2 bytes ≡ Some (count, rest)
    → total_at count rest ≡ Some (total, behind) → (leb 1 count && leb total 256) ≡ false → sizes_at bytes ≡ None
unfolding sizes_at
sizes_wrong count total bytes rest behind read e wrong =
    let r = bind_some (many_at (number_at 2) count rest) (λ s. cond (list_all (leb 1) s.0) (Some (sum s.0, s.1)) None)
    (total, behind) (sym (total_is count rest) ∙ e) in
    let there : ℕ × List ℕ = (sum r.0.0, r.0.1) in
    let g = guard_some (list_all (leb 1) r.0.0) (Some there) (total, behind) r.2 in
    let sum_same : sum r.0.0 ≡ total = ap (λ (x : ℕ × List ℕ). x.0) (same_Some there (total, behind) g.1) in
    let as_many : length r.0.0 ≡ count = many_length (number_at 2) count rest r.0 r.1 in
    rw (read, r.1) (by r.0 r.0.0 (leb 1 count) (leb total 256) (ap (leb 1) as_many) g.0
    (ap (λ (k : ℕ). leb k 256) sum_same) wrong)
  where
    by : {X : Type 0} (x : X) (s : List ℕ) (a b : Bool) → leb 1 (length s) ≡ a → list_all (leb 1) s ≡ true
        → leb (sum s) 256 ≡ b → (a && b) ≡ false → cond (are_sizes s) (Some x) None ≡ None
    by x s true true p q t wrong = absurd cc
    by x s true false p q t wrong = rw (p, q, t) refl
    by x s false b p q t wrong = rw p refl
