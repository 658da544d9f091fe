-- Batches, requests, names and commits, as they are read.
use Rattle.std.proofs.Common.{◌≡◌, ℕ, ◌+◌, ◌-◌, ◌/◌, ◌<◌, ◌≤◌, List, [], ◌∷◌, ◌++◌, map, length, slice_get, get_or}
use Rattle.std.proofs.Common.{Bor, Bool, ◌==◌, add-zero, Option, Some, None, refl, sym, ap}
use Rattle.std.proofs.Common.{subst, ◌∙◌, arith, true, false, not, nat_le, nat_lt, ◌≢◌, ◌||◌, take}
use Rattle.std.specs.Option.{option_map}
use Rattle.std.proofs.lemmas.List.{length-map, get_or_past, map-append}
use Rattle.std.proofs.lemmas.Bool.{and_from, and_parts, eq-eqb, ne_eqb, eqb-true, le-leb, lt-ltb, false≢true}
use Rattle.std.proofs.lemmas.List.Sums.{count_by_more_yes, count_by_more_no}
use Rattle.std.specs.List.{AllByRecursion, list_any, count_by, take-map}
use Rattle.eve_history.specs.Structure.{accesses_of}
use Rattle.std.specs.Bool.{beq}
use Rattle.std.specs.Cmp.Lexicographic.{pointwise}
use Rattle.std.proofs.lemmas.Option.{get_or_from_slice_get, slice_get-map, slice_get_within, same_Some}
use Rattle.eve_grammar.specs.Trace.{Access, Asked, Attempt, Batch, Commit, Customer, Trace, no_request}
use Rattle.eve_grammar.specs.Spelling.{customers_at, batches_at, customer_text}
use Rattle.eve_grammar.specs.declared.head.TheConstants.{HEADER_LEN}
use Rattle.eve_grammar.proofs.Lists.{slice_get-behind}
use Rattle.eve_frames.specs.Decoded.{attempt_decoded}
use Rattle.eve_views.proofs.FrameOffsets.{located_get}
use Rattle.eve_history.specs.Section.{Placed, SectionState, batch_at, commits_first}
use Rattle.eve_history.specs.Section.{is_right_commit}
use Rattle.eve_history.specs.Section.{is_due, is_right_attempt, is_right_access, request_count, worker_count}
use Rattle.eve_history.specs.SectionHistory.{names_of, placed_at}
use Rattle.eve_history.proofs.Lookups.{batch_is}
use Rattle.eve_evidence.specs.declared.course.Course.{Course}
use Rattle.eve_evidence.specs.declared.course.OnPath.{OnPath}
use Rattle.eve_evidence.specs.Course.{placed_on, attempts_behind, standing, IsCourse}
use Rattle.eve_evidence.specs.declared.evidence.Numbers.{Numbers}
use Rattle.eve_evidence.specs.declared.evidence.CommitFault.TheVariants.{View, Token}
use Rattle.eve_evidence.specs.Told.{request_in, row_name}
use Rattle.eve_evidence.specs.Structure.{numbers, IsNumbered, IsCommitFault}

-- the batch of a number that was read
pub read_batch : (t : Trace) (seq read : ℕ) (b : ℕ × (ℕ × Batch)) → read - 1 ≡ seq - 1
    → slice_get (batches_at t) (read - 1) ≡ Some b → batch_at t seq ≡ b.1.1
read_batch t seq read b same got = batch_is t seq b (ap (slice_get (batches_at t)) (sym same) ∙ got)

pub read_count : (t : Trace) (seq read n : ℕ) (b : ℕ × (ℕ × Batch)) → read - 1 ≡ seq - 1
    → slice_get (batches_at t) (read - 1) ≡ Some b → n ≡ length b.1.1.requests
    → n ≡ length (batch_at t seq).requests
read_count t seq read n b same got count =
    count ∙ ap (λ (c : Batch). length c.requests) (sym (read_batch t seq read b same got))

-- an attempt with nothing wrong
pub right_attempt : (t : Trace) (s : SectionState) (a : Attempt) → IsNumbered t s a → a.view ≡ s.view
    → a.serial ≡ s.rolled_back → length a.certificate ≡ request_count t a → is_right_attempt t s a ≡ true
right_attempt t s a numbered view serial count =
    and_from (is_due t s a) (length a.certificate == request_count t a)
    (and_from (a.seq == s.last + 1 + length s.pending) _ (eq-eqb _ _ numbered.due)
    (and_from (nat_le a.seq (length t.batches)) _ (le-leb _ _ numbered.there)
    (and_from (nat_le a.seq (s.last + t.head.window)) _ (le-leb _ _ numbered.room)
    (and_from (a.view == s.view) (beq a.serial s.rolled_back) (eq-eqb _ _ view)
    (same_bool a.serial s.rolled_back serial)))))
    (eq-eqb _ _ count)
  where
    itself_bool : (b : Bool) → beq b b ≡ true
    itself_bool true = refl
    itself_bool false = refl

    same_bool : (b d : Bool) → b ≡ d → beq b d ≡ true
    same_bool b d e = subst (λ (x : Bool). beq b x ≡ true) e (itself_bool b)

-- a request of it
pub read_request : (t : Trace) (seq read index : ℕ) (b : ℕ × (ℕ × Batch)) (x : Asked) → read - 1 ≡ seq - 1
    → slice_get (batches_at t) (read - 1) ≡ Some b → slice_get b.1.1.requests index ≡ Some x
    → x ≡ request_in t seq index
read_request t seq read index b x same got own =
    sym (get_or_from_slice_get b.1.1.requests index x no_request own)
    ∙ ap (λ (c : Batch). get_or c.requests index no_request) (sym (read_batch t seq read b same got))

-- no such request
pub no_request_there : (t : Trace) (seq read index n : ℕ) (b : ℕ × (ℕ × Batch)) → read - 1 ≡ seq - 1
    → slice_get (batches_at t) (read - 1) ≡ Some b → n ≡ length b.1.1.requests → n ≤ index
    → no_request ≡ request_in t seq index
no_request_there t seq read index n b same got count past =
    sym (get_or_past b.1.1.requests index no_request (omega (arith, count)))
    ∙ ap (λ (c : Batch). get_or c.requests index no_request) (sym (read_batch t seq read b same got))

-- the name of a row's customer
pub read_name : (t : Trace) (row customer : ℕ) (c : ℕ × Customer) (name : List ℕ) → customer ≡ row / 2
    → slice_get (customers_at t) customer ≡ Some c → name ≡ c.1.name → name ≡ row_name t row
unfolding customers_at
read_name t row customer c name is got own =
    let there : slice_get t.customers customer ≡ Some c.1 = located_get customer_text HEADER_LEN t.customers customer c
    got in
    own
    ∙ sym (get_or_from_slice_get (names_of t) customer c.1.name []
    (slice_get-map (λ (d : Customer). d.name) t.customers customer ∙ ap (option_map (λ (d : Customer). d.name)) there))
    ∙ ap (λ (k : ℕ). get_or (names_of t) k []) is

pub same_beq : (b d : Bool) → not (beq b d) ≡ false → b ≡ d
same_beq true true e = refl
same_beq true false e = absurd (false≢true (sym e))
same_beq false true e = absurd (false≢true (sym e))
same_beq false false e = refl

pub apart_beq : (b d : Bool) → not (beq b d) ≡ true → b ≡ d → ⊥
apart_beq true true e same = false≢true e
apart_beq true false e same = false≢true (sym same)
apart_beq false true e same = false≢true same
apart_beq false false e same = false≢true e

-- ---- access records

module _ (worker : ℕ) (xs : List (ℕ × Access)) (k : ℕ) (x : ℕ × Access) (got : slice_get xs k ≡ Some x) where
  abbrev its_worker : Access → Bool
  its_worker y = y.worker == worker

  behind : slice_get (accesses_of xs) k ≡ Some x.1
  behind = slice_get-map (λ (y : ℕ × Access). y.1) xs k ∙ ap (option_map (λ (y : ℕ × Access). y.1)) got

  prefixes : (n : ℕ) → count_by its_worker (accesses_of (take n xs)) ≡ count_by its_worker (take n (accesses_of xs))
  prefixes n = ap (count_by its_worker) (sym (take-map (λ (y : ℕ × Access). y.1) n xs))

  read : get_or (accesses_of xs) k x.1 ≡ x.1
  read = get_or_from_slice_get (accesses_of xs) k x.1 x.1 behind

  -- a record more, of this worker or of another
  pub count_more : x.1.worker ≡ worker → count_by its_worker (accesses_of (take (k + 1) xs))
      ≡ count_by its_worker (accesses_of (take k xs)) + 1
  count_more e =
      prefixes (k + 1)
      ∙ count_by_more_yes its_worker (accesses_of xs) k x.1 (slice_get_within (accesses_of xs) k x.1 behind)
      (ap its_worker read ∙ eq-eqb x.1.worker worker e)
      ∙ ap (λ (n : ℕ). n + 1) (sym (prefixes k))

  pub count_same : (x.1.worker ≡ worker → ⊥) → count_by its_worker (accesses_of (take (k + 1) xs))
      ≡ count_by its_worker (accesses_of (take k xs))
  count_same other =
      prefixes (k + 1)
      ∙ count_by_more_no its_worker (accesses_of xs) k x.1 (slice_get_within (accesses_of xs) k x.1 behind)
      (ap its_worker read ∙ ne_eqb x.1.worker worker other)
      ∙ sym (prefixes k)

none_with : (xs : List (ℕ × Access)) (i : ℕ) → AllByRecursion (λ z. z.1.index ≢ i) xs
    → list_any (λ (y : Access). y.index == i) (accesses_of xs) ≡ false
none_with [] i all = refl
none_with (x ∷ xs) i all = or_false (x.1.index == i) _ (ne_eqb x.1.index i all.0) (none_with xs i all.1)
  where
    or_false : (b d : Bool) → b ≡ false → d ≡ false → (b || d) ≡ false
    or_false b d e f = ap (λ (x : Bool). x || d) e ∙ f

-- a record with nothing wrong but its place
pub right_access : (t : Trace) (a : Attempt) (own : List (ℕ × Access)) (y x : ℕ × Access) (index : ℕ) → y ≡ x
    → index ≡ y.1.index → y.1.worker < worker_count t a → y.1.index < request_count t a
    → AllByRecursion (λ z. z.1.index ≢ index) own → is_right_access t a (accesses_of own) x.1 ≡ true
right_access t a own y x index same index_is worker there apart =
    let P : ℕ × Access → Type 0 = λ z. is_right_access t a (accesses_of own) z.1 ≡ true in
    subst P same (and_from (nat_lt y.1.worker (worker_count t a)) _ (lt-ltb _ _ worker)
    (and_from (nat_lt y.1.index (request_count t a)) _ (lt-ltb _ _ there)
    (ap not (none_with own y.1.index
    (subst (λ (i : ℕ). AllByRecursion (λ z. z.1.index ≢ i) own) index_is apart)))))

-- ---- the first open attempt

-- it is the one on the path behind those that are committed
pub record FirstOpen (s : SectionState) (o : OnPath) : Type 0 where
  pub placed : Placed
  pub others : List Placed
  pub is : s.pending ≡ placed ∷ others
  pub decoded : placed_on o ≡ placed_at placed

pub first_open : (s : SectionState) (c : Course) (o : OnPath) → IsCourse s c → slice_get c.path.items
    c.committed ≡ Some o
    → FirstOpen s o
first_open s c o is got = by s.pending refl
  where
    there : slice_get (standing s) (length (attempts_behind s.ways_reached)) ≡ Some (placed_on o)
    there = ap (λ (xs : List (ℕ × Attempt)). slice_get xs (length (attempts_behind s.ways_reached))) (sym is.path)
        ∙ ap (slice_get (map placed_on c.path.items)) (sym is.committed)
        ∙ slice_get-map placed_on c.path.items c.committed ∙ ap (option_map placed_on) got

    behind : slice_get (map placed_at s.pending) 0 ≡ Some (placed_on o)
    behind =
        sym (slice_get-behind (map placed_at (attempts_behind s.ways_reached)) (map placed_at s.pending) 0)
        ∙ ap (slice_get (map placed_at (attempts_behind s.ways_reached) ++ map placed_at s.pending))
        (add-zero (length (map placed_at (attempts_behind s.ways_reached)))
        ∙ length-map (attempts_behind s.ways_reached)
        placed_at)
        ∙ ap (λ (xs : List (ℕ × Attempt)). slice_get xs (length (attempts_behind s.ways_reached)))
        (sym (map-append placed_at (attempts_behind s.ways_reached) s.pending))
        ∙ there

    none-some : {A : Type 0} (x : A) → ◌≡◌ {A = Option A} None (Some x) → ⊥
    none-some x e = cc

    by : (ps : List Placed) → s.pending ≡ ps → FirstOpen s o
    by [] e = absurd (none-some (placed_on o) (sym (ap (λ (qs : List Placed). slice_get (map placed_at qs) 0) e) ∙
        behind))
    by (p ∷ ps) e = record {
      placed = p;
      others = ps;
      is = e;
      decoded = sym (same_Some (placed_at p) (placed_on o)
          (sym (ap (λ (qs : List Placed). slice_get (map placed_at qs) 0) e) ∙ behind));
    }

-- ---- a commit beside it

itself : (xs : List ℕ) → pointwise ◌==◌ xs xs ≡ true
itself [] = refl
itself (x ∷ xs) = and_from (x == x) (pointwise ◌==◌ xs xs) (eq-eqb x x refl) (itself xs)

pub apart_not : (xs ys : List ℕ) → true ≡ not (pointwise ◌==◌ xs ys) → xs ≡ ys → ⊥
apart_not xs ys e same =
    let yes : pointwise ◌==◌ xs ys ≡ true = subst (λ (zs : List ℕ). pointwise ◌==◌ xs zs ≡ true) same (itself xs) in
    false≢true (sym (e ∙ ap not yes))

not_false : (b : Bool) → false ≡ not b → b ≡ true
not_false true e = refl
not_false false e = absurd (false≢true e)

points_same : (xs ys : List ℕ) → pointwise ◌==◌ xs ys ≡ true → xs ≡ ys
points_same [] [] e = refl
points_same [] (y ∷ ys) e = absurd (false≢true e)
points_same (x ∷ xs) [] e = absurd (false≢true e)
points_same (x ∷ xs) (y ∷ ys) e =
    let parts = and_parts (x == y) (pointwise ◌==◌ xs ys) e in
    λ i. eqb-true x y parts.0 i ∷ points_same xs ys parts.1 i

pub same_not : (xs ys : List ℕ) → false ≡ not (pointwise ◌==◌ xs ys) → xs ≡ ys
same_not xs ys e = points_same xs ys (not_false (pointwise ◌==◌ xs ys) e)

module _ (s : SectionState) (c : Course) (o : OnPath) (is : IsCourse s c)
    (got : slice_get c.path.items c.committed ≡ Some o) (d : Commit) (next : d.seq ≡ s.last + 1) where
  abbrev own : FirstOpen s o
  own = first_open s c o is got

  -- its view and its token
  its : (attempt_decoded o.attempt).view ≡ own.placed.attempt.view
  its = ap (λ (x : ℕ × Attempt). x.1.view) own.decoded

  token : (attempt_decoded o.attempt).token ≡ own.placed.attempt.token
  token = ap (λ (x : ℕ × Attempt). x.1.token) own.decoded

  pub other_view : (n : Numbers) → n ≡ numbers d.view (attempt_decoded o.attempt).view
      → (d.view ≡ (attempt_decoded o.attempt).view → ⊥) → IsCommitFault s.last s.pending d (View n)
  other_view n n_is other = subst (λ (ps : List Placed). IsCommitFault s.last ps d (View n)) (sym own.is)
      (n_is ∙ ap (numbers d.view) its, next, λ e. other (e ∙ sym its))

  pub other_token : (found due : Bor (List ℕ)) → found.now ≡ d.token → due.now ≡ (attempt_decoded o.attempt).token
      → d.view ≡ (attempt_decoded o.attempt).view → (found.now ≡ due.now → ⊥)
      → IsCommitFault s.last s.pending d (Token found due)
  other_token found due found_is due_is view other =
      subst (λ (ps : List Placed). IsCommitFault s.last ps d (Token found due)) (sym own.is)
      (found_is, due_is ∙ token, next, view ∙ its, λ e. other (found_is ∙ e ∙ sym token ∙ sym due_is))

  pub right_commit : d.view ≡ (attempt_decoded o.attempt).view → d.token ≡ (attempt_decoded o.attempt).token
      → is_right_commit s d ≡ true
  right_commit view_is token_is =
      and_from (d.seq == s.last + 1) (commits_first s.pending d) (eq-eqb d.seq (s.last + 1) next)
      (subst (λ (ps : List Placed). commits_first ps d ≡ true) (sym own.is)
      (and_from (own.placed.attempt.view == d.view) _ (eq-eqb _ _ (sym (view_is ∙ its)))
      (pointwise_same own.placed.attempt.token d.token (sym (token_is ∙ token)))))
    where
      pointwise_same : (xs ys : List ℕ) → xs ≡ ys → pointwise ◌==◌ xs ys ≡ true
      pointwise_same xs ys e = subst (λ (zs : List ℕ). pointwise ◌==◌ xs zs ≡ true) e (itself xs)
