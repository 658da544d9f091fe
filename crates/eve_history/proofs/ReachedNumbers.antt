-- Public: other crates cite these lemmas. Numbers, and how they are reached.
use Rattle.std.proofs.Common.{◌≡◌, ℕ, zero, suc, ◌+◌, ◌-◌, ◌≤◌, ◌==◌, Bool, true, false, ◌&&◌, List, []}
use Rattle.std.proofs.Common.{◌∷◌, ◌++◌, length, slice_get, Option, Some, None, refl, sym, subst, ap, ◌∙◌, arith}
use Rattle.std.proofs.Common.{add-one, replicate, nat_lt, nat_le, ◌<◌}
use Rattle.std.specs.Prelude.{⊤}
use Rattle.std.proofs.lemmas.Bool.{and_parts, and_from, eqb-true, ltb-true, false≢true}
use Rattle.std.proofs.lemmas.List.{length-append, length-replicate}
use Rattle.std.proofs.lemmas.Option.{same_Some}
use Rattle.eve_grammar.specs.Trace.{Attempt, Transfer, Step, Attempts, Commits, RollsBack, Transfers, Trace}
use Rattle.eve_grammar.specs.Spelling.{steps_at}
use Rattle.eve_history.specs.Section.{Placed, HowReached, ByAttempt, ByTransfer, Skipped, SectionState, start, path_of}
use Rattle.eve_history.specs.Section.{transfers_by, committing, after_transfer, next, state_after, is_due}
use Rattle.eve_history.specs.Section.{is_right_attempt, is_right_certificate, are_right_accesses, is_right, are_right}
use Rattle.eve_history.specs.SectionHistory.{ExecutedAttempt, executed_attempt, placed_at, ToldReached, ReachedBy}
use Rattle.eve_history.specs.SectionHistory.{ReachedFrom, NotReached, told_reached_from, section_history, history}
use Rattle.eve_history.specs.SectionHistory.{how_reached_at}
use Rattle.eve_history.specs.SectionHistory.{IsRightSection, attempt_by, committed_at, was_reached, is_reached}
use Rattle.eve_history.proofs.Transfers.{over, transfers_of_steps, transfers_told, transfer_step, step_transfer}
use Rattle.eve_history.proofs.Transfers.{transfer_how_reached}

-- ---- numbers

-- one after the other, from the number after n on
abbrev AreNumbered : ℕ → List Placed → Type 0
AreNumbered n [] = ⊤
AreNumbered n (p ∷ ps) = (p.attempt.seq ≡ suc n) × AreNumbered (suc n) ps

numbered_more : (n : ℕ) (ps : List Placed) (q : Placed) → AreNumbered n ps → q.attempt.seq ≡ suc (n + length ps)
    → AreNumbered n (ps ++ q ∷ [])
numbered_more n [] q numbered last = (omega arith, tt)
numbered_more n (p ∷ ps) q numbered last = (numbered.0, numbered_more (suc n) ps q numbered.1 (omega arith))

-- the same of those by which a number was reached, where of each number it is told how it was reached
abbrev AreOfTheirNumbers : ℕ → List HowReached → Type 0
AreOfTheirNumbers n [] = ⊤
AreOfTheirNumbers n (ByAttempt p ∷ ls) = (p.attempt.seq ≡ suc n) × AreOfTheirNumbers (suc n) ls
AreOfTheirNumbers n (ByTransfer at x ∷ ls) = (x.seq ≡ suc n) × AreOfTheirNumbers (suc n) ls
AreOfTheirNumbers n (Skipped ∷ ls) = AreOfTheirNumbers (suc n) ls

one_more_number : (n : ℕ) (ls : List HowReached) (q : Placed) → AreOfTheirNumbers n ls
    → q.attempt.seq ≡ suc (n + length ls) → AreOfTheirNumbers n (ls ++ ByAttempt q ∷ [])
one_more_number n [] q numbered last = (omega arith, tt)
one_more_number n (ByAttempt p ∷ ls) q numbered last =
    (numbered.0, one_more_number (suc n) ls q numbered.1 (omega arith))
one_more_number n (ByTransfer at x ∷ ls) q numbered last =
    (numbered.0, one_more_number (suc n) ls q numbered.1 (omega arith))
one_more_number n (Skipped ∷ ls) q numbered last = one_more_number (suc n) ls q numbered (omega arith)

state_numbered : (n skipped at : ℕ) (x : Transfer) (ls : List HowReached) → AreOfTheirNumbers n ls
    → x.seq ≡ suc (n + length ls + skipped) → AreOfTheirNumbers n (ls ++ over skipped at x)
state_numbered n zero at x [] numbered last = (omega arith, tt)
state_numbered n (suc skipped) at x [] numbered last = state_numbered (suc n) skipped at x [] tt (omega arith)
state_numbered n skipped at x (ByAttempt p ∷ ls) numbered last =
    (numbered.0, state_numbered (suc n) skipped at x ls numbered.1 (omega arith))
state_numbered n skipped at x (ByTransfer o y ∷ ls) numbered last =
    (numbered.0, state_numbered (suc n) skipped at x ls numbered.1 (omega arith))
state_numbered n skipped at x (Skipped ∷ ls) numbered last =
    state_numbered (suc n) skipped at x ls numbered (omega arith)

same_attempt : (p q : Placed) → ◌≡◌ {A = Option HowReached} (Some (ByAttempt p)) (Some (ByAttempt q)) → p ≡ q
same_attempt p q e = cc

number_at : (k : ℕ) (ls : List HowReached) (n : ℕ) (p : Placed) → AreOfTheirNumbers k ls
    → slice_get ls n ≡ Some (ByAttempt p) → p.attempt.seq ≡ suc (k + n)
number_at k [] n p numbered e = absurd (cc)
number_at k (ByAttempt q ∷ ls) zero p numbered e = let first : q.attempt.seq ≡ suc k = numbered.0 in let same =
    ap (λ (x : Placed). x.attempt.seq) (same_attempt q p e) in omega arith
number_at k (ByTransfer at x ∷ ls) zero p numbered e = absurd (cc)
number_at k (Skipped ∷ ls) zero p numbered e = absurd (cc)
number_at k (ByAttempt q ∷ ls) (suc n) p numbered e = let rest = number_at (suc k) ls n p numbered.1 e in omega arith
number_at k (ByTransfer at x ∷ ls) (suc n) p numbered e =
    let rest = number_at (suc k) ls n p numbered.1 e in omega arith
number_at k (Skipped ∷ ls) (suc n) p numbered e = let rest = number_at (suc k) ls n p numbered e in omega arith

same_state : (o at : ℕ) (y x : Transfer) → ◌≡◌ {A = Option HowReached} (Some (ByTransfer o y)) (Some (ByTransfer at x))
    → ◌≡◌ {A = ℕ × Transfer} (o, y) (at, x)
same_state o at y x e = by (same_Some (ByTransfer o y) (ByTransfer at x) e)
  where
    by : ByTransfer o y ≡ ByTransfer at x → ◌≡◌ {A = ℕ × Transfer} (o, y) (at, x)
    by e =
        let first : o ≡ at = cc in
        let second : y ≡ x = cc in
        λ i. (first i, second i)

state_number_at : (k : ℕ) (ls : List HowReached) (n at : ℕ) (x : Transfer) → AreOfTheirNumbers k ls
    → slice_get ls n ≡ Some (ByTransfer at x) → x.seq ≡ suc (k + n)
state_number_at k [] n at x numbered e = absurd (cc)
state_number_at k (ByTransfer o y ∷ ls) zero at x numbered e = let first : y.seq ≡ suc k = numbered.0 in let same =
    ap (λ (z : ℕ × Transfer). z.1.seq) (same_state o at y x e) in omega arith
state_number_at k (ByAttempt q ∷ ls) zero at x numbered e = absurd (cc)
state_number_at k (Skipped ∷ ls) zero at x numbered e = absurd (cc)
state_number_at k (ByAttempt q ∷ ls) (suc n) at x numbered e =
    let rest = state_number_at (suc k) ls n at x numbered.1 e in omega arith
state_number_at k (ByTransfer o y ∷ ls) (suc n) at x numbered e =
    let rest = state_number_at (suc k) ls n at x numbered.1 e in omega arith
state_number_at k (Skipped ∷ ls) (suc n) at x numbered e =
    let rest = state_number_at (suc k) ls n at x numbered e in omega arith

-- ---- what is reached

-- Before each attempt the number before its own was reached, and so was the last; whether the one before all these was
-- is given.
abbrev reaches : Bool → List HowReached → Bool
reaches before [] = before
reaches before (ByAttempt p ∷ ls) = before && reaches true ls
reaches before (ByTransfer at x ∷ ls) = reaches true ls
reaches before (Skipped ∷ ls) = reaches false ls

one_more_reached : (before : Bool) (ls : List HowReached) (p : Placed) → reaches before ls ≡ true
    → reaches before (ls ++ ByAttempt p ∷ []) ≡ true
one_more_reached before [] p reached = and_from before true reached refl
one_more_reached before (ByAttempt q ∷ ls) p reached =
    let parts = and_parts before (reaches true ls) reached in
    and_from before (reaches true (ls ++ ByAttempt p ∷ [])) parts.0 (one_more_reached true ls p parts.1)
one_more_reached before (ByTransfer at x ∷ ls) p reached = one_more_reached true ls p reached
one_more_reached before (Skipped ∷ ls) p reached = one_more_reached false ls p reached

state_reached : (before : Bool) (skipped at : ℕ) (x : Transfer) (ls : List HowReached) → reaches before ls ≡ true
    → reaches before (ls ++ over skipped at x) ≡ true
state_reached before skipped at x [] reached = own before skipped
  where
    own : (before : Bool) (skipped : ℕ) → reaches before (over skipped at x) ≡ true
    own before zero = refl
    own before (suc skipped) = own false skipped
state_reached before skipped at x (ByAttempt q ∷ ls) reached =
    let parts = and_parts before (reaches true ls) reached in
    and_from before (reaches true (ls ++ over skipped at x)) parts.0 (state_reached true skipped at x ls parts.1)
state_reached before skipped at x (ByTransfer o y ∷ ls) reached = state_reached true skipped at x ls reached
state_reached before skipped at x (Skipped ∷ ls) reached = state_reached false skipped at x ls reached

no_attempt_next : (ls : List HowReached) (p : Placed) → reaches false ls ≡ true → slice_get ls 0 ≡ Some (ByAttempt p)
    → ⊥
no_attempt_next [] p reached e = cc
no_attempt_next (ByAttempt q ∷ ls) p reached e = false≢true reached
no_attempt_next (ByTransfer at x ∷ ls) p reached e = cc
no_attempt_next (Skipped ∷ ls) p reached e = cc

reached_before : (before : Bool) (ls : List HowReached) (n : ℕ) (p : Placed) → reaches before ls ≡ true
    → slice_get ls (suc n) ≡ Some (ByAttempt p) → was_reached (slice_get ls n) ≡ true
reached_before before [] n p reached e = absurd (cc)
reached_before before (ByAttempt q ∷ ls) zero p reached e = refl
reached_before before (ByTransfer at x ∷ ls) zero p reached e = refl
reached_before before (Skipped ∷ ls) zero p reached e = absurd (no_attempt_next ls p reached e)
reached_before before (ByAttempt q ∷ ls) (suc n) p reached e =
    reached_before true ls n p (and_parts before (reaches true ls) reached).1 e
reached_before before (ByTransfer at x ∷ ls) (suc n) p reached e = reached_before true ls n p reached e
reached_before before (Skipped ∷ ls) (suc n) p reached e = reached_before false ls n p reached e

-- ---- while all steps are right

record IsCounted (s : SectionState) : Type 0 where
  numbered : AreOfTheirNumbers 0 s.ways_reached
  open_ones : AreNumbered s.last s.pending
  last : s.last ≡ length s.ways_reached
  reached : reaches true s.ways_reached ≡ true

counted_commit : (s : SectionState) (pending : List Placed) → s.pending ≡ pending → IsCounted s
    → IsCounted (committing s pending)
counted_commit s [] is counted = counted
counted_commit s (p ∷ ps) is counted =
    let open_ones : AreNumbered s.last (p ∷ ps) = subst (AreNumbered s.last) is counted.open_ones in
    let first : p.attempt.seq ≡ suc s.last = open_ones.0 in
    let last = counted.last in
    record {
      numbered = one_more_number 0 s.ways_reached p counted.numbered (omega arith);
      open_ones = subst (λ (n : ℕ). AreNumbered n ps) (sym (add-one s.last)) open_ones.1;
      last = ap (λ (n : ℕ). n + 1) counted.last ∙ sym (length-append s.ways_reached (ByAttempt p ∷ []));
      reached = one_more_reached true s.ways_reached p counted.reached;
    }

counted_transfer : (t : Trace) (s : SectionState) (at : ℕ) (x : Transfer) → s.last < x.seq → IsCounted s
    → IsCounted (after_transfer s at x)
counted_transfer t s at x later counted =
    let skipped = x.seq - (s.last + 1) in
    let last = counted.last in
    let long : length (over skipped at x) ≡ skipped + 1 =
    length-append (replicate skipped Skipped) (ByTransfer at x ∷ [])
    ∙ ap (λ (n : ℕ). n + 1) (length-replicate skipped Skipped) in
    record {
      numbered = state_numbered 0 skipped at x s.ways_reached counted.numbered (omega (arith, last, later));
      open_ones = tt;
      last = omega (arith, last, later, long, length-append s.ways_reached (over skipped at x));
      reached = state_reached true skipped at x s.ways_reached counted.reached;
    }

due_number : (t : Trace) (s : SectionState) (a : Attempt) → is_right t s (Attempts a) ≡ true
    → a.seq ≡ suc (s.last + length s.pending)
due_number t s a right =
    let parts = and_parts (is_right_attempt t s a) (is_right_certificate t a && are_right_accesses t a [] a.accesses)
    right in
    let due = (and_parts (is_due t s a) _ parts.0).0 in
    let seq = eqb-true a.seq (s.last + 1 + length s.pending)
    (and_parts (a.seq == s.last + 1 + length s.pending) _ due).0 in
    omega (arith, seq)

counted_next : (t : Trace) (s : SectionState) (step : ℕ × Step) → is_right t s step.1 ≡ true → IsCounted s
    → IsCounted (next s step)
counted_next t s (at, Attempts a) right counted = record {
  numbered = counted.numbered;
  open_ones = numbered_more s.last s.pending (record { offset = at; attempt = a; path = path_of s }) counted.open_ones
      (due_number t s a right);
  last = counted.last;
  reached = counted.reached;
}
counted_next t s (at, Commits c) right counted = counted_commit s s.pending refl counted
counted_next t s (at, RollsBack r) right counted =
    record { numbered = counted.numbered; open_ones = tt; last = counted.last; reached = counted.reached }
counted_next t s (at, Transfers x) right counted =
    let one = and_parts (nat_lt s.last x.seq) (nat_le x.seq (length t.batches) && nat_le s.view x.view) right in
    counted_transfer t s at x (ltb-true s.last x.seq one.0) counted

counted_after : (t : Trace) (s : SectionState) (steps : List (ℕ × Step)) → are_right t s steps ≡ true → IsCounted s
    → IsCounted (state_after s steps)
counted_after t s [] right counted = counted
counted_after t s (step ∷ steps) right counted =
    let parts = and_parts (is_right t s step.1) (are_right t (next s step) steps) right in
    counted_after t (next s step) steps parts.1 (counted_next t s step parts.0 counted)

counted_start : IsCounted start
counted_start = record { numbered = tt; open_ones = tt; last = refl; reached = refl }

counted_history : (t : Trace) (e : ℕ) → IsRightSection t e → IsCounted (history t e)
unfolding history
counted_history t e right = counted_after t start (steps_at t e) right counted_start

-- the number of an attempt on its way
number_on : (t : Trace) (s : SectionState) (prefix : List (ℕ × Step)) (at : ℕ) (a : Attempt) (rest : List (ℕ × Step))
    → are_right t s (prefix ++ (at, Attempts a) ∷ rest) ≡ true → IsCounted s
    → a.seq ≡ suc (length (state_after s prefix).ways_reached + length (state_after s prefix).pending)
number_on t s [] at a rest right counted =
    let number = due_number t s a (and_parts (is_right t s (Attempts a)) _ right).0 in
    let last = counted.last in
    omega (arith, number, last)
number_on t s (step ∷ prefix) at a rest right counted =
    let parts = and_parts (is_right t s step.1) (are_right t (next s step) (prefix ++ (at, Attempts a) ∷ rest)) right in
    number_on t (next s step) prefix at a rest parts.1 (counted_next t s step parts.0 counted)

pub attempts_numbered : (t : Trace) (e at : ℕ) (a : Attempt) (prefix rest : List (ℕ × Step)) → IsRightSection t e
    → steps_at t e ≡ prefix ++ (at, Attempts a) ∷ rest
    → a.seq ≡ suc (length (state_after start prefix).ways_reached + length (state_after start prefix).pending)
attempts_numbered t e at a prefix rest right split = number_on t start prefix at a rest
    (ap (are_right t start) (sym split) ∙ right) counted_start

-- ---- what is told

told_reached_length : (transferred : ℕ) (ls : List HowReached) → length (told_reached_from transferred ls) ≡ length ls
told_reached_length transferred [] = refl
told_reached_length transferred (ByAttempt p ∷ ls) = ap suc (told_reached_length transferred ls)
told_reached_length transferred (ByTransfer at x ∷ ls) = ap suc (told_reached_length (suc transferred) ls)
told_reached_length transferred (Skipped ∷ ls) = ap suc (told_reached_length transferred ls)

told_reached_get : (transferred : ℕ) (ls : List HowReached) (n : ℕ) (p : Placed) → slice_get ls n ≡ Some (ByAttempt p)
    → slice_get (told_reached_from transferred ls) n ≡ Some (ReachedBy (executed_attempt (placed_at p)))
told_reached_get transferred [] n p e = absurd (cc)
told_reached_get transferred (ByAttempt q ∷ ls) zero p e =
    ap (λ (x : Placed). Some (ReachedBy (executed_attempt (placed_at x)))) (same_attempt q p e)
told_reached_get transferred (ByTransfer at x ∷ ls) zero p e = absurd (cc)
told_reached_get transferred (Skipped ∷ ls) zero p e = absurd (cc)
told_reached_get transferred (ByAttempt q ∷ ls) (suc n) p e = told_reached_get transferred ls n p e
told_reached_get transferred (ByTransfer at x ∷ ls) (suc n) p e = told_reached_get (suc transferred) ls n p e
told_reached_get transferred (Skipped ∷ ls) (suc n) p e = told_reached_get transferred ls n p e

same_told : (r q : ExecutedAttempt) → ◌≡◌ {A = Option ToldReached} (Some (ReachedBy r)) (Some (ReachedBy q)) → r ≡ q
same_told r q e = cc

told_reached_is : (transferred : ℕ) (ls : List HowReached) (n : ℕ) (r : ExecutedAttempt)
    → slice_get (told_reached_from transferred ls) n ≡ Some (ReachedBy r)
    → (p : Placed) × (slice_get ls n ≡ Some (ByAttempt p)) × (r ≡ executed_attempt (placed_at p))
told_reached_is transferred [] n r e = absurd (cc)
told_reached_is transferred (ByAttempt q ∷ ls) zero r e =
    (q, refl, sym (same_told (executed_attempt (placed_at q)) r e))
told_reached_is transferred (ByTransfer at x ∷ ls) zero r e = absurd (cc)
told_reached_is transferred (Skipped ∷ ls) zero r e = absurd (cc)
told_reached_is transferred (ByAttempt q ∷ ls) (suc n) r e = told_reached_is transferred ls n r e
told_reached_is transferred (ByTransfer at x ∷ ls) (suc n) r e = told_reached_is (suc transferred) ls n r e
told_reached_is transferred (Skipped ∷ ls) (suc n) r e = told_reached_is transferred ls n r e

-- ---- what is told of states

state_told : (transferred : ℕ) (ls : List HowReached) (n at : ℕ) (x : Transfer) → slice_get ls n
    ≡ Some (ByTransfer at x)
    → (i : ℕ) × (slice_get (told_reached_from transferred ls) n ≡ Some (ReachedFrom (transferred + i)))
    × (slice_get (transfers_by ls) i ≡ Some (at, x))
state_told transferred [] n at x e = absurd (cc)
state_told transferred (ByTransfer o y ∷ ls) zero at x e =
    let none : transferred ≡ transferred + 0 = omega arith in
    (0, ap (λ (k : ℕ). Some (ReachedFrom k)) none, ap Some (same_state o at y x e))
state_told transferred (ByAttempt q ∷ ls) zero at x e = absurd (cc)
state_told transferred (Skipped ∷ ls) zero at x e = absurd (cc)
state_told transferred (ByAttempt q ∷ ls) (suc n) at x e = state_told transferred ls n at x e
state_told transferred (ByTransfer o y ∷ ls) (suc n) at x e =
    let found = state_told (suc transferred) ls n at x e in
    let one : suc transferred + found.0 ≡ transferred + suc found.0 = omega arith in
    (suc found.0, found.1 ∙ ap (λ (k : ℕ). Some (ReachedFrom k)) one, found.2)
state_told transferred (Skipped ∷ ls) (suc n) at x e = state_told transferred ls n at x e

same_place : (i j : ℕ) → ◌≡◌ {A = Option ToldReached} (Some (ReachedFrom i)) (Some (ReachedFrom j)) → i ≡ j
same_place i j e = cc

-- by a state at place j, where so many were transferred before
record IsState (transferred : ℕ) (ls : List HowReached) (n j : ℕ) : Type 0 where
  place : ℕ
  at : ℕ
  state : Transfer
  there : j ≡ transferred + place
  lands : slice_get ls n ≡ Some (ByTransfer at state)
  is : slice_get (transfers_by ls) place ≡ Some (at, state)

told_state : (transferred : ℕ) (ls : List HowReached) (n j : ℕ) → slice_get (told_reached_from transferred ls) n
    ≡ Some (ReachedFrom j)
    → IsState transferred ls n j
told_state transferred [] n j e = absurd (cc)
told_state transferred (ByTransfer o y ∷ ls) zero j e =
    let same = same_place transferred j e in
    record { place = 0; at = o; state = y; there = omega (arith, same); lands = refl; is = refl }
told_state transferred (ByAttempt q ∷ ls) zero j e = absurd (cc)
told_state transferred (Skipped ∷ ls) zero j e = absurd (cc)
told_state transferred (ByAttempt q ∷ ls) (suc n) j e =
    let found = told_state transferred ls n j e in
    record {
      place = found.place;
      at = found.at;
      state = found.state;
      there = found.there;
      lands = found.lands;
      is = found.is;
    }
told_state transferred (ByTransfer o y ∷ ls) (suc n) j e =
    let found = told_state (suc transferred) ls n j e in
    record {
      place = suc found.place;
      at = found.at;
      state = found.state;
      there = omega (arith, found.there);
      lands = found.lands;
      is = found.is;
    }
told_state transferred (Skipped ∷ ls) (suc n) j e =
    let found = told_state transferred ls n j e in
    record {
      place = found.place;
      at = found.at;
      state = found.state;
      there = found.there;
      lands = found.lands;
      is = found.is;
    }

told_skip : (transferred : ℕ) (ls : List HowReached) (n : ℕ) → slice_get (told_reached_from transferred ls) n
    ≡ Some NotReached
    → slice_get ls n ≡ Some Skipped
told_skip transferred [] n e = absurd (cc)
told_skip transferred (Skipped ∷ ls) zero e = refl
told_skip transferred (ByAttempt q ∷ ls) zero e = absurd (cc)
told_skip transferred (ByTransfer o y ∷ ls) zero e = absurd (cc)
told_skip transferred (ByAttempt q ∷ ls) (suc n) e = told_skip transferred ls n e
told_skip transferred (ByTransfer o y ∷ ls) (suc n) e = told_skip (suc transferred) ls n e
told_skip transferred (Skipped ∷ ls) (suc n) e = told_skip transferred ls n e

-- ---- by number

by_attempt : (o : Option HowReached) (p : Placed) → attempt_by o ≡ Some p → o ≡ Some (ByAttempt p)
by_attempt (Some (ByAttempt q)) p e = ap (λ (x : Placed). Some (ByAttempt x)) (same_Some q p e)
by_attempt (Some (ByTransfer at x)) p e = absurd (cc)
by_attempt (Some Skipped) p e = absurd (cc)
by_attempt None p e = absurd (cc)

pub ways_reached_counted : (t : Trace) (e : ℕ) → IsRightSection t e → length (section_history t e).ways_reached
    ≡ (section_history t e).committed
unfolding section_history history
ways_reached_counted t e right = told_reached_length 0 (history t e).ways_reached ∙ sym (counted_history t e right).last

ways_reached_are : (t : Trace) (e : ℕ) → (section_history t e).ways_reached
    ≡ told_reached_from 0 (history t e).ways_reached
unfolding section_history history
ways_reached_are t e = refl

told_after : (t : Trace) (e n : ℕ) → slice_get (section_history t e).ways_reached (suc n - 1)
    ≡ slice_get (told_reached_from 0 (history t e).ways_reached) n
told_after t e n =
    let less : suc n - 1 ≡ n = omega arith in
    ap (λ (ls : List ToldReached). slice_get ls (suc n - 1)) (ways_reached_are t e)
    ∙ ap (slice_get (told_reached_from 0 (history t e).ways_reached)) less

pub committed_told : (t : Trace) (e n : ℕ) (p : Placed) → committed_at t e n ≡ Some p
    → slice_get (section_history t e).ways_reached (n - 1) ≡ Some (ReachedBy (executed_attempt (placed_at p)))
committed_told t e zero p is = absurd (cc)
committed_told t e (suc n) p is = told_after t e n
    ∙ told_reached_get 0 (history t e).ways_reached n p (by_attempt (slice_get (history t e).ways_reached n) p is)

pub told_committed : (t : Trace) (e n : ℕ) (r : ExecutedAttempt) → 1 ≤ n
    → slice_get (section_history t e).ways_reached (n - 1) ≡ Some (ReachedBy r)
    → (p : Placed) × (committed_at t e n ≡ Some p) × (r ≡ executed_attempt (placed_at p))
told_committed t e zero r one got = absurd (omega (arith, one))
told_committed t e (suc n) r one got =
    let found = told_reached_is 0 (history t e).ways_reached n r (sym (told_after t e n) ∙ got) in
    (found.0, ap attempt_by found.1, found.2)

pub committed_numbered : (t : Trace) (e n : ℕ) (p : Placed) → IsRightSection t e → committed_at t e n ≡ Some p
    → p.attempt.seq ≡ n
committed_numbered t e zero p right is = absurd (cc)
committed_numbered t e (suc n) p right is =
    let number = number_at 0 (history t e).ways_reached n p (counted_history t e right).numbered
    (by_attempt (slice_get (history t e).ways_reached n) p is) in
    omega (arith, number)

pub committed_after_reached : (t : Trace) (e n : ℕ) (p : Placed) → IsRightSection t e
    → committed_at t e (suc n) ≡ Some p → is_reached t e n ≡ true
committed_after_reached t e zero p right is = refl
committed_after_reached t e (suc n) p right is =
    reached_before true (history t e).ways_reached n p (counted_history t e right).reached
    (by_attempt (slice_get (history t e).ways_reached (suc n)) p is)

-- how many numbers there are
ways_reached_many : (t : Trace) (e : ℕ) → IsRightSection t e → length (history t e).ways_reached
    ≡ (section_history t e).committed
ways_reached_many t e right = sym (ap length (ways_reached_are t e) ∙ told_reached_length 0 (history t e).ways_reached)
    ∙ ways_reached_counted t e right

slot : {A : Type 0} (xs : List A) (n : ℕ) → n < length xs → (x : A) × (slice_get xs n ≡ Some x)
slot [] n lt = absurd (omega (arith, lt))
slot (x ∷ xs) zero lt = (x, refl)
slot (x ∷ xs) (suc n) lt = slot xs n (omega (arith, lt))

-- it is told of each number up to the last how it was reached
pub how_reached_there : (t : Trace) (e n : ℕ) → IsRightSection t e → 1 ≤ n → n ≤ (section_history t e).committed
    → (l : HowReached) × (how_reached_at t e n ≡ Some l)
how_reached_there t e zero right one many = absurd (omega (arith, one))
how_reached_there t e (suc n) right one many =
    let all = ways_reached_many t e right in
    slot (history t e).ways_reached n (omega (arith, all, many))

-- ---- states that were transferred, by number

places_told : (t : Trace) (e i at : ℕ) (x : Transfer) → slice_get (transfers_by (history t e).ways_reached) i
    ≡ Some (at, x) → slice_get (section_history t e).transfers i ≡ Some (at, x)
places_told t e i at x got = ap (λ (xs : List (ℕ × Transfer)). slice_get xs i) (transfers_told t e) ∙ got

pub transfer_told : (t : Trace) (e n at : ℕ) (x : Transfer) → how_reached_at t e n ≡ Some (ByTransfer at x)
    → (i : ℕ) × (slice_get (section_history t e).ways_reached (n - 1) ≡ Some (ReachedFrom i))
    × (slice_get (section_history t e).transfers i ≡ Some (at, x))
transfer_told t e zero at x is = absurd (cc)
transfer_told t e (suc n) at x is =
    let found = state_told 0 (history t e).ways_reached n at x is in
    let same : 0 + found.0 ≡ found.0 = omega arith in (
      found.0,
      told_after t e n ∙ found.1 ∙ ap (λ (k : ℕ). Some (ReachedFrom k)) same,
      places_told t e found.0 at x found.2,
    )

pub told_transfer : (t : Trace) (e n i : ℕ) → 1 ≤ n
    → slice_get (section_history t e).ways_reached (n - 1) ≡ Some (ReachedFrom i) → (at : ℕ) × (x : Transfer)
    × (how_reached_at t e n ≡ Some (ByTransfer at x)) × (slice_get (section_history t e).transfers i ≡ Some (at, x))
told_transfer t e zero i one got = absurd (omega (arith, one))
told_transfer t e (suc n) i one got =
    let found = told_state 0 (history t e).ways_reached n i (sym (told_after t e n) ∙ got) in
    let same : i ≡ found.place = omega (arith, found.there) in (
      found.at,
      found.state,
      found.lands,
      ap (λ (k : ℕ). slice_get (section_history t e).transfers k) same
          ∙ places_told t e found.place found.at found.state found.is,
    )

pub told_skipped : (t : Trace) (e n : ℕ) → 1 ≤ n
    → slice_get (section_history t e).ways_reached (n - 1) ≡ Some NotReached → how_reached_at t e n ≡ Some Skipped
told_skipped t e zero one got = absurd (omega (arith, one))
told_skipped t e (suc n) one got = told_skip 0 (history t e).ways_reached n (sym (told_after t e n) ∙ got)

pub transfer_numbered : (t : Trace) (e n at : ℕ) (x : Transfer) → IsRightSection t e
    → how_reached_at t e n ≡ Some (ByTransfer at x) → (x.seq ≡ n)
    × ((k : ℕ) × (slice_get (steps_at t e) k ≡ Some (at, Transfers x)))
transfer_numbered t e zero at x right is = absurd (cc)
transfer_numbered t e (suc n) at x right is =
    let number = state_number_at 0 (history t e).ways_reached n at x (counted_history t e right).numbered is in
    let found = state_told 0 (history t e).ways_reached n at x is in (
      omega (arith, number),
      transfer_step (steps_at t e) found.0 (at, x)
          (ap (λ (xs : List (ℕ × Transfer)). slice_get xs found.0) (sym (transfers_of_steps t e)) ∙ found.2),
    )

pub transfer_lands : (t : Trace) (e k at : ℕ) (x : Transfer) → IsRightSection t e
    → slice_get (steps_at t e) k ≡ Some (at, Transfers x) → how_reached_at t e x.seq ≡ Some (ByTransfer at x)
transfer_lands t e k at x right got =
    let own = step_transfer (steps_at t e) k at x got in
    let found = transfer_how_reached (history t e).ways_reached own.0 at x
    (ap (λ (xs : List (ℕ × Transfer)). slice_get xs own.0) (transfers_of_steps t e) ∙ own.1) in
    let number = state_number_at 0 (history t e).ways_reached found.0 at x (counted_history t e right).numbered found.1
    in
    let same : x.seq ≡ suc found.0 = omega (arith, number) in
    ap (how_reached_at t e) same ∙ found.1
