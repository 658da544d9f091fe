-- Public: other crates cite these lemmas. The numbers that a section reached are linked by paths: each attempt by which
-- a number was reached stands on what came by the numbers before it.
use Rattle.std.proofs.Common.{◌≡◌, ℕ, zero, suc, ◌+◌, ◌≤◌, ◌==◌, nat_le, length, length-append, arith, ◌&&◌, List}
use Rattle.std.proofs.Common.{[], ◌∷◌, ◌++◌, map, flat_map, take, drop, slice_get, Option, Some, None, refl, sym}
use Rattle.std.proofs.Common.{subst, ap, ◌∙◌}
use Rattle.std.proofs.Common.{append_assoc, append-nil, IsTrue, ◌-◌, ◌<◌, nat_lt, replicate}
use Rattle.std.proofs.lemmas.Bool.{and_parts, eqb-true, leb-true, ltb-true}
use Rattle.std.specs.Prelude.{⊤}
use Rattle.std.proofs.lemmas.List.{length-map, map-append}
use Rattle.std.proofs.lemmas.Grind.{flat_map-append}
use Rattle.std.proofs.lemmas.Option.{same_Some}
use Rattle.eve_grammar.specs.Trace.{Attempt, Transfer, Step, Attempts, Commits, RollsBack, Transfers, Trace}
use Rattle.eve_grammar.specs.Spelling.{steps_at}
use Rattle.eve_history.specs.Section.{Came, Ran, Transferred, Placed, HowReached, ByAttempt, ByTransfer, Skipped}
use Rattle.eve_history.specs.Section.{came_by, attempts_by}
use Rattle.eve_history.specs.Section.{SectionState, start, path_of, committing, next, state_after, is_due}
use Rattle.eve_history.specs.Section.{is_right_attempt, is_right_certificate, are_right_accesses, is_right, are_right}
use Rattle.eve_history.specs.SectionHistory.{history, attempt_by, committed_at, IsRightSection}
use Rattle.eve_smallbank.proofs.Members.{In, here, there}
use Rattle.eve_chains.specs.CommittedValues.{settling}

-- The attempt's path is what came by the numbers before it, its number is the next, and its certificate is right.
pub record IsLinked (t : Trace) (before : List HowReached) (p : Placed) : Type 0 where
  pub path : p.path ≡ flat_map came_by before
  pub number : p.attempt.seq ≡ suc (length before)
  pub there : p.attempt.seq ≤ length t.batches
  pub certificate : IsTrue (is_right_certificate t p.attempt)

-- the same of a number that was reached by an attempt
abbrev pub IfLinked : Trace → List HowReached → HowReached → Type 0
IfLinked t before (ByAttempt p) = IsLinked t before p
IfLinked t before (ByTransfer at x) = ⊤
IfLinked t before Skipped = ⊤

-- each attempt by which a number was reached stands on what came before
abbrev pub AreLinked : Trace → List HowReached → List HowReached → Type 0
AreLinked t before [] = ⊤
AreLinked t before (l ∷ ls) = IfLinked t before l × AreLinked t (before ++ l ∷ []) ls

linked-push : (t : Trace) (before ls : List HowReached) (last : HowReached) → AreLinked t before ls
    → IfLinked t (before ++ ls) last → AreLinked t before (ls ++ last ∷ [])
linked-push t before [] last linked is = (subst (λ path. IfLinked t path last) (append-nil before) is, tt)
linked-push t before (l ∷ ls) last linked is = (
  linked.0,
  linked-push t (before ++ l ∷ []) ls last linked.1
      (subst (λ path. IfLinked t path last) (sym (append_assoc before (l ∷ []) ls)) is),
)

linked-prefix : (t : Trace) (before ls ms : List HowReached) → AreLinked t before (ls ++ ms) → AreLinked t before ls
linked-prefix t before [] ms linked = tt
linked-prefix t before (l ∷ ls) ms linked = (linked.0, linked-prefix t (before ++ l ∷ []) ls ms linked.1)

-- ---- a state is transferred

-- the numbers that it adds, with how they are reached
abbrev pub transferring : ℕ → ℕ → Transfer → List HowReached
transferring skipped at x = replicate skipped Skipped ++ ByTransfer at x ∷ []

pub attempts_transferring : (ls : List HowReached) (skipped at : ℕ) (x : Transfer)
    → attempts_by (ls ++ transferring skipped at x) ≡ attempts_by ls
attempts_transferring [] zero at x = refl
attempts_transferring [] (suc n) at x = attempts_transferring [] n at x
attempts_transferring (ByAttempt p ∷ ls) skipped at x = ap (λ (ps : List Placed). p ∷ ps)
    (attempts_transferring ls skipped at x)
attempts_transferring (ByTransfer from y ∷ ls) skipped at x = attempts_transferring ls skipped at x
attempts_transferring (Skipped ∷ ls) skipped at x = attempts_transferring ls skipped at x

pub came_transferring : (skipped at : ℕ) (x : Transfer) → flat_map came_by (transferring skipped at x)
    ≡ Transferred x.rows ∷ []
came_transferring zero at x = refl
came_transferring (suc n) at x = came_transferring n at x

-- it is linked to nothing
linked-transferring : (t : Trace) (before ls : List HowReached) (skipped at : ℕ) (x : Transfer) → AreLinked t before ls
    → AreLinked t before (ls ++ transferring skipped at x)
linked-transferring t before [] zero at x linked = (tt, tt)
linked-transferring t before [] (suc n) at x linked = (tt, linked-transferring t (before ++ Skipped ∷ []) [] n at x tt)
linked-transferring t before (l ∷ ls) skipped at x linked =
    (linked.0, linked-transferring t (before ++ l ∷ []) ls skipped at x linked.1)

-- each attempt's path is what stands before it
abbrev pub ArePlaced : List Came → List Placed → Type 0
ArePlaced before [] = Unit {0}
ArePlaced before (p ∷ ps) = (p.path ≡ before) × ArePlaced (before ++ Ran p.attempt ∷ []) ps

-- of paths alone: an attempt more, which stands on the path of those before it
pub placed_push : (before : List Came) (ps : List Placed) (q : Placed) → ArePlaced before ps
    → q.path ≡ before ++ map (λ p. Ran p.attempt) ps → ArePlaced before (ps ++ q ∷ [])
placed_push before [] q placed is = (is ∙ append-nil before, tt)
placed_push before (p ∷ ps) q placed is = (
  placed.0,
  placed_push (before ++ Ran p.attempt ∷ []) ps q placed.1
      (is ∙ sym (append_assoc before (Ran p.attempt ∷ []) (map (λ p. Ran p.attempt) ps))),
)

-- ---- while all steps are right

-- how each number will be reached, where all open attempts are committed
abbrev how_reached_so : SectionState → List HowReached
how_reached_so s = s.ways_reached ++ map ByAttempt s.pending

-- and what comes by them
came_so : (ls : List HowReached) (ps : List Placed) → flat_map came_by (ls ++ map ByAttempt ps)
    ≡ flat_map came_by ls ++ map (λ p. Ran p.attempt) ps
came_so ls ps = flat_map-append came_by ls (map ByAttempt ps) ∙ ap (λ (cs : List Came). flat_map came_by ls ++ cs)
    (open_ones ps)
  where
    open_ones : (qs : List Placed) → flat_map came_by (map ByAttempt qs) ≡ map (λ p. Ran p.attempt) qs
    open_ones [] = refl
    open_ones (q ∷ qs) = ap (λ (cs : List Came). Ran q.attempt ∷ cs) (open_ones qs)

-- what holds of a section's state while all steps are right
record IsOrdered (t : Trace) (s : SectionState) : Type 0 where
  linked : AreLinked t [] (how_reached_so s)
  last : s.last ≡ length s.ways_reached

ordered_committing : (t : Trace) (s : SectionState) (pending : List Placed) → s.pending ≡ pending → IsOrdered t s
    → IsOrdered t (committing s pending)
ordered_committing t s [] e ordered = ordered
ordered_committing t s (p ∷ ps) e ordered = record {
  linked = subst (AreLinked t []) (ap (λ (qs : List Placed). s.ways_reached ++ map ByAttempt qs) e
      ∙ sym (append_assoc s.ways_reached (ByAttempt p ∷ []) (map ByAttempt ps))) ordered.linked;
  last = one_more s.last s.ways_reached ordered.last;
}
  where
    one_more : (n : ℕ) (ls : List HowReached) → n ≡ length ls → n + 1 ≡ length (ls ++ ByAttempt p ∷ [])
    one_more n ls h = simp length-append (omega arith)

counted : (n m k seq : ℕ) → seq ≡ n + 1 + m → n ≡ k → seq ≡ suc (k + m)
counted n m k seq e h = omega arith

linked_attempt : (t : Trace) (s : SectionState) (at : ℕ) (a : Attempt) → IsOrdered t s → IsTrue (is_due t s a)
    → IsTrue (is_right_certificate t a)
    → IsLinked t (how_reached_so s) (record { offset = at; attempt = a; path = path_of s })
linked_attempt t s at a ordered due certificate =
    let first = and_parts (a.seq == s.last + 1 + length s.pending) _ due in
    let second = and_parts (nat_le a.seq (length t.batches)) _ first.1 in
    record {
      path = sym (came_so s.ways_reached s.pending);
      number = counted s.last (length s.pending) (length s.ways_reached) a.seq
          (eqb-true a.seq (s.last + 1 + length s.pending) first.0) ordered.last
          ∙ ap suc (sym (length-append s.ways_reached (map ByAttempt s.pending)
          ∙ ap (λ (n : ℕ). length s.ways_reached + n) (length-map s.pending ByAttempt)));
      there = leb-true a.seq (length t.batches) second.0;
      certificate = certificate;
    }

ordered_next : (t : Trace) (s : SectionState) (step : ℕ × Step) → IsTrue (is_right t s step.1) → IsOrdered t s
    → IsOrdered t (next s step)
ordered_next t s (at, Attempts a) right ordered =
    let parts = and_parts (is_right_attempt t s a) (is_right_certificate t a && are_right_accesses t a [] a.accesses)
    right in
    let certificate = (and_parts (is_right_certificate t a) (are_right_accesses t a [] a.accesses) parts.1).0 in
    let due = (and_parts (is_due t s a) _ parts.0).0 in
    let placed : Placed = record { offset = at; attempt = a; path = path_of s } in
    record {
      linked = subst (AreLinked t []) (append_assoc s.ways_reached (map ByAttempt s.pending) (ByAttempt placed ∷ [])
          ∙ ap (λ (ls : List HowReached). s.ways_reached ++ ls) (sym (map-append ByAttempt s.pending (placed ∷ []))))
          (linked-push t [] (how_reached_so s) (ByAttempt placed) ordered.linked
          (linked_attempt t s at a ordered due certificate));
      last = ordered.last;
    }
ordered_next t s (at, Commits c) right ordered = ordered_committing t s s.pending refl ordered
ordered_next t s (at, RollsBack r) right ordered = record {
  linked = subst (AreLinked t []) (sym (append-nil s.ways_reached))
      (linked-prefix t [] s.ways_reached (map ByAttempt s.pending) ordered.linked);
  last = ordered.last;
}
ordered_next t s (at, Transfers x) right ordered =
    let parts = and_parts (nat_lt s.last x.seq) (nat_le x.seq (length t.batches) && nat_le s.view x.view) right in
    let skipped = x.seq - (s.last + 1) in
    let behind : s.last < x.seq = ltb-true s.last x.seq parts.0 in
    record {
      linked = subst (AreLinked t [])
          (sym (append-nil (s.ways_reached ++ transferring skipped at x)))
          (linked-transferring t [] s.ways_reached skipped at x
          (linked-prefix t [] s.ways_reached (map ByAttempt s.pending) ordered.linked));
      last = sym (length-append s.ways_reached (transferring skipped at x)
          ∙ (λ i. sym ordered.last i + (length-append (replicate skipped Skipped) (ByTransfer at x ∷ [])
          ∙ ap (λ (n : ℕ). n + 1) (length-replicate skipped)) i) ∙ up s.last x.seq behind);
    }
  where
    up : (m n : ℕ) → m < n → m + (n - (m + 1) + 1) ≡ n
    up m n less = omega arith

    length-replicate : (n : ℕ) → length (replicate n Skipped) ≡ n
    length-replicate zero = refl
    length-replicate (suc n) = ap suc (length-replicate n)

ordered_after : (t : Trace) (s : SectionState) (steps : List (ℕ × Step)) → IsTrue (are_right t s steps) → IsOrdered t s
    → IsOrdered t (state_after s steps)
ordered_after t s [] right ordered = ordered
ordered_after t s (step ∷ steps) right ordered =
    let parts = and_parts (is_right t s step.1) (are_right t (next s step) steps) right in
    ordered_after t (next s step) steps parts.1 (ordered_next t s step parts.0 ordered)

ordered_history : (t : Trace) (e : ℕ) → IsRightSection t e → IsOrdered t (history t e)
unfolding history
ordered_history t e right = ordered_after t start (steps_at t e) right (record { linked = tt; last = refl })

pub linked_history : (t : Trace) (e : ℕ) → IsRightSection t e → AreLinked t [] (history t e).ways_reached
linked_history t e right = linked-prefix t [] (history t e).ways_reached (map ByAttempt (history t e).pending)
    (ordered_history t e right).linked

-- it is told of each number up to the last how it was reached
pub last_committed : (t : Trace) (e : ℕ) → IsRightSection t e → (history t e).last ≡ length (history t e).ways_reached
last_committed t e right = (ordered_history t e right).last

-- ---- one committed attempt

same_attempt : (p q : Placed) → ByAttempt p ≡ ByAttempt q → p ≡ q
same_attempt p q e = cc

pub none≢some : {A B : Type 0} (x : A) → ◌≡◌ {A = Option A} None (Some x) → B
none≢some x e = absurd (cc)

-- what is linked at a place
pub linked_at : (t : Trace) (before ls : List HowReached) (n : ℕ) (p : Placed) → AreLinked t before ls
    → slice_get ls n ≡ Some (ByAttempt p) → IsLinked t (before ++ take n ls) p
linked_at t before [] n p linked e = none≢some (ByAttempt p) e
linked_at t before (l ∷ ls) zero p linked e =
    subst (λ path. IsLinked t path p) (sym (append-nil before))
    (subst (IfLinked t before) (same_Some l (ByAttempt p) e) linked.0)
linked_at t before (l ∷ ls) (suc n) p linked e =
    subst (λ path. IsLinked t path p) (append_assoc before (l ∷ []) (take n ls))
    (linked_at t (before ++ l ∷ []) ls n p linked.1 e)

-- how a number was reached that an attempt reached
pub how_reached_by : (o : Option HowReached) (p : Placed) → attempt_by o ≡ Some p → o ≡ Some (ByAttempt p)
how_reached_by (Some (ByAttempt q)) p e = ap (λ (x : Placed). Some (ByAttempt x)) (same_Some q p e)
how_reached_by (Some (ByTransfer at x)) p e = none≢some p e
how_reached_by (Some Skipped) p e = none≢some p e
how_reached_by None p e = none≢some p e

-- what a committed attempt is linked to
pub linked_number : (t : Trace) (e n : ℕ) (p : Placed) → IsRightSection t e → committed_at t e (suc n) ≡ Some p
    → IsLinked t (take n (history t e).ways_reached) p
linked_number t e n p right at = linked_at t [] (history t e).ways_reached n p (linked_history t e right)
    (how_reached_by (slice_get (history t e).ways_reached n) p at)

-- it is among the attempts by which numbers were reached
pub in_attempts : (ls : List HowReached) (n : ℕ) (p : Placed) → slice_get ls n ≡ Some (ByAttempt p)
    → In p (attempts_by ls)
in_attempts [] n p e = none≢some (ByAttempt p) e
in_attempts (ByAttempt q ∷ ls) zero p e = subst (λ (x : Placed). In x (q ∷ attempts_by ls))
    (same_attempt q p (same_Some (ByAttempt q) (ByAttempt p) e)) here
in_attempts (ByTransfer at x ∷ ls) zero p e = absurd (cc)
in_attempts (Skipped ∷ ls) zero p e = absurd (cc)
in_attempts (ByAttempt q ∷ ls) (suc n) p e = there (in_attempts ls n p e)
in_attempts (ByTransfer at x ∷ ls) (suc n) p e = in_attempts ls n p e
in_attempts (Skipped ∷ ls) (suc n) p e = in_attempts ls n p e

-- what stands from a place on
pub from_place : {A : Type 0} (xs : List A) (n : ℕ) (x : A) → slice_get xs n ≡ Some x → drop n xs ≡ x ∷ drop (suc n) xs
from_place [] n x at = none≢some x at
from_place (y ∷ xs) zero x at = ap (λ (z : _). z ∷ xs) (same_Some y x at)
from_place (y ∷ xs) (suc n) x at = from_place xs n x at

pub take_length : {A : Type 0} (xs : List A) (n : ℕ) (x : A) → slice_get xs n ≡ Some x → length (take n xs) ≡ n
take_length [] n x e = none≢some x e
take_length (y ∷ xs) zero x e = refl
take_length (y ∷ xs) (suc n) x e = ap suc (take_length xs n x e)

-- of each number what it changed is kept
pub batches_counted : (t : Trace) (e : ℕ) → length (settling t e).numbers ≡ length (history t e).ways_reached
unfolding settling
batches_counted t e = length-map (history t e).ways_reached _

-- the attempt by which batch n was committed has that number
pub committed_number : (t : Trace) (e n : ℕ) (p : Placed) → IsRightSection t e → committed_at t e n ≡ Some p
    → p.attempt.seq ≡ n
committed_number t e zero p right at = none≢some p at
committed_number t e (suc n) p right at =
    (linked_number t e n p right at).number
    ∙ ap suc (take_length (history t e).ways_reached n (ByAttempt p)
    (how_reached_by (slice_get (history t e).ways_reached n) p at))
