-- Public: other crates cite these lemmas. How a replica reached a number, and which replica committed it first.
use Rattle.std.proofs.Common.{◌≡◌, ℕ, zero, suc, ◌+◌, ◌<◌, ◌≤◌, Bool, true, false, List, [], ◌∷◌, map, length}
use Rattle.std.proofs.Common.{slice_get, Option, Some, None, refl, sym, ap, subst, ◌∙◌, inl, inr, arith}
use Rattle.std.specs.Prelude.{IsTrue, cond}
use Rattle.std.specs.List.{AllByRecursion, find, enumerate_from}
use Rattle.std.specs.Option.{is_some}
use Rattle.std.proofs.lemmas.Bool.{cases_lt, false≢true}
use Rattle.std.proofs.lemmas.List.{get_or_past}
use Rattle.std.proofs.lemmas.Option.{none-some, same_Some}
use Rattle.eve_grammar.specs.Trace.{Transfer, Trace}
use Rattle.eve_grammar.specs.Frames.{OfReplica}
use Rattle.eve_grammar.specs.Spelling.{frame_text, located, step_text, section_start, steps_at}
use Rattle.eve_history.specs.Section.{Placed, HowReached, ByAttempt, ByTransfer, Skipped, SectionState, start}
use Rattle.eve_history.specs.Section.{state_after}
use Rattle.eve_history.specs.SectionHistory.{history, how_reached_at, attempt_by, committed_at, was_reached}
use Rattle.eve_history.specs.SectionHistory.{is_reached}
use Rattle.eve_agree.specs.Agreement.{first_to_commit}

-- ---- options and lists

pub none_there : {P A : Type 0} (x : A) → ◌≡◌ {A = Option A} None (Some x) → P
none_there x e = absurd (none-some x e)

pub some_there : {A : Type 0} (o : Option A) → IsTrue (is_some o) → (x : A) × (o ≡ Some x)
some_there None there = absurd (false≢true there)
some_there (Some x) there = (x, refl)

-- what holds of all holds at each place
pub each_at : {A : Type 0} (P : A → Type 0) (xs : List A) (k : ℕ) (x : A) → AllByRecursion P xs
    → slice_get xs k ≡ Some x → P x
each_at P [] k x all at = none_there x at
each_at P (y ∷ xs) zero x all at = subst P (same_Some y x at) all.0
each_at P (y ∷ xs) (suc k) x all at = each_at P xs k x all.1 at

-- ---- by an attempt or by a state

pub told_reached_by : (o : Option HowReached) (p : Placed) → attempt_by o ≡ Some p → o ≡ Some (ByAttempt p)
told_reached_by (Some (ByAttempt q)) p at = ap (λ (x : Placed). Some (ByAttempt x)) (same_Some q p at)
told_reached_by (Some (ByTransfer from x)) p at = none_there p at
told_reached_by (Some Skipped) p at = none_there p at
told_reached_by None p at = none_there p at

pub data IsReachedBy (t : Trace) (e n : ℕ) : Type 0 where
  by_attempt : (p : Placed) → committed_at t e n ≡ Some p → IsReachedBy t e n
  by_state : (at : ℕ) (x : Transfer) → how_reached_at t e n ≡ Some (ByTransfer at x) → IsReachedBy t e n

pub reached_by : (t : Trace) (e n : ℕ) → IsTrue (is_reached t e (suc n)) → IsReachedBy t e (suc n)
reached_by t e n reached = by (how_reached_at t e (suc n)) refl reached
  where
    by : (o : Option HowReached) → how_reached_at t e (suc n) ≡ o → IsTrue (was_reached o) → IsReachedBy t e (suc n)
    by (Some (ByAttempt p)) is so = by_attempt p (ap attempt_by is)
    by (Some (ByTransfer at x)) is so = by_state at x is
    by (Some Skipped) is so = absurd (false≢true so)
    by None is so = absurd (false≢true so)

-- ---- beyond the last replica there are no steps

pub no_steps : (t : Trace) (e : ℕ) → length t.sections ≤ e → steps_at t e ≡ []
unfolding steps_at
no_steps t e le = ap (located step_text (section_start t e + length (frame_text (OfReplica e))))
    (get_or_past t.sections e [] le)

pub state_of_none : (t : Trace) (e : ℕ) → length t.sections ≤ e → history t e ≡ start
unfolding history
state_of_none t e le = ap (state_after start) (no_steps t e le)

pub committed_there : (t : Trace) (e n : ℕ) (p : Placed) → committed_at t e n ≡ Some p → e < length t.sections
committed_there t e zero p at = none_there p at
committed_there t e (suc n) p at = elim (cases_lt e (length t.sections)) [
  | inl lt ↦ lt
  | inr le ↦
      none_there p
      (sym (ap (λ (s : SectionState). attempt_by (slice_get s.ways_reached n)) (state_of_none t e le)) ∙ at)
]

-- ---- the first to commit

-- what is found passes
found_passes : (test : ℕ → Bool) (xs : List ℕ) (f : ℕ) → find test xs ≡ Some f → IsTrue (test f)
found_passes test [] f is = none_there f is
found_passes test (x ∷ xs) f is = by (test x) refl is (found_passes test xs f)
  where
    by : (b : Bool) → test x ≡ b → cond b (Some x) (find test xs) ≡ Some f
        → (find test xs ≡ Some f → IsTrue (test f)) → IsTrue (test f)
    by true so e later = ap test (sym (same_Some x f e)) ∙ so
    by false so e later = later e

-- where some number passes, one is found
some_found : {A : Type 0} (test : ℕ → Bool) (k : ℕ) (xs : List A) (i : ℕ) → i < length xs → IsTrue (test (k + i))
    → (f : ℕ) × (find test (map (λ s. s.0) (enumerate_from k xs)) ≡ Some f)
some_found test k [] i lt so = absurd (omega (arith, lt))
some_found test k (x ∷ xs) i lt so = by (test k) refl (λ j. some_found test (k + 1) xs j) i lt so
  where
    by : (b : Bool) → test k ≡ b
        → ((j : ℕ) → j < length xs → IsTrue (test (k + 1 + j))
        → (f : ℕ) × (find test (map (λ s. s.0) (enumerate_from (k + 1) xs)) ≡ Some f)) → (i : ℕ) → i < suc (length xs)
        → IsTrue (test (k + i))
        → (f : ℕ) × (cond b (Some k) (find test (map (λ s. s.0) (enumerate_from (k + 1) xs))) ≡ Some f)
    by true is later i lt so = (k, refl)
    by false is later zero lt so =
        let here : k ≡ k + 0 = omega arith in absurd (false≢true (sym is ∙ ap test here ∙ so))
    by false is later (suc j) lt so =
        let same : k + 1 + j ≡ k + suc j = omega arith in later j (omega (arith, lt)) (ap test same ∙ so)

-- a batch that some replica committed has a first that did
pub first_there : (t : Trace) (e n : ℕ) (p : Placed) → committed_at t e n ≡ Some p
    → (f : ℕ) × (first_to_commit t n ≡ Some f)
first_there t e n p at =
    some_found (λ i. is_some (committed_at t i n)) 0 t.sections e (committed_there t e n p at)
    (let here : 0 + e ≡ e = omega arith in ap (λ (i : ℕ). is_some (committed_at t i n)) here ∙ ap is_some at)

-- and that committed it
pub first_committed : (t : Trace) (n f : ℕ) → first_to_commit t n ≡ Some f
    → (p : Placed) × (committed_at t f n ≡ Some p)
first_committed t n f is =
    some_there (committed_at t f n) (found_passes (λ e. is_some (committed_at t e n)) _ f is)
