-- Public: other crates cite these lemmas. What a replica committed, by number, and the list in which it stands.
use Rattle.std.proofs.Common.{◌≡◌, ℕ, zero, suc, ◌-◌, ◌<◌, ◌≤◌, true, false, List, [], ◌∷◌}
use Rattle.std.proofs.Common.{length, take, drop, slice_get, get_or, Option, Some, None, refl, sym, ap}
use Rattle.std.proofs.Common.{subst, ◌∙◌, inl, inr, ◌⊎◌, arith}
use Rattle.std.specs.Prelude.{IsTrue}
use Rattle.std.specs.List.{AllByRecursion}
use Rattle.std.specs.Option.{is_some, option_map}
use Rattle.std.proofs.lemmas.Bool.{cases_lt, false≢true}
use Rattle.std.proofs.lemmas.Option.{slice_get_within, same_Some, get_or_from_slice_get}
use Rattle.eve_grammar.specs.Trace.{Transfer, Trace}
use Rattle.eve_views.specs.Form.{SomePlace}
use Rattle.eve_views.proofs.Lists.{cut_at}
use Rattle.eve_votes.proofs.Places.{get_between}
use Rattle.eve_history.specs.Section.{Placed, HowReached, ByAttempt, ByTransfer, Skipped, attempts_by, IsByAttempt}
use Rattle.eve_history.specs.SectionHistory.{ExecutedAttempt, executed_attempt, SectionHistory, section_history}
use Rattle.eve_history.specs.SectionHistory.{ToldReached, ReachedBy, ReachedFrom, NotReached, is_by_attempt}
use Rattle.eve_history.specs.SectionHistory.{told_reached_at}
use Rattle.eve_history.specs.SectionHistory.{placed_at, history, how_reached_at, attempt_by, committed_at}
use Rattle.eve_history.specs.SectionHistory.{was_reached}
use Rattle.eve_history.specs.SectionHistory.{is_reached, IsRightSection, ByAttemptsTo}
use Rattle.eve_history.proofs.ReachedNumbers.{committed_told, told_committed, committed_after_reached}
use Rattle.eve_chains.specs.CommittedValues.{Settling, settling}
use Rattle.eve_chains.proofs.LinkedPaths.{how_reached_by, last_committed, batches_counted, take_length, none≢some}
use Rattle.eve_agree.specs.ByNumber.{told_by, told_at, told_state, told_state_at, SomeCommitted}
use Rattle.eve_agree.proofs.Offsets.{ways_reached_rise, none_there}

-- ---- options

pub some_there : {A : Type 0} (o : Option A) → IsTrue (is_some o) → (x : A) × (o ≡ Some x)
some_there None there = absurd (false≢true there)
some_there (Some x) there = (x, refl)

pub there_some : {A : Type 0} (o : Option A) (x : A) → o ≡ Some x → IsTrue (is_some o)
there_some o x is = ap is_some is

pub not_there : {A : Type 0} (o : Option A) → is_some o ≡ false → o ≡ None
not_there None none = refl
not_there (Some x) none = absurd (false≢true (sym none))

-- ---- as a section tells it

by_attempt_told : (l : ToldReached) → is_by_attempt l ≡ is_some (told_by l)
by_attempt_told (ReachedBy r) = refl
by_attempt_told (ReachedFrom i) = refl
by_attempt_told NotReached = refl

told_item_at : (ls : List ToldReached) (k : ℕ) (r : ExecutedAttempt) → told_by (get_or ls k NotReached) ≡ Some r
    → slice_get ls k ≡ Some (ReachedBy r)
told_item_at [] k r at = none≢some r at
told_item_at (ReachedBy q ∷ ls) zero r at = ap (λ (x : ExecutedAttempt). Some (ReachedBy x)) (same_Some q r at)
told_item_at (ReachedFrom i ∷ ls) zero r at = none≢some r at
told_item_at (NotReached ∷ ls) zero r at = none≢some r at
told_item_at (l ∷ ls) (suc k) r at = told_item_at ls k r at

told_from_at : (ls : List ToldReached) (k i : ℕ) → get_or ls k NotReached ≡ ReachedFrom i
    → slice_get ls k ≡ Some (ReachedFrom i)
told_from_at [] k i at = absurd (not_from i at)
  where
    not_from : (i : ℕ) → NotReached ≡ ReachedFrom i → ⊥
    not_from i e = cc
told_from_at (l ∷ ls) zero i at = ap Some at
told_from_at (l ∷ ls) (suc k) i at = told_from_at ls k i at

-- a batch that is told of was reached by an attempt
pub told_attempt : (h : SectionHistory) (n : ℕ) → IsTrue (is_some (told_at h n)) → (1 ≤ n)
    × (is_by_attempt (told_reached_at h n) ≡ true)
told_attempt h zero there = absurd (false≢true there)
told_attempt h (suc n) there = (omega arith, by_attempt_told (told_reached_at h (suc n)) ∙ there)

pub told_from : (h : SectionHistory) (n : ℕ) (r : ExecutedAttempt) → 1 ≤ n
    → slice_get h.ways_reached (n - 1) ≡ Some (ReachedBy r) → told_at h n ≡ Some r
told_from h zero r one at = absurd (omega arith)
told_from h (suc n) r one at = ap told_by (get_or_from_slice_get h.ways_reached (suc n - 1) (ReachedBy r) NotReached at)

-- ---- along the numbers that were reached

-- the number was reached by an attempt, and this holds of it
abbrev pub IsBy : (Placed → Type 0) → HowReached → Type 0
IsBy P (ByAttempt p) = P p
IsBy P (ByTransfer at x) = ⊥
IsBy P Skipped = ⊥

along_each : (P : Placed → Type 0) (ls : List HowReached) (n : ℕ) (p : Placed) → AllByRecursion P (attempts_by ls)
    → attempt_by (slice_get ls n) ≡ Some p → P p
along_each P [] n p all at = none≢some p at
along_each P (ByAttempt q ∷ ls) zero p all at = subst P (same_Some q p at) all.0
along_each P (ByTransfer o x ∷ ls) zero p all at = none≢some p at
along_each P (Skipped ∷ ls) zero p all at = none≢some p at
along_each P (ByAttempt q ∷ ls) (suc n) p all at = along_each P ls n p all.1 at
along_each P (ByTransfer o x ∷ ls) (suc n) p all at = along_each P ls n p all at
along_each P (Skipped ∷ ls) (suc n) p all at = along_each P ls n p all at

module _ (t : Trace) (e : ℕ) where
  -- what is told of is what was committed
  pub told_item : (h : SectionHistory) (n : ℕ) (r : ExecutedAttempt) → h ≡ section_history t e → told_at h n ≡ Some r
      → (p : Placed) × (committed_at t e n ≡ Some p) × (executed_attempt (placed_at p) ≡ r)
  told_item h zero r is at = none≢some r at
  told_item h (suc n) r is at =
      let got = told_committed t e (suc n) r (omega arith)
      (ap (λ (x : SectionHistory). slice_get x.ways_reached (suc n - 1)) (sym is)
      ∙ told_item_at h.ways_reached (suc n - 1) r at) in
      (got.0, got.1, sym got.2)

  pub told_is : (h : SectionHistory) (n : ℕ) → h ≡ section_history t e
      → told_at h n ≡ option_map (λ p. executed_attempt (placed_at p)) (committed_at t e n)
  told_is h zero is = refl
  told_is h (suc n) is = by (committed_at t e (suc n)) refl
    where
      not_told : committed_at t e (suc n) ≡ None → (o : Option ExecutedAttempt) → told_at h (suc n) ≡ o
          → told_at h (suc n) ≡ None
      not_told none None at = at
      not_told none (Some r) at = let got = told_item h (suc n) r is at in none≢some got.0 (sym none ∙ got.1)

      by : (o : Option Placed) → committed_at t e (suc n) ≡ o
          → told_at h (suc n) ≡ option_map (λ p. executed_attempt (placed_at p)) o
      by None none = not_told none (told_at h (suc n)) refl
      by (Some p) here = told_from h (suc n) (executed_attempt (placed_at p)) (omega arith)
          (ap (λ (x : SectionHistory). slice_get x.ways_reached (suc n - 1)) is ∙ committed_told t e (suc n) p here)

  pub told_same : (h : SectionHistory) (n : ℕ) → h ≡ section_history t e
      → is_some (told_at h n) ≡ is_some (committed_at t e n)
  told_same h n is = ap is_some (told_is h n is) ∙ mapped (committed_at t e n)
    where
      mapped : (o : Option Placed) → is_some (option_map (λ p. executed_attempt (placed_at p)) o) ≡ is_some o
      mapped None = refl
      mapped (Some p) = refl

  pub told_none : (h : SectionHistory) (n : ℕ) → h ≡ section_history t e → told_at h n ≡ None
      → committed_at t e n ≡ None
  told_none h n is none = not_there (committed_at t e n) (sym (told_same h n is) ∙ ap is_some none)

  -- ---- in the list

  -- of each of them, where it holds along the list
  pub all_each : (P : Placed → Type 0) → AllByRecursion P (attempts_by (history t e).ways_reached)
      → (n : ℕ) (p : Placed)
      → committed_at t e n ≡ Some p → P p
  all_each P all zero p at = none≢some p at
  all_each P all (suc n) p at = along_each P (history t e).ways_reached n p all at

  -- one of them, by its number or by its place
  pub some_from_place : (at : ℕ) (Q : ℕ → Placed → Type 0)
      → SomePlace (history t e).ways_reached (λ before l. IsBy (λ p. (p.offset ≡ at) × Q (suc (length before)) p) l)
      → SomeCommitted t e at Q
  some_from_place at Q place = by place.item
      (ap (λ (ls : List HowReached). slice_get ls (length place.before)) place.is
      ∙ get_between place.before place.item place.rest) place.holds
    where
      by : (l : HowReached) → slice_get (history t e).ways_reached (length place.before) ≡ Some l
          → IsBy (λ p. (p.offset ≡ at) × Q (suc (length place.before)) p) l → SomeCommitted t e at Q
      by (ByAttempt p) is holds = record {
        n = suc (length place.before);
        item = p;
        is = ap attempt_by is;
        offset = holds.0;
        holds = holds.1;
      }
      by (ByTransfer o x) is holds = absurd holds
      by Skipped is holds = absurd holds

  pub place_from_some : (at : ℕ) (Q : ℕ → Placed → Type 0) → SomeCommitted t e at Q
      → SomePlace (history t e).ways_reached (λ before l. IsBy (λ p. (p.offset ≡ at) × Q (suc (length before)) p) l)
  place_from_some at Q some = by some.n some.item some.is some.offset some.holds
    where
      by : (n : ℕ) (p : Placed) → committed_at t e n ≡ Some p → p.offset ≡ at → Q n p
          → SomePlace (history t e).ways_reached (λ before l. IsBy (λ q. (q.offset ≡ at) × Q (suc (length before)) q) l)
      by zero p is offset holds = none≢some p is
      by (suc n) p is offset holds =
          let got = how_reached_by (slice_get (history t e).ways_reached n) p is in
          record {
            before = take n (history t e).ways_reached;
            item = ByAttempt p;
            rest = drop (suc n) (history t e).ways_reached;
            is = cut_at (history t e).ways_reached n (ByAttempt p) got;
            holds = (
              offset,
              subst (λ (m : ℕ). Q (suc m) p) (sym (take_length (history t e).ways_reached n (ByAttempt p) got)) holds,
            );
          }

  -- attempts that were committed stand in the order of their numbers
  pub offsets_rise : (m n : ℕ) (p q : Placed) → committed_at t e m ≡ Some p → committed_at t e n ≡ Some q → m ≤ n
      → p.offset ≤ q.offset
  offsets_rise m n p q at also le = elim (cases_lt m n) [
    | inl lt ↦
        let less = ways_reached_rise t e m n p.offset q.offset (ByAttempt p) (ByAttempt q)
        (how_reached_by (how_reached_at t e m) p at) (how_reached_by (how_reached_at t e n) q also) refl refl lt in
        omega arith
    | inr ge ↦
        let one : m ≡ n = omega arith in
        let same : p.offset ≡ q.offset = ap (λ (x : Placed). x.offset)
        (same_Some p q (sym at ∙ ap (committed_at t e) one ∙ also)) in
        omega arith
  ]

  -- ---- up to which number

  pub how_reached_low : (n : ℕ) (l : HowReached) → IsRightSection t e → how_reached_at t e n ≡ Some l → n
      ≤ (history t e).last
  how_reached_low zero l right at = omega arith
  how_reached_low (suc n) l right at =
      let lt = slice_get_within (history t e).ways_reached n l at in
      let last = last_committed t e right in
      omega arith

  pub committed_low : (n : ℕ) (p : Placed) → IsRightSection t e → committed_at t e n ≡ Some p → n ≤ (history t e).last
  committed_low n p right at = how_reached_low n (ByAttempt p) right (how_reached_by (how_reached_at t e n) p at)

  pub how_reached_there : (n : ℕ) (l : HowReached) → how_reached_at t e n ≡ Some l → e < length t.sections
  how_reached_there zero l at = none≢some l at
  how_reached_there (suc n) l at = elim (cases_lt e (length t.sections)) [
    | inl lt ↦ lt
    | inr past ↦ none≢some l (sym (ap (λ (ls : List HowReached). slice_get ls n) (none_there t e past)) ∙ at)
  ]

  pub replica_there : (n : ℕ) (p : Placed) → committed_at t e n ≡ Some p → e < length t.sections
  replica_there n p at = how_reached_there n (ByAttempt p) (how_reached_by (how_reached_at t e n) p at)

  -- where all numbers so far were reached by attempts, it reached each number up to the last
  pub reached_up : (n : ℕ) → ByAttemptsTo t e n → n ≤ length (history t e).ways_reached → IsTrue (is_reached t e n)
  reached_up zero by le = refl
  reached_up (suc n) by le =
      let got = get_there (history t e).ways_reached n (omega arith) in
      own got.0 got.1 (by (suc n) got.0 (omega arith) got.1)
    where
      get_there : (ls : List HowReached) (k : ℕ) → k < length ls → (l : HowReached) × (slice_get ls k ≡ Some l)
      get_there [] k lt = absurd (omega arith)
      get_there (l ∷ ls) zero lt = (l, refl)
      get_there (l ∷ ls) (suc k) lt = get_there ls k (omega arith)

      own : (l : HowReached) → how_reached_at t e (suc n) ≡ Some l → IsByAttempt l
          → IsTrue (was_reached (how_reached_at t e (suc n)))
      own (ByAttempt p) is there = ap was_reached is
      own (ByTransfer at x) is there = absurd there
      own Skipped is there = absurd there

  -- a number that it reached, it reached by an attempt or by a state
  pub reached_so : (n : ℕ) → IsTrue (is_reached t e (suc n))
      → ((p : Placed) × (committed_at t e (suc n) ≡ Some p))
      ⊎ ((at : ℕ) × (x : Transfer) × (how_reached_at t e (suc n) ≡ Some (ByTransfer at x)))
  reached_so n there = by (how_reached_at t e (suc n)) refl there
    where
      by : (o : Option HowReached) → how_reached_at t e (suc n) ≡ o → was_reached o ≡ true
          → ((p : Placed) × (committed_at t e (suc n) ≡ Some p))
          ⊎ ((at : ℕ) × (x : Transfer) × (how_reached_at t e (suc n) ≡ Some (ByTransfer at x)))
      by None is told_reached = absurd (false≢true told_reached)
      by (Some (ByAttempt p)) is told_reached = inl (p, ap attempt_by is)
      by (Some (ByTransfer at x)) is told_reached = inr (at, x, is)
      by (Some Skipped) is told_reached = absurd (false≢true told_reached)

  -- by an attempt, where all numbers so far were
  pub reached_item : (n : ℕ) → ByAttemptsTo t e (suc n) → IsTrue (is_reached t e (suc n))
      → (p : Placed) × (committed_at t e (suc n) ≡ Some p)
  reached_item n by there = elim (reached_so n there) [
    | inl own ↦ own
    | inr state ↦ absurd (by (suc n) (ByTransfer state.0 state.1) (omega arith) state.2)
  ]

  -- where it committed a batch, it has come to the number before
  pub reached_before : (n : ℕ) (p : Placed) → IsRightSection t e → committed_at t e n ≡ Some p
      → IsTrue (is_reached t e (n - 1))
  reached_before zero p right at = none≢some p at
  reached_before (suc n) p right at =
      let less : n ≡ suc n - 1 = omega arith in
      subst (λ (m : ℕ). IsTrue (is_reached t e m)) less (committed_after_reached t e n p right at)

  -- and it is among those that are settled
  pub how_reached_settled : (n : ℕ) (l : HowReached) (s : Settling) → s ≡ settling t e → how_reached_at t e n ≡ Some l
      → n ≤ length s.numbers
  how_reached_settled zero l s is at = omega arith
  how_reached_settled (suc n) l s is at =
      let lt = slice_get_within (history t e).ways_reached n l at in
      let count = batches_counted t e in
      let many = ap (λ (x : Settling). length x.numbers) is in
      omega arith

  pub committed_settled : (n : ℕ) (p : Placed) (s : Settling) → s ≡ settling t e → committed_at t e n ≡ Some p
      → n ≤ length s.numbers
  committed_settled n p s is at = how_reached_settled n (ByAttempt p) s is (how_reached_by (how_reached_at t e n) p at)

-- ---- states that were transferred

-- what a section tells of a number that was reached by a state
abbrev pub ToldFrom : Trace → ℕ → ℕ → ℕ → ℕ → Transfer → Type 0
ToldFrom t e n i at x = (slice_get (section_history t e).ways_reached (n - 1) ≡ Some (ReachedFrom i))
    × (slice_get (section_history t e).transfers i ≡ Some (at, x))

abbrev pub TellsStates : Trace → ℕ → ℕ → Type 0
TellsStates t e n = (i : ℕ) → 1 ≤ n → slice_get (section_history t e).ways_reached (n - 1) ≡ Some (ReachedFrom i)
    → (at : ℕ) × (x : Transfer) × (how_reached_at t e n ≡ Some (ByTransfer at x))
    × (slice_get (section_history t e).transfers i ≡ Some (at, x))

module _ (t : Trace) (e n : ℕ) (h : SectionHistory) (is : h ≡ section_history t e) where
  from_told : (m : ℕ) (o : Option (ℕ × Transfer)) → told_state_at h m ≡ o → m ≡ n → TellsStates t e n
      → (at : ℕ) (x : Transfer) → o ≡ Some (at, x) → how_reached_at t e n ≡ Some (ByTransfer at x)
  from_told zero o told same tells at x here = none≢some (at, x) (told ∙ here)
  from_told (suc m) o told same tells at x here = by (told_reached_at h (suc m)) refl
    where
      both : (i : ℕ) → (o : ℕ) × (y : Transfer) × (how_reached_at t e n ≡ Some (ByTransfer o y))
          × (slice_get (section_history t e).transfers i ≡ Some (o, y))
          → slice_get (section_history t e).transfers i ≡ Some (at, x) → how_reached_at t e n ≡ Some (ByTransfer at x)
      both i got own =
          let same : (got.0, got.1) ≡ (at, x) = same_Some (got.0, got.1) (at, x) (sym got.3 ∙ own) in
          got.2 ∙ ap (λ (y : ℕ × Transfer). Some (ByTransfer y.0 y.1)) same

      by : (l : ToldReached) → told_reached_at h (suc m) ≡ l → how_reached_at t e n ≡ Some (ByTransfer at x)
      by (ReachedBy r) told_reached = none≢some (at, x) (sym (ap (told_state h) told_reached) ∙ told ∙ here)
      by NotReached told_reached = none≢some (at, x) (sym (ap (told_state h) told_reached) ∙ told ∙ here)
      by (ReachedFrom i) told_reached =
          let one : slice_get h.ways_reached (suc m - 1) ≡ Some (ReachedFrom i) =
          told_from_at h.ways_reached (suc m - 1) i told_reached in
          let less : suc m - 1 ≡ n - 1 = omega arith in
          both i (tells i (omega arith)
          (sym (ap (λ (y : SectionHistory). slice_get y.ways_reached (n - 1)) is)
          ∙ sym (ap (slice_get h.ways_reached) less) ∙ one))
          (sym (ap (λ (y : SectionHistory). slice_get y.transfers i) is) ∙ sym (ap (told_state h) told_reached) ∙ told
          ∙ here)

  -- a state that is told of was transferred
  pub state_told : (at : ℕ) (x : Transfer) → TellsStates t e n → told_state_at h n ≡ Some (at, x)
      → how_reached_at t e n ≡ Some (ByTransfer at x)
  state_told at x tells told = from_told n (Some (at, x)) told refl tells at x refl

  -- and each that was is told of
  pub told_state_there : (at i : ℕ) (x : Transfer) → 1 ≤ n → ToldFrom t e n i at x → told_state_at h n ≡ Some (at, x)
  told_state_there at i x one from = by n refl
    where
      by : (m : ℕ) → m ≡ n → told_state_at h m ≡ Some (at, x)
      by zero same = absurd (omega arith)
      by (suc m) same =
          let less : n - 1 ≡ suc m - 1 = omega arith in
          let told_reached : told_reached_at h (suc m) ≡ ReachedFrom i =
          get_or_from_slice_get h.ways_reached (suc m - 1) (ReachedFrom i) NotReached
          (ap (slice_get h.ways_reached) (sym less) ∙ ap (λ (y : SectionHistory). slice_get y.ways_reached (n - 1)) is
          ∙ from.0) in
          ap (told_state h) told_reached ∙ ap (λ (y : SectionHistory). slice_get y.transfers i) is ∙ from.1
