-- How a number was reached, as it is kept and as it is told.
use Rattle.std.proofs.Common.{◌≡◌, ℕ, zero, suc, ◌-◌, ◌<◌, ◌≤◌, true, false, List, [], ◌∷◌, map, length, slice_get}
use Rattle.std.proofs.Common.{Some, refl, sym, ap, subst, ◌∙◌, arith}
use Rattle.std.specs.Prelude.{slice_index_or}
use Rattle.std.proofs.lemmas.List.{length-map}
use Rattle.std.proofs.lemmas.Option.{slice_get-get_or, get_or_from_slice_get}
use Rattle.eve_grammar.proofs.Lists.{all-slice_get}
use Rattle.eve_history.specs.declared.how_reached.HowReached as told
use Rattle.eve_history.specs.declared.how_reached.HowReached.TheVariants as how_reached
use Rattle.eve_history.specs.SectionHistory.{ToldReached, ReachedBy, NotReached, is_by_attempt, told_reached_at}
use Rattle.eve_history.specs.SectionHistory.{IsToldOf}
use Rattle.eve_history.specs.SectionHistory.{ExecutedAttempt, SectionHistory}
use Rattle.eve_history.specs.KeptSections.{KeptSection, kept_executed_attempt, executed_attempts, no_executed_attempt}
use Rattle.eve_history.specs.KeptSections.{executed_attempt_at, told_reached_in, IsWayAmong, section_history_of}
use Rattle.eve_history.specs.KeptSections.{IsKept}
use Rattle.eve_history.proofs.Lookups.{get_mapped}

-- ---- what is kept

kept_is_told : (e : ℕ) (k : KeptSection) (l : told.HowReached)
    → IsWayAmong (length k.attempts) (length k.transfers) l
    → IsToldOf (section_history_of e k) l (told_reached_in (executed_attempts k) l)
kept_is_told e k (how_reached.Attempt place) lt =
    let there : place < length k.attempts = lt in (
      executed_attempt_at (executed_attempts k) place,
      refl,
      slice_get-get_or (executed_attempts k) place no_executed_attempt
          (omega (arith, length-map k.attempts (kept_executed_attempt k.records))),
    )
kept_is_told e k (how_reached.Transfer i) there = (refl, there)
kept_is_told e k how_reached.Skipped there = refl

pub how_reached_told : (e n : ℕ) (k : KeptSection) (h : SectionHistory) (l : told.HowReached) → IsKept k
    → section_history_of e k ≡ h → slice_get k.ways_reached (n - 1) ≡ Some l → IsToldOf h l (told_reached_at h n)
how_reached_told e n k h l kept is at =
    let rs = executed_attempts k in
    let own : told_reached_in rs l ≡ told_reached_at (section_history_of e k) n =
    sym (get_or_from_slice_get (map (told_reached_in rs) k.ways_reached) (n - 1) (told_reached_in rs l) NotReached
    (get_mapped (told_reached_in rs) k.ways_reached (n - 1) l at)) in
    subst (λ (v : SectionHistory). IsToldOf v l (told_reached_at v n)) is
    (subst (IsToldOf (section_history_of e k) l) own
    (kept_is_told e k l (all-slice_get (IsWayAmong (length k.attempts) (length k.transfers)) k.ways_reached
    (n - 1) l
    kept.there at)))

pub ways_reached_told : (e : ℕ) (k : KeptSection) (h : SectionHistory) → section_history_of e k ≡ h
    → length h.ways_reached
    ≡ length k.ways_reached
ways_reached_told e k h is = ap (λ (v : SectionHistory). length v.ways_reached) (sym is)
    ∙ length-map k.ways_reached (told_reached_in (executed_attempts k))

-- ---- what is told

pub told_by_attempt : (h : SectionHistory) (i : ℕ) (told_reached : ToldReached)
    → IsToldOf h (how_reached.Attempt i) told_reached
    → is_by_attempt told_reached ≡ true
told_by_attempt h i told_reached is = ap is_by_attempt is.1

pub told_by_transfer : (h : SectionHistory) (i : ℕ) (told_reached : ToldReached)
    → IsToldOf h (how_reached.Transfer i) told_reached
    → is_by_attempt told_reached ≡ false
told_by_transfer h i told_reached is = ap is_by_attempt is.0

pub told_skipped : (h : SectionHistory) (told_reached : ToldReached) → IsToldOf h how_reached.Skipped told_reached
    → is_by_attempt told_reached
    ≡ false
told_skipped h told_reached is = ap is_by_attempt is

told_reached_got : (ls : List ToldReached) (i : ℕ) (r : ExecutedAttempt) → slice_index_or ls i NotReached ≡ ReachedBy r
    → slice_get ls i ≡ Some (ReachedBy r)
told_reached_got [] i r e = absurd (cc)
told_reached_got (l ∷ ls) zero r e = ap Some e
told_reached_got (l ∷ ls) (suc i) r e = told_reached_got ls i r e

-- the attempt by which a number was reached
pub attempt_told : (h : SectionHistory) (n i : ℕ) → IsToldOf h (how_reached.Attempt i) (told_reached_at h n)
    → (r : ExecutedAttempt) × (slice_get h.ways_reached (n - 1) ≡ Some (ReachedBy r))
    × (slice_get h.attempts i ≡ Some r)
attempt_told h n i is = (is.0, told_reached_got h.ways_reached (n - 1) is.0 is.1, is.2)

by_attempt_there : (ls : List ToldReached) (i : ℕ) → is_by_attempt (slice_index_or ls i NotReached) ≡ true → i
    < length ls
by_attempt_there [] i e = absurd (cc)
by_attempt_there (l ∷ ls) zero e = omega arith
by_attempt_there (l ∷ ls) (suc i) e = let there = by_attempt_there ls i e in omega (arith, there)

pub number_there : (h : SectionHistory) (n : ℕ) → 1 ≤ n → is_by_attempt (told_reached_at h n) ≡ true → n
    ≤ length h.ways_reached
number_there h n one by = let there = by_attempt_there h.ways_reached (n - 1) by in omega (arith, one, there)
