-- What is kept of the replicas, one after another, and of all of them.
use Rattle.std.proofs.Common.{◌≡◌, ℕ, ◌+◌, ◌^◌, ◌<◌, ◌≤◌, min, Option, Some, None, inl, inr, List, [], ◌∷◌}
use Rattle.std.proofs.Common.{◌++◌, length, map, take, get_or, take_all, refl, sym, ap, subst, ◌∙◌, ◌⊎◌, arith}
use Rattle.std.specs.Prelude.{IsTrue}
use Rattle.std.specs.List.{AllByRecursion, enumerate_from}
use Rattle.std.proofs.lemmas.Bool.{cases_lt}
use Rattle.std.proofs.lemmas.List.{map-append, take_more}
use Rattle.std.proofs.lemmas.List.FromFn.{get_or-enumerate_from, length-enumerate_from}
use Rattle.eve_grammar.specs.Trace.{Step, Trace}
use Rattle.eve_history.specs.Section.{SectionState, start, settled, are_right}
use Rattle.eve_history.specs.SectionHistory.{SectionHistory, section_history, section_histories, history}
use Rattle.eve_chains.specs.CommittedValues.{Settling, settling, settlings}
use Rattle.eve_chains.specs.Sound.{IsSoundAlong}
use Rattle.eve_agree.specs.Tables.{all_restore_rightly}
use Rattle.eve_views.specs.declared.fault.Fault.{Fault}
use Rattle.eve_audit.specs.Verdict.{IsOwnFault}
use Rattle.eve_views.specs.Form.{HasNone, Precedes}
use Rattle.eve_audit.specs.Reports.{IsFirstOf, IsSoundReplica, AreKept, IsJudgedBelow, IsFoundBelow, IsFaultBelow}
use Rattle.eve_audit.proofs.NumberLaws.{no_steps, state_of_none, committed_there}
use Rattle.eve_audit.proofs.FirstOwnFaults.{below_more, none_more, least_more, first_more, both_more}
use Rattle.eve_views.specs.First.{first_of}

-- ---- beyond the last replica there are no steps, and what there is none of is sound

pub sound_beyond : (t : Trace) (e : ℕ) → length t.sections ≤ e → IsSoundReplica t e
sound_beyond t e le =
    let none = sym (no_steps t e le) in
    let state = sym (state_of_none t e le) in
    record {
      right = subst (λ (xs : List (ℕ × Step)). IsTrue (are_right t start xs)) none refl;
      sound = subst (λ (s : SectionState). AllByRecursion (IsSoundAlong t) (settled s)) state tt;
      restores = subst (λ (xs : List (ℕ × Step)). IsTrue (all_restore_rightly t start xs)) none refl;
      tokens = λ n p at. absurd (let there = committed_there t e n p at in omega arith);
    }

-- ---- what is kept

-- what is made of the numbers of some items, from 0 on: of one item more, and of all
module _ {A B : Type 0} (f : ℕ → B) (xs : List A) where
  one_more : (d : ℕ × A) (i : ℕ) → i < length xs → map (λ s. f s.0) (take (i + 1) (enumerate_from 0 xs))
      ≡ map (λ s. f s.0) (take i (enumerate_from 0 xs)) ++ f i ∷ []
  one_more d i lt =
      let items : List (ℕ × A) = enumerate_from 0 xs in
      let there : i < length items = omega (arith, lt, length-enumerate_from 0 xs) in
      let same : 0 + i ≡ i = omega arith in
      let number : (get_or items i d).0 ≡ i = ap (λ (x : ℕ × A). x.0) (get_or-enumerate_from 0 xs i d lt) ∙ same in
      ap (map (λ s. f s.0)) (take_more items i d there)
      ∙ map-append (λ s. f s.0) (take i items) (get_or items i d ∷ [])
      ∙ ap (λ (m : ℕ). map (λ s. f s.0) (take i items) ++ f m ∷ []) number

  of_all : map (λ s. f s.0) (take (length xs) (enumerate_from 0 xs)) ≡ map (λ s. f s.0) (enumerate_from 0 xs)
  of_all =
      let low : length (enumerate_from 0 xs) ≤ length xs = omega (arith, length-enumerate_from 0 xs) in
      ap (map (λ s. f s.0)) (take_all (length xs) (enumerate_from 0 xs) low)

pub kept_more : (t : Trace) (e : ℕ) (tells more_tells : List SectionHistory) (settles more_settles : List Settling)
    (told : SectionHistory) (wrote : Settling)
    → e < length t.sections → AreKept t e tells settles → more_tells ≡ tells ++ told ∷ [] → more_settles
    ≡ settles ++ wrote ∷ []
    → told ≡ section_history t e → wrote ≡ settling t e → IsSoundReplica t e → AreKept t (e + 1) more_tells more_settles
kept_more t e tells more_tells settles more_settles told wrote lt kept tells_is settles_is told_is wrote_is sound =
    record {
      histories = tells_is ∙ ap (λ (x : SectionHistory). tells ++ x ∷ []) told_is
          ∙ ap (λ (xs : List SectionHistory). xs ++ section_history t e ∷ []) kept.histories
          ∙ sym (one_more (section_history t) t.sections (0, []) e lt);
      settled = settles_is ∙ ap (λ (x : Settling). settles ++ x ∷ []) wrote_is
          ∙ ap (λ (xs : List Settling). xs ++ settling t e ∷ []) kept.settled
          ∙ sym (one_more (settling t) t.sections (0, []) e lt);
      sound = λ k less. elim (below_more k e less) [
        | inl lower ↦ kept.sound k lower
        | inr same
            ↦ subst (IsSoundReplica t) (sym same) sound
      ];
    }

module _ (t : Trace) (tells : List SectionHistory) (settles : List Settling)
    (kept : AreKept t (length t.sections) tells settles) where
  pub all_told : tells ≡ section_histories t
  unfolding section_histories
  all_told = kept.histories ∙ of_all (section_history t) t.sections

  pub all_settled : settles ≡ settlings t
  unfolding settlings
  all_settled = kept.settled ∙ of_all (settling t) t.sections

  pub all_sound : (e : ℕ) → IsSoundReplica t e
  all_sound e = elim (cases_lt e (length t.sections)) [ inl lt ↦ kept.sound e lt | inr le ↦ sound_beyond t e le ]

-- the last committed number that a section tells is the one at which it ends
last_told : (t : Trace) (e : ℕ) → (section_history t e).committed ≡ (history t e).last
unfolding section_history history
last_told t e = refl

-- ---- with what was found

-- the next replica has no fault of its own
pub sound_more : (t : Trace) (e : ℕ) (first : Option Fault) (tells more_tells : List SectionHistory)
    (settles more_settles : List Settling) (c m : ℕ) (told : SectionHistory) (wrote : Settling)
    → IsJudgedBelow t e first tells settles c → e < length t.sections → told ≡ section_history t e
    → wrote ≡ settling t e → IsSoundReplica t e → HasNone (IsOwnFault t e)
    → more_tells ≡ tells ++ told ∷ [] → more_settles ≡ settles ++ wrote ∷ [] → m ≡ min c told.committed
    → told.committed < 2 ^ 32
    → IsJudgedBelow t (e + 1) first more_tells more_settles m
sound_more t e first tells more_tells settles more_settles c m told wrote judged lt told_is wrote_is sound none tells_is
    settles_is least small = record {
      found = none_more t e first judged.found none;
      kept = λ is. kept_more t e tells more_tells settles more_settles told wrote lt (judged.kept is)
          tells_is settles_is
          told_is wrote_is sound;
      least = λ is. least_more t e c told.committed m (judged.least is)
          (ap (λ (x : SectionHistory). x.committed) told_is
          ∙ last_told t e) small least;
    }

-- it has one
pub fault_more : (t : Trace) (e : ℕ) (f : Fault) (told : List SectionHistory) (wrote : List Settling) (c : ℕ)
    → IsFirstOf (IsFaultBelow t (e + 1)) f → IsJudgedBelow t (e + 1) (Some f) told wrote c
fault_more t e f told wrote c found =
    record { found = found; kept = λ none. absurd (some_none none); least = λ none. absurd (some_none none) }
  where
    some_none : Some f ≡ None → ⊥
    some_none e = cc

-- beside what was found before, where faults come one before another
module _ (further : (f g h : Fault) → Precedes f g → Precedes g h → Precedes f h)
    (first_of_two : (f g : Fault) → (h : Fault) × (first_of (Some f) (Some g) ≡ Some h) × ((h ≡ f) ⊎ (h ≡ g))
    × Precedes h f × Precedes h g) where
  pub judged_more : (t : Trace) (e : ℕ) (first : Option Fault) (f : Fault) (told : List SectionHistory)
      (wrote : List Settling) (c : ℕ) → IsFoundBelow t e first → IsFirstOf (IsOwnFault t e) f
      → IsJudgedBelow t (e + 1) (first_of first (Some f)) told wrote c
  judged_more t e None f told wrote c found first = fault_more t e f told wrote c (first_more t e f found first)
  judged_more t e (Some g) f told wrote c found first =
      let two = first_of_two g f in
      subst (λ (o : Option Fault). IsJudgedBelow t (e + 1) o told wrote c) (sym two.1)
      (fault_more t e two.0 told wrote c (both_more further t e f g two.0 found first two.2 two.3 two.4))
