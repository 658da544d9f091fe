-- In a run no number is skipped: each is reached by a step of its own, and what was reached stays.
use Rattle.std.proofs.Common.{◌≡◌, ℕ, zero, suc, ◌+◌, ◌-◌, List, [], ◌∷◌, ◌++◌, All, length, replicate, slice_get}
use Rattle.std.proofs.Common.{Some, refl, sym, ap, subst, ◌∙◌, ◌⊎◌, inl, inr, append_assoc, append-nil, length-append}
use Rattle.std.proofs.Common.{arith}
use Rattle.std.specs.List.{AllByRecursion}
use Rattle.std.proofs.lemmas.Option.{same_Some}
use Rattle.eve_grammar.specs.Trace.{Commit, Transfer, Step, Attempts, Commits, RollsBack, Transfers, Trace}
use Rattle.eve_grammar.specs.Spelling.{steps_of}
use Rattle.eve_history.specs.Section.{Placed, HowReached, ByAttempt, ByTransfer, Skipped, SectionState, start}
use Rattle.eve_history.specs.Section.{committing}
use Rattle.eve_history.specs.Section.{after_transfer, next, state_after}
use Rattle.eve_history.specs.SectionHistory.{history}
use Rattle.eve_attempts.specs.Ledgers.{Ledger}
use Rattle.eve_replica.specs.Sections.{RunPlan, MakesOf}
use Rattle.eve_replica.specs.Run.{IsSectionOf}
use Rattle.eve_chains.proofs.LinkedPaths.{none≢some}
use Rattle.eve_run_laws.proofs.LedgersAlike.{IsPlanOf, AreAlike}
use Rattle.eve_run_laws.proofs.SectionSteps.{kept_where}

-- ---- what was reached stays

-- the first numbers after steps were reached as before them
pub record KeepsReached (s end : SectionState) : Type 0 where
  pub more : List HowReached
  pub is : end.ways_reached ≡ s.ways_reached ++ more

committing_keeps : (s : SectionState) (pending : List Placed) (end : SectionState)
    → KeepsReached (committing s pending) end → KeepsReached s end
committing_keeps s [] end keeps = keeps
committing_keeps s (q ∷ pending) end keeps =
    record {
      more = ByAttempt q ∷ keeps.more;
      is = keeps.is
          ∙ append_assoc s.ways_reached (ByAttempt q ∷ []) keeps.more;
    }

pub reached_stays : (steps : List (ℕ × Step)) (s : SectionState) → KeepsReached s (state_after s steps)
reached_stays [] s = record { more = []; is = sym (append-nil s.ways_reached) }
reached_stays ((at, Attempts a) ∷ steps) s =
    let rest = reached_stays steps (next s (at, Attempts a)) in record { more = rest.more; is = rest.is }
reached_stays ((at, Commits c) ∷ steps) s =
    committing_keeps s s.pending (state_after (next s (at, Commits c)) steps)
    (reached_stays steps (next s (at, Commits c)))
reached_stays ((at, RollsBack r) ∷ steps) s =
    let rest = reached_stays steps (next s (at, RollsBack r)) in record { more = rest.more; is = rest.is }
reached_stays ((at, Transfers x) ∷ steps) s =
    let rest = reached_stays steps (next s (at, Transfers x)) in
    let transferred : List HowReached = replicate (x.seq - (s.last + 1)) Skipped ++ ByTransfer at x ∷ [] in
    record { more = transferred ++ rest.more; is = rest.is ∙ append_assoc s.ways_reached transferred rest.more }

-- ---- by which steps

-- a number was reached so by a step of its own, of which this holds
abbrev pub IsReachedBy : (Step → Type 0) → ℕ → HowReached → Type 0
IsReachedBy H n (ByAttempt q) = (c : Commit) × (c.seq ≡ n) × H (Commits c)
IsReachedBy H n (ByTransfer at x) = (x.seq ≡ n) × H (Transfers x)
IsReachedBy H n Skipped = ⊥

-- each number up to the last was
pub record AreReachedBy (H : Step → Type 0) (s : SectionState) : Type 0 where
  pub counted : s.last ≡ length s.ways_reached
  pub each : (k : ℕ) (l : HowReached) → slice_get s.ways_reached k ≡ Some l → IsReachedBy H (suc k) l

pub reached_first : (H : Step → Type 0) → AreReachedBy H start
reached_first H = record { counted = refl; each = λ k l at. none≢some l at }

pushed : (ls : List HowReached) (last : HowReached) (k : ℕ) (l : HowReached) → slice_get (ls ++ last ∷ []) k ≡ Some l
    → (slice_get ls k ≡ Some l) ⊎ ((length ls ≡ k) × (last ≡ l))
pushed [] last zero l at = inr (refl, same_Some last l at)
pushed [] last (suc k) l at = none≢some l at
pushed (m ∷ ls) last zero l at = inl at
pushed (m ∷ ls) last (suc k) l at =
    elim (pushed ls last k l at) [ inl there ↦ inl there | inr here ↦ inr (ap suc here.0, here.1) ]

-- one number more
one_more : (H : Step → Type 0) (s t : SectionState) (last : HowReached) → t.ways_reached ≡ s.ways_reached ++ last ∷ []
    → t.last ≡ s.last + 1 → IsReachedBy H (s.last + 1) last → AreReachedBy H s → AreReachedBy H t
one_more H s t last are number by reached = record {
  counted = let before = reached.counted in
      omega (arith, number, ap length are, length-append s.ways_reached (last ∷ []));
  each = λ k l at. elim (pushed s.ways_reached last k l
      (ap (λ (ls : List HowReached). slice_get ls k) (sym are) ∙ at)) [
        | inl there ↦ reached.each k l there
        | inr here ↦
            let own : s.last + 1 ≡ suc k = omega (arith, reached.counted, here.0) in
            subst (IsReachedBy H (suc k)) here.1 (subst (λ (n : ℕ). IsReachedBy H n last) own by)
      ];
}

reached_committing : (H : Step → Type 0) (s : SectionState) (c : Commit) (pending : List Placed) → c.seq ≡ s.last + 1
    → H (Commits c) → AreReachedBy H s → AreReachedBy H (committing s pending)
reached_committing H s c [] number holds reached = reached
reached_committing H s c (q ∷ pending) number holds reached =
    one_more H s (committing s (q ∷ pending)) (ByAttempt q) refl refl (c, number, holds) reached

-- no number before the state's own is left out
no_skips : (n at : ℕ) (x : Transfer) → n ≡ 0 → replicate n Skipped ++ ByTransfer at x ∷ [] ≡ ByTransfer at x ∷ []
no_skips n at x none = ap (λ (m : ℕ). replicate m Skipped ++ ByTransfer at x ∷ []) none

module _ (H : Step → Type 0) (p : RunPlan) (t : Trace) where
  pub reached_next : (s : SectionState) (old new : Ledger) (at : ℕ) (x : Step) → AreAlike t s old
      → MakesOf p x old new → H x → AreReachedBy H s → AreReachedBy H (next s (at, x))
  reached_next s old new at (Attempts a) alike made holds reached =
      record { counted = reached.counted; each = reached.each }
  reached_next s old new at (Commits c) alike made holds reached =
      let last = alike.last in
      reached_committing H s c s.pending (ap (λ (d : Commit). d.seq) made.commit ∙ omega arith) holds reached
  reached_next s old new at (RollsBack r) alike made holds reached =
      record { counted = reached.counted; each = reached.each }
  reached_next s old new at (Transfers x) alike made holds reached =
      let last = alike.last in
      let own : x.seq ≡ s.last + 1 = made.next ∙ omega arith in
      one_more H s (after_transfer s at x) (ByTransfer at x)
      (ap (λ (ls : List HowReached). s.ways_reached ++ ls) (no_skips (x.seq - (s.last + 1)) at x (omega arith))) own
      (own, holds) reached

  pub all_reached : IsPlanOf p t → All (IsSectionOf p) t.sections → (e : ℕ) → AllByRecursion H (steps_of t e)
      → AreReachedBy H (history t e)
  all_reached plan sections e all =
      kept_where p t plan sections H (AreReachedBy H) reached_next (reached_first H) e all
