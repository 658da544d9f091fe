-- What holds of each attempt among a section's steps holds of each that is settled.
use Rattle.std.proofs.Common.{◌≡◌, ℕ, ◌+◌, ◌-◌, ◌&&◌, ◌==◌, List, [], ◌∷◌, length}
use Rattle.std.proofs.Common.{IsTrue, sym, subst}
use Rattle.std.specs.Prelude.{⊤}
use Rattle.std.proofs.lemmas.Bool.{and_parts, eqb-true}
use Rattle.std.specs.List.{AllByRecursion, list_all}
use Rattle.eve_grammar.specs.Trace.{Attempt, Step, Attempts, Commits, RollsBack, Transfers, Trace, head_of}
use Rattle.eve_grammar.specs.Spelling.{steps_at}
use Rattle.eve_grammar.specs.Limits.{is_attempt, is_access, is_step, row_count, HasLimits}
use Rattle.eve_grammar.proofs.Lists.{all-append}
use Rattle.eve_history.specs.Section.{Placed, SectionState, start, attempts_by, path_of, committing, next, state_after}
use Rattle.eve_history.specs.Section.{settled}
use Rattle.eve_history.specs.Section.{request_count, is_due, is_right_attempt, is_right_certificate, are_right_accesses}
use Rattle.eve_history.specs.Section.{is_right, are_right}
use Rattle.eve_history.specs.SectionHistory.{history, IsRightSection}
use Rattle.eve_history.proofs.SectionSteps.{steps_fit}
use Rattle.eve_history.proofs.FateLaws.{attempts_by_push}
use Rattle.eve_chains.proofs.LinkedPaths.{attempts_transferring}

-- ---- of any fact on attempts

-- a fact about the attempt, where the step is one
abbrev pub IfAttempt : Step → (Attempt → Type 0) → Type 0
IfAttempt (Attempts a) P = P a
IfAttempt _ P = ⊤

record AreAll (P : Attempt → Type 0) (s : SectionState) : Type 0 where
  committed : AllByRecursion (λ p. P p.attempt) (attempts_by s.ways_reached)
  pending : AllByRecursion (λ p. P p.attempt) s.pending
  discarded : AllByRecursion (λ p. P p.attempt) s.discarded

all_committing : (P : Attempt → Type 0) (s : SectionState) (pending : List Placed)
    → AllByRecursion (λ p. P p.attempt) pending → AreAll P s → AreAll P (committing s pending)
all_committing P s [] all known = known
all_committing P s (p ∷ ps) all known =
    record {
      committed = subst (AllByRecursion (λ q. P q.attempt)) (sym (attempts_by_push s.ways_reached p))
          (all-append (λ q. P q.attempt) (attempts_by s.ways_reached) (p ∷ []) known.committed (all.0, tt));
      pending = all.1;
      discarded = known.discarded;
    }

all_next : (P : Attempt → Type 0) (s : SectionState) (step : ℕ × Step) → IfAttempt step.1 P → AreAll P s
    → AreAll P (next s step)
all_next P s (at, Attempts a) own known = record {
  committed = known.committed;
  pending = all-append (λ q. P q.attempt) s.pending (record { offset = at; attempt = a; path = path_of s } ∷ [])
      known.pending (own, tt);
  discarded = known.discarded;
}
all_next P s (at, Commits c) own known = all_committing P s s.pending known.pending known
all_next P s (at, RollsBack r) own known =
    record {
      committed = known.committed;
      pending = tt;
      discarded = all-append (λ q. P q.attempt) s.discarded s.pending
          known.discarded known.pending;
    }
all_next P s (at, Transfers x) own known =
    record {
      committed = subst (AllByRecursion (λ q. P q.attempt))
          (sym (attempts_transferring s.ways_reached (x.seq - (s.last + 1)) at x)) known.committed;
      pending = tt;
      discarded = all-append (λ q. P q.attempt) s.discarded s.pending known.discarded known.pending;
    }

all_after : (P : Attempt → Type 0) (s : SectionState) (steps : List (ℕ × Step))
    → AllByRecursion (λ step. IfAttempt step.1 P) steps → AreAll P s → AreAll P (state_after s steps)
all_after P s [] own known = known
all_after P s (step ∷ steps) own known = all_after P (next s step) steps own.1 (all_next P s step own.0 known)

all_settled : (t : Trace) (e : ℕ) (P : Attempt → Type 0) → AllByRecursion (λ step. IfAttempt step.1 P) (steps_at t e)
    → AllByRecursion (λ p. P p.attempt) (settled (history t e))
unfolding history
all_settled t e P own =
    let known = all_after P start (steps_at t e) own (record { committed = tt; pending = tt; discarded = tt }) in
    all-append (λ p. P p.attempt) (attempts_by (history t e).ways_reached) (history t e).discarded known.committed
    known.discarded

-- ---- right steps

-- what a right attempt is by itself
pub record IsRightAlone (t : Trace) (a : Attempt) : Type 0 where
  pub indexes : length a.certificate ≡ request_count t a
  pub certificate : IsTrue (is_right_certificate t a)
  pub accesses : IsTrue (are_right_accesses t a [] a.accesses)

right_step : (t : Trace) (s : SectionState) (step : Step) → IsTrue (is_right t s step) → IfAttempt step (IsRightAlone t)
right_step t s (Attempts a) right =
    let parts = and_parts (is_right_attempt t s a) (is_right_certificate t a && are_right_accesses t a [] a.accesses)
    right in
    let own = and_parts (is_right_certificate t a) (are_right_accesses t a [] a.accesses) parts.1 in
    record {
      indexes = eqb-true (length a.certificate) (request_count t a)
          (and_parts (is_due t s a) (length a.certificate == request_count t a) parts.0).1;
      certificate = own.0;
      accesses = own.1;
    }
right_step t s (Commits c) right = tt
right_step t s (RollsBack r) right = tt
right_step t s (Transfers x) right = tt

right_steps : (t : Trace) (s : SectionState) (steps : List (ℕ × Step)) → IsTrue (are_right t s steps)
    → AllByRecursion (λ step. IfAttempt step.1 (IsRightAlone t)) steps
right_steps t s [] right = tt
right_steps t s (step ∷ steps) right =
    let parts = and_parts (is_right t s step.1) (are_right t (next s step) steps) right in
    (right_step t s step.1 parts.0, right_steps t (next s step) steps parts.1)

pub settled_right : (t : Trace) (e : ℕ) → IsRightSection t e → AllByRecursion (λ p. IsRightAlone t p.attempt)
    (settled (history t e))
settled_right t e right = all_settled t e (IsRightAlone t) (right_steps t start (steps_at t e) right)

-- ---- within the limits

-- as many access records as the certificate has indexes
abbrev pub IsComplete : Attempt → Type 0
IsComplete a = length a.accesses ≡ length a.certificate

complete_step : (rows : ℕ) (step : Step) → IsTrue (is_step rows step) → IfAttempt step IsComplete
complete_step rows (Attempts a) h =
    eqb-true (length a.accesses) (length a.certificate)
    (and_parts (length a.accesses == length a.certificate) (list_all (is_access rows) a.accesses)
    (and_parts (is_attempt a) _ h).1).0
complete_step rows (Commits c) h = tt
complete_step rows (RollsBack r) h = tt
complete_step rows (Transfers x) h = tt

complete_steps : (rows : ℕ) (steps : List (ℕ × Step)) → IsTrue (list_all (λ x. is_step rows x.1) steps)
    → AllByRecursion (λ step. IfAttempt step.1 IsComplete) steps
complete_steps rows [] h = tt
complete_steps rows (step ∷ steps) h =
    let parts = and_parts (is_step rows step.1) (list_all (λ x. is_step rows x.1) steps) h in
    (complete_step rows step.1 parts.0, complete_steps rows steps parts.1)

complete_section : (t : Trace) (e : ℕ) → HasLimits t → AllByRecursion (λ step. IfAttempt step.1 IsComplete)
    (steps_at t e)
complete_section t e limits = complete_steps (row_count (head_of t)) (steps_at t e) (steps_fit t e limits)

pub settled_complete : (t : Trace) (e : ℕ) → HasLimits t
    → AllByRecursion (λ p. IsComplete p.attempt) (settled (history t e))
settled_complete t e limits = all_settled t e IsComplete (complete_section t e limits)
