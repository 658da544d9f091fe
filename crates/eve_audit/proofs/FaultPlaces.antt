-- Each fault that stands names the replica in whose section it lies, or none.
use Rattle.std.proofs.Common.{◌≡◌, ℕ, List, [], ◌∷◌, ◌++◌, None, Some, refl, ap, subst, ◌∙◌}
use Rattle.std.specs.Prelude.{IsTrue, IsFalse, ◌≢◌, Bool, true, false, ◌&&◌, ◌||◌, ◌==◌, nat_le}
use Rattle.eve_smallbank.specs.Access.{Fits}
use Rattle.eve_grammar.specs.Trace.{Access, Attempt, Step, Attempts, Commits, RollsBack, Transfers, Trace}
use Rattle.eve_grammar.specs.Spelling.{accesses_at}
use Rattle.eve_views.specs.Code.{phase_of}
use Rattle.eve_views.specs.declared.fault.Code.{Code}
use Rattle.eve_views.specs.declared.fault.Code.TheVariants as code
use Rattle.eve_views.specs.declared.fault.Fault.{Fault}
use Rattle.eve_grammar.specs.Accesses.{is_right_place}
use Rattle.eve_grammar.specs.FrameOrder.{Spells}
use Rattle.eve_history.specs.Section.{Placed, SectionState, start, state_after, settled, is_right_attempt}
use Rattle.eve_history.specs.Section.{is_right_certificate, is_right_access, is_right_commit, is_right_rollback}
use Rattle.eve_history.specs.Section.{is_right_transfer, are_right_accesses}
use Rattle.eve_history.specs.SectionHistory.{history, committed_at, names_of}
use Rattle.eve_views.specs.Form.{SomePlace}
use Rattle.eve_history.specs.Structure.{accesses_of, OfAttempt, OfCommit, OfRollback, OfTransfer, AtStep}
use Rattle.eve_history.specs.Structure.{AtAccess, StandsInStructure}
use Rattle.eve_chains.specs.Visible.{executed_by, visible_to}
use Rattle.eve_chains.specs.Faults.{AtSettledAccess, StandsInRecords, StandsInChains}
use Rattle.eve_agree.specs.Restores.{StandsInRestores}
use Rattle.eve_agree.specs.DueTokens.{StandsInTokens}
use Rattle.eve_agree.specs.Majority.{StandsInMajorities}
use Rattle.eve_agree.specs.Agreement.{StandsInAgreement}
use Rattle.eve_audit.specs.Verdict.{Stands, in_form, in_trace, IsTraceFault, in_orders, in_section, in_common, of_votes}
use Rattle.eve_audit.specs.Verdict.{of_majorities, of_agreement, of_replies, IsOwnFault, of_structure, of_records}
use Rattle.eve_audit.specs.Verdict.{of_chains, of_restores, of_tokens}
use Rattle.eve_audit.proofs.Sections.{LiesIn, IsLaidOut}
use Rattle.eve_audit.proofs.Phases.{form_phase, order_phase, structure_phase, record_phase, chain_phase, restore_phase}
use Rattle.eve_audit.proofs.Phases.{token_phase, vote_phase, majority_phase, outcome_phase, reply_phase}
use Rattle.eve_history.specs.inner.AmongSteps.{IsStepOf}
use Rattle.eve_audit.proofs.SectionPlaces.{at_place, step_in, step_of, access_in, access_of}

module _ (t : Trace) (laid : IsLaidOut t) (e : ℕ) where
  at_step : (at : ℕ) (P : SectionState → Step → Type 0) → AtStep t e at P
      → LiesIn t e at
  at_step at P place = subst (LiesIn t e) place.holds.1.0
      (step_in t laid.parts e place.before place.item place.rest place.is)

  at_access : (at : ℕ) (P : Attempt → List Access → Access → Type 0)
      → AtAccess t e at P → LiesIn t e at
  at_access at P place = by place.item.1 refl place.holds.1
    where
      by : (step : Step) → place.item.1 ≡ step
          → OfAttempt step (λ a. IsTrue (is_right_attempt t (state_after start place.before) a)
          × IsTrue (is_right_certificate t a)
          × SomePlace (accesses_at place.item.0 a) (λ before x. IsTrue (are_right_accesses t a [] (accesses_of before))
          × ((x.0 ≡ at) × P a (accesses_of before) x.1)))
          → LiesIn t e at
      by (Attempts a) is h = subst (LiesIn t e) h.2.holds.1.0
          (access_in t laid.parts e place.before place.item.0 a place.rest
          (place.is
          ∙ ap (λ (s : Step). place.before ++ (place.item.0, s) ∷ place.rest) is) h.2.before h.2.item h.2.rest h.2.is)
      by (Commits c) is h = absurd h
      by (RollsBack r) is h = absurd h
      by (Transfers x) is h = absurd h

  pub structure_lies : (c : Code) (at : ℕ) → StandsInStructure c t e at → LiesIn t e at
  structure_lies code.Attempt at stands = at_step at (λ s step. OfAttempt step (λ a. IsFalse (is_right_attempt t s a)))
      stands
  structure_lies code.Certificate at stands =
      at_step at (λ s step. OfAttempt step (λ a. IsFalse (is_right_certificate t a))) stands
  structure_lies code.Access at stands = at_access at (λ a before x. IsFalse (is_right_access t a before x)) stands
  structure_lies code.WorkerOrder at stands = at_access at (λ a before x. IsFalse (is_right_place before x)) stands
  structure_lies code.Commit at stands = at_step at (λ s step. OfCommit step (λ d. IsFalse (is_right_commit s d)))
      stands
  structure_lies code.Rollback at stands =
      at_step at (λ s step. OfRollback step (λ r. IsFalse (is_right_rollback t s r))) stands
  structure_lies code.Transfer at stands =
      at_step at (λ s step. OfTransfer step (λ x. IsFalse (is_right_transfer t s x))) stands
  structure_lies c at stands = absurd stands

  pub restore_lies : (c : Code) (at : ℕ) → StandsInRestores c t e at → LiesIn t e at
  restore_lies code.Restore at stands =
      subst (LiesIn t e) stands.holds.0 (step_in t laid.parts e stands.before stands.item stands.rest stands.is)
  restore_lies c at stands = absurd stands

  pub majority_lies : (c : Code) (at : ℕ) → StandsInMajorities c t e at → LiesIn t e at
  majority_lies code.NoMajority at stands =
      subst (LiesIn t e) stands.holds.0 (step_in t laid.parts e stands.before stands.item stands.rest stands.is)
  majority_lies code.RollbackNoMajority at stands =
      subst (LiesIn t e) stands.holds.0 (step_in t laid.parts e stands.before stands.item stands.rest stands.is)
  majority_lies code.TransferNoMajority at stands =
      subst (LiesIn t e) stands.holds.0 (step_in t laid.parts e stands.before stands.item stands.rest stands.is)
  majority_lies c at stands = absurd stands

  at_settled : (at : ℕ) (P : Placed → Access → Type 0) → AtSettledAccess t e at P → LiesIn t e at
  at_settled at P place = subst (LiesIn t e) place.holds.holds.0
      (access_of t laid.parts e place.item.offset place.item.attempt
      (at_place (λ (p : Placed). IsStepOf t e p.offset (Attempts p.attempt)) (settled (history t e)) place.before
      place.item place.rest place.is (laid.each_settled e))
      place.holds.before place.holds.item place.holds.rest place.holds.is)

  -- where an attempt that was committed stands
  committed_lies : (n : ℕ) (p : Placed) → committed_at t e n ≡ Some p → LiesIn t e p.offset
  committed_lies n p at = step_of t laid.parts e p.offset (Attempts p.attempt) (laid.committed e n p at)

  pub record_lies : (c : Code) (at : ℕ) → StandsInRecords c t e at → LiesIn t e at
  record_lies code.Record at stands = at_settled at (λ p x. ¬ Fits (names_of t) (executed_by t p.attempt x)) stands
  record_lies c at stands = absurd stands

  pub chain_lies : (c : Code) (at : ℕ) → StandsInChains c t e at → LiesIn t e at
  chain_lies code.Version at stands =
      at_settled at (λ p x. SomePlace x.entries (λ _ y. y.version ≢ (visible_to t p x.index y.row).version)) stands
  chain_lies code.Value at stands =
      at_settled at (λ p x. SomePlace x.entries (λ _ y. y.seen ≢ (visible_to t p x.index y.row).value)) stands
  chain_lies c at stands = absurd stands

  pub token_lies : (c : Code) (at : ℕ) → StandsInTokens c t e at → LiesIn t e at
  token_lies code.Token at stands =
      subst (LiesIn t e) stands.offset (committed_lies stands.n stands.item stands.is)
  token_lies c at stands = absurd stands

  pub outcome_lies : (c : Code) (at : ℕ) → StandsInAgreement c t e at → LiesIn t e at
  outcome_lies code.Outcome at stands =
      subst (LiesIn t e) stands.offset (committed_lies stands.n stands.item stands.is)
  outcome_lies code.TransferBalances at stands =
      step_of t laid.parts e at (Transfers stands.state) (laid.transferred e stands.n at stands.state stands.is)
  outcome_lies c at stands = absurd stands

-- whether the faults of a phase lie in sections
abbrev pub is_inside : ℕ → Bool
is_inside phase = (nat_le 3 phase && nat_le phase 7) || ((phase == 9) || (phase == 10))

-- the fault names no replica, or the one in whose section it lies; and the phase says which
pub data IsPlaced (bytes : List ℕ) (f : Fault) : Type 0 where
  outside : f.replica ≡ None → is_inside (phase_of f.code) ≡ false → IsPlaced bytes f
  inside : (t : Trace) (e : ℕ) → Spells bytes t → f.replica ≡ Some e → LiesIn t e f.offset → is_inside (phase_of f.code)
      ≡ true → IsPlaced bytes f

module _ (laid : (t : Trace) → IsLaidOut t) (bytes : List ℕ) (f : Fault) where
  own_placed : (t : Trace) (e : ℕ) → Spells bytes t → IsOwnFault t e f → IsPlaced bytes f
  own_placed t e spells (of_structure is) =
      inside t e spells is.inside (structure_lies t (laid t) e f.code f.offset is.stands)
      (ap is_inside (structure_phase t e f is))
  own_placed t e spells (of_records is) =
      inside t e spells is.inside (record_lies t (laid t) e f.code f.offset is.stands)
      (ap is_inside (record_phase t e f is))
  own_placed t e spells (of_chains is) =
      inside t e spells is.inside (chain_lies t (laid t) e f.code f.offset is.stands)
      (ap is_inside (chain_phase t e f is))
  own_placed t e spells (of_restores is) =
      inside t e spells is.inside (restore_lies t (laid t) e f.code f.offset is.stands)
      (ap is_inside (restore_phase t e f is))
  own_placed t e spells (of_tokens is) =
      inside t e spells is.inside (token_lies t (laid t) e f.code f.offset is.stands)
      (ap is_inside (token_phase t e f is))

  trace_placed : (t : Trace) → Spells bytes t → IsTraceFault t f → IsPlaced bytes f
  trace_placed t spells (in_orders is) = outside is.outside (ap is_inside (order_phase t f is))
  trace_placed t spells (in_section below) = own_placed t below.0 spells below.2
  trace_placed t spells (in_common (of_votes is)) = outside is.outside (ap is_inside (vote_phase t f is))
  trace_placed t spells (in_common (of_majorities is)) = inside t is.0 spells is.1.inside
      (majority_lies t (laid t) is.0 f.code f.offset is.1.stands) (ap is_inside (majority_phase t f is))
  trace_placed t spells (in_common (of_agreement is)) = inside t is.0 spells is.1.inside
      (outcome_lies t (laid t) is.0 f.code f.offset is.1.stands) (ap is_inside (outcome_phase t f is))
  trace_placed t spells (in_common (of_replies is)) = outside is.outside (ap is_inside (reply_phase t f is))

  pub placed : Stands bytes f → IsPlaced bytes f
  placed (in_form is) = outside is.outside (ap is_inside (form_phase bytes f is))
  placed (in_trace t spells is) = trace_placed t spells is
