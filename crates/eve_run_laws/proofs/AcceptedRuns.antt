-- What a run left has no fault, or shows two messages with one hash.
use Rattle.std.proofs.Common.{◌≡◌, ℕ, List, ap, subst, ◌∙◌, inl, inr, ◌⊎◌}
use Rattle.std.specs.Prelude.{IsPermutation}
use Rattle.eve_grammar.specs.Trace.{Asked, Step, Trace}
use Rattle.eve_grammar.specs.Limits.{HasLimits}
use Rattle.eve_grammar.specs.Spelling.{steps_at}
use Rattle.eve_grammar.specs.FrameOrder.{Spells}
use Rattle.eve_views.specs.declared.fault.Fault.{Fault}
use Rattle.eve_views.specs.Form.{StandsInForm, IsFaultSomewhere, IsFaultOutside}
use Rattle.eve_history.specs.Section.{SectionState, start, next}
use Rattle.eve_history.specs.SectionHistory.{IsRightSection}
use Rattle.eve_chains.specs.Sound.{SettledAreSound}
use Rattle.eve_chains.specs.Faults.{HasNoFault}
use Rattle.eve_votes.specs.Faults.{AreVotesSound}
use Rattle.eve_agree.specs.Tables.{RestoresAreRight}
use Rattle.eve_agree.specs.DueTokens.{TokensAreDue}
use Rattle.eve_agree.specs.Majority.{AllAreBacked}
use Rattle.eve_agree.specs.SentReplies.{AllReplied}
use Rattle.eve_agree.proofs.RestoresInOrder.{faultless}
use Rattle.eve_agree.proofs.RepliesSent.{no_fault}
use Rattle.eve_agree.proofs.TokensInOrder.{no_token_fault}
use Rattle.eve_agree.specs.Agreement.{StandsInAgreement}
use Rattle.eve_workload.specs.declared.mixer.Mixer.{Mixer}
use Rattle.eve_workload.specs.Mixers.{cut, batch_with}
use Rattle.eve_workload.specs.Workload.{Workload, IsWorkload}
use Rattle.eve_attempts.specs.Ledgers.{Ledger}
use Rattle.eve_replica.specs.Sections.{RunPlan, MakesOf}
use Rattle.eve_replica.specs.Run.{IsTraceOf, run_plan}
use Rattle.eve_audit.specs.Audited.{IsAudited}
use Rattle.eve_audit.specs.declared.verdict.Summary.{Summary}
use Rattle.eve_audit.specs.declared.verdict.Verdict.{Verdict}
use Rattle.eve_audit.specs.declared.verdict.Verdict.TheVariants.{Yes, No}
use Rattle.eve_audit.specs.Verdict.{IsVerdict, IsOwnFault, of_structure, of_records, of_chains, of_restores, of_tokens}
use Rattle.eve_audit.specs.Verdict.{IsCommonFault, of_votes, of_majorities, of_agreement, of_replies, IsTraceFault}
use Rattle.eve_audit.specs.Verdict.{in_orders, in_section, in_common, Stands, in_form, in_trace}
use Rattle.eve_tool.specs.Audit.{Audits}
use Rattle.eve_tool.specs.Lines.{status_of_verdict}
use Rattle.eve_run_laws.specs.Collision.{Collides}
use Rattle.eve_run_laws.proofs.LedgersAlike.{IsPlanOf, AreAlike}
use Rattle.eve_run_laws.proofs.RightSteps.{alike_first, step_alike}
use Rattle.eve_run_laws.proofs.SectionSteps.{goes, kept}
use Rattle.eve_run_laws.proofs.StatesTransferred.{states_of_first}
use Rattle.eve_run_laws.proofs.SoundAttempts.{AreSoundSoFar, sound_next, sound_first, settled_sound}
use Rattle.eve_run_laws.proofs.Restores.{restores_along}
use Rattle.eve_run_laws.proofs.RightRuns.{plan_of, sections_right, sections_due}
use Rattle.eve_run_laws.proofs.Votes.{votes_sound, all_backed}
use Rattle.eve_run_laws.proofs.SentReplies.{all_replied}
use Rattle.eve_run_laws.proofs.OrdersRight.{no_order_fault}
use Rattle.eve_run_laws.proofs.RefutedFaults.{no_structure_fault, no_vote_fault, no_majority_fault}
use Rattle.eve_run_laws.proofs.Agreement.{outcome_collides}

-- with what is known of cuts and of sound sections
module _ (cuts : (names : List (List ℕ)) → (m : Mixer) → (requests : List Asked)
    → IsPermutation requests (batch_with (cut names m requests)).requests)
    (faultless_where_sound : (t : Trace) (e : ℕ) → IsRightSection t e → SettledAreSound t e → HasNoFault t e)
    (w : Workload) (mixer : Mixer) (t : Trace) (asked : IsWorkload w) (run : IsTraceOf w mixer t)
    (limits : HasLimits t) where
  abbrev p : RunPlan
  p = run_plan w mixer

  plan : IsPlanOf p t
  plan = plan_of w mixer t run

  alike : (s : SectionState) (old new : Ledger) (at : ℕ) (x : Step) → AreAlike t s old → MakesOf p x old new
      → AreAlike t (next s (at, x)) new
  alike = step_alike p t plan

  right : (e : ℕ) → IsRightSection t e
  right = sections_right w mixer t run

  sound : (e : ℕ) → SettledAreSound t e
  sound e = settled_sound t e (kept p t plan run.sections (AreSoundSoFar t) (sound_next p t plan) (sound_first t) e)

  restores : (e : ℕ) → RestoresAreRight t e
  restores e =
      let way = goes p t plan run.sections e in
      restores_along p t alike (steps_at t e) start p.first way.0 way.1 (alike_first p t plan)

  due : (e : ℕ) → TokensAreDue t e
  due = sections_due w mixer t run

  own_faultless : (e : ℕ) (f : Fault) → ¬ IsOwnFault t e f
  own_faultless e f (of_structure is) = no_structure_fault t e (right e) f is
  own_faultless e f (of_records is) = (faultless_where_sound t e (right e) (sound e)).records f is
  own_faultless e f (of_chains is) = (faultless_where_sound t e (right e) (sound e)).chains f is
  own_faultless e f (of_restores is) = faultless t e (restores e) f is
  own_faultless e f (of_tokens is) = no_token_fault t e (due e) f is

  votes : AreVotesSound t
  votes = votes_sound w mixer t run limits

  backed : AllAreBacked t
  backed = all_backed w mixer t run limits

  replied : AllReplied t
  replied = all_replied w mixer t run right

  common_collides : (f : Fault) → IsCommonFault t f → IsFaultSomewhere StandsInAgreement t f × Collides t
  common_collides f (of_votes is) = absurd (no_vote_fault t votes f is)
  common_collides f (of_majorities is) = absurd (no_majority_fault t backed f is)
  common_collides f (of_agreement is) = (
    is,
    outcome_collides t limits right due votes backed (states_of_first p t plan run.sections run.transferred) f
        is,
  )
  common_collides f (of_replies is) = absurd (no_fault t replied f is)

  pub fault_collides : (f : Fault) → IsTraceFault t f → IsFaultSomewhere StandsInAgreement t f × Collides t
  fault_collides f (in_orders is) =
      absurd (no_order_fault w mixer t asked run.customers run.batches cuts f is)
  fault_collides f (in_section is) = absurd (own_faultless is.0 f is.2)
  fault_collides f (in_common is) = common_collides f is

-- the verdict on bytes that spell a trace each of whose faults is a collision
module _ (bytes : List ℕ) (t : Trace) (collides : (f : Fault) → IsTraceFault t f → Collides t)
    (once : (u : Trace) → Spells bytes u → u ≡ t) (formed : (f : Fault) → ¬ IsFaultOutside StandsInForm bytes f) where
  standing_collides : (f : Fault) → Stands bytes f → Collides t
  standing_collides f (in_form is) = absurd (formed f is)
  standing_collides f (in_trace u other is) =
      collides f (subst (λ (v : Trace). IsTraceFault v f) (once u other) is)

  pub accepted : (v : Verdict) → IsVerdict bytes v → ((s : Summary) × IsVerdict bytes (Yes s)) ⊎ Collides t
  accepted (Yes s) is = inl (s, is)
  accepted (No f) is = inr (standing_collides f is.stands)

-- what a yes says of it
pub audited : (bytes : List ℕ) (t : Trace) → ((s : Summary) → IsVerdict bytes (Yes s) → IsAudited t)
    → ((s : Summary) × IsVerdict bytes (Yes s)) ⊎ Collides t → IsAudited t ⊎ Collides t
audited bytes t says (inl found) = inl (says found.0 found.1)
audited bytes t says (inr collision) = inr collision

-- what the program says of such bytes
pub ends_well : (bytes line : List ℕ) (ended : ℕ) (t : Trace) → Audits bytes line ended
    → ((bytes : List ℕ) (v w : Verdict) → IsVerdict bytes v → IsVerdict bytes w → v ≡ w)
    → ((s : Summary) × IsVerdict bytes (Yes s)) ⊎ Collides t → (ended ≡ 0) ⊎ Collides t
ends_well bytes line ended t audit unique (inl found) =
    inl (audit.ends ∙ ap status_of_verdict (unique bytes audit.verdict (Yes found.0) audit.is found.1))
ends_well bytes line ended t audit unique (inr collision) = inr collision
