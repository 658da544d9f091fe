-- As the verdict, a fault of an outcome shows a collision, in whatever trace.
use Rattle.std.proofs.Common.{◌≡◌, ℕ, List, subst, ap, arith}
use Rattle.eve_grammar.specs.Trace.{Trace}
use Rattle.eve_grammar.specs.Limits.{HasLimits}
use Rattle.eve_grammar.specs.FrameOrder.{Spells}
use Rattle.eve_views.specs.Code.{phase_of}
use Rattle.eve_views.specs.Form.{StandsInForm}
use Rattle.eve_views.specs.declared.fault.Code.{Code}
use Rattle.eve_views.specs.declared.fault.Code.TheVariants as code
use Rattle.eve_views.specs.declared.fault.Fault.{Fault}
use Rattle.eve_history.specs.Order.{StandsInOrders}
use Rattle.eve_votes.specs.Faults.{StandsInVotes}
use Rattle.eve_agree.specs.Agreement.{StandsInAgreement}
use Rattle.eve_agree.specs.Majority.{StandsInMajorities}
use Rattle.eve_agree.specs.SentReplies.{StandsInReplies}
use Rattle.eve_audit.specs.Verdict.{Stands, in_form, in_trace, IsTraceFault, in_orders, in_section, in_common}
use Rattle.eve_audit.specs.Verdict.{of_votes, of_majorities, of_agreement, of_replies}
use Rattle.eve_audit.specs.Reports.{IsSoundToAgreement}
use Rattle.eve_audit.proofs.FirstFaults.{own_phase}
use Rattle.eve_run_laws.specs.Collision.{Collides}
use Rattle.eve_run_laws.proofs.Agreement.{outcome_fault_collides}

module _ (bytes : List ℕ) (t : Trace) (f : Fault) (once : (u : Trace) → Spells bytes u → u ≡ t)
    (outcome : f.code ≡ code.Outcome) (limits : HasLimits t) (sound : IsSoundToAgreement t) where
  in_this_trace : IsTraceFault t f → Collides t
  in_this_trace (in_orders is) = absurd (subst (λ (c : Code). StandsInOrders c t f.offset) outcome is.stands)
  in_this_trace (in_section is) =
      let late : phase_of f.code ≡ 10 = ap phase_of outcome in
      let early = own_phase t is.0 f is.2 in
      absurd (omega (arith, late, early.1))
  in_this_trace (in_common (of_votes is)) =
      absurd (subst (λ (c : Code). StandsInVotes c t f.offset) outcome is.stands)
  in_this_trace (in_common (of_majorities is)) =
      absurd (subst (λ (c : Code). StandsInMajorities c t is.0 f.offset) outcome is.1.stands)
  in_this_trace (in_common (of_agreement is)) =
      outcome_fault_collides t limits (λ e. (sound.replicas e).right) (λ e. (sound.replicas e).tokens) sound.votes
      sound.backed f is.0
      (subst (λ (c : Code). StandsInAgreement c t is.0 f.offset) outcome is.1.stands)
  in_this_trace (in_common (of_replies is)) =
      absurd (subst (λ (c : Code). StandsInReplies c t f.offset) outcome is.stands)

  pub standing_outcome_collides : Stands bytes f → Collides t
  standing_outcome_collides (in_form is) =
      absurd (subst (λ (c : Code). StandsInForm c bytes f.offset) outcome is.stands)
  standing_outcome_collides (in_trace u other is) =
      in_this_trace (subst (λ (v : Trace). IsTraceFault v f) (once u other) is)
