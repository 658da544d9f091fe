-- Where the first fault is one of agreement, none of an earlier phase stands.
use Rattle.std.proofs.Common.{◌≡◌, ℕ, ◌<◌, inl, inr, List, length, arith}
use Rattle.eve_grammar.specs.Trace.{Trace}
use Rattle.eve_grammar.specs.Limits.{HasLimits}
use Rattle.eve_grammar.specs.FrameOrder.{Spells}
use Rattle.eve_views.specs.Code.{phase_of}
use Rattle.eve_views.specs.Form.{HasNone, Precedes}
use Rattle.eve_views.specs.declared.fault.Fault.{Fault}
use Rattle.eve_audit.specs.Verdict.{IsFirst, in_trace, IsOwnFault, IsTraceFault, in_section, in_common}
use Rattle.eve_audit.specs.Verdict.{of_votes, of_majorities}
use Rattle.eve_audit.specs.Reports.{IsSoundToAgreement}
use Rattle.eve_audit.proofs.Phases.{vote_phase, majority_phase}
use Rattle.eve_audit.proofs.FirstFaults.{own_phase}
use Rattle.eve_audit.proofs.Faultless.{Laws, all_sound, votes_hold, steps_backed}

module _ (laws : Laws) (bytes : List ℕ) (t : Trace) (f : Fault) (limits : HasLimits t) (spells : Spells bytes t)
    (first : IsFirst bytes f) (late : phase_of f.code ≡ 10) where
  none_before : (g : Fault) → IsTraceFault t g → phase_of g.code < 10 → ⊥
  none_before g is before = after (first.first g (in_trace t spells is))
    where
      after : Precedes f g → ⊥
      after (inl later) = omega (arith, before, late, later)
      after (inr same) = let alike = same.0 in omega (arith, before, late, alike)

  own_none : (e : ℕ) → e < length t.sections → HasNone (IsOwnFault t e)
  own_none e lt g is =
      let phase = own_phase t e g is in none_before g (in_section (e, lt, is)) (omega (arith, phase.1))

  pub sound_to_agreement : IsSoundToAgreement t
  sound_to_agreement = record {
    replicas = all_sound laws t limits own_none;
    votes = votes_hold laws t limits (λ g is.
        (let phase = vote_phase t g is in none_before g (in_common (of_votes is)) (omega (arith, phase))));
    backed = steps_backed laws t limits (λ g is.
        (let phase = majority_phase t g is in none_before g (in_common (of_majorities is)) (omega (arith, phase))));
  }
