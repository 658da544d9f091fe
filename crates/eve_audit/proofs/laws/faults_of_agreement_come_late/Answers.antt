use Rattle.eve_audit.proofs.Faultless.{Laws}
use Rattle.eve_audit.proofs.BeforeAgreement.{sound_to_agreement}
use Rattle.eve_audit.proofs.laws.faults_of_agreement_come_late.Goals as goal

pub returns : goal.returns
returns c = λ bytes t f is spells late.
    let laws : Laws = record {
      fit = c.requests_fit.ensures;
      only = c.fitting_records_are_of_what_they_saw.ensures;
      apart = c.requests_take_effect_once.ensures.apart;
      see = c.faults_tell_what_is_wrong.ensures.see;
      refuted = c.faults_tell_what_is_wrong.ensures.fit;
      sound = c.sound_attempts_fit_and_see.ensures.sound;
      right = c.right_sections_have_no_fault.ensures.right;
      votes = c.votes_without_faults_are_sound.ensures;
      voted = c.decided_commits_have_a_vote.ensures;
    } in
    sound_to_agreement laws bytes t f (c.spelled_parts_are_within_limits.ensures.within bytes t spells) spells is late
