use Rattle.std.proofs.Common.{subst}
use Rattle.eve_audit.specs.Audited.{IsAudited}
use Rattle.eve_audit.specs.Verdict.{SpellsAudited}
use Rattle.eve_audit.proofs.Faultless.{Laws, yes_audited}
use Rattle.eve_audit.proofs.laws.a_yes_is_audited.Goals as goal

pub returns-clause-spelled : goal.returns-clause-spelled
returns-clause-spelled c =
    let laws : Laws = record {
      fit = c.requests_fit.ensures;
      only = c.fitting_records_are_of_what_they_saw.ensures;
      apart = c.requests_take_effect_once.ensures.apart;
      see = c.faults_tell_what_is_wrong.ensures.see;
      refuted = c.faults_tell_what_is_wrong.ensures.fit;
      sound = c.sound_attempts_fit_and_see.ensures.sound;
      right = c.right_sections_have_no_fault.ensures.right;
      votes = c.votes_without_faults_are_sound.ensures;
      voted = c.decided_commits_have_a_vote.ensures;
    } in
    yes_audited laws c.spelled_parts_are_within_limits.ensures.within c.accepted_traces_are_audited.ensures
    c.bytes_spell_one_trace.ensures

pub returns-clause-audited : goal.returns-clause-audited
returns-clause-audited c = λ bytes s t is spells.
    let yes : SpellsAudited bytes = returns-clause-spelled c bytes s is in
    subst IsAudited (c.bytes_spell_one_trace.ensures bytes yes.0 t yes.1 spells) yes.2
