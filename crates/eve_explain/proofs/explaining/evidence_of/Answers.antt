use Rattle.std.proofs.Common.{subst}
use Rattle.std.proofs.lemmas.Result.{IfOk-weaker}
use Rattle.eve_grammar.specs.Trace.{Trace}
use Rattle.eve_grammar.specs.FrameOrder.{Spells}
use Rattle.eve_views.specs.Form.{IfFound}
use Rattle.eve_views.specs.declared.fault.CheckFault.{CheckFault}
use Rattle.eve_explain.specs.Explained.{IsEvidence, IsEvidenceOf}
use Rattle.eve_explain.proofs.FirstFault.{least_in_form}
use Rattle.eve_explain.proofs.explaining.evidence_of.Goals as goal

pub returns-in-Ok : goal.returns-in-Ok
returns-in-Ok g c =
    IfOk-weaker c.evidence_in.result (IsEvidence c.in-Ok.trace c.args.fault.now)
    (IsEvidenceOf c.args.bytes.now c.args.fault.now)
    (λ x told. record {
      in_trace = λ t spelled. subst (λ (u : Trace). IsEvidence u c.args.fault.now x)
          (c.bytes_spell_one_trace.ensures c.args.bytes.now c.in-Ok.trace t c.in-Ok.ensures.trace spelled) told;
      in_form = λ none. absurd (none c.in-Ok.trace c.in-Ok.ensures.trace);
    })
    c.evidence_in.ensures

pub form_evidence-requires : goal.form_evidence-requires
form_evidence-requires g c =
    let NoTrace : CheckFault → Type 0 = λ why. IfFound why (λ found. (t : Trace) → ¬ Spells c.args.bytes.now t) in
    least_in_form c.args.bytes.now c.args.fault.now c.requires.first
    (subst NoTrace c.in-Err-Found.field-0-is c.in-Err-Found.ensures.no_trace)
