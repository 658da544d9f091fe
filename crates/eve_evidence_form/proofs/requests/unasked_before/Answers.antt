use Rattle.eve_evidence_form.proofs.UnaskedIds.{unasked_left}
use Rattle.eve_evidence_form.proofs.requests.unasked_before.Goals as goal

pub returns : goal.returns
returns c = unasked_left _ _ c.in_ok-ids.ids c.take_out_before.new.ids c.in_ok-ids.ensures c.take_out_before.ensures
