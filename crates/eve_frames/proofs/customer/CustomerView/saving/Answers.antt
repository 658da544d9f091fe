use Rattle.std.proofs.Common.{◌∙◌}
use Rattle.eve_frames.proofs.CustomerPlaces.{customer_saving, customer_saved}
use Rattle.eve_frames.proofs.customer.CustomerView.saving.Goals as goal

pub cents_in-requires-clause-fits : goal.cents_in-requires-clause-fits
cents_in-requires-clause-fits c = customer_saved c.args.self.now.bytes.now c.name_end.result c.args.self.now.whole
    c.name_end.ensures

pub returns : goal.returns
returns c = c.cents_in.ensures ∙ customer_saving c.args.self.now.bytes.now c.name_end.result c.args.self.now.whole
    c.name_end.ensures
