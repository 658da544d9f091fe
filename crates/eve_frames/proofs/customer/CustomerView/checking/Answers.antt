use Rattle.std.proofs.Common.{◌∙◌}
use Rattle.eve_frames.proofs.CustomerPlaces.{customer_checking, customer_owed}
use Rattle.eve_frames.proofs.customer.CustomerView.checking.Goals as goal

pub cents_in-requires-clause-fits : goal.cents_in-requires-clause-fits
cents_in-requires-clause-fits c = customer_owed c.args.self.now.bytes.now c.name_end.result c.args.self.now.whole
    c.name_end.ensures

pub returns : goal.returns
returns c = c.cents_in.ensures ∙ customer_checking c.args.self.now.bytes.now c.name_end.result c.args.self.now.whole
    c.name_end.ensures
