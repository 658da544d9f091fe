use Rattle.std.proofs.Common.{rules}
use Rattle.eve_grammar.specs.Readers.{customer_of}
use Rattle.eve_grammar.proofs.customer.is_customer_body.Goals as goal

pub returns : goal.returns
unfolding customer_of
returns c = search rules
