-- How many customers there are.
use Rattle.std.proofs.Common.{◌≡◌, length}
use Rattle.eve_grammar.specs.Trace.{Trace}
use Rattle.eve_grammar.specs.Spelling.{customer_text, customers_at}
use Rattle.eve_views.proofs.FrameOffsets.{length-located}

pub customer_count : (t : Trace) → length (customers_at t) ≡ length t.customers
unfolding customers_at
customer_count t = length-located customer_text 32 t.customers
