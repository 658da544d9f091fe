-- The opening balances.
use Rattle.std.proofs.Common.{◌≡◌, ℕ, Some}
use Rattle.std.specs.Prelude.{slice_get}
use Rattle.eve_grammar.specs.Trace.{Customer, Trace}
use Rattle.eve_grammar.specs.Spelling.{customer_text, customers_at}
use Rattle.eve_views.proofs.FrameOffsets.{located_get}

pub customer_there : (t : Trace) (i o : ℕ) (c : Customer) → slice_get (customers_at t) i ≡ Some (o, c)
    → slice_get t.customers i ≡ Some c
unfolding customers_at
customer_there t i o c e = located_get customer_text 32 t.customers i (o, c) e
