use Rattle.std.proofs.Common.{sym, ap, ◌∙◌}
use Rattle.eve_grammar.specs.Trace.{Trace, head_of}
use Rattle.eve_grammar.specs.declared.head.Head.{Head}
use Rattle.eve_views.proofs.trace.Trace.customer_count.Goals as goal

pub returns : goal.returns
returns c = sym (ap (λ (h : Head). h.customers) c.self.invariant.head)
    ∙ ap (λ (t : Trace). (head_of t).customers) c.self.view_is
