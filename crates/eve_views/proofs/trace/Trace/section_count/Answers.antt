use Rattle.std.proofs.Common.{sym, ap, ◌∙◌}
use Rattle.eve_grammar.specs.Trace.{Trace, head_of}
use Rattle.eve_grammar.specs.declared.head.Head.{Head}
use Rattle.eve_views.proofs.trace.Trace.section_count.Goals as goal

pub returns : goal.returns
returns c = sym (ap (λ (h : Head). h.replicas) c.self.invariant.head)
    ∙ ap (λ (t : Trace). (head_of t).replicas) c.self.view_is
