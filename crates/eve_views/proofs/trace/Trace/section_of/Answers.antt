use Rattle.std.proofs.Common.{◌≡◌, ◌+◌, nat_le, nat_lt, length, sym, ap, ◌∙◌, arith}
use Rattle.std.proofs.lemmas.Bool.{and_from, le-leb, lt-ltb}
use Rattle.eve_grammar.specs.Trace.{Trace, head_of}
use Rattle.eve_grammar.specs.Spelling.{section_start}
use Rattle.eve_grammar.specs.declared.head.Head.{Head}
use Rattle.eve_views.proofs.trace.Trace.section_of.Goals as goal

pub returns-then-offset-section_begins-clause-inside : goal.returns-then-offset-section_begins-clause-inside
returns-then-offset-section_begins-clause-inside c =
    let t = c.args.self.now in
    let e = c.sections.e in
    let offset = c.args.offset in
    let count : c.self.inside.head.replicas ≡ length t.sections =
    sym (ap (λ (h : Head). h.replicas) c.self.invariant.head) ∙ ap (λ (t : Trace). (head_of t).replicas) c.self.view_is
    in (
      omega arith,
      and_from (nat_le (section_start t e) offset) (nat_lt offset (section_start t (e + 1)))
          (le-leb (section_start t e) offset (omega arith))
          (lt-ltb offset (section_start t (e + 1)) (omega arith)),
    )
