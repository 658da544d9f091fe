use Rattle.std.proofs.Common.{◌≡◌, ap, subst, arith, length}
use Rattle.eve_grammar.specs.Trace.{head_of}
use Rattle.eve_grammar.proofs.Runs.{some_verifier}
use Rattle.eve_grammar.specs.declared.head.Head.{Head}
use Rattle.eve_grammar.proofs.Spelled.{limits_of_spelled}
use Rattle.eve_views.specs.HeldTraces.{IsHeldTrace}
use Rattle.eve_views.proofs.PartLaws.{few_replicas}
use Rattle.eve_views.proofs.IndexedParts.{section_starts, sections_stop}
use Rattle.eve_views.proofs.trace.Trace.section_from.Goals as goal

pub returns-then-e-self : goal.returns-then-e-self
returns-then-e-self c =
    let held = subst (IsHeldTrace c.self.inside.bytes.now c.self.inside.head c.self.inside.index)
    c.self.view_is
    c.self.invariant in
    let many : length c.args.self.now.sections ≡ c.self.inside.head.replicas = ap (λ (h : Head). h.replicas) held.head
    in
    section_starts c.args.self.now c.self.inside.index.starts c.args.e held.starts
    (omega (arith, many, c.if-e-self.true))

pub returns-else-e-self : goal.returns-else-e-self
returns-else-e-self c =
    let held = subst (IsHeldTrace c.self.inside.bytes.now c.self.inside.head c.self.inside.index)
    c.self.view_is
    c.self.invariant in
    let many : length c.args.self.now.sections ≡ c.self.inside.head.replicas = ap (λ (h : Head). h.replicas) held.head
    in
    sections_stop c.args.self.now c.self.inside.index.starts c.args.e held.starts
    (some_verifier (head_of c.args.self.now)
    (limits_of_spelled c.self.inside.bytes.now c.args.self.now held.spells).head)
    (omega (arith, many, c.requires, c.if-e-self.false))

pub bounds-self-inside-e : goal.bounds-self-inside-e
bounds-self-inside-e c =
    let held = subst (IsHeldTrace c.self.inside.bytes.now c.self.inside.head c.self.inside.index)
    c.self.view_is
    c.self.invariant in
    let many : length c.args.self.now.sections ≡ c.self.inside.head.replicas = ap (λ (h : Head). h.replicas) held.head
    in
    let few = few_replicas c.args.self.now (limits_of_spelled c.self.inside.bytes.now c.args.self.now held.spells) in
    omega (arith, many, few, c.if-e-self.true)
