use Rattle.std.proofs.Common.{◌≡◌, ap, subst, arith, length}
use Rattle.eve_grammar.specs.declared.head.Head.{Head}
use Rattle.eve_views.specs.HeldTraces.{IsHeldTrace}
use Rattle.eve_grammar.proofs.Spelled.{limits_of_spelled}
use Rattle.eve_views.proofs.PartLaws.{few_verifiers}
use Rattle.eve_views.proofs.IndexedParts.{verifier_starts, verifiers_stop}
use Rattle.eve_views.proofs.trace.Trace.verifier_from.Goals as goal

pub returns-then-v-self : goal.returns-then-v-self
returns-then-v-self c =
    let held = subst (IsHeldTrace c.self.inside.bytes.now c.self.inside.head c.self.inside.index)
    c.self.view_is
    c.self.invariant in
    let many : length c.args.self.now.verifiers ≡ c.self.inside.head.verifiers =
    ap (λ (h : Head). h.verifiers) held.head in
    verifier_starts c.args.self.now c.self.inside.index.starts c.args.v held.starts
    (omega (arith, many, c.if-v-self.true))

pub returns-else-v-self : goal.returns-else-v-self
returns-else-v-self c =
    let held = subst (IsHeldTrace c.self.inside.bytes.now c.self.inside.head c.self.inside.index)
    c.self.view_is
    c.self.invariant in
    let many : length c.args.self.now.verifiers ≡ c.self.inside.head.verifiers =
    ap (λ (h : Head). h.verifiers) held.head in
    verifiers_stop c.args.self.now c.self.inside.index.starts c.args.v held.starts
    (omega (arith, many, c.requires, c.if-v-self.false))

pub bounds-self-inside-v : goal.bounds-self-inside-v
bounds-self-inside-v c =
    let held = subst (IsHeldTrace c.self.inside.bytes.now c.self.inside.head c.self.inside.index)
    c.self.view_is
    c.self.invariant in
    let many : length c.args.self.now.verifiers ≡ c.self.inside.head.verifiers =
    ap (λ (h : Head). h.verifiers) held.head in
    let few = few_verifiers c.args.self.now (limits_of_spelled c.self.inside.bytes.now c.args.self.now held.spells) in
    omega (arith, many, few, c.if-v-self.true)
