use Rattle.std.proofs.Common.{◌≡◌, ◌<◌, ℕ, List, length, get_or, vec_len, ap, subst, ◌∙◌, rules, arith}
use Rattle.std.proofs.lemmas.List.{get_or_read}
use Rattle.eve_grammar.specs.Frames.{frames_of}
use Rattle.eve_views.specs.HeldTraces.{IsHeldTrace}
use Rattle.eve_views.proofs.WalkSteps.{length-offsets_of}
use Rattle.eve_views.proofs.TraceLaws.{offsets_at, end_at}
use Rattle.eve_views.proofs.trace.Trace.start_of.Goals as goal

pub returns-then-i-len : goal.returns-then-i-len
returns-then-i-len c =
    let held = subst (IsHeldTrace c.self.inside.bytes.now c.self.inside.head c.self.inside.index)
    c.self.view_is
    c.self.invariant in
    let fs = frames_of c.args.self.now in
    let items = c.self.inside.index.offsets.items in
    let count : vec_len c.self.inside.index.offsets ≡ length items = search rules in
    let total : length items ≡ length fs = ap length held.offsets ∙ length-offsets_of fs 32 in
    let within : c.args.i < length items = omega arith in
    let read = get_or_read items c.args.i c.index.result.now within c.index.ensures 0 in
    read ∙ ap (λ (xs : List ℕ). get_or xs c.args.i 0) held.offsets
    ∙ offsets_at fs 32 c.args.i (omega (arith, within, total))

pub returns-else-i-len : goal.returns-else-i-len
returns-else-i-len c =
    let held = subst (IsHeldTrace c.self.inside.bytes.now c.self.inside.head c.self.inside.index)
    c.self.view_is
    c.self.invariant in
    let fs = frames_of c.args.self.now in
    let items = c.self.inside.index.offsets.items in
    let count : vec_len c.self.inside.index.offsets ≡ length items = search rules in
    let total : length items ≡ length fs = ap length held.offsets ∙ length-offsets_of fs 32 in
    end_at c.self.inside.bytes.now c.args.self.now c.args.i held.spells
    (omega (arith, total, count, c.if-i-len.false))
