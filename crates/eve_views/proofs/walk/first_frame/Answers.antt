use Rattle.std.proofs.Common.{sym, ◌∙◌}
use Rattle.eve_grammar.specs.Kinds.{kind_byte}
use Rattle.eve_views.proofs.KeptFrames.{unframed_kind, kept_unframed, kept_right, kept_wrong}
use Rattle.eve_views.proofs.walk.first_frame.Goals as goal

pub returns-in_default : goal.returns-in_default
returns-in_default c =
    let h = c.args.at.now.head in
    let p = c.args.at.now.place in
    sym (kept_unframed h p c.args.bytes.now (c.in_default.ensures.none h p))

pub returns-then-not-allows : goal.returns-then-not-allows
returns-then-not-allows c =
    let h = c.args.at.now.head in
    let p = c.args.at.now.place in
    sym (kept_unframed h p c.args.bytes.now (unframed_kind h p c.args.bytes.now (kind_byte c.in-Some.kind)
    c.in-Some.ensures.some.kind_is (sym c.allows.ensures ∙ c.if-not-allows.true)))

pub returns-in-Some-accesses_behind : goal.returns-in-Some-accesses_behind
returns-in-Some-accesses_behind c =
    sym (kept_right c.args.at.now.head c.args.at.now.place c.args.bytes.now (kind_byte c.in-Some.kind)
    c.in-Some-accesses_behind.accesses c.in-Some.body.now c.in-Some.ensures.some
    (sym c.allows.ensures ∙ c.if-not-allows.false) c.in-Some-accesses_behind.ensures)

pub returns-in-None : goal.returns-in-None
returns-in-None c =
    sym (kept_wrong c.args.at.now.head c.args.at.now.place c.args.bytes.now (kind_byte c.in-Some.kind)
    c.in-Some.body.now c.in-Some.ensures.some (sym c.allows.ensures ∙ c.if-not-allows.false) c.in-None.ensures)
