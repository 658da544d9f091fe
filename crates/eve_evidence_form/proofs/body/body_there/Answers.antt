use Rattle.std.proofs.Common.{ℕ, take, drop, ap, ◌∙◌, arith}
use Rattle.eve_views.proofs.FrameLaws.{Framed-from}
use Rattle.eve_evidence_form.proofs.body.body_there.Goals as goal

pub body_len-requires : goal.body_len-requires
body_len-requires c = (Framed-from c.args.head.now c.args.place.now c.args.bytes.now c.requires.framed).long

pub sliced-requires : goal.sliced-requires
sliced-requires c =
    let within = (Framed-from c.args.head.now c.args.place.now c.args.bytes.now c.requires.framed).within in
    omega (arith, within, c.body_len.ensures)

pub returns : goal.returns
returns c = c.sliced.ensures ∙ ap (λ (n : ℕ). take n (drop 5 c.args.bytes.now)) c.body_len.ensures
