use Rattle.std.proofs.Common.{subst, ap, ◌∙◌, arith}
use Rattle.std.proofs.Common.{◌≡◌, ℕ, ◌+◌, ◌∷◌, length}
use Rattle.byteorder.specs.Endian.{big_bytes}
use Rattle.eve_write.specs.Writes.{Writes}
use Rattle.eve_write.proofs.JoinedWrites.{app, led}
use Rattle.eve_write.proofs.Votes.{vote_is}
use Rattle.eve_write.proofs.vote.write_vote.Goals as goal

pub returns : goal.returns
returns g c =
    let v = c.args.vote.now in
    let long : length v.token ≡ 32 = omega (arith, c.token_len.ensures.len, c.token_len.ensures.fixed) in
    let body : 9 + c.token_len.result ≡ 41 = omega (arith, c.token_len.ensures.fixed) in
    let choice = ap (λ (code : ℕ). code ∷ v.token) c.choice_code-choice.ensures in
    let fields = app (c.to_be_bytes-body_len.ensures ∙ ap (big_bytes 4) body)
    (app c.to_be_bytes-seq.ensures (app c.to_be_bytes-view.ensures choice)) in
    subst (Writes g.W.Sink.written g.W.Sink.failures c.args.out.now c.send_texts.new.out c.send_texts.result)
    (led 33 fields ∙ vote_is v.seq v.view v.choice v.token long c.requires) c.send_texts.ensures
