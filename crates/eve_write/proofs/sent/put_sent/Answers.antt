use Rattle.std.proofs.Common.{◌≡◌, ℕ, ◌∷◌, ◌++◌, length, subst, ap, ◌∙◌, arith}
use Rattle.byteorder.specs.Endian.{big_bytes}
use Rattle.eve_smallbank.specs.Spelling.{reply_text}
use Rattle.eve_grammar.specs.Frames.{OfSent}
use Rattle.eve_grammar.specs.Spelling.{body_text}
use Rattle.eve_grammar.proofs.PartCodecs.{reply_length}
use Rattle.eve_write.specs.Data.{sent}
use Rattle.eve_write.specs.Writes.{Puts}
use Rattle.eve_write.proofs.JoinedWrites.{Puts-then, app, led, onto}
use Rattle.eve_write.proofs.sent.put_sent.Goals as goal

pub returns : goal.returns
returns g c =
    let s = c.args.sent.now in
    let long : 26 ≡ length (body_text (OfSent (sent s))) = omega (arith, reply_length s.reply) in
    let fields = app c.to_be_bytes.ensures
    (app c.to_be_bytes-2.ensures (app c.byte.ensures (onto (reply_text s.reply) c.to_be_bytes-3.ensures))) in
    let spelled = led 48 (led 0 (led 0 (led 0 (led 26 fields))))
    ∙ ap (λ (n : ℕ). 48 ∷ (big_bytes 4 n ++
    (big_bytes 4 s.client ++
    (big_bytes 8 s.number ++ (big_bytes 1 s.replica ++ (big_bytes 4 s.seq ++ reply_text s.reply)))))) long in
    subst (Puts c.args.frame.now.items c.put_reply.new.frame.items) spelled
    (Puts-then c.put.ensures.puts
    (Puts-then c.put-2.ensures.puts
    (Puts-then c.put-3.ensures.puts
    (Puts-then c.put-4.ensures.puts (Puts-then c.put-5.ensures.puts c.put_reply.ensures.puts)))))
