use Rattle.std.proofs.Common.{ap, subst}
use Rattle.std.specs.List.{flat_map}
use Rattle.byteorder.specs.Endian.{big_bytes}
use Rattle.eve_smallbank.specs.Spelling.{reply_text}
use Rattle.eve_write.specs.Writes.{Puts}
use Rattle.eve_write.proofs.JoinedWrites.{Puts-then, app, onto}
use Rattle.eve_write.proofs.attempt.AttemptData.put_results.Goals as goal

pub returns : goal.returns
returns g c =
    let indexes = ap (flat_map (big_bytes 2)) c.as_slice.ensures.value in
    let replies = ap (flat_map reply_text) c.as_slice-2.ensures.value in
    subst (Puts c.args.frame.now.items c.put.new.frame.items) (app indexes (onto c.args.self.now.token replies))
    (Puts-then c.put_indexes.ensures.puts (Puts-then c.put_replies.ensures.puts c.put.ensures.puts))
