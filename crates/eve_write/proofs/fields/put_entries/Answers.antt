use Rattle.std.proofs.Common.{◌<◌, length, sym, arith}
use Rattle.std.proofs.lemmas.Option.{get_or_from_slice_get}
use Rattle.eve_grammar.specs.Spelling.{entry_text}
use Rattle.eve_write.proofs.JoinedWrites.{Puts-more}
use Rattle.eve_write.proofs.fields.put_entries.Goals as goal

pub loop-i-preserved : goal.loop-i-preserved
loop-i-preserved g c =
    let within : c.loop-i.i < length c.args.entries.now = omega (arith, c.len-i-end.ensures.len) in (
      Puts-more entry_text c.args.entries.now c.loop-i.i c.at.result within
          (sym (get_or_from_slice_get c.args.entries.now c.loop-i.i c.at.result c.at.result c.at.ensures))
          c.loop-i.invariant.0 c.put_entry.ensures.puts,
      omega (arith, c.loop-i.invariant.1, c.put_entry.ensures.len),
    )
