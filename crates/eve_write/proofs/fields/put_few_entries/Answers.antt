use Rattle.std.proofs.Common.{◌≡◌, ◌≤◌, ◌+◌, length, take, sym, ap, subst, ◌∙◌, arith}
use Rattle.std.specs.List.{flat_map}
use Rattle.std.proofs.lemmas.List.{take_all}
use Rattle.arrayvec.specs.ArrayVec.{array_vec_len}
use Rattle.eve_grammar.specs.Spelling.{entry_text}
use Rattle.eve_write.specs.Writes.{Puts}
use Rattle.eve_write.proofs.JoinedWrites.{Puts-more}
use Rattle.eve_write.proofs.fields.put_few_entries.Goals.{then-place-entries, else-place-entries}
use Rattle.eve_write.proofs.fields.put_few_entries.Goals as goal

pub loop-place-preserved : goal.loop-place-preserved
loop-place-preserved g c =
    let entries = c.args.entries.now in
    let place = c.loop-place.place in
    elim c.if-place-entries.branch [
      | then-place-entries w ↦ (
        subst (λ frame. Puts c.args.frame.now.items frame.items (flat_map entry_text (take (place + 1) entries)))
            (sym w.frame-is)
            (Puts-more entry_text entries place w.index-entries-place.result w.if-place-entries.true
            w.index-entries-place.is c.loop-place.invariant.0 w.put_entry.ensures.puts),
        omega (
          arith,
          ap array_vec_len w.frame-is,
          w.put_entry.ensures.len,
          c.loop-place.invariant.1,
          w.if-place-entries.true,
        ),
      )
      | else-place-entries w ↦
          let past : length entries ≤ place = omega (arith, w.if-place-entries.false) in
          let same : take place entries ≡ take (place + 1) entries =
          take_all place entries past ∙ sym (take_all (place + 1) entries (omega arith)) in (
            subst (λ frame. Puts c.args.frame.now.items frame.items (flat_map entry_text (take (place + 1) entries)))
                (sym w.frame-is)
                (subst (λ some. Puts c.args.frame.now.items c.loop-place.frame.items (flat_map entry_text some)) same
                c.loop-place.invariant.0),
            omega (arith, ap array_vec_len w.frame-is, c.loop-place.invariant.1, past),
          )
    ]
