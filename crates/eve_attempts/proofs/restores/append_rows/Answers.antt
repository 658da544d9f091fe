use Rattle.std.proofs.Common.{ℕ, ◌+◌, ◌<◌, List, [], ◌∷◌, ◌++◌, drop, sym, subst, ap, ◌∙◌, append_assoc, arith}
use Rattle.std.specs.List.{AllByRecursion}
use Rattle.eve_smallbank.specs.declared.entry.Entry.{Entry}
use Rattle.eve_grammar.proofs.Lists.{all-push}
use Rattle.eve_attempts.specs.inner.RestoredRows.{entry_rows}
use Rattle.eve_attempts.proofs.Lists.{drop_read}
use Rattle.eve_attempts.proofs.restores.append_rows.Goals as goal

pub loop-entry-preserved : goal.loop-entry-preserved
loop-entry-preserved c =
    let es = c.args.written.now in
    let k = c.loop-entry.entry-index in
    record {
      rows = ap (λ (xs : List ℕ). xs ++ entry_rows (drop (k + 1) es)) c.push_reserved.ensures.items
          ∙ append_assoc c.loop-entry.rows.items (c.number.result ∷ []) (entry_rows (drop (k + 1) es))
          ∙ ap (λ (n : ℕ). c.loop-entry.rows.items ++ n ∷ entry_rows (drop (k + 1) es)) c.number.ensures.number
          ∙ ap (λ (ds : List Entry). c.loop-entry.rows.items ++ entry_rows ds)
          (sym (drop_read es k c.entry-item.result c.loop-entry-test.true c.entry-item.is))
          ∙ c.loop-entry.invariant.rows;
      small = subst (AllByRecursion (λ row. row < 131072)) (sym c.push_reserved.ensures.items)
          (all-push (λ (row : ℕ). row < 131072) c.loop-entry.rows.items c.number.result c.loop-entry.invariant.small
          c.number.ensures.range);
      len = omega (arith, c.push_reserved.ensures.len, c.loop-entry.invariant.len);
      room = c.push_reserved.ensures.capacity ∙ c.loop-entry.invariant.room;
    }
