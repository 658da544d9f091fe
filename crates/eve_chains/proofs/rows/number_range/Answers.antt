use Rattle.std.proofs.Common.{◌≡◌, ℕ, ◌+◌, List, sym, subst, ap, ◌∙◌, arith}
use Rattle.std.specs.Prelude.{All}
use Rattle.eve_grammar.specs.Trace.{head_of}
use Rattle.eve_grammar.specs.Limits.{row_count}
use Rattle.eve_chains.specs.declared.changed.Changed.{Changed}
use Rattle.eve_chains.specs.Changes.{of_number}
use Rattle.eve_chains.specs.Numbered.{HasNumber, IsRowBelow}
use Rattle.eve_chains.specs.inner.Walked.{reached}
use Rattle.eve_chains.proofs.CommittedChanges.{range_numbers, range_below, ways_reached_counted}
use Rattle.eve_chains.proofs.rows.number_range.Goals as goal

pub of-requires : goal.of-requires
of-requires c =
    let t = c.args.section.trace.now in
    let h = c.args.section.history.now in
    let right = c.recall_right.ensures.section t h.replica c.requires.told in
    let count : c.committed-count.result ≡ reached t h.replica = c.committed-count.ensures.count
    ∙ ways_reached_counted t h.replica h right c.numbers_are_reached.ensures.count c.requires.told in
    record {
      numbers = subst (λ (n : ℕ). All (HasNumber n) c.as_slice.result.now) (sym count)
          (subst (λ (cs : List Changed). All (HasNumber (reached t h.replica)) cs) (sym c.as_slice.ensures.value)
          (range_numbers t h.replica right c.args.range c.args.walked.now c.requires.within c.requires.walked));
    }

pub returns : goal.returns
returns c =
    let t = c.args.section.trace.now in
    let h = c.args.section.history.now in
    let e = h.replica in
    let right = c.recall_right.ensures.section t e c.requires.told in
    let count : c.committed-count.result ≡ reached t e = c.committed-count.ensures.count
    ∙ ways_reached_counted t e h right c.numbers_are_reached.ensures.count c.requires.told in
    let rows = row_count (head_of t) in
    record {
      count = c.in_ok-numbered.ensures.count ∙ count;
      order = c.in_ok-numbered.ensures.order rows
          (subst (λ (cs : List Changed). All (IsRowBelow rows) cs) (sym c.as_slice.ensures.value)
          (range_below t e right c.args.range c.args.walked.now c.requires.within c.requires.walked));
      changes = λ i lt. c.in_ok-numbered.ensures.numbers i (omega (arith, lt, count))
          ∙ ap (of_number (i + 1)) (c.as_slice.ensures.value ∙ c.requires.walked.changes);
    }
