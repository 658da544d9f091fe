use Rattle.std.proofs.Common.{◌≡◌, ℕ, List, All, length, sym, subst, ap, ◌∙◌}
use Rattle.std.specs.List.{AllZip}
use Rattle.rayon.proofs.ListFacts.{IfOk-then}
use Rattle.eve_grammar.specs.Limits.{row_count}
use Rattle.eve_grammar.specs.Trace.{head_of}
use Rattle.eve_grammar.proofs.OpeningRows.{length-opening_rows}
use Rattle.eve_chains.specs.inner.Stretches.{AreBetween, IsWithin}
use Rattle.eve_chains.specs.inner.Walked.{IsWalkedRange}
use Rattle.eve_chains.specs.declared.stretch.Stretch.{Stretch}
use Rattle.eve_chains.proofs.judgement.walk.Goals as goal

pub walk_all-requires-clause-ranges : goal.walk_all-requires-clause-ranges
walk_all-requires-clause-ranges g c κs held =
    let t = c.args.rows.section.trace.now in
    let rows : c.len.result ≡ row_count (head_of t) =
    c.len.ensures.len ∙ ap length c.requires.rows.opening ∙ length-opening_rows t.customers in
    subst (λ (ys : List Stretch). All (IsWithin (row_count (head_of t))) ys) (sym c.deref.ensures.value)
    (subst (λ (n : ℕ). All (IsWithin n) c.in_ok-ranges.ranges.items) rows c.in_ok-ranges.ensures.all.within)

pub returns : goal.returns
returns g c =
    let t = c.args.rows.section.trace.now in
    let e = c.args.rows.section.history.now.replica in
    let xs = c.in_ok-ranges.ranges.items in
    let rows : c.len.result ≡ row_count (head_of t) =
    c.len.ensures.len ∙ ap length c.requires.rows.opening ∙ length-opening_rows t.customers in
    let cut = subst (λ (n : ℕ). AreBetween 0 n xs) rows c.in_ok-ranges.ensures.all in
    IfOk-then c.walk_all.result _ _ c.walk_all.ensures (λ ws each. record {
      ranges = xs;
      cut = record { reaches = cut.reaches; within = cut.within };
      each = subst (λ (ys : List Stretch). AllZip (IsWalkedRange t e) ys ws.items) c.deref.ensures.value each;
    })
