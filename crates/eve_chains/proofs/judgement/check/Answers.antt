use Rattle.std.proofs.Common.{ℕ, List, None, Option, fold, length, sym, subst, ap, ◌∙◌}
use Rattle.eve_grammar.specs.Limits.{row_count}
use Rattle.eve_grammar.specs.Trace.{head_of}
use Rattle.eve_views.specs.First.{first_of}
use Rattle.eve_views.specs.declared.fault.Fault.{Fault}
use Rattle.eve_history.specs.SectionHistory.{names_of}
use Rattle.eve_chains.specs.inner.Gathered.{notes_between, AreGathered}
use Rattle.eve_chains.specs.Records.{records_between, IsLeastMismatch, lesser}
use Rattle.eve_chains.specs.inner.Walked.{IsFirstOnRows, AreOfRanges}
use Rattle.eve_chains.specs.declared.side_by_side.Judged.{Judged}
use Rattle.eve_chains.specs.declared.numbered.Numbered.{Numbered}
use Rattle.eve_chains.specs.declared.rows.WalkedRange.{WalkedRange}
use Rattle.eve_chains.proofs.JoinedStretches.{least_of_stretches, parts_of_stretches, first_of_walked, ranges_of_walked}
use Rattle.eve_chains.proofs.judgement.check.Goals as goal

pub records-requires-clause-least : goal.records-requires-clause-least
records-requires-clause-least g c =
    let t = c.args.trace.now in
    let h = c.args.history.now in
    subst (IsLeastMismatch (names_of t) (records_between t h 0 (length h.attempts)))
    (sym (c.least_mismatch.ensures
    ∙ ap (λ (js : List Judged). fold (λ (least : Option ℕ) (one : Judged). lesser least one.mismatch) None js)
    c.deref.ensures.value))
    (least_of_stretches t h c.in_ok-judged.judged.items c.in_ok-judged.ensures)

pub walk-requires-clause-rows : goal.walk-requires-clause-rows
walk-requires-clause-rows g c κs held =
    let t = c.args.trace.now in
    let h = c.args.history.now in
    record {
      told = c.requires.history;
      opening = c.in_ok-opening.ensures;
      gathered = subst (AreGathered (row_count (head_of t)) (notes_between h 0 (length h.attempts)))
          (sym (c.deref-2.ensures.value ∙ c.in_ok-parts.ensures))
          (parts_of_stretches t h c.in_ok-judged.judged.items c.in_ok-judged.ensures);
    }

pub chains-requires-clause-first : goal.chains-requires-clause-first
chains-requires-clause-first g c =
    let t = c.args.trace.now in
    let h = c.args.history.now in
    subst (IsFirstOnRows t h.replica 0 (row_count (head_of t)))
    (sym (c.first_of_all.ensures
    ∙ ap (λ (ws : List WalkedRange). fold (λ (first : Option Fault) (one : WalkedRange). first_of first one.first)
    None ws)
    c.deref-3.ensures.value))
    (first_of_walked t h.replica c.in_ok-walked.walked.items c.in_ok-walked.ensures)

pub of-requires-clause-ranges : goal.of-requires-clause-ranges
of-requires-clause-ranges g c =
    let t = c.args.trace.now in
    let h = c.args.history.now in
    subst (λ (ns : List Numbered). AreOfRanges t h.replica (row_count (head_of t)) ns) (sym c.in_ok-ranges.ensures)
    (ranges_of_walked t h.replica c.in_ok-walked.walked.items c.in_ok-walked.ensures)
