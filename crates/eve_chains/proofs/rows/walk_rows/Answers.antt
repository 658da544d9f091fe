use Rattle.std.proofs.Common.{◌≡◌, ◌+◌, ◌-◌, ◌<◌, ◌≤◌, ℕ, suc, [], List, sym, subst, ap, ◌∙◌, arith}
use Rattle.eve_smallbank.specs.declared.versioned.Versioned.{Versioned}
use Rattle.eve_grammar.specs.Limits.{row_count}
use Rattle.eve_grammar.specs.Trace.{head_of}
use Rattle.eve_chains.specs.inner.Bases.{base_at}
use Rattle.eve_chains.specs.Changes.{changes_along, changes_of_rows}
use Rattle.eve_chains.specs.inner.Gathered.{own_along}
use Rattle.eve_chains.specs.Rows.{Noted, bases_of, told_of, all_noted, of_row}
use Rattle.eve_chains.specs.inner.Walked.{IsFirstOnRow, IsFirstOnRows, notes_on}
use Rattle.eve_chains.specs.declared.bases.Bases.{Bases}
use Rattle.eve_chains.proofs.ToldAttempts.{all_told, are_bases}
use Rattle.eve_chains.proofs.WalkedRows.{first_on_rows, one_on_rows}
use Rattle.eve_chains.proofs.rows.walk_rows.Goals as goal

pub walk_row-requires : goal.walk_row-requires
walk_row-requires c = (
  row_count (head_of c.args.rows.section.trace.now),
  omega (arith, c.row_at-row.ensures, c.loop-number-test.true, c.requires.within.there),
  c.requires.rows.gathered.groups,
)

pub loop-number-preserved : goal.loop-number-preserved
loop-number-preserved c =
    let t = c.args.rows.section.trace.now in
    let h = c.args.rows.section.history.now in
    let e = h.replica in
    let from = c.args.range.from in
    let n = c.loop-number.number in
    let ns = all_noted (told_of t e) in
    let row = c.row_at-row.result in
    let parts = c.args.rows.parts.now in
    let low : from ≤ n = c.loop-number.auto.number in
    let at : row ≡ n = c.row_at-row.ensures in
    let below : n < row_count (head_of t) = omega (arith, c.loop-number-test.true, c.requires.within.there) in
    let b : Bases = record { opening = c.args.rows.opening; history = c.args.rows.section.history } in
    let bases : base_at b row ≡ bases_of t e n =
    are_bases t e b c.requires.rows.told c.requires.rows.opening row ∙ ap (bases_of t e) at in
    let own : own_along row parts ≡ of_row n ns =
    ap (λ (k : ℕ). own_along k parts) at ∙ c.requires.rows.gathered.own n below
    ∙ ap (of_row n) (all_told t h c.requires.rows.told) in
    let wrong = c.in_ok-wrong.wrong in
    let here : IsFirstOnRow e (bases_of t e n) (notes_on t e n) wrong =
    subst (λ (ms : List Noted). IsFirstOnRow e (bases_of t e n) ms wrong) own
    (subst (λ (f : ℕ → Versioned). IsFirstOnRow e f (own_along row parts) wrong) bases
    (subst (λ (k : ℕ). IsFirstOnRow k (base_at b row) (own_along row parts) wrong) c.replica-replica.ensures
    c.in_ok-wrong.ensures.first)) in
    let high : n ≤ n + 1 = omega arith in
    let place : n ≡ from + (n - from) = omega (arith, low) in
    let count : suc (n - from) ≡ n + 1 - from = omega (arith, low) in
    record {
      first = subst (IsFirstOnRows t e from (n + 1)) (sym c.first_of-first.ensures)
          (first_on_rows t e from n (n + 1) c.loop-number.first wrong low high c.loop-number.invariant.first
          (one_on_rows t e n wrong here));
      changes = c.in_ok-wrong.ensures.changes
          ∙ (λ i. changes_along (c.loop-number.invariant.changes i) (own i))
          ∙ ap (λ (k : ℕ). changes_along (changes_of_rows ns from (n - from) []) (of_row k ns)) place
          ∙ ap (λ (k : ℕ). changes_of_rows ns from k []) count;
    }

pub returns : goal.returns
returns c =
    let t = c.args.rows.section.trace.now in
    let e = c.args.rows.section.history.now.replica in
    let from = c.args.range.from in
    let last : c.loop-number.number ≡ c.args.range.to = omega (
      arith,
      c.loop-number-test.false,
      c.loop-number.auto.number-end c.requires.within.rising,
    ) in
    record {
      first = subst (λ (n : ℕ). IsFirstOnRows t e from n c.loop-number.first) last c.loop-number.invariant.first;
      changes = c.loop-number.invariant.changes
          ∙ ap (λ (n : ℕ). changes_of_rows (all_noted (told_of t e)) from (n - from) []) last;
    }
