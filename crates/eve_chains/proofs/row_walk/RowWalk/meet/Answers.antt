use Rattle.std.proofs.Common.{◌≡◌, ◌++◌, ◌∷◌, [], sym, subst, ap, ◌∙◌}
use Rattle.eve_smallbank.specs.declared.versioned.Versioned.{Versioned}
use Rattle.eve_views.specs.First.{first_of}
use Rattle.eve_chains.specs.Along.{fault_if}
use Rattle.eve_chains.specs.inner.Bases.{base_at}
use Rattle.eve_chains.specs.Rows.{Pair, due_on_row, next_pair, updated_by}
use Rattle.eve_chains.specs.inner.Gathered.{as_noted}
use Rattle.eve_chains.specs.inner.Walked.{pair_of, IsMismatch, IsFirstOnRow}
use Rattle.eve_chains.proofs.WalkedRows.{first_noted, pair_more}
use Rattle.eve_chains.proofs.row_walk.RowWalk.meet.Goals as goal

pub returns : goal.returns
returns c = λ ns checked.
    let bases = base_at c.args.bases.now c.args.row in
    let n = as_noted c.args.note.now in
    let e = c.args.replica in
    let w = c.args.self.now in
    let judged = c.judge.ensures.first in
    let next : pair_of c.take.new.self ≡ next_pair bases (pair_of w) n =
    c.take.ensures.pair
    ∙ ap (λ (p : Pair). updated_by p n) (c.judge.ensures.pair ∙ c.go_to.ensures.pair) in
    let working : c.go_to.new.self.working ≡ due_on_row bases (pair_of w) n =
    ap (λ (p : Pair). p.working) c.go_to.ensures.pair in
    record {
      pair = next ∙ ap (λ (p : Pair). next_pair bases p n) checked.pair ∙ sym (pair_more bases ns n);
      first = subst (IsFirstOnRow e bases (ns ++ n ∷ []))
          (sym (c.take.ensures.first ∙ judged.2
          ∙ (λ i. first_of (c.go_to.ensures.first i) (fault_if e n.offset judged.0))))
          (first_noted e bases ns n w.first judged.0 checked.first
          (subst (λ (m : Versioned). IsMismatch m n.entry judged.0)
          (working ∙ ap (λ (p : Pair). due_on_row bases p n) checked.pair) judged.1));
    }
