use Rattle.std.proofs.Common.{◌-◌, sym, ◌∙◌}
use Rattle.std.proofs.lemmas.Bool.{false≢true}
use Rattle.eve_chains.specs.Changes.{changes_in_ranges}
use Rattle.eve_chains.proofs.EqualBalances.{IsCompared, same_again, changed_alike}
use Rattle.eve_chains.proofs.settled.Settled.are_same_again.Goals as goal

pub returns-then-are_same_where_changed : goal.returns-then-are_same_where_changed
returns-then-are_same_where_changed c =
    let n = c.args.n in
    let b = c.args.balances.now in
    let o = c.args.others.now in
    let own : IsCompared c.args.self.now n b o c.are_same_where_changed.result = record {
      cs = changes_in_ranges (n - 1) c.in_ok-own.own.now;
      at = sym c.in_ok-own.ensures.says;
      is = c.are_same_where_changed.ensures;
    } in
    let its : IsCompared c.args.other.now n b o c.are_same_where_changed-same.result = record {
      cs = changes_in_ranges (n - 1) c.in_ok-its.its.now;
      at = sym c.in_ok-its.ensures.says;
      is = c.are_same_where_changed-same.ensures;
    } in (
      λ also. same_again c.args.self.now c.args.other.now n b o c.are_same_where_changed.result
          c.are_same_where_changed-same.result c.requires.one c.requires.rows
          (c.requires.its_rows ∙ c.requires.before.rows ∙ sym c.requires.rows) c.requires.values c.requires.its_values
          c.requires.before own its c.if-are_same_where_changed.true also,
      λ same. changed_alike c.args.other.now n b o c.are_same_where_changed-same.result its same,
    )

pub returns-else-are_same_where_changed : goal.returns-else-are_same_where_changed
returns-else-are_same_where_changed c =
    let n = c.args.n in
    let b = c.args.balances.now in
    let o = c.args.others.now in
    let own : IsCompared c.args.self.now n b o c.are_same_where_changed.result = record {
      cs = changes_in_ranges (n - 1) c.in_ok-own.own.now;
      at = sym c.in_ok-own.ensures.says;
      is = c.are_same_where_changed.ensures;
    } in (
      λ yes. absurd (false≢true (sym c.if-are_same_where_changed.false ∙ yes)),
      λ same. changed_alike c.args.self.now n b o c.are_same_where_changed.result own same,
    )
