-- Public: other crates cite these lemmas. Serial order from version chains.
use Rattle.std.proofs.Common.{◌≡◌, ℕ, List, map, sym, ap, ◌∙◌}
use Rattle.std.specs.List.{AllByRecursion}
use Rattle.eve_smallbank.specs.declared.entry.Entry.{Entry}
use Rattle.eve_smallbank.specs.Access.{Executed, bank_of, Fits}
use Rattle.eve_smallbank.specs.Chain.{Table, visible_at, values_of, table_after_all}
use Rattle.eve_smallbank.specs.SerialOrder.{RunsTo, IsSound, IsSerial}
use Rattle.eve_smallbank.proofs.Members.{all_in, all_from_in, in_after}
use Rattle.eve_smallbank.proofs.Chains.{Follows, visible_at-before_rest, follows_chain, chained_by_rows, run_along}
use Rattle.eve_smallbank.proofs.Orders.{chain_agrees, reordered}

-- an order of xs that follows the table, and leads to the same table
runs_to : (names : List (List ℕ)) (base : Table) (before : List Entry) (xs ys : List Executed)
    → AllByRecursion (Fits names) ys
    → Follows (visible_at base before) ys → table_after_all (visible_at base before) xs
    ≡ table_after_all (visible_at base before) ys
    → RunsTo names base before xs ys
runs_to names base before xs ys fits follows same =
    run_along names (visible_at base before) ys fits follows
    ∙ ap (λ (table : Table). (bank_of names (values_of table), map (λ x. x.reply) ys))
    (sym (visible_at-before_rest base before xs ∙ same))

pub serial : (names : List (List ℕ)) (base : Table) (before : List Entry) (xs : List Executed)
    → IsSound names base before xs → IsSerial names base before xs
serial names base before xs sound =
    let follows = follows_chain base before xs (chained_by_rows base before xs sound.chained) in
    record {
      serial = runs_to names base before xs xs sound.fits follows (λ _. table_after_all (visible_at base before) xs);
      agrees = chain_agrees (visible_at base before) xs follows;
      any_order = λ ys order agrees.
          let other = reordered (visible_at base before) ys xs order agrees follows in
          runs_to names base before xs ys
          (all_from_in (Fits names) ys (λ x i. all_in (Fits names) sound.fits (in_after ys xs order i))) other.0
          other.1;
    }
