use Rattle.std.proofs.Common.{◌≡◌, ◌++◌, ◌∙◌, ℕ, ℤ, List, length, take, drop, set, Option, sym, subst, ap, arith, rules}
use Rattle.std.proofs.Common.{length-set}
use Rattle.std.proofs.lemmas.List.{take_at}
use Rattle.eve_token.specs.Places.{IsRowTree, HaveHashes, nodes_of}
use Rattle.eve_token.proofs.KeptPlaces.{row-changed, nothing-changed}
use Rattle.eve_token.proofs.tree.RowTree.set.Goals as goal

pub invariant_of-self : goal.invariant_of-self
invariant_of-self c =
    let bs = c.self.inside.balances in
    let old = c.self.inside.nodes.items in
    let new = c.mark_stale.new.nodes in
    let long : length new ≡ length old = c.mark_stale.auto.nodes ∙ ap length c.as_mut_slice.ensures.value in
    let len : length old ≡ c.self.inside.nodes.len = search rules in
    let whole : take c.self.inside.nodes.len (new ++ drop (length new) old) ≡ new =
    take_at new (drop (length new) old) c.self.inside.nodes.len (long ∙ len) in
    let balances : c.set.new.self ≡ set bs c.args.row c.args.balance = c.set.ensures in
    let rows : c.len.result ≡ length bs = omega (
      arith,
      c.len.ensures.len,
      ap length balances,
      length-set bs c.args.row
          c.args.balance,
    ) in
    let marked : (hs : List (List ℕ)) (h : List ℕ) → length hs ≡ length bs → HaveHashes old (nodes_of hs)
    → HaveHashes new (nodes_of (set hs c.args.row h)) =
    λ hs h count kept.
    subst (λ (i : ℕ). HaveHashes new (nodes_of (set hs i h))) c.number.ensures.number
    (c.mark_stale.ensures hs h (count ∙ sym rows)
    (subst (λ (ps : List (Option (List ℕ))). HaveHashes ps (nodes_of hs)) (sym c.as_mut_slice.ensures.value) kept)) in
    subst (λ (ps : List (Option (List ℕ))). IsRowTree c.set.new.self ps) (sym whole)
    (subst (λ (zs : List ℤ). IsRowTree zs new) (sym balances)
    (row-changed bs old new c.args.row c.args.balance c.self.invariant long marked))

pub returns-else-ne : goal.returns-else-ne
returns-else-ne c =
    let same : c.get.result ≡ c.args.balance = search rules in
    let is = nothing-changed c.self.inside.balances c.args.row c.get.result c.args.balance c.get.ensures same in
    rw (← c.self.view_is) is
