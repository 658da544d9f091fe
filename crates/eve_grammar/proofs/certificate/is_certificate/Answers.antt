use Rattle.std.proofs.Common.{◌≡◌, ℕ, true, false, ◌&&◌, Bool, cond, not, List, length, refl, sym}
use Rattle.std.proofs.Common.{◌∙◌}
use Rattle.eve_grammar.specs.Certificate.{is_permutation, is_grouped, counts_from, is_certificate}
use Rattle.eve_grammar.proofs.GroupOrder.{small_all, groups_are}
use Rattle.eve_grammar.proofs.certificate.is_certificate.Goals as goal

-- what the three tests make together
all_three : (sizes : List ℕ) (r : ℕ) (serial a b c : Bool) (order : List ℕ) → a ≡ is_permutation r order
    → b ≡ is_grouped sizes order → c ≡ counts_from 0 order
    → (a && (b && cond serial c true)) ≡ is_certificate sizes r serial order
all_three sizes r serial a b c order p q w =
    rw (p, q, w) (assoc (is_permutation r order) (is_grouped sizes order) (cond serial (counts_from 0 order) true))
  where
    assoc : (x y z : Bool) → (x && (y && z)) ≡ ((x && y) && z)
    assoc true y z = refl
    assoc false y z = refl

pub is_grouped-requires : goal.is_grouped-requires
is_grouped-requires c =
    let order = c.args.order.now in
    let a : true ≡ is_permutation (length order) order = sym c.if-not-is_permutation.false ∙ c.is_permutation.ensures in
    small_all (length order) order (sym a) c.requires

pub returns-then-not-is_permutation : goal.returns-then-not-is_permutation
returns-then-not-is_permutation c = λ sizes are.
    let order = c.args.order.now in
    let a : false ≡ is_permutation (length order) order = sym c.if-not-is_permutation.true ∙ c.is_permutation.ensures in
    all_three sizes (length order) c.args.serial false (is_grouped sizes order) (counts_from 0 order) order a refl refl

pub returns-then-not-is_grouped : goal.returns-then-not-is_grouped
returns-then-not-is_grouped c = λ sizes are.
    let order = c.args.order.now in
    let a : true ≡ is_permutation (length order) order = sym c.if-not-is_permutation.false ∙ c.is_permutation.ensures in
    let g : false ≡ is_grouped sizes order = sym c.if-not-is_grouped.true
    ∙ c.is_grouped.ensures sizes (groups_are sizes (length order) order c.args.groups.now (sym a) are) in
    all_three sizes (length order) c.args.serial true false (counts_from 0 order) order a g refl

pub returns-then-not-serial : goal.returns-then-not-serial
returns-then-not-serial c = λ sizes are.
    let order = c.args.order.now in
    let a : true ≡ is_permutation (length order) order = sym c.if-not-is_permutation.false ∙ c.is_permutation.ensures in
    let g : true ≡ is_grouped sizes order = sym c.if-not-is_grouped.false
    ∙ c.is_grouped.ensures sizes (groups_are sizes (length order) order c.args.groups.now (sym a) are) in
    by c.args.serial c.if-not-serial.true
    (all_three sizes (length order) c.args.serial true true (counts_from 0 order) order a g refl)
  where
    by : (s : Bool) {z : Bool} → s ≡ false → cond s (counts_from 0 c.args.order.now) true ≡ z → not s ≡ z
    by true h e = absurd (cc)
    by false h e = e

pub returns-else-not-serial : goal.returns-else-not-serial
returns-else-not-serial c = λ sizes are.
    let order = c.args.order.now in
    let a : true ≡ is_permutation (length order) order = sym c.if-not-is_permutation.false ∙ c.is_permutation.ensures in
    let g : true ≡ is_grouped sizes order = sym c.if-not-is_grouped.false
    ∙ c.is_grouped.ensures sizes (groups_are sizes (length order) order c.args.groups.now (sym a) are) in
    by c.args.serial c.if-not-serial.false
    (all_three sizes (length order) c.args.serial true true c.is_listed.result order a g c.is_listed.ensures)
  where
    by : (s : Bool) {z : Bool} → s ≡ true → cond s c.is_listed.result true ≡ z → c.is_listed.result ≡ z
    by true h e = e
    by false h e = absurd (cc)
