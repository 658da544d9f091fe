use Rattle.std.proofs.Common.{◌≡◌, ℤ, List, [], ◌∷◌, length, get_or, Some, ap, sym, arith}
use Rattle.eve_smallbank.proofs.decision.decide_rows.Goals as goal

-- as many values as a pattern has places, and each in its place: they are the whole list
one_seen : (seen : List ℤ) (a : ℤ) → length seen ≡ 1 → a ≡ get_or seen 0 a → seen ≡ a ∷ []
one_seen (x ∷ []) a one is_a = cc
one_seen [] a one is_a = absurd (omega arith)
one_seen (x ∷ (y ∷ seen)) a one is_a = absurd (omega arith)

two_seen : (seen : List ℤ) (a b : ℤ) → length seen ≡ 2 → a ≡ get_or seen 0 a → b ≡ get_or seen 1 b
    → seen ≡ a ∷ b ∷ []
two_seen (x ∷ (y ∷ [])) a b two is_a is_b = cc
two_seen [] a b two is_a is_b = absurd (omega arith)
two_seen (x ∷ []) a b two is_a is_b = absurd (omega arith)
two_seen (x ∷ (y ∷ (z ∷ seen))) a b two is_a is_b = absurd (omega arith)

three_seen : (seen : List ℤ) (a b c : ℤ) → length seen ≡ 3 → a ≡ get_or seen 0 a → b ≡ get_or seen 1 b
    → c ≡ get_or seen 2 c → seen ≡ a ∷ b ∷ c ∷ []
three_seen (x ∷ (y ∷ (z ∷ []))) a b c three is_a is_b is_c = cc
three_seen [] a b c three is_a is_b is_c = absurd (omega arith)
three_seen (x ∷ []) a b c three is_a is_b is_c = absurd (omega arith)
three_seen (x ∷ (y ∷ [])) a b c three is_a is_b is_c = absurd (omega arith)
three_seen (x ∷ (y ∷ (z ∷ (w ∷ seen)))) a b c three is_a is_b is_c = absurd (omega arith)

pub returns-in-Balance-len2 : goal.returns-in-Balance-len2
returns-in-Balance-len2 c =
    let seen = two_seen c.args.seen.now c.saving-item.result c.checking-item.result (omega arith)
    c.saving-item.is c.checking-item.is in
    rw (c.in-Balance-len2.is-0, seen) (ap Some (sym c.total.ensures))

pub returns-in-DepositChecking-len1 : goal.returns-in-DepositChecking-len1
returns-in-DepositChecking-len1 c =
    let seen = one_seen c.args.seen.now c.checking-item-then-this-lt2.result (omega arith)
    c.checking-item-then-this-lt2.is in
    rw (c.in-DepositChecking-len1.is-0, seen) (ap Some (sym c.deposit_checking.ensures))

pub returns-in-TransactSaving-len1 : goal.returns-in-TransactSaving-len1
returns-in-TransactSaving-len1 c =
    let seen = one_seen c.args.seen.now c.saving-item-then-this-lt2-2.result (omega arith)
    c.saving-item-then-this-lt2-2.is in
    rw (c.in-TransactSaving-len1.is-0, seen) (ap Some (sym c.transact_saving.ensures))

pub returns-in-Amalgamate-len2 : goal.returns-in-Amalgamate-len2
returns-in-Amalgamate-len2 c =
    let seen = two_seen c.args.seen.now c.saving-item-then-this-lt3-2.result
    c.checking-item-then-this-lt3-2.result (omega arith)
    c.saving-item-then-this-lt3-2.is c.checking-item-then-this-lt3-2.is in
    rw (c.in-Amalgamate-len2.is-0, seen) (ap Some (sym c.amalgamate_itself.ensures))

pub returns-in-Amalgamate-len3 : goal.returns-in-Amalgamate-len3
returns-in-Amalgamate-len3 c =
    let seen = three_seen c.args.seen.now c.saving-item-then-this-lt4.result c.checking-item-then-this-lt4.result
    c.receiver-item.result (omega arith)
    c.saving-item-then-this-lt4.is c.checking-item-then-this-lt4.is c.receiver-item.is in
    rw (c.in-Amalgamate-len3.is-0, seen) (ap Some (sym c.amalgamate.ensures))

pub returns-in-WriteCheck-len2 : goal.returns-in-WriteCheck-len2
returns-in-WriteCheck-len2 c =
    let seen = two_seen c.args.seen.now c.saving-item-then-this-lt3-3.result
    c.checking-item-then-this-lt3-3.result (omega arith)
    c.saving-item-then-this-lt3-3.is c.checking-item-then-this-lt3-3.is in
    rw (c.in-WriteCheck-len2.is-0, seen) (ap Some (sym c.write_check.ensures))
