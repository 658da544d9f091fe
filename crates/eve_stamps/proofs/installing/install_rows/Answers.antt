use Rattle.std.proofs.Common.{◌≡◌, ℕ, zero, suc, ◌++◌, ◌∷◌, [], List, take, drop, map, set, get_or, ap, ap₂, sym, subst}
use Rattle.std.proofs.Common.{◌<◌, length, arith, add-one, ◌∙◌}
use Rattle.eve_stamps.specs.Stripes.{HeldRow, row_installed}
use Rattle.eve_stamps.proofs.installing.install_rows.Goals as goal

-- a list with the function applied to its first items
abbrev made_to : (HeldRow → HeldRow) → ℕ → List HeldRow → List HeldRow
made_to f n xs = map f (take n xs) ++ drop n xs

one_more : (f : HeldRow → HeldRow) (xs : List HeldRow) (i : ℕ) (x : HeldRow) → i < length xs
    → x ≡ get_or (made_to f i xs) i x → set (made_to f i xs) i (f x) ≡ made_to f (suc i) xs
one_more f [] i x within is = absurd (omega arith)
one_more f (q ∷ xs) zero x within is = ap (λ r. f r ∷ xs) is
one_more f (q ∷ xs) (suc i) x within is = ap (λ rest. f q ∷ rest) (one_more f xs i x (omega arith) is)

pub loop-held-preserved : goal.loop-held-preserved
loop-held-preserved c =
    let f = row_installed c.args.from.now in
    let xs = c.args.rows.now in
    let i = c.loop-held.held-index in
    let x = c.held-item.result in
    let made : c.row_installed.result ≡ f x = c.row_installed.ensures ∙ ap f (sym c.held-item.is) in
    let here = subst (λ (rs : List HeldRow). x ≡ get_or rs i x) c.loop-held.invariant c.held-item.is in
    ap₂ (λ (rs : List HeldRow) (r : HeldRow). set rs i r) c.loop-held.invariant made
    ∙ one_more f xs i x c.loop-held-test.true here ∙ ap (λ n. made_to f n xs) (sym (add-one i))
