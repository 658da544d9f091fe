-- How long the names of kinds of frames are.
use Rattle.std.proofs.Common.{ℕ, ◌≤◌, ◌==◌, Bool, true, false, if◌then◌else◌, List, length, lit≤, subst, sym, ◌≡◌}
use Rattle.eve_frames.specs.Kinds.{kind_name}

either_short : (b : Bool) (x y : List ℕ) → length x ≤ 8 → length y ≤ 8 → length (if b then x else y) ≤ 8
either_short true x y h k = h
either_short false x y h k = k

pub kind_name-short : (kind : ℕ) → length (kind_name kind) ≤ 8
kind_name-short kind =
    either_short (kind == 1) _ _ (lit≤ tt)
    (either_short (kind == 2) _ _ (lit≤ tt)
    (either_short (kind == 16) _ _ (lit≤ tt)
    (either_short (kind == 17) _ _ (lit≤ tt)
    (either_short (kind == 18) _ _ (lit≤ tt)
    (either_short (kind == 19) _ _ (lit≤ tt)
    (either_short (kind == 20) _ _ (lit≤ tt)
    (either_short (kind == 21) _ _ (lit≤ tt)
    (either_short (kind == 32) _ _ (lit≤ tt)
    (either_short (kind == 33) _ _ (lit≤ tt)
    (either_short (kind == 48) _ _ (lit≤ tt) (lit≤ tt)))))))))))

pub named_short : (name : List ℕ) (kind : ℕ) → name ≡ kind_name kind → length name ≤ 8
named_short name kind is = subst (λ (n : List ℕ). length n ≤ 8) (sym is) (kind_name-short kind)
