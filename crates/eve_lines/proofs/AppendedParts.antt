-- What is appended to a line, one after the other.
use Rattle.std.proofs.Common.{◌≡◌, ℕ, List, ◌++◌, append_assoc}

-- eight texts
pub eight : (a b c d e f g h s r t u v w x y z : List ℕ) → r ≡ s ++ a → t ≡ r ++ b → u ≡ t ++ c → v ≡ u ++ d
    → w ≡ v ++ e → x ≡ w ++ f → y ≡ x ++ g → z ≡ y ++ h
    → z ≡ s ++ (a ++ (b ++ (c ++ (d ++ (e ++ (f ++ (g ++ h)))))))
eight a b c d e f g h s r t u v w x y z i j k l m n o p = rw (p, o, n, m, l, k, j, i) (simp append_assoc)
