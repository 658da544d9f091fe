-- What stands before what in a list.
use Rattle.std.specs.Prelude.{List, [], ◌∷◌, ⊤}
use Rattle.std.specs.List.{AllByRecursion}

-- each stands so to all after it
abbrev pub EachBefore : {A : Type 0} → (A → A → Type 0) → List A → Type 0
EachBefore R [] = ⊤
EachBefore R (x ∷ xs) = AllByRecursion (R x) xs × EachBefore R xs
