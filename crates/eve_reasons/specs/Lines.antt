-- Lines that are said one after another, of which the one of a number is kept.
use Rattle.std.specs.Prelude.{ℕ, zero, suc, List, [], ◌∷◌, ◌++◌, Option, None, Some}

-- a line, with its line feed
abbrev pub ended : List ℕ → List ℕ
ended words = words ++ 10 ∷ []

-- how many lines come before the one that is kept, and that one, once it has come
pub record Kept : Type 0 where
  pub before : ℕ
  pub line : Option (List ℕ)

-- where none was said
abbrev pub none_yet : ℕ → Kept
none_yet i = record { before = i; line = None }

-- with one line more
abbrev pub keeping : List ℕ → ℕ → Option (List ℕ) → Kept
keeping words zero None = record { before = 0; line = Some (ended words) }
keeping words zero (Some line) = record { before = 0; line = Some line }
keeping words (suc before) line = record { before = before; line = line }

unfoldable pub and_line : List ℕ → Kept → Kept
and_line words k = keeping words k.before k.line

-- with these lines more
abbrev pub and_lines : List (List ℕ) → Kept → Kept
and_lines [] k = k
and_lines (words ∷ rest) k = and_lines rest (and_line words k)
