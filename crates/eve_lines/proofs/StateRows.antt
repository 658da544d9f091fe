-- The rows of a state transferred, one after another.
use Rattle.std.proofs.Common.{◌≡◌, ℕ, ◌+◌, List, ◌∷◌, map, drop, Some, ap}
use Rattle.std.specs.List.{enumerate_from, slice_get}
use Rattle.eve_smallbank.specs.declared.versioned.Versioned.{Versioned}
use Rattle.eve_grammar.proofs.Lists.{drop_here}
use Rattle.eve_lines.specs.Words.{row_words}

-- those from one on are this one, and then the others
pub rows_from : (rows : List Versioned) (came : ℕ) (has : Versioned) → slice_get rows came ≡ Some has
    → map row_words (enumerate_from came (drop came rows))
    ≡ row_words (came, has) ∷ map row_words (enumerate_from (came + 1) (drop (came + 1) rows))
rows_from rows came has at = ap (λ l. map row_words (enumerate_from came l)) (drop_here rows came has at)
