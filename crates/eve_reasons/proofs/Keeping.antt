-- Of lines that are said the one that is kept is the one of its number.
use Rattle.std.proofs.Common.{◌≡◌, ℕ, zero, suc, List, [], ◌∷◌, map, Some, refl}
use Rattle.std.specs.Prelude.{slice_get}
use Rattle.eve_reasons.specs.Lines.{ended, and_line, and_lines, none_yet}

-- what is kept stays
stays : (lines : List (List ℕ)) (line : List ℕ)
    → (and_lines lines (record { before = 0; line = Some line })).line ≡ Some line
unfolding and_line
stays [] line = refl
stays (words ∷ rest) line = stays rest line

pub kept_line : (lines : List (List ℕ)) (i : ℕ)
    → (and_lines lines (none_yet i)).line ≡ slice_get (map ended lines) i
unfolding and_line
kept_line [] i = refl
kept_line (words ∷ rest) zero = stays rest (ended words)
kept_line (words ∷ rest) (suc i) = kept_line rest i
