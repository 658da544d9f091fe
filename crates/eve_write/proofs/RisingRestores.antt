-- Restores of rising rows, one after the other.
use Rattle.std.proofs.Common.{◌≡◌, ℕ, ◌+◌, ◌<◌, ◌≤◌, Bool, false, ◌&&◌, leb, ◌∷◌, List, length, get_or}
use Rattle.std.proofs.Common.{drop, sym, ap, ◌∙◌}
use Rattle.std.proofs.lemmas.Bool.{le-leb, lt-leb}
use Rattle.std.proofs.lemmas.List.{drop_more}
use Rattle.eve_grammar.specs.declared.restore.Restore as code
use Rattle.eve_grammar.proofs.Scans.{is_rising_from, rising-cons}

module _ (least i : ℕ) (xs : List code.Restore) (x : code.Restore) (whole : Bool) (within : i < length xs)
    (is : x ≡ get_or xs i x) (so_far : is_rising_from least (drop i xs) ≡ whole) where
  cut : whole ≡ (leb least x.row && is_rising_from (x.row + 1) (drop (i + 1) xs))
  cut =
      sym so_far ∙ ap (λ ys. is_rising_from least ys) (drop_more xs i x within)
      ∙ ap (λ y. is_rising_from least (y ∷ drop (i + 1) xs)) (sym is)
      ∙ rising-cons least x (drop (i + 1) xs)

  -- a restore above the least so far
  pub rising_more : least ≤ x.row → is_rising_from (x.row + 1) (drop (i + 1) xs) ≡ whole
  rising_more above =
      sym (cut ∙ ap (λ b. b && is_rising_from (x.row + 1) (drop (i + 1) xs)) (le-leb least x.row above))

  -- a restore below it
  pub rising_ends : x.row < least → false ≡ whole
  rising_ends below =
      sym (cut ∙ ap (λ b. b && is_rising_from (x.row + 1) (drop (i + 1) xs)) (lt-leb least x.row below))
