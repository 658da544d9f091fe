-- Where the first colon of a line stands.
use Rattle.std.proofs.Common.{◌≡◌, ℕ, zero, suc, ◌+◌, ◌-◌, ◌<◌, List, [], ◌∷◌, length, drop}
use Rattle.std.proofs.Common.{refl, sym, arith, add-one}
use Rattle.std.specs.Prelude.{slice_index}
use Rattle.std.proofs.lemmas.List.{drop_all}

-- the byte at a place stands in front of those behind it
byte_at : (line : List ℕ) (at : ℕ) → at < length line → drop at line ≡ slice_index line at ∷ drop (at + 1) line
byte_at line at within = rw (add-one at) (by line at within)
  where
    by : (line : List ℕ) (at : ℕ) → at < length line → drop at line ≡ slice_index line at ∷ drop (suc at) line
    by [] at within = absurd (omega arith)
    by (b ∷ rest) zero within = refl
    by (b ∷ rest) (suc at) within = by rest at (omega arith)

-- nothing stands behind the last byte
pub none_behind : (line : List ℕ) (at : ℕ) → length line - at < 2 → [] ≡ drop (at + 2) line
none_behind line at few = sym (drop_all (at + 2) line (omega arith))
