-- What was seen of at most three rows.
use Rattle.std.proofs.Common.{◌≡◌, ℕ, Bool, cond, ◌&&◌, List, [], ◌∷◌, map, length, slice_get, Some, None}
use Rattle.std.proofs.Common.{refl, sym, ap, ap₂, ◌∙◌}
use Rattle.eve_smallbank.specs.declared.entry.Kind.{Kind}
use Rattle.eve_smallbank.specs.Access.{RowKinds}
use Rattle.eve_smallbank.specs.Chain.{Table}
use Rattle.eve_grammar.proofs.Lists.{one_listed, two_listed, three_listed}
use Rattle.eve_stamps.specs.Stripes.{HeldRow, row_in}
use Rattle.eve_stamps.specs.Requests.{seen_of}
use Rattle.eve_stamps.proofs.Refusals.{IsSeen, told_some}

-- the row was found, as it is now
abbrev pub IsFound : (ℕ → Bool) → Table → ℕ × Kind → HeldRow → Type 0
IsFound is_there now r held = Some held ≡ cond (is_there r.0) (Some (row_in now r.0)) None

sees : (is_there : ℕ → Bool) (now : Table) (r : ℕ × Kind) (held : HeldRow) (rows : RowKinds) (seen : List HeldRow)
    → IsFound is_there now r held → IsSeen is_there now rows seen → IsSeen is_there now (r ∷ rows) (held ∷ seen)
sees is_there now r held rows seen found rest =
    let both = told_some (is_there r.0) held (row_in now r.0) found in
    record { there = ap₂ (λ a b. a && b) both.0 rest.there; as_now = ap₂ (λ a b. a ∷ b) both.1 rest.as_now }

none_seen : (is_there : ℕ → Bool) (now : Table) → IsSeen is_there now [] []
none_seen is_there now = record { there = refl; as_now = refl }

told : (is_there : ℕ → Bool) (now : Table) (found rows : RowKinds) (seen : List HeldRow) → found ≡ rows
    → IsSeen is_there now found seen → Some seen ≡ seen_of is_there now rows
told is_there now found rows seen same is =
    ap Some is.as_now ∙ sym (ap (λ b. cond b (Some (map (λ r. row_in now r.0) found)) None) is.there)
    ∙ ap (seen_of is_there now) same

pub one_seen : (is_there : ℕ → Bool) (now : Table) (rows : RowKinds) (r : ℕ × Kind) (held : HeldRow) → length rows ≡ 1
    → slice_get rows 0 ≡ Some r → IsFound is_there now r held → Some (held ∷ []) ≡ seen_of is_there now rows
one_seen is_there now rows r held one at found =
    told is_there now (r ∷ []) rows (held ∷ []) (one_listed rows r one at)
    (sees is_there now r held [] [] found (none_seen is_there now))

pub two_seen : (is_there : ℕ → Bool) (now : Table) (rows : RowKinds) (r q : ℕ × Kind) (held other : HeldRow)
    → length rows ≡ 2 → slice_get rows 0 ≡ Some r → slice_get rows 1 ≡ Some q → IsFound is_there now r held
    → IsFound is_there now q other → Some (held ∷ other ∷ []) ≡ seen_of is_there now rows
two_seen is_there now rows r q held other two at next found more =
    told is_there now (r ∷ q ∷ []) rows (held ∷ other ∷ []) (two_listed rows r q two at next)
    (sees is_there now r held (q ∷ []) (other ∷ []) found
    (sees is_there now q other [] [] more (none_seen is_there now)))

pub three_seen : (is_there : ℕ → Bool) (now : Table) (rows : RowKinds) (r q p : ℕ × Kind) (held other last : HeldRow)
    → length rows ≡ 3 → slice_get rows 0 ≡ Some r → slice_get rows 1 ≡ Some q → slice_get rows 2 ≡ Some p
    → IsFound is_there now r held → IsFound is_there now q other → IsFound is_there now p last
    → Some (held ∷ other ∷ last ∷ []) ≡ seen_of is_there now rows
three_seen is_there now rows r q p held other last three at next end found more most =
    told is_there now (r ∷ q ∷ p ∷ []) rows (held ∷ other ∷ last ∷ []) (three_listed rows r q p three at next end)
    (sees is_there now r held (q ∷ p ∷ []) (other ∷ last ∷ []) found
    (sees is_there now q other (p ∷ []) (last ∷ []) more
    (sees is_there now p last [] [] most (none_seen is_there now))))
