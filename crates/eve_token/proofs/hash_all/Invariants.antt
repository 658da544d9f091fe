use Rattle.std.proofs.Common.{◌≡◌, ◌/◌, ℕ, List, ◌++◌}
use Rattle.std.specs.List.{flat_map}
use Rattle.std.specs.Slice.Iter.{chunks_rest, chunks_size}
use Rattle.sha2.specs.Hashers.{Holds256}
use Rattle.eve_token.specs.declared.TheConstants.{BLOCK}
use Rattle.eve_token.proofs.hash_all.Given as goal

-- the hasher holds the bytes of the items that the iterator has given, and the iterator has the others
abbrev pub invariant-loop-chunk : goal.invariant-loop-chunk
invariant-loop-chunk g l =
    (chunks_size l.chunk-iterator ≡ BLOCK / g.T.Spell.LEN)
    × ((m : List ℕ) → Holds256 l.fn.hasher m → (done : List ℕ) × Holds256 l.hasher (m ++ done)
    × (done ++ flat_map g.T.Spell.text (chunks_rest l.chunk-iterator) ≡ flat_map g.T.Spell.text l.items))
