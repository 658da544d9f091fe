-- What stands in front of bytes, one after the other.
use Rattle.std.specs.Prelude.{ℕ, Bool, List, is_some}
use Rattle.eve_grammar.specs.Readers.{Reader, many_at}

-- whether this many of a field do
abbrev pub are_there : {A : Type 0} → Reader A → ℕ → List ℕ → Bool
are_there one n bytes = is_some (many_at one n bytes)
