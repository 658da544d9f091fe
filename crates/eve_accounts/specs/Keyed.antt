-- Where the hash of names and of clients begins.
use Rattle.std.specs.Prelude.{ℕ}
use Rattle.std.specs.Hash.{le_bytes}
use Rattle.std.specs.Hash.DefaultHasher as random_hash
use Rattle.std.specs.Hash.FoldHasher as cheap_hash
use Rattle.std.specs.declared.hash.FoldHasher.{FoldHasher}
use Rattle.std.specs.RandomState.{initial_hasher}
use Rattle.std.specs.declared.collections.hash_map.RandomState.{RandomState}

-- the word that random ones give: what they make of the number 0
abbrev pub secret_word : RandomState → ℕ
secret_word random = random_hash.finish (random_hash.write (initial_hasher random) (le_bytes 8 0))

-- the cheap hash, once it has been fed that word
abbrev pub keyed_by : RandomState → FoldHasher
keyed_by random = cheap_hash.write cheap_hash.initial (le_bytes 8 (secret_word random))
