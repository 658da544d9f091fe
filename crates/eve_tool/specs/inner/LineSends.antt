-- What was put into a line that is sent where it is full.
use Rattle.std.specs.Prelude.{◌≡◌, ℕ, List, ◌++◌, Option}
use Rattle.std.specs.Io.KnownBytes.{Appends}

-- of what was held and then this text, some was sent and the rest is kept
pub record PutsText (old new : Option (List ℕ)) (held kept text : List ℕ) : Type 0 where
  pub sent : List ℕ
  pub appended : Appends old new sent
  pub whole : sent ++ kept ≡ held ++ text
