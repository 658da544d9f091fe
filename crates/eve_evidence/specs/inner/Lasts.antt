-- The last write of a row on a way, as it was found.
use Rattle.std.specs.Prelude.{◌≡◌, ℕ, Some, List}
use Rattle.eve_evidence.specs.declared.evidence.Source.TheVariants.{Write}
use Rattle.eve_evidence.specs.declared.sources.Left.{Left}
use Rattle.eve_evidence.specs.Sources.{Passed, IsWriter, IsNearest, last_left}

-- the record writes the row, and this is what it leaves
pub record IsLeftAlone (row : ℕ) (x : Passed) (l : Left) : Type 0 where
  pub writes : IsWriter row x
  pub by_is : l.by ≡ Write x.index x.batch x.at
  pub left : last_left row x.entries ≡ Some l.has

-- this is what the last write of the row on the way left, and who it was
pub record IsLast (row : ℕ) (way : List Passed) (l : Left) : Type 0 where
  pub found : Passed
  pub nearest : IsNearest row way found
  pub own : IsLeftAlone row found l
