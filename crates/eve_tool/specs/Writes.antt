-- What was written of what a call says of bytes: `says bytes text status` is that the text is what it says of
-- the bytes, and the number the exit status.
use Rattle.std.specs.Prelude.{ℕ, List, Option, IfSome}
use Rattle.std.specs.Io.KnownBytes.{Appends}
use Rattle.eve_streams.specs.Prefix.{AppendsPrefix}

-- what is said of the bytes was written
pub record WritesAll (says : List ℕ → List ℕ → ℕ → Type 0) (bytes : List ℕ) (old new : Option (List ℕ))
    (status : ℕ) : Type 0 where
  pub text : List ℕ
  pub said : says bytes text status
  pub written : Appends old new text

-- a prefix of what is said of the bytes was written, and not all of it
pub record WritesPrefix (says : List ℕ → List ℕ → ℕ → Type 0) (bytes : List ℕ) (old new : Option (List ℕ)) : Type 0
  where
    pub text : List ℕ
    pub status : ℕ
    pub said : says bytes text status
    pub written : AppendsPrefix old new text

-- the same, where the bytes are known
abbrev pub WritesAllOf : (List ℕ → List ℕ → ℕ → Type 0) → Option (List ℕ) → Option (List ℕ) → Option (List ℕ) → ℕ
    → Type 0
WritesAllOf says known old new status = IfSome known (λ bytes. WritesAll says bytes old new status)

abbrev pub WritesPrefixOf : (List ℕ → List ℕ → ℕ → Type 0) → Option (List ℕ) → Option (List ℕ) → Option (List ℕ)
    → Type 0
WritesPrefixOf says known old new = IfSome known (λ bytes. WritesPrefix says bytes old new)
