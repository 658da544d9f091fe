-- What a call that writes bytes does to a sink.
use Rattle.std.specs.Prelude.{◌≡◌, ℕ, List, [], ◌∷◌, ◌++◌, Option, Result, Ok, Err}
use Rattle.std.specs.Borrow.{Bor}
use Rattle.std.specs.Io.KnownBytes.{Appends}
use Rattle.eve_streams.specs.Failures.{after_failure}
use Rattle.eve_streams.specs.Prefix.{AppendsPrefix}

-- all of a text was taken, and the sink did not fail
pub record Wrote {S : Type 0} (written : S → Option (List ℕ)) (failures : S → ℕ) (old new : S) (text : List ℕ) : Type 0
  where
    pub sent : Appends (written old) (written new) text
    pub fine : failures new ≡ failures old

-- a prefix of a text was taken, and not all of it, and then the sink failed once
pub record Stopped {S : Type 0} (written : S → Option (List ℕ)) (failures : S → ℕ) (old new : S)
    (text : List ℕ) : Type 0 where
  pub prefix : AppendsPrefix (written old) (written new) text
  pub counted : failures new ≡ after_failure (failures old)

-- a call wrote a text, or stopped in it where it answered a fault
abbrev pub Writes : {S A E : Type 0} → (S → Option (List ℕ)) → (S → ℕ) → S → S → Result A E → List ℕ → Type 0
Writes written failures old new (Ok _) text = Wrote written failures old new text
Writes written failures old new (Err _) text = Stopped written failures old new text

-- a text was appended to the bytes of a frame
pub record Puts (old new text : List ℕ) : Type 0 where
  pub items : new ≡ old ++ text

-- texts one after the other
abbrev pub joined : List (Bor (List ℕ)) → List ℕ
joined [] = []
joined (x ∷ []) = x.now
joined (x ∷ y ∷ ys) = x.now ++ joined (y ∷ ys)
