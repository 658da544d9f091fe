-- How a name is held in place.
use Rattle.std.specs.Prelude.{◌≡◌, ℕ, IsTrue, List, length, take}
use Rattle.eve_accounts.specs.declared.name.Name.TheInside.{Inside}
use Rattle.eve_accounts.specs.Names.{is_name, padded}

-- the name that is held
abbrev pub name_of : Inside → List ℕ
name_of n = take n.len n.bytes

-- how a name is held
abbrev pub held : List ℕ → Inside
held name = record { bytes = padded name; len = length name }

-- what is true of every name that is held
pub record IsHeldName (n : Inside) : Type 0 where
  pub name : IsTrue (is_name (name_of n))
  pub is : held (name_of n) ≡ n
