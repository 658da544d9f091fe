-- At most three items in place.
use Rattle.std.specs.Prelude.{◌≡◌, List, [], ◌∷◌, refl}
use Rattle.eve_smallbank.specs.declared.few.Places.{Places}
use Rattle.eve_smallbank.specs.declared.few.Places.TheVariants.{Zero, One, Two, Three}

-- the items, in order
abbrev pub items_in : {A : Type 0} → Places A → List A
items_in Zero = []
items_in (One x) = x ∷ []
items_in (Two x y) = x ∷ y ∷ []
items_in (Three x y z) = x ∷ y ∷ z ∷ []

-- the places of at most three items
abbrev pub places_of : {A : Type 0} → List A → Places A
places_of [] = Zero
places_of (x ∷ []) = One x
places_of (x ∷ y ∷ []) = Two x y
places_of (x ∷ y ∷ z ∷ rest) = Three x y z

-- both ways, the same places
pub places_of-items_in : {A : Type 0} (places : Places A) → places_of (items_in places) ≡ places
places_of-items_in Zero = refl
places_of-items_in (One x) = refl
places_of-items_in (Two x y) = refl
places_of-items_in (Three x y z) = refl
