-- Faults come one before another.
use Rattle.std.proofs.Common.{◌≡◌, ◌⊎◌, inl, inr, Some, arith}
use Rattle.eve_views.specs.Form.{Precedes}
use Rattle.eve_views.specs.First.{first_of}
use Rattle.eve_views.specs.declared.fault.Fault.{Fault}
use Rattle.eve_views.proofs.Firsts.{up_to-trans, first_of_two}

pub precedes-trans : (f g h : Fault) → Precedes f g → Precedes g h → Precedes f h
precedes-trans f g h (inl a) (inl b) = inl (omega (arith, a, b))
precedes-trans f g h (inl a) (inr b) = inl (omega (arith, a, b.0))
precedes-trans f g h (inr a) (inl b) = inl (omega (arith, a.0, b))
precedes-trans f g h (inr a) (inr b) = inr (omega (arith, a.0, b.0), up_to-trans f g h a.1 b.1)

pub one_of_two : (f g : Fault) → (h : Fault) × (first_of (Some f) (Some g) ≡ Some h) × ((h ≡ f) ⊎ (h ≡ g))
    × Precedes h f × Precedes h g
one_of_two f g = let two = first_of_two f g in (two.0, two.1, two.2.one, two.2.before, two.2.and_before)
