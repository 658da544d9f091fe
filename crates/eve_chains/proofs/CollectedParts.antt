-- What rayon collects, where each of what it made is there.
use Rattle.std.proofs.Common.{◌≡◌, List, [], ◌∷◌, map, Result, Ok, Err, Vec, Global, IfOk, sym, subst}
use Rattle.std.specs.Prelude.{MatchResult, Contains}
use Rattle.std.specs.List.{AllZip}
use Rattle.std.specs.declared.alloc.AllocError.{AllocError}

module _ {X Y : Type 0} (R : X → Y → Type 0) where
  all_ok : (xs : List X) (ys : List Y) → AllZip (λ x (u : Result Y AllocError). IfOk u (R x)) xs (map Ok ys)
      → AllZip R xs ys
  all_ok [] [] each = tt
  all_ok [] (y ∷ ys) each = absurd each
  all_ok (x ∷ xs) [] each = absurd each
  all_ok (x ∷ xs) (y ∷ ys) each = (each.0, all_ok xs ys each.1)

  pub collected : (xs : List X) (us : List (Result Y AllocError)) (r : Result (Vec Y Global) AllocError)
      → MatchResult r (λ v. (ys : List Y) × (us ≡ map Ok ys) × (v.items ≡ ys)) (λ e. Contains us (Err e))
      → AllZip (λ x u. IfOk u (R x)) xs us → IfOk r (λ v. AllZip R xs v.items)
  collected xs us (Ok v) gave each =
      subst (AllZip R xs) (sym gave.2)
      (all_ok xs gave.0 (subst (AllZip (λ x (u : Result Y AllocError). IfOk u (R x)) xs) gave.1 each))
  collected xs us (Err e) gave each = tt
