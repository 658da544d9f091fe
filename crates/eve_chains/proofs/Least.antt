-- The least offset of the records that don't fit: of one list and of another after it.
use Rattle.std.proofs.Common.{◌≡◌, ℕ, ◌+◌, ◌≤◌, ◌<◌, nat_lt, Bool, true, false, cond, List, [], ◌∷◌, ◌++◌, map, take}
use Rattle.std.proofs.Common.{slice_get, get_or, length, Option, Some, None, refl, sym, subst, ap, ◌∙◌, inl, inr, ◌⊎◌}
use Rattle.std.proofs.Common.{arith}
use Rattle.std.proofs.lemmas.Bool.{cases_lt, ltb-true, lt-ltb, false≢true}
use Rattle.std.specs.List.{AllByRecursion}
use Rattle.std.proofs.lemmas.List.{get_or-map, map_more}
use Rattle.std.proofs.lemmas.Option.{get_or_from_slice_get, slice_get_within}
use Rattle.eve_smallbank.specs.declared.request.Request as shown
use Rattle.eve_smallbank.specs.declared.request.Reply.{Reply}
use Rattle.eve_smallbank.specs.declared.request.Reply.TheVariants.{Done}
use Rattle.eve_smallbank.specs.SmallBank.{Balance, plain}
use Rattle.eve_smallbank.specs.Access.{Executed, Fits}
use Rattle.eve_smallbank.proofs.Members.{all_in, all_from_in, in_prefix}
use Rattle.eve_grammar.specs.Trace.{Access}
use Rattle.eve_grammar.proofs.Lists.{all-append}
use Rattle.eve_views.specs.Form.{SomePlace}
use Rattle.eve_chains.proofs.Distinct.{in_right}
use Rattle.eve_chains.proofs.Faultless.{in_place, place_of}
use Rattle.eve_chains.specs.Records.{recorded, recorded_of, IsLeastMismatch, lesser}

-- ---- two lists

module _ (names : List (List ℕ)) where
  abbrev Mismatch : ℕ → ℕ × Executed → Type 0
  Mismatch at x = (x.0 ≡ at) × ¬ Fits names x.1

  abbrev IsUpToMismatch : ℕ → ℕ × Executed → Type 0
  IsUpToMismatch at x = ¬ Fits names x.1 → at ≤ x.0

  mismatch_left : (at : ℕ) (xs ys : List (ℕ × Executed)) → SomePlace xs (λ _ x. Mismatch at x)
      → SomePlace (xs ++ ys) (λ _ x. Mismatch at x)
  mismatch_left at xs ys place = place_of (Mismatch at) (xs ++ ys) (in_prefix ys (in_place xs place)) place.holds

  mismatch_right : (at : ℕ) (xs ys : List (ℕ × Executed)) → SomePlace ys (λ _ x. Mismatch at x)
      → SomePlace (xs ++ ys) (λ _ x. Mismatch at x)
  mismatch_right at xs ys place = place_of (Mismatch at) (xs ++ ys) (in_right xs ys (in_place ys place)) place.holds

  up_from_fit : (at : ℕ) (xs : List (ℕ × Executed)) → AllByRecursion (λ x. Fits names x.1) xs
      → AllByRecursion (IsUpToMismatch at) xs
  up_from_fit at xs all = all_from_in (IsUpToMismatch at) xs
      (λ x i mismatch. absurd (mismatch (all_in (λ x. Fits names x.1) all i)))

  up_from_less : (m n : ℕ) (xs : List (ℕ × Executed)) → m ≤ n → AllByRecursion (IsUpToMismatch n) xs
      → AllByRecursion (IsUpToMismatch m) xs
  up_from_less m n xs up all =
      all_from_in (IsUpToMismatch m) xs (λ x i mismatch. through x.0 (all_in (IsUpToMismatch n) all i mismatch))
    where
      through : (k : ℕ) → n ≤ k → m ≤ k
      through k h = omega arith

  lesser_of : (m n : ℕ) (xs ys : List (ℕ × Executed)) (b : Bool) → nat_lt n m ≡ b → IsLeastMismatch names xs (Some m)
      → IsLeastMismatch names ys (Some n)
      → IsLeastMismatch names (xs ++ ys) (cond b (Some n) (Some m))
  lesser_of m n xs ys true less first other = (
    mismatch_right n xs ys other.0,
    all-append (IsUpToMismatch n) xs ys (up_from_less n m xs (below (ltb-true n m less)) first.1) other.1,
  )
    where
      below : n < m → n ≤ m
      below h = omega arith
  lesser_of m n xs ys false more first other = (
    mismatch_left m xs ys first.0,
    all-append (IsUpToMismatch m) xs ys first.1 (up_from_less m n ys (above (cases_lt n m)) other.1),
  )
    where
      above : (n < m) ⊎ (m ≤ n) → m ≤ n
      above (inl h) = absurd (false≢true (sym more ∙ lt-ltb n m h))
      above (inr h) = h

  pub least_append : (xs ys : List (ℕ × Executed)) (o p : Option ℕ) → IsLeastMismatch names xs o
      → IsLeastMismatch names ys p
      → IsLeastMismatch names (xs ++ ys) (lesser o p)
  least_append xs ys None None first other = all-append (λ x. Fits names x.1) xs ys first other
  least_append xs ys None (Some n) first other =
      (mismatch_right n xs ys other.0, all-append (IsUpToMismatch n) xs ys (up_from_fit n xs first) other.1)
  least_append xs ys (Some m) None first other =
      (mismatch_left m xs ys first.0, all-append (IsUpToMismatch m) xs ys first.1 (up_from_fit m ys other))
  least_append xs ys (Some m) (Some n) first other = lesser_of m n xs ys (nat_lt n m) refl first other

-- ---- one record

pub mismatch_alone : (names : List (List ℕ)) (x : ℕ × Executed) (at : ℕ) → at ≡ x.0 → (Fits names x.1 → ⊥)
    → IsLeastMismatch names (x ∷ []) (Some at)
mismatch_alone names x at same mismatch =
    (record { before = []; item = x; rest = []; is = refl; holds = (sym same, mismatch) }, (λ _. up same, tt))
  where
    up : at ≡ x.0 → at ≤ x.0
    up e = omega arith

-- ---- a record of requests and replies

pub recorded_at : (requests : List shown.Request) (replies : List Reply) (x : ℕ × Access) (index : ℕ)
    (request : shown.Request) (reply : Reply) → index ≡ x.1.index → index < length requests
    → request ≡ get_or requests index request → slice_get replies index ≡ Some reply
    → recorded_of (map plain requests) replies x ≡ (x.0, recorded (plain request) reply x.1.entries)
recorded_at requests replies x index request reply is within read answered =
    let asked : get_or (map plain requests) x.1.index (Balance []) ≡ plain request =
    ap (λ (n : ℕ). get_or (map plain requests) n (Balance [])) (sym is)
    ∙ get_or-map plain requests index request (Balance []) within ∙ ap plain (sym read) in
    let replied : get_or replies x.1.index Done ≡ reply = ap (λ (n : ℕ). get_or replies n Done) (sym is)
    ∙ get_or_from_slice_get replies index reply Done answered in
    λ i. (x.0, recorded (asked i) (replied i) x.1.entries)

-- ---- one record more

-- the item at a place, where all before it were judged
pub least_next : (names : List (List ℕ)) (f : ℕ × Access → ℕ × Executed) (xs : List (ℕ × Access)) (i : ℕ)
    (x : ℕ × Access) (y : ℕ × Executed) (o p : Option ℕ) → slice_get xs i ≡ Some x → f x ≡ y
    → IsLeastMismatch names (map f (take i xs)) o → IsLeastMismatch names (y ∷ []) p
    → IsLeastMismatch names (map f (take (i + 1) xs)) (lesser o p)
least_next names f xs i x y o p at is first other =
    let within = slice_get_within xs i x at in
    let one : map f (take (i + 1) xs) ≡ map f (take i xs) ++ y ∷ [] =
    map_more f xs i x within ∙ ap (λ (z : ℕ × Access). map f (take i xs) ++ f z ∷ [])
    (get_or_from_slice_get xs i x x at) ∙ ap (λ (z : ℕ × Executed). map f (take i xs) ++ z ∷ []) is in
    subst (λ (zs : List (ℕ × Executed)). IsLeastMismatch names zs (lesser o p)) (sym one)
    (least_append names (map f (take i xs)) (y ∷ []) o p first other)
