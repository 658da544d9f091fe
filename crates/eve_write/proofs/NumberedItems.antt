-- Items that are written with their numbers.
use Rattle.std.proofs.Common.{◌≡◌, ℕ, ◌+◌, ◌<◌, List, Option, length, get_or, take, map, sym, subst, ◌∙◌, ap, arith}
use Rattle.std.specs.List.{flat_map, enumerate_from}
use Rattle.std.proofs.lemmas.List.{length-map, get_or-map}
use Rattle.std.proofs.lemmas.List.FromFn.{get_or-enumerate_from, length-enumerate_from}
use Rattle.eve_write.specs.Writes.{Wrote, Stopped}
use Rattle.eve_write.proofs.JoinedWrites.{Wrote-more, Stopped-more}

numbered_item : {X Y : Type 0} (view : X → Y) (n i : ℕ) (xs : List X) (x : X) → i < length xs → x ≡ get_or xs i x
    → (n + i, view x) ≡ get_or (enumerate_from n (map view xs)) i (n + i, view x)
numbered_item {Y = Y} view n i xs x within is =
    let long : i < length (map view xs) = omega (arith, length-map xs view) in
    let there = get_or-enumerate_from n (map view xs) i (n + i, view x) long in
    let item : get_or (map view xs) i (view x) ≡ view x = get_or-map view xs i x (view x) within ∙ ap view (sym is) in
    let pair : Y → ℕ × Y = λ y. (n + i, y) in
    sym (there ∙ ap pair item)

pub Wrote-numbered : {S X Y : Type 0} {written : S → Option (List ℕ)} {failures : S → ℕ} {a b c : S}
    (f : ℕ × Y → List ℕ) (view : X → Y) (n m i : ℕ) (xs : List X) (x : X)
    → i < length xs → x ≡ get_or xs i x → m ≡ n + i
    → Wrote written failures a b (flat_map f (take i (enumerate_from n (map view xs))))
    → Wrote written failures b c (f (m, view x))
    → Wrote written failures a c (flat_map f (take (i + 1) (enumerate_from n (map view xs))))
Wrote-numbered {Y = Y} {written = written} {failures = failures} {b = b} {c = c} f view n m i xs x within is number one
    two =
    let long : i < length (enumerate_from n (map view xs)) =
    omega (arith, length-map xs view, length-enumerate_from n (map view xs)) in
    let text : ℕ → List ℕ = λ k. f (k, view x) in
    let item = subst (Wrote written failures b c) (ap text number) two in
    Wrote-more f (enumerate_from n (map view xs)) i (n + i, view x) long (numbered_item view n i xs x within is) one
    item

pub Stopped-numbered : {S X Y : Type 0} {written : S → Option (List ℕ)} {failures : S → ℕ} {a b c : S}
    (f : ℕ × Y → List ℕ) (view : X → Y) (n m i : ℕ) (xs : List X) (x : X)
    → i < length xs → x ≡ get_or xs i x → m ≡ n + i
    → Wrote written failures a b (flat_map f (take i (enumerate_from n (map view xs))))
    → Stopped written failures b c (f (m, view x))
    → Stopped written failures a c (flat_map f (enumerate_from n (map view xs)))
Stopped-numbered {Y = Y} {written = written} {failures = failures} {b = b} {c = c} f view n m i xs x within is number
    one two =
    let long : i < length (enumerate_from n (map view xs)) =
    omega (arith, length-map xs view, length-enumerate_from n (map view xs)) in
    let text : ℕ → List ℕ = λ k. f (k, view x) in
    let item = subst (Stopped written failures b c) (ap text number) two in
    Stopped-more f (enumerate_from n (map view xs)) i (n + i, view x) long (numbered_item view n i xs x within is) one
    item
