-- What several writes do together.
use Rattle.std.proofs.Common.{◌≡◌, ℕ, ◌+◌, ◌<◌, List, [], ◌∷◌, ◌++◌, Option, length, get_or, take, drop, refl, sym}
use Rattle.std.proofs.Common.{subst, ◌∙◌, ap, append_assoc, append-nil, map, Result, Ok, Err, true}
use Rattle.std.specs.Borrow.{Bor}
use Rattle.std.specs.List.{flat_map, list_all}
use Rattle.std.proofs.lemmas.List.{drop_more, take_more, take-append-drop}
use Rattle.std.proofs.lemmas.Bool.{false≢true}
use Rattle.std.specs.Result.{IsErr}
use Rattle.std.proofs.lemmas.List.Folds.{flat_map-map}
use Rattle.std.proofs.lemmas.List.Concat.{flat_map-append}
use Rattle.std.proofs.KnownBytes.{Appends-trans}
use Rattle.eve_streams.specs.Failures.{after_failure}
use Rattle.eve_streams.proofs.JoinedSends.{AppendsPrefix-after, AppendsPrefix-more}
use Rattle.eve_write.specs.Writes.{Puts, Wrote, Stopped, Writes, joined}

-- xs, and then ys
pub Wrote-then : {S : Type 0} {written : S → Option (List ℕ)} {failures : S → ℕ} {a b c : S} {xs ys : List ℕ}
    → Wrote written failures a b xs → Wrote written failures b c ys → Wrote written failures a c (xs ++ ys)
Wrote-then {written = written} {a = a} {b = b} {c = c} {xs = xs} {ys = ys} one two = record {
  sent = Appends-trans (written a) (written b) (written c) xs ys one.sent two.sent;
  fine = two.fine ∙ one.fine;
}

-- all of xs, and then a prefix of ys
pub Stopped-later : {S : Type 0} {written : S → Option (List ℕ)} {failures : S → ℕ} {a b c : S} {xs ys : List ℕ}
    → Wrote written failures a b xs → Stopped written failures b c ys → Stopped written failures a c (xs ++ ys)
Stopped-later {written = written} {a = a} {b = b} {c = c} {xs = xs} {ys = ys} one two = record {
  prefix = AppendsPrefix-after (written a) (written b) (written c) xs ys one.sent two.prefix;
  counted = two.counted ∙ ap after_failure one.fine;
}

-- a prefix of xs is one of xs and what follows
pub Stopped-before : {S : Type 0} {written : S → Option (List ℕ)} {failures : S → ℕ} {a b : S} {xs : List ℕ}
    (ys : List ℕ)
    → Stopped written failures a b xs → Stopped written failures a b (xs ++ ys)
Stopped-before {written = written} {a = a} {b = b} {xs = xs} ys one = record {
  prefix = AppendsPrefix-more (written a) (written b) xs ys one.prefix;
  counted = one.counted;
}

-- a list is what stands before a place, the item there, and what follows
flat_map-split : {X : Type 0} (f : X → List ℕ) (xs : List X) (i : ℕ) (x : X) → i < length xs → x ≡ get_or xs i x
    → (flat_map f (take i xs) ++ f x) ++ flat_map f (drop (i + 1) xs) ≡ flat_map f xs
flat_map-split f xs i x within is =
    let prefix = flat_map f (take i xs) in
    let rest : drop i xs ≡ x ∷ drop (i + 1) xs = drop_more xs i x within ∙ ap (λ y. y ∷ drop (i + 1) xs) (sym is) in
    let parts : flat_map f (take i xs ++ drop i xs) ≡ prefix ++ flat_map f (drop i xs) =
    flat_map-append f (take i xs) (drop i xs) in
    append_assoc prefix (f x) (flat_map f (drop (i + 1) xs)) ∙ ap (λ ys. prefix ++ flat_map f ys) (sym rest) ∙ sym parts
    ∙ ap (flat_map f) (take-append-drop i xs)

-- all items before a place, and then a prefix of the one there
pub Stopped-more : {S X : Type 0} {written : S → Option (List ℕ)} {failures : S → ℕ} {a b c : S} (f : X → List ℕ)
    (xs : List X) (i : ℕ) (x : X)
    → i < length xs → x ≡ get_or xs i x → Wrote written failures a b (flat_map f (take i xs))
    → Stopped written failures b c (f x) → Stopped written failures a c (flat_map f xs)
Stopped-more {written = written} {failures = failures} {a = a} {c = c} f xs i x within is one two =
    subst (Stopped written failures a c) (flat_map-split f xs i x within is)
    (Stopped-before (flat_map f (drop (i + 1) xs)) (Stopped-later one two))

-- the last text is not followed by nothing
pub joined_is : (texts : List (Bor (List ℕ))) → joined texts ≡ flat_map (λ x. x.now) texts
joined_is [] = refl
joined_is (x ∷ []) = sym (append-nil x.now)
joined_is (x ∷ y ∷ ys) = ap (λ l. x.now ++ l) (joined_is (y ∷ ys))

-- what stopped answers a fault
pub Writes-at_err : {S A E : Type 0} (written : S → Option (List ℕ)) (failures : S → ℕ) (old new : S) (text : List ℕ)
    (result : Result A E)
    → IsErr result → Stopped written failures old new text → Writes written failures old new result text
Writes-at_err written failures old new text (Ok x) is_err stopped = absurd (false≢true is_err)
Writes-at_err written failures old new text (Err e) is_err stopped = stopped

-- xs, and then what the last call writes
pub Writes-then : {S A E : Type 0} (written : S → Option (List ℕ)) (failures : S → ℕ) (a b c : S) (xs ys : List ℕ)
    (result : Result A E)
    → Wrote written failures a b xs → Writes written failures b c result ys
    → Writes written failures a c result (xs ++ ys)
Writes-then written failures a b c xs ys (Ok x) one two = Wrote-then one two
Writes-then written failures a b c xs ys (Err e) one two = Stopped-later one two

-- ---- equal texts

-- equal texts, and equal ones after them
pub app : {a b c d : List ℕ} → a ≡ b → c ≡ d → (a ++ c) ≡ (b ++ d)
app {b = b} {c = c} prefix rest = ap (λ x. x ++ c) prefix ∙ ap (λ x. b ++ x) rest

-- equal texts, and the same after them
pub onto : (t : List ℕ) {a b : List ℕ} → a ≡ b → (a ++ t) ≡ (b ++ t)
onto t prefix = ap (λ x. x ++ t) prefix

-- equal texts after the same byte
pub led : (byte : ℕ) {a b : List ℕ} → a ≡ b → (byte ∷ a) ≡ (byte ∷ b)
led byte rest = ap (λ x. byte ∷ x) rest

-- ---- lists of items

-- each item fits where every one does
pub all_fit : {X : Type 0} (xs : List X) → list_all (λ _. true) xs ≡ true
all_fit [] = refl
all_fit (x ∷ xs) = all_fit xs

-- the items before a place, and the one there
pub flat_map-more : {X : Type 0} (f : X → List ℕ) (xs : List X) (i : ℕ) (x : X)
    → i < length xs → x ≡ get_or xs i x → flat_map f (take i xs) ++ f x ≡ flat_map f (take (i + 1) xs)
flat_map-more f xs i x within is =
    let more : take (i + 1) xs ≡ take i xs ++ x ∷ [] = take_more xs i x within
    ∙ ap (λ y. take i xs ++ y ∷ []) (sym is) in
    ap (λ t. flat_map f (take i xs) ++ t) (sym (append-nil (f x))) ∙ sym (flat_map-append f (take i xs) (x ∷ []))
    ∙ ap (flat_map f) (sym more)

-- one item more is written
pub Wrote-more : {S X : Type 0} {written : S → Option (List ℕ)} {failures : S → ℕ} {a b c : S} (f : X → List ℕ)
    (xs : List X) (i : ℕ) (x : X)
    → i < length xs → x ≡ get_or xs i x → Wrote written failures a b (flat_map f (take i xs))
    → Wrote written failures b c (f x) → Wrote written failures a c (flat_map f (take (i + 1) xs))
Wrote-more {written = written} {failures = failures} {a = a} {c = c} f xs i x within is one two =
    subst (Wrote written failures a c) (flat_map-more f xs i x within is) (Wrote-then one two)

-- items of the code as what they are
pub each_as : {X Y : Type 0} (f : Y → List ℕ) (view : X → Y) (xs ys : List X) → xs ≡ ys → flat_map (λ x. f (view x)) xs
    ≡ flat_map f (map view ys)
each_as f view xs ys same = ap (flat_map (λ x. f (view x))) same ∙ sym (flat_map-map f view ys)

pub flat_map-flat_map : {X Y : Type 0} (f : Y → List ℕ) (g : X → List Y) (xs : List X) → flat_map f (flat_map g xs)
    ≡ flat_map (λ x. flat_map f (g x)) xs
flat_map-flat_map f g [] = refl
flat_map-flat_map f g (x ∷ xs) =
    flat_map-append f (g x) (flat_map g xs) ∙ ap (λ t. flat_map f (g x) ++ t) (flat_map-flat_map f g xs)

-- ---- pieces of a frame, one after the other

-- x was appended, and then y
pub Puts-then : {r s t x y : List ℕ} → Puts r s x → Puts s t y → Puts r t (x ++ y)
Puts-then {r = r} {x = x} {y = y} first second = record {
  items = second.items ∙ ap (λ l. l ++ y) first.items ∙ append_assoc r x y;
}

-- all pieces before a place were appended, and then the one there
pub Puts-more : {X : Type 0} {r s t : List ℕ} (f : X → List ℕ) (xs : List X) (i : ℕ) (x : X)
    → i < length xs → x ≡ get_or xs i x → Puts r s (flat_map f (take i xs)) → Puts s t (f x)
    → Puts r t (flat_map f (take (i + 1) xs))
Puts-more {r = r} {t = t} f xs i x within is so_far next = subst (Puts r t) (flat_map-more f xs i x within is)
    (Puts-then so_far next)

-- what was appended to nothing is all
pub Puts-whole : {r s text : List ℕ} → r ≡ [] → Puts r s text → s ≡ text
Puts-whole {text = text} none puts = puts.items ∙ ap (λ l. l ++ text) none
