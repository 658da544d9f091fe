-- Texts of items, of which a prefix was sent and the rest is gathered.
use Rattle.std.proofs.Common.{◌≡◌, ℕ, ◌+◌, ◌<◌, List, [], ◌++◌, Option, Result, length, get_or, take, drop, refl, sym}
use Rattle.std.proofs.Common.{subst, ◌∙◌, ap, append_assoc, append-nil}
use Rattle.std.specs.List.{flat_map}
use Rattle.std.proofs.lemmas.List.{take-append-drop}
use Rattle.std.proofs.lemmas.List.Concat.{flat_map-append}
use Rattle.std.proofs.KnownBytes.{Appends-nil}
use Rattle.eve_write.specs.Writes.{Puts, Wrote, Stopped, Writes}
use Rattle.eve_write.proofs.JoinedWrites.{Wrote-then, Stopped-later, Stopped-before, Writes-then, flat_map-more}

-- of the items before a place, what was sent, and then what is gathered
pub record AreGathered {S X : Type 0} (written : S → Option (List ℕ)) (failures : S → ℕ) (f : X → List ℕ)
    (items : List X) (old new : S) (i : ℕ) (gathered : List ℕ) : Type 0 where
  pub sent : List ℕ
  pub wrote : Wrote written failures old new sent
  pub all : sent ++ gathered ≡ flat_map f (take i items)

-- nothing at first
pub gathered-none : {S X : Type 0} (written : S → Option (List ℕ)) (failures : S → ℕ) (f : X → List ℕ)
    (items : List X) (old : S) (gathered : List ℕ) → gathered ≡ []
    → AreGathered written failures f items old old 0 gathered
gathered-none written failures f items old gathered none = record {
  sent = [];
  wrote = record { sent = Appends-nil (written old); fine = refl };
  all = none;
}

-- what is gathered is sent
pub gathered-sent : {S X : Type 0} {written : S → Option (List ℕ)} {failures : S → ℕ} {f : X → List ℕ}
    {items : List X} {a b c : S} {i : ℕ} {gathered rest : List ℕ}
    → AreGathered written failures f items a b i gathered → Wrote written failures b c gathered → rest ≡ []
    → AreGathered written failures f items a c i rest
gathered-sent {gathered = gathered} so_far next none = record {
  sent = so_far.sent ++ gathered;
  wrote = Wrote-then so_far.wrote next;
  all = ap (λ r. (so_far.sent ++ gathered) ++ r) none ∙ append-nil (so_far.sent ++ gathered) ∙ so_far.all;
}

-- one item more is gathered
pub gathered-more : {S X : Type 0} {written : S → Option (List ℕ)} {failures : S → ℕ} {f : X → List ℕ}
    {items : List X} {a b : S} {i : ℕ} {gathered more : List ℕ} (x : X)
    → i < length items → x ≡ get_or items i x → AreGathered written failures f items a b i gathered
    → Puts gathered more (f x) → AreGathered written failures f items a b (i + 1) more
gathered-more {f = f} {items = items} {i = i} {gathered = gathered} x within is so_far puts = record {
  sent = so_far.sent;
  wrote = so_far.wrote;
  all = ap (λ m. so_far.sent ++ m) puts.items ∙ sym (append_assoc so_far.sent gathered (f x))
      ∙ ap (λ t. t ++ f x) so_far.all ∙ flat_map-more f items i x within is;
}

-- the same sink, with the same gathered
pub gathered-at : {S X : Type 0} {written : S → Option (List ℕ)} {failures : S → ℕ} {f : X → List ℕ}
    {items : List X} {a b c : S} {i : ℕ} {gathered same : List ℕ} → c ≡ b → same ≡ gathered
    → AreGathered written failures f items a b i gathered → AreGathered written failures f items a c i same
gathered-at {written = written} {failures = failures} {f = f} {items = items} {a = a} {c = c} {i = i}
    {gathered = gathered} sink texts so_far =
    subst (AreGathered written failures f items a c i) (sym texts)
    (subst (λ s. AreGathered written failures f items a s i gathered) (sym sink) so_far)

-- what is gathered is not all sent
pub gathered-stopped : {S X : Type 0} {written : S → Option (List ℕ)} {failures : S → ℕ} {f : X → List ℕ}
    {items : List X} {a b c : S} {i : ℕ} {gathered : List ℕ}
    → AreGathered written failures f items a b i gathered → Stopped written failures b c gathered
    → Stopped written failures a c (flat_map f items)
gathered-stopped {written = written} {failures = failures} {f = f} {items = items} {a = a} {c = c} {i = i} so_far next =
    let prefix = Stopped-before (flat_map f (drop i items)) (Stopped-later so_far.wrote next) in
    subst (Stopped written failures a c)
    (ap (λ t. t ++ flat_map f (drop i items)) so_far.all ∙ sym (flat_map-append f (take i items) (drop i items))
    ∙ ap (flat_map f) (take-append-drop i items)) prefix

-- all items are gathered, and the last call sends what was not sent
pub gathered-whole : {S X A E : Type 0} {written : S → Option (List ℕ)} {failures : S → ℕ} {f : X → List ℕ}
    {items : List X} {a b : S} (c : S) {i : ℕ} {gathered : List ℕ} (result : Result A E)
    → take i items ≡ items → AreGathered written failures f items a b i gathered
    → Writes written failures b c result gathered → Writes written failures a c result (flat_map f items)
gathered-whole {written = written} {failures = failures} {f = f} {a = a} {b = b} c {gathered = gathered} result
    whole so_far last =
    subst (Writes written failures a c result) (so_far.all ∙ ap (flat_map f) whole)
    (Writes-then written failures a b c so_far.sent gathered result so_far.wrote last)
