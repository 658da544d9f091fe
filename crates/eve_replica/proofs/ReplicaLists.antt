-- Replicas of a run, one after another.
use Rattle.std.proofs.Common.{◌≡◌, ℕ, suc, ◌+◌, ◌<◌, ◌≤◌, List, [], ◌∷◌, All, length, map, get_or, set, refl, sym}
use Rattle.std.proofs.Common.{◌∙◌, subst, inl, inr, arith}
use Rattle.std.specs.List.{AllZip}
use Rattle.std.proofs.lemmas.Slice.Zip.{AllZip-long}
use Rattle.std.proofs.lemmas.List.Elements.{AllZip-get_or}
use Rattle.std.proofs.lemmas.Bool.{cases_lt}
use Rattle.std.proofs.lemmas.List.{get_or-set_same, get_or-set_other, get_or_default, length-set}
use Rattle.eve_grammar.specs.Trace.{Step}
use Rattle.eve_write.specs.Data.{section}
use Rattle.eve_replica.specs.declared.server.Server.{Server}
pub use Rattle.eve_replica.specs.inner.RunInvariant.{AreAllOn}
use Rattle.eve_replica.specs.inner.RunInvariant.{sections_in}

-- Of these replicas each below this number has become what it should, and the others are as they were.
pub record AreOn (Becomes : Server → Server → Type 0) (was : List Server) (number : ℕ) (servers : List Server) : Type 0
  where
    pub many : length servers ≡ length was
    pub gone : (k : ℕ) (d : Server) → k < number → Becomes (get_or was k d) (get_or servers k d)
    pub left : (k : ℕ) (d : Server) → number ≤ k → get_or servers k d ≡ get_or was k d

pub none_on : (Becomes : Server → Server → Type 0) (servers : List Server) → AreOn Becomes servers 0 servers
none_on Becomes servers =
    record { many = refl; gone = λ k d below. absurd (omega arith); left = λ k d from. refl }

pub one_on : (Becomes : Server → Server → Type 0) (was : List Server) (number : ℕ) (servers : List Server)
    (d s : Server) → number < length servers → Becomes (get_or servers number d) s → AreOn Becomes was number servers
    → AreOn Becomes was (number + 1) (set servers number s)
one_on Becomes was number servers d s there becomes on = record {
  many = length-set servers number s ∙ on.many;
  gone = λ k e below. elim (cases_lt k number) [
    | inl less ↦ subst (Becomes (get_or was k e))
        (sym (get_or-set_other servers number k s e (λ same. omega arith))) (on.gone k e less)
    | inr from ↦ here k e (omega arith)
  ];
  left = λ k e from. get_or-set_other servers number k s e (λ same. omega arith) ∙ on.left k e (omega arith);
}
  where
    here : (k : ℕ) (e : Server) → k ≡ number → Becomes (get_or was k e) (get_or (set servers number s) k e)
    here k e same =
        subst (λ (n : ℕ). Becomes (get_or was n e) (get_or (set servers number s) n e)) (sym same)
        (subst (Becomes (get_or was number e)) (sym (get_or-set_same servers number s e there))
        (subst (λ (x : Server). Becomes x s)
        (get_or_default servers number d e there ∙ on.left number e (omega arith)) becomes))

pub all_on : (Becomes : Server → Server → Type 0) (was : List Server) (number : ℕ) (servers : List Server)
    → length servers ≤ number → AreOn Becomes was number servers → AreAllOn Becomes was servers
all_on Becomes was number servers end on =
    record { many = on.many; each = λ k d there. on.gone k d (omega arith) }

-- what follows of each
pub all_so : (Becomes So : Server → Server → Type 0) (was servers : List Server)
    → ((old new : Server) → Becomes old new → So old new) → AreAllOn Becomes was servers → AreAllOn So was servers
all_so Becomes So was servers gives on = record {
  many = on.many;
  each = λ k d there. gives (get_or was k d) (get_or servers k d) (on.each k d there);
}

-- what held of all holds of the one that is next
pub still : (P : Server → Type 0) (Becomes : Server → Server → Type 0) (was : List Server) (number : ℕ)
    (servers : List Server) (d : Server) → All P was → AreOn Becomes was number servers → number < length servers
    → P (get_or servers number d)
still P Becomes was number servers d all on there =
    subst P (sym (on.left number d (omega arith))) (all number d (omega (arith, on.many)))

-- ---- pair by pair

pub pairs_of : (Becomes : Server → Server → Type 0) (was servers : List Server) → AreAllOn Becomes was servers
    → AllZip Becomes was servers
pairs_of Becomes [] [] on = tt
pairs_of Becomes [] (s ∷ servers) on = absurd (omega (arith, on.many))
pairs_of Becomes (w ∷ was) [] on = absurd (omega (arith, on.many))
pairs_of Becomes (w ∷ was) (s ∷ servers) on = (
  on.each 0 w (omega arith),
  pairs_of Becomes was servers
      (record { many = omega (arith, on.many); each = λ k d there. on.each (suc k) d (omega arith) }),
)

pub all_in_pairs : (Becomes : Server → Server → Type 0) (was servers : List Server) → AllZip Becomes was servers
    → AreAllOn Becomes was servers
all_in_pairs Becomes was servers pairs =
    let many = AllZip-long Becomes was servers pairs in
    record { many = many; each = λ k d there. AllZip-get_or Becomes was servers k d d pairs (omega arith) }

pairs_mapped : {A B C D : Type 0} (R : C → D → Type 0) (f : A → C) (g : B → D) (xs : List A) (ys : List B)
    → AllZip (λ x y. R (f x) (g y)) xs ys → AllZip R (map f xs) (map g ys)
pairs_mapped R f g [] [] pairs = tt
pairs_mapped R f g [] (y ∷ ys) pairs = absurd pairs
pairs_mapped R f g (x ∷ xs) [] pairs = absurd pairs
pairs_mapped R f g (x ∷ xs) (y ∷ ys) pairs = (pairs.0, pairs_mapped R f g xs ys pairs.1)

-- what they did
pub in_sections : (Grows : List Step → List Step → Type 0) (was servers : List Server)
    → AreAllOn (λ old new. Grows (section old.steps) (section new.steps)) was servers
    → AllZip Grows (sections_in was) (sections_in servers)
in_sections Grows was servers on =
    pairs_mapped Grows (λ s. section s.steps) (λ s. section s.steps) was servers
    (pairs_of (λ old new. Grows (section old.steps) (section new.steps)) was servers on)
