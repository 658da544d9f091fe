-- Public: other crates cite these lemmas. A codec: what is read is spelled so, and what is spelled is read again.
use Rattle.std.proofs.Common.{◌≡◌, ℕ, zero, suc, ◌+◌, Bool, true, false, ◌&&◌, cond, eqb, List, [], ◌∷◌, ◌++◌}
use Rattle.std.proofs.Common.{length, take, drop, Option, Some, None, refl, sym, ap, subst, ◌∙◌, append_assoc}
use Rattle.std.proofs.Common.{arith, inl, inr}
use Rattle.std.specs.Prelude.{IsTrue}
use Rattle.std.specs.List.{flat_map, list_all}
use Rattle.std.proofs.lemmas.Bool.{cases_lt, eqb-true, eq-eqb, and_parts, and_from}
use Rattle.std.proofs.lemmas.List.{length-take, get_or-drop, get_or-take, get_or_past, append-nil, nil_from_length}
use Rattle.std.proofs.lemmas.Option.{same_Some}
use Rattle.eve_grammar.specs.Readers.{Reader, ◌>>=◌, both_by, led_by, made_if, only, whole, many_at}
pub use Rattle.eve_grammar.specs.Places.{IsBytes}
pub use Rattle.std.proofs.lemmas.Option.{same_Some as some_is}

-- what stands behind a prefix of bytes is bytes
pub IsBytes-drop : (n : ℕ) (bytes : List ℕ) → IsBytes bytes → IsBytes (drop n bytes)
IsBytes-drop n bytes h i = rw get_or-drop (h (n + i))

-- a prefix of bytes is bytes
pub IsBytes-take : (n : ℕ) (bytes : List ℕ) → IsBytes bytes → IsBytes (take n bytes)
IsBytes-take n bytes h i =
    elim (cases_lt i n) [
      | inl lt ↦ rw (get_or-take n bytes i 0 lt) (h i)
      | inr le ↦ rw (get_or_past (take n bytes) i 0 (omega (arith, length-take n bytes))) (omega arith)
    ]

-- where two steps, one after the other, give a value, each of them gave one
pub bind_some : {A B : Type 0} (r : Option A) (f : A → Option B) (y : B) → (r >>= f) ≡ Some y → (x : A) × (r ≡ Some x)
    × (f x ≡ Some y)
bind_some (Some x) f y e = (x, refl, e)
bind_some None f y e = absurd cc

-- where a test stands before a value, and there is one, the test passed
pub guard_some : {A : Type 0} (b : Bool) (o : Option A) (y : A) → cond b o None ≡ Some y → (b ≡ true) × (o ≡ Some y)
guard_some true o y e = (refl, e)
guard_some false o y e = absurd cc

-- where a test that passes gives no value, and there is one, the test failed
pub guard_none : {A : Type 0} (b : Bool) (o : Option A) (y : A) → cond b None o ≡ Some y → (b ≡ false) × (o ≡ Some y)
guard_none true o y e = absurd cc
guard_none false o y e = (refl, e)

-- what a reader took from the beginning
pub record Takes (bytes text rest : List ℕ) : Type 0 where
  pub parts : bytes ≡ text ++ rest
  pub rest_fits : IsBytes rest

-- what took one text and then another took both, one after the other
pub Takes-then : (a x b y c : List ℕ) → Takes a x b → Takes b y c → Takes a (x ++ y) c
Takes-then a x b y c p q =
    record { parts = p.parts ∙ ap (λ (t : List ℕ). x ++ t) q.parts ∙ sym (append_assoc x y c); rest_fits = q.rest_fits }

-- the reader takes exactly the spellings of the values that pass the test
pub record Codec {A : Type 0} (text : A → List ℕ) (test : A → Bool) (read : Reader A) : Type 0 where
  pub takes : (bytes : List ℕ) (x : A × List ℕ) → IsBytes bytes → read bytes ≡ Some x → Takes bytes (text x.0) x.1
      × IsTrue (test x.0)
  pub again : (x : A) (rest : List ℕ) → IsTrue (test x) → read (text x ++ rest) ≡ Some (x, rest)

-- the same spelling and test in other words
pub Codec-as : {A : Type 0} (ta ua : A → List ℕ) (fa ga : A → Bool) (ra : Reader A)
    → ((a : A) → IsTrue (fa a) → ta a ≡ ua a) → ((a : A) → IsTrue (fa a) → IsTrue (ga a))
    → ((a : A) → IsTrue (ga a) → IsTrue (fa a))
    → Codec ta fa ra → Codec ua ga ra
Codec-as ta ua fa ga ra same to from one = record {
  takes = λ bytes x fits e. let t = one.takes bytes x fits e in
      (subst (λ (w : List ℕ). Takes bytes w x.1) (same x.0 t.1) t.0, to x.0 t.1);
  again = λ x rest fits. ap (λ (w : List ℕ). ra (w ++ rest)) (sym (same x (from x fits)))
      ∙ one.again x rest (from x fits);
}

-- two fields, of which the first says how the second is read
pub Codec-both_by : {A B : Type 0} (ta : A → List ℕ) (fa : A → Bool) (ra : Reader A) (tb : B → List ℕ)
    (fb : A → B → Bool) (rb : A → Reader B)
    → Codec ta fa ra → ((a : A) → Codec tb (fb a) (rb a))
    → Codec (λ (p : A × B). ta p.0 ++ tb p.1) (λ p. fa p.0 && fb p.0 p.1) (both_by ra rb)
Codec-both_by {A = A} {B = B} ta fa ra tb fb rb one two = record {
  takes = λ bytes x fits e.
      let a = bind_some (ra bytes) (λ a. rb a.0 a.1 >>= λ b. Some ((a.0, b.0), b.1)) x e in
      let b = bind_some (rb a.0.0 a.0.1) (λ b. Some ((a.0.0, b.0), b.1)) x a.2 in
      let first = one.takes bytes a.0 fits a.1 in
      let second = (two a.0.0).takes a.0.1 b.0 first.0.rest_fits b.1 in
      let both = Takes-then bytes (ta a.0.0) a.0.1 (tb b.0.0) b.0.1 first.0 second.0 in
      let there : (A × B) × List ℕ = ((a.0.0, b.0.0), b.0.1) in
      subst (λ (y : (A × B) × List ℕ). Takes bytes (ta y.0.0 ++ tb y.0.1) y.1 × IsTrue (fa y.0.0 && fb y.0.0 y.0.1))
      (same_Some there x b.2) (both, and_from (fa a.0.0) (fb a.0.0 b.0.0) first.1 second.1);
  again = λ x rest fits.
      let regrouped : (ta x.0 ++ tb x.1) ++ rest ≡ ta x.0 ++ (tb x.1 ++ rest) = append_assoc (ta x.0) (tb x.1) rest in
      let parts = and_parts (fa x.0) (fb x.0 x.1) fits in
      ap (both_by ra rb) regrouped ∙ rw (one.again x.0 (tb x.1 ++ rest) parts.0, (two x.0).again x.1 rest parts.1) refl;
}

-- two fields, one after the other
pub Codec-both : {A B : Type 0} (ta : A → List ℕ) (fa : A → Bool) (ra : Reader A) (tb : B → List ℕ) (fb : B → Bool)
    (rb : Reader B)
    → Codec ta fa ra → Codec tb fb rb → Codec (λ (p : A × B). ta p.0 ++ tb p.1) (λ p. fa p.0 && fb p.1)
    (both_by ra (λ a. rb))
Codec-both ta fa ra tb fb rb one two = Codec-both_by ta fa ra tb (λ a. fb) (λ a. rb) one (λ a. two)

-- a field that is known from the one after it
pub Codec-led_by : {A B : Type 0} (ta : A → List ℕ) (fa : A → Bool) (ra : Reader A) (tb : B → List ℕ)
    (fb : A → B → Bool) (rb : A → Reader B) (key : B → A)
    → ((a : A) (b : B) → IsTrue (fb a b) → key b ≡ a) → Codec ta fa ra → ((a : A) → Codec tb (fb a) (rb a))
    → Codec (λ b. ta (key b) ++ tb b) (λ b. fa (key b) && fb (key b) b) (led_by ra rb)
Codec-led_by {A = A} {B = B} ta fa ra tb fb rb key known one two = record {
  takes = λ bytes x fits e.
      let a = bind_some (ra bytes) (λ a. rb a.0 a.1) x e in
      let first = one.takes bytes a.0 fits a.1 in
      let second = (two a.0.0).takes a.0.1 x first.0.rest_fits a.2 in
      let both = Takes-then bytes (ta a.0.0) a.0.1 (tb x.0) x.1 first.0 second.0 in
      subst (λ (k : A). Takes bytes (ta k ++ tb x.0) x.1 × IsTrue (fa k && fb k x.0)) (sym (known a.0.0 x.0 second.1))
      (both, and_from (fa a.0.0) (fb a.0.0 x.0) first.1 second.1);
  again = λ x rest fits.
      let regrouped : (ta (key x) ++ tb x) ++ rest ≡ ta (key x) ++ (tb x ++ rest) =
      append_assoc (ta (key x)) (tb x) rest in
      let parts = and_parts (fa (key x)) (fb (key x) x) fits in
      ap (led_by ra rb) regrouped ∙ rw (one.again (key x) (tb x ++ rest) parts.0) ((two (key x)).again x rest parts.1);
}

-- what a function makes of some, by its way back
pub Codec-made_if : {A B : Type 0} (ta : A → List ℕ) (fa : A → Bool) (ra : Reader A) (to : A → Option B) (from : B → A)
    (fb : B → Bool)
    → ((a : A) (b : B) → IsTrue (fa a) → to a ≡ Some b → (from b ≡ a) × IsTrue (fb b))
    → ((b : B) → IsTrue (fb b) → (to (from b) ≡ Some b) × IsTrue (fa (from b)))
    → Codec ta fa ra → Codec (λ b. ta (from b)) fb (made_if to ra)
Codec-made_if {A = A} {B = B} ta fa ra to from fb back forth one = record {
  takes = λ bytes x fits e.
      let a = bind_some (ra bytes) (λ a. to a.0 >>= λ y. Some (y, a.1)) x e in
      let b = bind_some (to a.0.0) (λ y. Some (y, a.0.1)) x a.2 in
      let first = one.takes bytes a.0 fits a.1 in
      let there : B × List ℕ = (b.0, a.0.1) in
      let same = back a.0.0 b.0 first.1 b.1 in
      let moved : Takes bytes (ta (from b.0)) a.0.1 × IsTrue (fb b.0) =
      (subst (λ (z : A). Takes bytes (ta z) a.0.1) (sym same.0) first.0, same.1) in
      subst (λ (y : B × List ℕ). Takes bytes (ta (from y.0)) y.1 × IsTrue (fb y.0)) (same_Some there x b.2) moved;
  again = λ x rest fits.
      let f = forth x fits in
      rw (one.again (from x) rest f.1, f.0) refl;
}

-- what a function makes of all
pub Codec-made : {A B : Type 0} (ta : A → List ℕ) (fa : A → Bool) (ra : Reader A) (to : A → B) (from : B → A)
    (fb : B → Bool)
    → ((a : A) → IsTrue (fa a) → (from (to a) ≡ a) × IsTrue (fb (to a)))
    → ((b : B) → IsTrue (fb b) → (to (from b) ≡ b) × IsTrue (fa (from b)))
    → Codec ta fa ra → Codec (λ b. ta (from b)) fb (made_if (λ a. Some (to a)) ra)
Codec-made {A = A} {B = B} ta fa ra to from fb back forth one =
    Codec-made_if ta fa ra (λ a. Some (to a)) from fb
    (λ a b fits e. let t = back a fits in subst (λ (y : B). (from y ≡ a) × IsTrue (fb y)) (same_Some (to a) b e) t)
    (λ b fits. let f = forth b fits in (ap (λ (y : B). Some y) f.0, f.1)) one

-- a field that has to pass one more test
pub Codec-only : {A : Type 0} (ta : A → List ℕ) (fa : A → Bool) (ra : Reader A) (test : A → Bool)
    → Codec ta fa ra → Codec ta (λ a. test a && fa a) (only test ra)
Codec-only {A = A} ta fa ra test one = record {
  takes = λ bytes x fits e.
      let a = bind_some (ra bytes) (λ a. cond (test a.0) (Some a) None) x e in
      let g = guard_some (test a.0.0) (Some a.0) x a.2 in
      let first = one.takes bytes a.0 fits a.1 in
      subst (λ (y : A × List ℕ). Takes bytes (ta y.0) y.1 × IsTrue (test y.0 && fa y.0)) (same_Some a.0 x g.1)
      (first.0, and_from (test a.0.0) (fa a.0.0) g.0 first.1);
  again = λ x rest fits.
      let parts = and_parts (test x) (fa x) fits in
      rw (one.again x rest parts.1, parts.0) refl;
}

-- ---- this many

-- a list of this many items, each of which passes the test
abbrev pub are_many : {A : Type 0} → (A → Bool) → ℕ → List A → Bool
are_many fa n xs = eqb (length xs) n && list_all fa xs

many_takes : {A : Type 0} (ta : A → List ℕ) (fa : A → Bool) (ra : Reader A) → Codec ta fa ra
    → (n : ℕ) (bytes : List ℕ) (x : List A × List ℕ) → IsBytes bytes → many_at ra n bytes ≡ Some x
    → Takes bytes (flat_map ta x.0) x.1 × ((length x.0 ≡ n) × IsTrue (list_all fa x.0))
unfolding many_at
many_takes {A = A} ta fa ra one zero bytes x fits e =
    let there : List A × List ℕ = ([], bytes) in
    subst (λ (y : List A × List ℕ). Takes bytes (flat_map ta y.0) y.1 × ((length y.0 ≡ 0) × IsTrue (list_all fa y.0)))
    (same_Some there x e) (record { parts = refl; rest_fits = fits }, (refl, refl))
many_takes {A = A} ta fa ra one (suc n) bytes x fits e =
    let a = bind_some (ra bytes) (λ a. many_at ra n a.1 >>= λ y. Some (a.0 ∷ y.0, y.1)) x e in
    let b = bind_some (many_at ra n a.0.1) (λ y. Some (a.0.0 ∷ y.0, y.1)) x a.2 in
    let first = one.takes bytes a.0 fits a.1 in
    let second = many_takes ta fa ra one n a.0.1 b.0 first.0.rest_fits b.1 in
    let both = Takes-then bytes (ta a.0.0) a.0.1 (flat_map ta b.0.0) b.0.1 first.0 second.0 in
    let there : List A × List ℕ = (a.0.0 ∷ b.0.0, b.0.1) in
    subst (λ (y : List A × List ℕ). Takes bytes (flat_map ta y.0) y.1
    × ((length y.0 ≡ suc n) × IsTrue (list_all fa y.0))) (same_Some there x b.2)
    (both, (ap suc second.1.0, and_from (fa a.0.0) (list_all fa b.0.0) first.1 second.1.1))

many_again : {A : Type 0} (ta : A → List ℕ) (fa : A → Bool) (ra : Reader A) → Codec ta fa ra
    → (xs : List A) (rest : List ℕ) → IsTrue (list_all fa xs) → many_at ra (length xs) (flat_map ta xs ++ rest)
    ≡ Some (xs, rest)
unfolding many_at
many_again ta fa ra one [] rest fits = refl
many_again ta fa ra one (x ∷ xs) rest fits =
    let parts = and_parts (fa x) (list_all fa xs) fits in
    let regrouped : flat_map ta (x ∷ xs) ++ rest ≡ ta x ++ (flat_map ta xs ++ rest) =
    append_assoc (ta x) (flat_map ta xs) rest in
    ap (many_at ra (suc (length xs))) regrouped
    ∙ rw (one.again x (flat_map ta xs ++ rest) parts.0, many_again ta fa ra one xs rest parts.1) refl

-- a field, this many times
pub Codec-many : {A : Type 0} (ta : A → List ℕ) (fa : A → Bool) (ra : Reader A) → Codec ta fa ra → (n : ℕ)
    → Codec (flat_map ta) (are_many fa n) (many_at ra n)
Codec-many {A = A} ta fa ra one n = record {
  takes = λ bytes x fits e. let t = many_takes ta fa ra one n bytes x fits e in
      (t.0, and_from (eqb (length x.0) n) (list_all fa x.0) (eq-eqb (length x.0) n t.1.0) t.1.1);
  again = λ xs rest fits.
      let parts = and_parts (eqb (length xs) n) (list_all fa xs) fits in
      let count : length xs ≡ n = eqb-true (length xs) n parts.0 in
      subst (λ (k : ℕ). many_at ra k (flat_map ta xs ++ rest) ≡ Some (xs, rest)) count
      (many_again ta fa ra one xs rest parts.1);
}

-- a count of this many bytes, and as many of a field
pub Codec-counted : {A : Type 0} (ta : A → List ℕ) (fa : A → Bool) (ra : Reader A) (tn : ℕ → List ℕ) (fn : ℕ → Bool)
    (rn : Reader ℕ) → Codec tn fn rn → Codec ta fa ra
    → Codec (λ xs. tn (length xs) ++ flat_map ta xs) (λ xs. fn (length xs) && are_many fa (length xs) xs)
    (led_by rn (many_at ra))
Codec-counted ta fa ra tn fn rn count one =
    Codec-led_by tn fn rn (flat_map ta) (are_many fa) (many_at ra) (λ xs. length xs)
    (λ n xs fits. eqb-true (length xs) n (and_parts (eqb (length xs) n) (list_all fa xs) fits).0) count
    (Codec-many ta fa ra one)

-- items that all pass the test are such a list, of as many as they are
pub are_many_of : {A : Type 0} (fa : A → Bool) (xs : List A) → IsTrue (list_all fa xs)
    → IsTrue (are_many fa (length xs) xs)
are_many_of fa xs fits = and_from (eqb (length xs) (length xs)) (list_all fa xs) (eq-eqb (length xs) (length xs) refl)
    fits

-- ---- the whole of the bytes

-- what is read to the end of the bytes is spelled by them, and passes the test
pub whole_takes : {A : Type 0} (ta : A → List ℕ) (fa : A → Bool) (ra : Reader A) → Codec ta fa ra
    → (bytes : List ℕ) (x : A) → IsBytes bytes → whole ra bytes ≡ Some x → (bytes ≡ ta x) × IsTrue (fa x)
whole_takes {A = A} ta fa ra one bytes x fits e =
    let a = bind_some (ra bytes) (λ a. cond (eqb (length a.1) 0) (Some a.0) None) x e in
    let g = guard_some (eqb (length a.0.1) 0) (Some a.0.0) x a.2 in
    let first = one.takes bytes a.0 fits a.1 in
    let nothing : a.0.1 ≡ [] = nil_from_length a.0.1 (eqb-true _ _ g.0) in
    let all : bytes ≡ ta a.0.0 = first.0.parts ∙ ap (λ (r : List ℕ). ta a.0.0 ++ r) nothing ∙ append-nil (ta a.0.0) in
    subst (λ (y : A). (bytes ≡ ta y) × IsTrue (fa y)) (same_Some a.0.0 x g.1) (all, first.1)

-- a value that passes the test is read again from its spelling alone
pub whole_again : {A : Type 0} (ta : A → List ℕ) (fa : A → Bool) (ra : Reader A) → Codec ta fa ra
    → (x : A) → IsTrue (fa x) → whole ra (ta x) ≡ Some x
whole_again ta fa ra one x fits =
    let plain : ra (ta x) ≡ Some (x, []) = ap ra (sym (append-nil (ta x))) ∙ one.again x [] fits in
    rw plain refl
