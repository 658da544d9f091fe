-- Public: other crates cite these lemmas. How many replicas have a token.
use Rattle.std.proofs.Common.{◌≡◌, ℕ, zero, suc, ◌+◌, ◌*◌, ◌/◌, ◌<◌, ◌≤◌, Bool, true, false, cond, if◌then◌else◌}
use Rattle.std.proofs.Common.{List, [], ◌∷◌, slice_get, option_map}
use Rattle.std.proofs.Common.{All, length, get_or, Option, Some, None, refl, sym, ap, ◌∙◌, subst, arith}
use Rattle.std.proofs.Common.{one-add, zero-add}
use Rattle.std.specs.List.{count_by}
use Rattle.std.specs.Cmp.Lexicographic.{same_text}
use Rattle.std.proofs.lemmas.List.Elements.{All-head, All-tail}
use Rattle.std.proofs.lemmas.List.Sums.{sum_by-cons}
use Rattle.eve_replica.specs.declared.server.Server.{Server}
use Rattle.eve_replica.specs.Decisions.{is_some_of}
use Rattle.eve_replica.specs.inner.RunInvariant.{next_token, count_with}

-- what a replica has for the next batch, by whether it is live
pub next_by : (s : Server) (b : Bool) → s.is_live ≡ b → Path (Option (List ℕ)) (next_token s)
    (if b then option_map (λ o. o.token) (slice_get s.replica.ledger.opened 0) else None)
next_by s b is =
    ap (λ (c : Bool). if c then option_map (λ o. o.token) (slice_get s.replica.ledger.opened 0) else None) is

-- one that passes
abbrev pub Passes : (Server → Bool) → List Server → Type 0
Passes p xs = (k : ℕ) × (x : Server) × (k < length xs) × ((d : Server) → p (get_or xs k d) ≡ true)

passes_at : (p : Server → Bool) (x : Server) (xs : List Server) (b : Bool) → p x ≡ b → 0 < count_by p (x ∷ xs)
    → (0 < count_by p xs → Passes p xs) → Passes p (x ∷ xs)
passes_at p x xs true e some rest = (0, x, omega arith, λ d. e)
passes_at p x xs false e some rest =
    let counted : count_by p (x ∷ xs) ≡ cond (p x) 1 0 + count_by p xs =
    sum_by-cons (λ (y : Server). cond (p y) 1 0) x xs in
    let none : cond (p x) 1 0 + count_by p xs ≡ count_by p xs =
    ap (λ (b : Bool). cond b 1 0 + count_by p xs) e ∙ zero-add (count_by p xs) in
    let r = rest (subst (λ (n : ℕ). 0 < n) (counted ∙ none) some) in
    (suc r.0, r.1, omega arith, λ d. r.3 d)

pub passes : (p : Server → Bool) (xs : List Server) → 0 < count_by p xs → Passes p xs
passes p [] some = absurd (omega arith)
passes p (x ∷ xs) some = passes_at p x xs (p x) refl some (passes p xs)

pub is_that : (token : List ℕ) (own : Option (List ℕ)) → is_some_of token own ≡ true → own ≡ Some token
is_that token None h = absurd (let e : false ≡ true = h in cc)
is_that token (Some own) h = ap (λ (t : List ℕ). Some t) (same_text own token (sym h))

-- the token of this replica isn't one of more than half of all
abbrev pub IsNoMajority : List Server → Server → Type 0
IsNoMajority servers s =
    (token : List ℕ) → next_token s ≡ Some token → 2 * count_with token servers ≤ length servers

-- no more than half of all have it
pub bound : (servers : List Server) (token own : List ℕ) (count : ℕ) → Path (Option (List ℕ)) (Some own) (Some token)
    → count ≡ count_with own servers → count ≤ length servers / 2 → 2 * count_with token servers ≤ length servers
bound servers token own count same counted few =
    let here : own ≡ token = cc in
    let n : count ≡ count_with token servers = counted ∙ ap (λ (t : List ℕ). count_with t servers) here in
    omega arith

-- Where the token of no live replica is one of more than half of all, none is.
pub none_decided : (servers : List Server)
    → ((k : ℕ) → k < length servers → (d : Server) → IsNoMajority servers (get_or servers k d))
    → (token : List ℕ) → 2 * count_with token servers ≤ length servers
none_decided servers each token = decide (count_with token servers) refl
  where
    decide : (n : ℕ) → count_with token servers ≡ n → 2 * count_with token servers ≤ length servers
    decide zero e = omega arith
    decide (suc n) e =
        let r = passes (λ s. is_some_of token (next_token s)) servers (omega arith) in
        each r.0 r.2 r.1 token (is_that token (next_token (get_or servers r.0 r.1)) (r.3 r.1))

-- Two lists of replicas of one length have as many that pass where the one at each place passes as the other does.
pub counted_alike : (p q : Server → Bool) (xs ys : List Server) → length xs ≡ length ys
    → ((k : ℕ) (d : Server) → k < length xs → p (get_or xs k d) ≡ q (get_or ys k d)) → count_by p xs ≡ count_by q ys
counted_alike p q [] [] many alike = refl
counted_alike p q [] (y ∷ ys) many alike = absurd (omega arith)
counted_alike p q (x ∷ xs) [] many alike = absurd (omega arith)
counted_alike p q (x ∷ xs) (y ∷ ys) many alike =
    let rest = counted_alike p q xs ys (omega arith) (λ k d below. alike (suc k) d (omega arith)) in
    sum_by-cons (λ (z : Server). cond (p z) 1 0) x xs
    ∙ ap (λ (n : ℕ). cond (p x) 1 0 + n) rest
    ∙ ap (λ (b : Bool). cond b 1 0 + count_by q ys) (alike 0 x (omega arith))
    ∙ sym (sum_by-cons (λ (z : Server). cond (q z) 1 0) y ys)

-- all pass
pub counted_all : {A : Type 0} (p : A → Bool) (xs : List A) → All (λ x. p x ≡ true) xs → count_by p xs ≡ length xs
counted_all p [] all = refl
counted_all {A = A} p (x ∷ xs) all =
    let rest = counted_all p xs (All-tail (λ y. p y ≡ true) x xs all) in
    sum_by-cons (λ (z : A). cond (p z) 1 0) x xs
    ∙ ap (λ (n : ℕ). cond (p x) 1 0 + n) rest
    ∙ ap (λ (b : Bool). cond b 1 0 + length xs) (All-head (λ y. p y ≡ true) x xs all)
    ∙ one-add (length xs)
