-- All votes of a trace as one list: each of them, and each once.
use Rattle.std.proofs.Common.{◌≡◌, ◌≢◌, ℕ, zero, suc, ◌+◌, ◌<◌, ◌≤◌, Bool, true, false, cond, List, [], ◌∷◌, ◌++◌}
use Rattle.std.proofs.Common.{length, get_or, Some, refl, sym, ap, subst, ◌∙◌, append_assoc, append-nil, arith, ◌⊎◌}
use Rattle.std.proofs.Common.{inl, inr}
use Rattle.std.specs.Prelude.{◌==◌, ◌&&◌, slice_get, sum_by}
use Rattle.std.specs.List.{All}
use Rattle.std.specs.List.Sorted.{IsPermutation}
use Rattle.std.proofs.lemmas.Bool.{eqb-true, eq-eqb, and_parts, and_from, cases_eq, cases_lt}
use Rattle.std.proofs.lemmas.List.{get_or_past}
use Rattle.std.proofs.lemmas.List.Sums.{sum_by-cons, sum_by-append}
use Rattle.std.proofs.lemmas.List.Sorted.{All-permutation, Contains-permutation, sum_by-IsPermutation}
use Rattle.std.proofs.lemmas.Option.{slice_get-get_or, slice_get_within, get_or_from_slice_get}
use Rattle.eve_grammar.specs.Trace.{Vote, Trace}
use Rattle.eve_grammar.specs.Spelling.{votes_of}
use Rattle.eve_grammar.proofs.Lists.{get_in_prefix, slice_get-behind}
use Rattle.eve_votes.specs.Ballots.{ballot, ballots_from, ballots_among, ballots_of, IsVoteOf}
use Rattle.eve_votes.specs.declared.ballots.Ballot.{Ballot}

-- ---- one after another

pub from_more : (v k : ℕ) (ws : List Vote) (w : Vote) →
    ballots_from v k (ws ++ w ∷ []) ≡ ballots_from v k ws ++ ballot v (k + length ws) w ∷ []
from_more v k [] w = (let same : k ≡ k + 0 = omega arith in ap (λ (i : ℕ). ballot v i w ∷ []) same)
from_more v k (x ∷ ws) w =
    let same : k + 1 + length ws ≡ k + suc (length ws) = omega arith in
    ap (λ (bs : List Ballot). ballot v k x ∷ bs) (from_more v (k + 1) ws w ∙
    ap (λ (i : ℕ). ballots_from v (k + 1) ws ++ ballot v i w ∷ []) same)

pub among_more : (v : ℕ) (wss : List (List Vote)) (ws : List Vote) →
    ballots_among v (wss ++ ws ∷ []) ≡ ballots_among v wss ++ ballots_from (v + length wss) 0 ws
among_more v [] ws = append-nil (ballots_from v 0 ws) ∙
    (let same : v ≡ v + 0 = omega arith in ap (λ (u : ℕ). ballots_from u 0 ws) same)
among_more v (xs ∷ wss) ws =
    let same : v + 1 + length wss ≡ v + suc (length wss) = omega arith in
    ap (λ (bs : List Ballot). ballots_from v 0 xs ++ bs) (among_more (v + 1) wss ws ∙
    ap (λ (u : ℕ). ballots_among (v + 1) wss ++ ballots_from u 0 ws) same)
    ∙ sym (append_assoc (ballots_from v 0 xs) (ballots_among (v + 1) wss) (ballots_from (v + suc (length wss)) 0 ws))

-- ---- each is one of them

at_seam : {A : Type 0} (xs ys : List A) (i : ℕ) (x : A) → slice_get (xs ++ ys) i ≡ Some x →
    (slice_get xs i ≡ Some x) ⊎ ((j : ℕ) × (slice_get ys j ≡ Some x))
at_seam [] ys i x e = inr (i, e)
at_seam (y ∷ xs) ys zero x e = inl e
at_seam (y ∷ xs) ys (suc i) x e = at_seam xs ys i x e

-- what stands at a place of one verifier's
pub record IsPlaced (v k : ℕ) (ws : List Vote) (b : Ballot) : Type 0 where
  pub place : ℕ
  pub vote : Vote
  pub there : slice_get ws place ≡ Some vote
  pub is : b ≡ ballot v (k + place) vote

from_at : (v k : ℕ) (ws : List Vote) (i : ℕ) (b : Ballot) → slice_get (ballots_from v k ws) i ≡ Some b →
    IsPlaced v k ws b
from_at v k [] i b e = absurd cc
from_at v k (w ∷ ws) zero b e = (
    let same : ballot v k w ≡ b = cc in
    let here : k ≡ k + 0 = omega arith in
    record { place = 0; vote = w; there = refl; is = sym same ∙ ap (λ (p : ℕ). ballot v p w) here })
from_at v k (w ∷ ws) (suc i) b e = (
    let rest = from_at v (k + 1) ws i b e in
    let same : k + 1 + rest.place ≡ k + suc rest.place = omega arith in
    record {
      place = suc rest.place;
      vote = rest.vote;
      there = rest.there;
      is = rest.is ∙
          ap (λ (p : ℕ). ballot v p rest.vote) same;
    })

among_at : (v : ℕ) (wss : List (List Vote)) (i : ℕ) (b : Ballot) → slice_get (ballots_among v wss) i ≡ Some b
    → (u : ℕ) × (d : List Vote) × IsPlaced (v + u) 0 (get_or wss u []) b
among_at v [] i b e = absurd cc
among_at v (ws ∷ wss) i b e = elim (at_seam (ballots_from v 0 ws) (ballots_among (v + 1) wss) i b e) [
  | inl mine ↦ (
    0,
    [],
    (let same : v ≡ v + 0 = omega arith in subst (λ (u : ℕ). IsPlaced u 0 ws b) same (from_at v 0 ws i b mine)),
  )
  | inr others ↦
      let rest = among_at (v + 1) wss others.0 b others.1 in
      let same : v + 1 + rest.0 ≡ v + suc rest.0 = omega arith in
      (suc rest.0, [], subst (λ (u : ℕ). IsPlaced u 0 (get_or wss rest.0 []) b) same rest.2)
]

pub each_is : (t : Trace) (i : ℕ) (b : Ballot) → slice_get (ballots_of t) i ≡ Some b → IsVoteOf t b
each_is t i b e =
    let found = among_at 0 t.verifiers i b e in
    let v = found.0 in
    let p = found.2 in
    let same : 0 + v ≡ v = omega arith in
    let first : 0 + p.place ≡ p.place = omega arith in
    let is : b ≡ ballot v p.place p.vote = p.is ∙ (λ k. ballot (same k) (first k) p.vote) in
    let at : IsVoteOf t (ballot v p.place p.vote) = record { vote = p.vote; there = p.there; seq = refl; view = refl }
    in
    subst (IsVoteOf t) (sym is) at

-- ---- all are there

from_all : (v k : ℕ) (ws : List Vote) (i : ℕ) (w : Vote) → slice_get ws i ≡ Some w →
    slice_get (ballots_from v k ws) i ≡ Some (ballot v (k + i) w)
from_all v k [] i w e = absurd cc
from_all v k (x ∷ ws) zero w e = (
    let same : x ≡ w = cc in
    let here : k ≡ k + 0 = omega arith in
    (λ j. Some (ballot v (here j) (same j))))
from_all v k (x ∷ ws) (suc i) w e = (let same : k + 1 + i ≡ k + suc i = omega arith in from_all v (k + 1) ws i w e ∙
    ap (λ (p : ℕ). Some (ballot v p w)) same)

among_all : (v : ℕ) (wss : List (List Vote)) (u i : ℕ) (w : Vote) → slice_get (get_or wss u []) i ≡ Some w → (j : ℕ) ×
    (slice_get (ballots_among v wss) j ≡ Some (ballot (v + u) i w))
among_all v [] u i w e = absurd cc
among_all v (ws ∷ wss) zero i w e = (
    let same : v ≡ v + 0 = omega arith in
    let first : 0 + i ≡ i = omega arith in (
      i,
      get_in_prefix (ballots_from v 0 ws) (ballots_among (v + 1) wss) i (ballot (v + 0) i w) (from_all v 0 ws i w e ∙
          (λ j. Some (ballot (same j) (first j) w))),
    ))
among_all v (ws ∷ wss) (suc u) i w e = (
    let rest = among_all (v + 1) wss u i w e in
    let same : v + 1 + u ≡ v + suc u = omega arith in (
      length (ballots_from v 0 ws) + rest.0,
      slice_get-behind (ballots_from v 0 ws) (ballots_among (v + 1) wss) rest.0 ∙ rest.1 ∙
          ap (λ (x : ℕ). Some (ballot x i w)) same,
    ))

pub all_are : (t : Trace) (v i : ℕ) (w : Vote) → slice_get (votes_of t v) i ≡ Some w → (j : ℕ) ×
    (slice_get (ballots_of t) j ≡ Some (ballot v i w))
all_are t v i w e = (
    let found = among_all 0 t.verifiers v i w e in
    let same : 0 + v ≡ v = omega arith in
    (found.0, found.1 ∙ ap (λ (x : ℕ). Some (ballot x i w)) same))

-- ---- each once

abbrev at_place : ℕ → ℕ → Ballot → Bool
at_place v p b = (b.verifier == v) && (b.place == p)

abbrev one_at : ℕ → ℕ → Ballot → ℕ
one_at v p b = cond (at_place v p b) 1 0

abbrev how_often : ℕ → ℕ → List Ballot → ℕ
how_often v p bs = sum_by (one_at v p) bs

not_place : (v p u k : ℕ) (w : Vote) → (u ≡ v → k ≡ p → ⊥) → one_at v p (ballot u k w) ≡ 0
not_place v p u k w apart = by (at_place v p (ballot u k w)) refl
  where
    by : (b : Bool) → at_place v p (ballot u k w) ≡ b → ◌≡◌ {A = ℕ} (cond b 1 0) 0
    by true e = (let parts = and_parts (u == v) (k == p) e in
        absurd (apart (eqb-true u v parts.0) (eqb-true k p parts.1)))
    by false e = refl

low_from : (v p u k : ℕ) (ws : List Vote) → p < k → how_often v p (ballots_from u k ws) ≡ 0
low_from v p u k [] low = refl
low_from v p u k (w ∷ ws) low =
    sum_by-cons (one_at v p) (ballot u k w) (ballots_from u (k + 1) ws)
    ∙ (let head = not_place v p u k w (λ same here. omega arith) in let rest = low_from v p u (k + 1) ws
    (omega arith) in omega arith)

other_from : (v p u k : ℕ) (ws : List Vote) → u ≢ v → how_often v p (ballots_from u k ws) ≡ 0
other_from v p u k [] apart = refl
other_from v p u k (w ∷ ws) apart =
    sum_by-cons (one_at v p) (ballot u k w) (ballots_from u (k + 1) ws)
    ∙ (let head = not_place v p u k w (λ same here. apart same) in let rest = other_from v p u (k + 1) ws apart in
    omega arith)

few_from : (v p u k : ℕ) (ws : List Vote) → how_often v p (ballots_from u k ws) ≤ 1
few_from v p u k [] = omega arith
few_from v p u k (w ∷ ws) = by (cases_eq k p) (few_from v p u (k + 1) ws)
  where
    step : how_often v p (ballots_from u k (w ∷ ws)) ≡ one_at v p (ballot u k w) + how_often v p
        (ballots_from u (k + 1) ws)
    step = sum_by-cons (one_at v p) (ballot u k w) (ballots_from u (k + 1) ws)

    small : (b : Bool) → cond b 1 0 ≤ 1
    small true = omega arith
    small false = omega arith

    by : (k ≡ p) ⊎ (k ≡ p → ⊥) → how_often v p (ballots_from u (k + 1) ws) ≤ 1 →
        how_often v p (ballots_from u k (w ∷ ws)) ≤ 1
    by (inl same) few = omega (
      arith,
      step,
      small (at_place v p (ballot u k w)),
      low_from v p u (k + 1) ws (omega arith),
    )
    by (inr other) few = omega (arith, step, not_place v p u k w (λ same e. other e), few)

low_among : (v p u : ℕ) (wss : List (List Vote)) → v < u → how_often v p (ballots_among u wss) ≡ 0
low_among v p u [] low = refl
low_among v p u (ws ∷ wss) low =
    sum_by-append (one_at v p) (ballots_from u 0 ws) (ballots_among (u + 1) wss)
    ∙ (let head = other_from v p u 0 ws (λ same. omega arith) in let rest = low_among v p (u + 1) wss (omega arith) in
    omega arith)

few_among : (v p u : ℕ) (wss : List (List Vote)) → how_often v p (ballots_among u wss) ≤ 1
few_among v p u [] = omega arith
few_among v p u (ws ∷ wss) = by (cases_eq u v) (few_among v p (u + 1) wss)
  where
    step : how_often v p (ballots_among u (ws ∷ wss)) ≡ how_often v p (ballots_from u 0 ws) + how_often v p
        (ballots_among (u + 1) wss)
    step = sum_by-append (one_at v p) (ballots_from u 0 ws) (ballots_among (u + 1) wss)

    by : (u ≡ v) ⊎ (u ≡ v → ⊥) → how_often v p (ballots_among (u + 1) wss) ≤ 1 →
        how_often v p (ballots_among u (ws ∷ wss)) ≤ 1
    by (inl same) few = omega (arith, step, few_from v p u 0 ws, low_among v p (u + 1) wss (omega arith))
    by (inr other) few = omega (arith, step, other_from v p u 0 ws other, few)

-- what stands at two places counts twice
one_there : (v p : ℕ) (bs : List Ballot) (i : ℕ) (a : Ballot) → slice_get bs i ≡ Some a → at_place v p a ≡ true →
    1 ≤ how_often v p bs
one_there v p [] i a e is = absurd cc
one_there v p (b ∷ bs) zero a e is =
    let same : b ≡ a = cc in
    let head : one_at v p b ≡ 1 = ap (one_at v p) same ∙ ap {B = ℕ} (λ (t : Bool). cond t 1 0) is in
    omega (arith, sum_by-cons (one_at v p) b bs, head)
one_there v p (b ∷ bs) (suc i) a e is = omega (arith, sum_by-cons (one_at v p) b bs, one_there v p bs i a e is)

two_there : (v p : ℕ) (bs : List Ballot) (i j : ℕ) (a c : Ballot) → i < j → slice_get bs i ≡ Some a →
    slice_get bs j ≡ Some c → at_place v p a ≡ true → at_place v p c ≡ true → 2 ≤ how_often v p bs
two_there v p [] i j a c less e f is it = absurd cc
two_there v p (b ∷ bs) i zero a c less e f is it = absurd (omega arith)
two_there v p (b ∷ bs) zero (suc j) a c less e f is it =
    let same : b ≡ a = cc in
    let head : one_at v p b ≡ 1 = ap (one_at v p) same ∙ ap {B = ℕ} (λ (t : Bool). cond t 1 0) is in
    omega (arith, sum_by-cons (one_at v p) b bs, head, one_there v p bs j c f it)
two_there v p (b ∷ bs) (suc i) (suc j) a c less e f is it = omega (
  arith,
  sum_by-cons (one_at v p) b bs,
  two_there v p bs i j a c (omega arith) e f is it,
)

-- ---- in another order

module _ (t : Trace) (xs : List Ballot) (moved : IsPermutation (ballots_of t) xs) where
  pub moved_each : (i : ℕ) (b : Ballot) → slice_get xs i ≡ Some b → IsVoteOf t b
  moved_each i b got =
      let all : All (IsVoteOf t) (ballots_of t) = λ k d less. each_is t k (get_or (ballots_of t) k d)
      (slice_get-get_or (ballots_of t) k d less) in
      subst (IsVoteOf t) (get_or_from_slice_get xs i b b got)
      (All-permutation (IsVoteOf t) (ballots_of t) xs moved all i b (slice_get_within xs i b got))

  pub moved_all : (v i : ℕ) (w : Vote) → slice_get (votes_of t v) i ≡ Some w → (j : ℕ) ×
      (slice_get xs j ≡ Some (ballot v i w))
  moved_all v i w got =
      let found = all_are t v i w got in
      let b = ballot v i w in
      let there = slice_get_within (ballots_of t) found.0 b found.1 in
      let in_xs = Contains-permutation (ballots_of t) xs b moved (
        found.0,
        there,
        get_or_from_slice_get (ballots_of t) found.0 b b found.1,
      ) in
      (in_xs.0, slice_get-get_or xs in_xs.0 b in_xs.1 ∙ ap (λ (x : Ballot). Some x) in_xs.2)

  pub moved_once : (i j : ℕ) (a b : Ballot) → i < j → slice_get xs i ≡ Some a → slice_get xs j ≡ Some b →
      a.verifier ≡ b.verifier → a.place ≢ b.place
  moved_once i j a b less e f same here =
      let v = b.verifier in
      let p = b.place in
      let mine = and_from (a.verifier == v) (a.place == p) (eq-eqb a.verifier v same) (eq-eqb a.place p here) in
      let its = and_from (b.verifier == v) (b.place == p) (eq-eqb v v refl) (eq-eqb p p refl) in
      let twice = two_there v p xs i j a b less e f mine its in
      let few = few_among v p 0 t.verifiers in
      let often : how_often v p xs ≡ how_often v p (ballots_of t) =
      sum_by-IsPermutation (one_at v p) (ballots_of t) xs moved in
      omega arith

-- a verifier with a vote is there
pub verifier_there : (t : Trace) (v p : ℕ) (w : Vote) → slice_get (votes_of t v) p ≡ Some w → v < length t.verifiers
verifier_there t v p w got = elim (cases_lt v (length t.verifiers)) [
  | inl less ↦ less
  | inr past ↦ (let none : votes_of t v ≡ [] = get_or_past t.verifiers v [] past in
      absurd (let e = sym (ap (λ (ws : List Vote). slice_get ws p) none) ∙ got in cc))
]
