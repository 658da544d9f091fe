-- Two replicas that committed a batch have as many replies to it, one for each of its requests.
use Rattle.std.proofs.Common.{◌≡◌, ℕ, zero, suc, ◌≤◌, ◌==◌, ◌&&◌, ◌⊎◌, inl, inr, true, List, [], ◌∷◌, ◌++◌, length}
use Rattle.std.proofs.Common.{slice_get, Some, refl, sym, subst, ap, ◌∙◌, length-append, IsTrue, arith}
use Rattle.std.specs.List.{list_all}
use Rattle.std.proofs.lemmas.Bool.{and_parts, eqb-true}
use Rattle.eve_smallbank.proofs.Members.{In, here, there, in_prefix, in_cons}
use Rattle.eve_grammar.specs.Trace.{Attempt, Trace, head_of}
use Rattle.eve_grammar.specs.Certificate.{is_permutation, keeps_groups}
use Rattle.eve_grammar.specs.declared.limits.TheConstants.{MOST_REQUESTS}
use Rattle.eve_grammar.specs.Limits.{is_between, is_number, is_token, is_reply, is_attempt, is_whole_attempt, row_count}
use Rattle.eve_grammar.specs.Limits.{HasLimits}
use Rattle.eve_history.specs.Section.{Placed, batch_at, request_count}
use Rattle.eve_history.specs.SectionHistory.{history, committed_at, IsRightSection}
use Rattle.eve_chains.proofs.Distinct.{Distinct, distinct_permutation, below_permutation, in_permutation, in_split}
use Rattle.eve_chains.proofs.Distinct.{in_right}
use Rattle.eve_chains.proofs.LinkedPaths.{none≢some, how_reached_by, in_attempts, linked_number, committed_number}
use Rattle.eve_run_laws.proofs.Ranges.{committed_whole}

-- ---- permutations

-- what stands in a list parts it
parted : {A : Type 0} {z : A} (xs : List A) → In z xs → (prefix : List A) × (back : List A) × (xs ≡ prefix ++ z ∷ back)
parted [] i = elim i [ ]
parted (x ∷ xs) here = ([], xs, refl)
parted (x ∷ xs) (there i) =
    let rest = parted xs i in (x ∷ rest.0, rest.1, ap (λ (ys : List _). x ∷ ys) rest.2)

-- a list without repetition, all of it in another, is no longer
no_longer : {A : Type 0} (xs ys : List A) → Distinct xs → ((z : A) → In z xs → In z ys) → length xs ≤ length ys
no_longer [] ys d within = omega arith
no_longer {A = A} (x ∷ xs) ys d within =
    let part = parted ys (within x here) in
    let rest = no_longer xs (part.0 ++ part.1) d.1 (λ z i. other z i part.0 part.1
    (in_split part.0 (x ∷ part.1) (subst (In z) part.2 (within z (there i))))) in
    omega (arith, rest, ap length part.2, length-append part.0 (x ∷ part.1), length-append part.0 part.1)
  where
    other : (z : A) → In z xs → (prefix back : List A) → In z prefix ⊎ In z (x ∷ back) → In z (prefix ++ back)
    other z i prefix back (inl before) = in_prefix back before
    other z i prefix back (inr later) = by (in_cons back later)
      where
        by : (z ≡ x) ⊎ In z back → In z (prefix ++ back)
        by (inl same) = absurd (d.0 (subst (λ (y : A). In y xs) same i))
        by (inr after) = in_right prefix back after

-- two orders of the same indexes
as_long : (r : ℕ) (xs ys : List ℕ) → is_permutation r xs ≡ true → is_permutation r ys ≡ true → length xs ≡ length ys
as_long r xs ys one two =
    let few = no_longer xs ys (distinct_permutation r xs one)
    (λ i member. in_permutation r i ys two (below_permutation r i xs one member)) in
    let few_too = no_longer ys xs (distinct_permutation r ys two)
    (λ i member. in_permutation r i xs one (below_permutation r i ys two member)) in
    omega (arith, few, few_too)

-- ---- committed attempts

one_for_each : (rows : ℕ) (a : Attempt) → IsTrue (is_whole_attempt rows a) → length a.replies ≡ length a.certificate
one_for_each rows a h =
    let one = (and_parts (is_number 4 a.seq) _ (and_parts (is_attempt a) _ h).0).1 in
    let two = (and_parts (is_number 4 a.view) _ one).1 in
    let three = (and_parts (is_between 1 MOST_REQUESTS (length a.certificate)) _ two).1 in
    let four = (and_parts (list_all (is_number 2) a.certificate) _ three).1 in
    eqb-true (length a.replies) (length a.certificate)
    (and_parts (length a.replies == length a.certificate) (list_all is_reply a.replies && is_token a.token) four).0

module _ (t : Trace) (e n : ℕ) (q : Placed) (limits : HasLimits t) (right : IsRightSection t e)
    (at : committed_at t e (suc n) ≡ Some q) where
  replies_as_certificate : length q.attempt.replies ≡ length q.attempt.certificate
  replies_as_certificate =
      one_for_each (row_count (head_of t)) q.attempt
      (committed_whole t e limits q (in_attempts (history t e).ways_reached n q
      (how_reached_by (slice_get (history t e).ways_reached n) q at)))

  permutes : is_permutation (length (batch_at t (suc n)).requests) q.attempt.certificate ≡ true
  permutes =
      let kept = (and_parts (keeps_groups (batch_at t q.attempt.seq).sizes (request_count t q.attempt)
      q.attempt.certificate) _ (linked_number t e n q right at).certificate).0 in
      subst (λ (m : ℕ). is_permutation (length (batch_at t m).requests) q.attempt.certificate ≡ true)
      (committed_number t e (suc n) q right at)
      (and_parts (is_permutation (request_count t q.attempt) q.attempt.certificate) _ kept).0

pub replies_counted : (t : Trace) (e f n : ℕ) (q r : Placed) → HasLimits t → IsRightSection t e → IsRightSection t f
    → committed_at t e n ≡ Some q → committed_at t f n ≡ Some r → length q.attempt.replies ≡ length r.attempt.replies
replies_counted t e f zero q r limits right right_too at also = none≢some q at
replies_counted t e f (suc n) q r limits right right_too at also =
    replies_as_certificate t e n q limits right at
    ∙ as_long (length (batch_at t (suc n)).requests) q.attempt.certificate r.attempt.certificate
    (permutes t e n q limits right at) (permutes t f n r limits right_too also)
    ∙ sym (replies_as_certificate t f n r limits right_too also)
