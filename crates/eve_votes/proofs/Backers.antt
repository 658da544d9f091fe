-- Public: other crates cite these lemmas. Who counts for a decision.
use Rattle.std.proofs.Common.{◌≡◌, ℕ, suc, ◌+◌, ◌*◌, ◌<◌, ◌≤◌, Bool, true, false, cond, List, [], ◌∷◌, length, get_or}
use Rattle.std.proofs.Common.{filter, count_by, refl, sym, ap, ◌∙◌, arith}
use Rattle.std.specs.Prelude.{◌==◌}
use Rattle.std.specs.List.{All, AllByRecursion}
use Rattle.std.specs.Cmp.Lexicographic.{pointwise, same_text, other_text}
use Rattle.std.proofs.lemmas.Bool.{eqb-true, and_parts}
use Rattle.std.proofs.lemmas.List.Sums.{count_by-le-length}
use Rattle.std.proofs.lemmas.List.Elements.{recursion_from_All}
use Rattle.eve_grammar.specs.Trace.{Choice, ForRollback, ForCommit, Vote, Trace}
use Rattle.eve_grammar.specs.Spelling.{votes_of}
use Rattle.eve_views.proofs.Lists.{count-cons}
use Rattle.eve_votes.specs.Votes.{same_choice, is_vote_on, is_only, IsDecided}

-- ---- counts

one_of_two : (s t : Bool) → (s ≡ true → t ≡ true → ⊥) → cond s 1 0 + cond t 1 0 ≤ 1
one_of_two true true apart = absurd (apart refl refl)
one_of_two true false apart = omega arith
one_of_two false true apart = omega arith
one_of_two false false apart = omega arith

-- what can't both be true of an item is counted no more often than there are items
pub counts_apart : {A : Type 0} (p q : A → Bool) (xs : List A) → ((x : A) → p x ≡ true → q x ≡ true → ⊥)
    → count_by p xs + count_by q xs ≤ length xs
counts_apart p q [] apart = omega arith
counts_apart p q (x ∷ xs) apart =
    omega (arith, count-cons p x xs, count-cons q x xs, one_of_two (p x) (q x) (apart x), counts_apart p q xs apart)

-- what is counted so often is there, early enough
pub record Counted {A : Type 0} (p : A → Bool) (often : ℕ) (xs : List A) : Type 0 where
  pub place : ℕ
  pub early : place + often ≤ length xs
  pub is : (d : A) → p (get_or xs place d) ≡ true

pub counted : {A : Type 0} (p : A → Bool) (often : ℕ) (xs : List A) → 1 ≤ often → often ≤ count_by p xs
    → Counted p often xs
counted p often [] some many = absurd (omega arith)
counted p often (x ∷ xs) some many = here (p x) refl (λ more. counted p often xs some more)
  where
    here : (t : Bool) → p x ≡ t → (often ≤ count_by p xs → Counted p often xs) → Counted p often (x ∷ xs)
    here true e tail = record { place = 0; early = omega (arith, count_by-le-length p (x ∷ xs), many); is = λ d. e }
    here false e tail =
        let rest = tail (omega (arith, count-cons p x xs, many, ap {B = ℕ} (λ t. cond t 1 0) e)) in
        record { place = suc rest.place; early = omega (arith, rest.early); is = λ d. rest.is d }

-- ---- only votes

same_commit : (c : Choice) (token : List ℕ) → same_choice c (ForCommit token) ≡ true → c ≡ ForCommit token
same_commit ForRollback token e = absurd cc
same_commit (ForCommit other) token e = ap ForCommit (same_text other token (sym e))

-- an only vote for a commit is there, and says so
pub record Backs (P : Vote → Type 0) (n view : ℕ) (token : List ℕ) : Type 0 where
  pub vote : Vote
  pub holds : P vote
  pub seq : vote.seq ≡ n
  pub in_view : vote.view ≡ view
  pub commit : vote.choice ≡ ForCommit token

only_first : (c : Choice) (w : Vote) (ws : List Vote) → is_only c (w ∷ ws) ≡ true → same_choice w.choice c ≡ true
only_first c w [] e = e
only_first c w (x ∷ xs) e = absurd cc

pub backs : (P : Vote → Type 0) (n view : ℕ) (token : List ℕ) (ws : List Vote) → AllByRecursion P ws
    → is_only (ForCommit token) (filter (is_vote_on n view) ws) ≡ true → Backs P n view token
backs P n view token [] all e = absurd cc
backs P n view token (w ∷ ws) all e = here (is_vote_on n view w) refl (λ more. backs P n view token ws all.1 more)
  where
    here : (t : Bool) → is_vote_on n view w ≡ t
        → (is_only (ForCommit token) (filter (is_vote_on n view) ws) ≡ true → Backs P n view token)
        → Backs P n view token
    here true on tail =
        let first : is_only (ForCommit token) (w ∷ filter (is_vote_on n view) ws) ≡ true =
        sym (ap (λ (t : Bool). is_only (ForCommit token)
        (cond t (w ∷ filter (is_vote_on n view) ws) (filter (is_vote_on n view) ws))) on) ∙ e in
        let parts = and_parts (w.seq == n) (w.view == view) on in
        record {
          vote = w;
          holds = all.0;
          seq = eqb-true w.seq n parts.0;
          in_view = eqb-true w.view view parts.1;
          commit = same_commit w.choice token (only_first (ForCommit token) w (filter (is_vote_on n view) ws) first);
        }
    here false on tail =
        let rest : is_only (ForCommit token) (filter (is_vote_on n view) ws) ≡ true =
        sym (ap (λ (t : Bool). is_only (ForCommit token)
        (cond t (w ∷ filter (is_vote_on n view) ws) (filter (is_vote_on n view) ws))) on) ∙ e in
        tail rest

-- one vote isn't for two tokens
only_one : (a b : List ℕ) (ws : List Vote) → is_only (ForCommit a) ws ≡ true → is_only (ForCommit b) ws ≡ true → a ≡ b
only_one a b [] e f = absurd cc
only_one a b (w ∷ []) e f = (let both = sym (same_commit w.choice a e) ∙ same_commit w.choice b f in cc)
only_one a b (w ∷ x ∷ ws) e f = absurd cc

-- ---- decisions

-- a decided commit has a vote for it, of which holds what holds of each
pub decided_backs : (t : Trace) (P : Vote → Type 0) (n view : ℕ) (token : List ℕ) → 1 ≤ t.head.quorum
    → ((v : ℕ) → v + t.head.quorum ≤ length t.verifiers → All P (votes_of t v)) → IsDecided t n view token
    → Backs P n view token
decided_backs t P n view token some all decided =
    let p : List Vote → Bool = λ votes. is_only (ForCommit token) (filter (is_vote_on n view) votes) in
    let one = counted p t.head.quorum t.verifiers some decided in
    backs P n view token (votes_of t one.place) (recursion_from_All P (votes_of t one.place) (all one.place one.early))
    (one.is [])

-- more than half of the verifiers can't be for two tokens
pub one_token : (t : Trace) (n view : ℕ) (a b : List ℕ) → length t.verifiers < 2 * t.head.quorum → IsDecided t n view a
    → IsDecided t n view b → a ≡ b
one_token t n view a b most for_a for_b = by_test (pointwise ◌==◌ a b) refl
  where
    by_test : (s : Bool) → pointwise ◌==◌ a b ≡ s → a ≡ b
    by_test true e = same_text a b (sym e)
    by_test false e =
        let p : List Vote → Bool = λ votes. is_only (ForCommit a) (filter (is_vote_on n view) votes) in
        let q : List Vote → Bool = λ votes. is_only (ForCommit b) (filter (is_vote_on n view) votes) in
        let apart : (votes : List Vote) → p votes ≡ true → q votes ≡ true → ⊥ =
        λ votes s u. differ a b e (only_one a b (filter (is_vote_on n view) votes) s u) in
        absurd (omega (arith, counts_apart p q t.verifiers apart, for_a, for_b, most))
      where
        differ : (a b : List ℕ) → pointwise ◌==◌ a b ≡ false → a ≡ b → ⊥
        differ a b e same = other_text a b (sym e) same
