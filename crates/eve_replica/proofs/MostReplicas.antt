-- Batches stay committed by most replicas, and one more is.
use Rattle.std.proofs.Common.{◌≡◌, ℕ, ◌+◌, ◌-◌, ◌*◌, ◌<◌, ◌≤◌, ◌==◌, Bool, true, false, cond, ◌||◌, List, []}
use Rattle.std.proofs.Common.{◌∷◌, ◌++◌, length, refl, sym, ap, ◌∙◌, subst, inl, inr, arith}
use Rattle.std.specs.List.{AllZip, count_by}
use Rattle.std.proofs.lemmas.Bool.{false≢true}
use Rattle.std.proofs.lemmas.Bool.Decides.{eqb_tells, nat_tests}
use Rattle.std.proofs.lemmas.List.{length-map}
use Rattle.std.proofs.lemmas.List.Sums.{sum_by-cons}
use Rattle.std.proofs.lemmas.Slice.Zip.{AllZip-long}
use Rattle.eve_grammar.specs.Trace.{Commit, Step, Commits}
use Rattle.eve_write.specs.Data.{section}
use Rattle.eve_replica.specs.declared.server.Server.{Server}
use Rattle.eve_replica.specs.Transfers.{is_commit_of, commits_batch, AreCommittedByMost}
use Rattle.eve_replica.specs.inner.RunInvariant.{Move, GoesOn, sections_in}
use Rattle.eve_replica.proofs.ReplicaLists.{AreAllOn, all_so, pairs_of, in_sections}

-- ---- what is committed in a section that grows

or_first : (b c d : Bool) → (b || (c || d)) ≡ ((b || c) || d)
or_first true c d = refl
or_first false c d = refl

pub commits_append : (n : ℕ) (a b : List Step) → commits_batch n (a ++ b) ≡ (commits_batch n a || commits_batch n b)
commits_append n [] b = refl
commits_append n (x ∷ a) b =
    ap (λ (t : Bool). is_commit_of n x || t) (commits_append n a b)
    ∙ or_first (is_commit_of n x) (commits_batch n a) (commits_batch n b)

either : (b c : Bool) → b ≡ true → (b || c) ≡ true
either true c is = refl
either false c is = absurd (false≢true is)

or_both : (b c : Bool) → c ≡ true → (b || c) ≡ true
or_both true c is = refl
or_both false c is = is

neither : (b c : Bool) → b ≡ false → c ≡ false → (b || c) ≡ false
neither true c not_this none = not_this
neither false c not_this none = none

-- it stays committed,
pub still_commits : (n : ℕ) (a b : List Step) → commits_batch n a ≡ true → commits_batch n (a ++ b) ≡ true
still_commits n a b is = commits_append n a b ∙ either (commits_batch n a) (commits_batch n b) is

-- and isn't where no more commits it
pub still_none : (n : ℕ) (a b : List Step) → commits_batch n a ≡ false → commits_batch n b ≡ false
    → commits_batch n (a ++ b) ≡ false
still_none n a b not_these none =
    commits_append n a b ∙ neither (commits_batch n a) (commits_batch n b) not_these none

-- the last step commits it
pub commits_now : (n : ℕ) (a : List Step) (c : Commit) → c.seq ≡ n → commits_batch n (a ++ Commits c ∷ []) ≡ true
commits_now n a c is =
    let same : (c.seq == n) ≡ true = grind (arith, nat_tests) in
    commits_append n a (Commits c ∷ [])
    ∙ or_both (commits_batch n a) ((c.seq == n) || false) (either (c.seq == n) false same)

-- ---- how many sections commit it

one_counts : (b c : Bool) → (b ≡ true → c ≡ true) → cond b 1 0 ≤ cond c 1 0
one_counts true true so = omega arith
one_counts true false so = absurd (false≢true (so refl))
one_counts false true so = omega arith
one_counts false false so = omega arith

-- at least as many pass where each passes whose pair does
pub counted_more : {A B : Type 0} (p : A → Bool) (q : B → Bool) (xs : List A) (ys : List B)
    → AllZip (λ x y. p x ≡ true → q y ≡ true) xs ys → count_by p xs ≤ count_by q ys
counted_more p q [] [] so = omega arith
counted_more p q [] (y ∷ ys) so = absurd so
counted_more p q (x ∷ xs) [] so = absurd so
counted_more {A = A} {B = B} p q (x ∷ xs) (y ∷ ys) so =
    let rest = counted_more p q xs ys so.1 in
    let one = one_counts (p x) (q y) so.0 in
    let left = sum_by-cons (λ (z : A). cond (p z) 1 0) x xs in
    let right = sum_by-cons (λ (z : B). cond (q z) 1 0) y ys in
    omega arith

-- counted over sections
counted_in : (n : ℕ) (servers : List Server)
    → count_by (commits_batch n) (sections_in servers) ≡ count_by (λ s. commits_batch n (section s.steps)) servers
counted_in n [] = refl
counted_in n (s ∷ servers) =
    sum_by-cons (λ (steps : List Step). cond (commits_batch n steps) 1 0) (section s.steps) (sections_in servers)
    ∙ ap (λ (k : ℕ). cond (commits_batch n (section s.steps)) 1 0 + k) (counted_in n servers)
    ∙ sym (sum_by-cons (λ (x : Server). cond (commits_batch n (section x.steps)) 1 0) s servers)

-- a section has grown
abbrev pub Extends : List Step → List Step → Type 0
Extends old new = (more : List Step) × (new ≡ old ++ more)

weaken : (R S : List Step → List Step → Type 0) → ((s t : List Step) → R s t → S s t)
    → (ss ts : List (List Step)) → AllZip R ss ts → AllZip S ss ts
weaken R S gives [] [] pairs = tt
weaken R S gives [] (t ∷ ts) pairs = absurd pairs
weaken R S gives (s ∷ ss) [] pairs = absurd pairs
weaken R S gives (s ∷ ss) (t ∷ ts) pairs = (gives s t pairs.0, weaken R S gives ss ts pairs.1)

-- what most had committed they still have
pub extended_by_most : (n : ℕ) (was now : List (List Step)) → AllZip Extends was now → AreCommittedByMost n was
    → AreCommittedByMost n now
extended_by_most n was now pairs before = λ k some le.
    let counted = counted_more (commits_batch k) (commits_batch k) was now
    (weaken Extends (λ s t. commits_batch k s ≡ true → commits_batch k t ≡ true)
    (λ s t grown is.
    subst (λ (steps : List Step). commits_batch k steps ≡ true) (sym grown.1) (still_commits k s grown.0 is)) was now
    pairs) in
    let long = AllZip-long Extends was now pairs in
    let most = before k some le in
    omega arith

-- and one more, where most commit it now
pub more_by_most : (n : ℕ) (was now : List (List Step)) → AllZip Extends was now
    → length now < 2 * count_by (commits_batch n) now → AreCommittedByMost (n - 1) was → AreCommittedByMost n now
more_by_most n was now pairs most before = λ k some le. elim (eqb_tells k n) [
  | inl same ↦ subst (λ (m : ℕ). length now < 2 * count_by (commits_batch m) now) (sym same.1) most
  | inr other ↦ let apart = other.1 in extended_by_most (n - 1) was now pairs before k some (omega arith)
]

-- ---- all replicas

abbrev Steps : (List Step → List Step → Type 0) → Server → Server → Type 0
Steps Grows old new = Grows (section old.steps) (section new.steps)

extended : (m : Move) (was servers : List Server) → AreAllOn (GoesOn m) was servers
    → AllZip Extends (sections_in was) (sections_in servers)
extended m was servers on =
    in_sections Extends was servers
    (all_so (GoesOn m) (Steps Extends) was servers (λ old new goes. (goes.added.0, goes.added.1)) on)

-- replicas that go on have committed what they had
pub still_by_most : (n : ℕ) (m : Move) (was servers : List Server) → AreAllOn (GoesOn m) was servers
    → AreCommittedByMost n (sections_in was) → AreCommittedByMost n (sections_in servers)
still_by_most n m was servers on before =
    extended_by_most n (sections_in was) (sections_in servers) (extended m was servers on) before

-- and where those that pass, more than half of all, commit a batch, it too
pub one_more_by_most : (n : ℕ) (m : Move) (passes : Server → Bool) (was servers : List Server)
    → AreAllOn (GoesOn m) was servers
    → AreAllOn (λ old new. passes old ≡ true → commits_batch n (section new.steps) ≡ true) was servers
    → length was < 2 * count_by passes was → AreCommittedByMost (n - 1) (sections_in was)
    → AreCommittedByMost n (sections_in servers)
one_more_by_most n m passes was servers on commit most before =
    let counted = counted_more passes (λ s. commits_batch n (section s.steps)) was servers
    (pairs_of (λ old new. passes old ≡ true → commits_batch n (section new.steps) ≡ true) was servers commit) in
    let here = counted_in n servers in
    let long = length-map servers (λ s. section s.steps) in
    let many = on.many in
    more_by_most n (sections_in was) (sections_in servers) (extended m was servers on) (omega arith) before
