-- How numbers were reached, as it is kept step by step.
use Rattle.std.proofs.Common.{◌≡◌, ℕ, zero, suc, ◌+◌, ◌-◌, ◌<◌, ◌≤◌, true, List, [], ◌∷◌, ◌++◌, map}
use Rattle.std.proofs.Common.{length, drop, replicate, refl, sym, ap, subst, ◌∙◌}
use Rattle.std.proofs.Common.{arith}
use Rattle.std.specs.List.{AllByRecursion}
use Rattle.std.proofs.lemmas.Bool.{false≢true}
use Rattle.std.proofs.lemmas.List.{map-append, length-append, length-replicate}
use Rattle.std.proofs.lemmas.List.{drop_all, drop-append-le, drop-drop}
use Rattle.eve_grammar.specs.Trace.{Attempt, Commit, Rollback, Transfer, Attempts, RollsBack}
use Rattle.eve_history.specs.declared.how_reached.HowReached as told
use Rattle.eve_history.specs.declared.how_reached.HowReached.TheVariants as how_reached
use Rattle.eve_history.specs.Section.{Placed, HowReached, ByAttempt, ByTransfer, Skipped, SectionState, next}
use Rattle.eve_history.specs.Section.{committing, after_transfer, path_of, commits_first}
use Rattle.eve_history.specs.Section.{transfers_by}
use Rattle.eve_history.specs.SectionHistory.{ExecutedAttempt, executed_attempt, placed_at}
use Rattle.eve_history.specs.SectionHistory.{ToldReached, ReachedBy}
use Rattle.eve_history.specs.SectionHistory.{ReachedFrom, NotReached, told_reached_from}
use Rattle.eve_history.specs.KeptSections.{executed_attempt_at}
use Rattle.eve_history.specs.KeptSections.{told_reached_in, IsWayAmong, AreSettled}
use Rattle.eve_history.proofs.Transfers.{over}

-- ---- ways in which numbers were reached

abbrev placed_executed_attempt : Placed → ExecutedAttempt
placed_executed_attempt p = executed_attempt (placed_at p)

executed_attempt_among : (rs more : List ExecutedAttempt) (place : ℕ) → place < length rs
    → executed_attempt_at (rs ++ more) place ≡ executed_attempt_at rs place
executed_attempt_among [] more place lt = absurd (omega arith)
executed_attempt_among (r ∷ rs) more zero lt = refl
executed_attempt_among (r ∷ rs) more (suc place) lt = executed_attempt_among rs more place (omega arith)

how_reached_among : (rs more : List ExecutedAttempt) (m : ℕ) (l : told.HowReached) → IsWayAmong (length rs) m l
    → told_reached_in (rs ++ more) l ≡ told_reached_in rs l
how_reached_among rs more m (how_reached.Attempt place) lt = ap ReachedBy (executed_attempt_among rs more place lt)
how_reached_among rs more m (how_reached.Transfer i) there = refl
how_reached_among rs more m how_reached.Skipped there = refl

ways_reached_among : (rs more : List ExecutedAttempt) (m : ℕ) (ls : List told.HowReached)
    → AllByRecursion (IsWayAmong (length rs) m) ls → map (told_reached_in (rs ++ more)) ls
    ≡ map (told_reached_in rs) ls
ways_reached_among rs more m [] there = refl
ways_reached_among rs more m (l ∷ ls) there =
    λ i. how_reached_among rs more m l there.0 i ∷ ways_reached_among rs more m ls there.1 i

-- of the first n attempts and m states
still_among : (n m i j : ℕ) (l : told.HowReached) → n ≤ i → m ≤ j → IsWayAmong n m l → IsWayAmong i j l
still_among n m i j (how_reached.Attempt place) few le lt = let first : place < n = lt in omega arith
still_among n m i j (how_reached.Transfer place) few le lt = let first : place < m = lt in omega arith
still_among n m i j how_reached.Skipped few le there = tt

pub still_there : (n m i j : ℕ) (ls : List told.HowReached) → n ≤ i → m ≤ j → AllByRecursion (IsWayAmong n m) ls
    → AllByRecursion (IsWayAmong i j) ls
still_there n m i j [] few le there = tt
still_there n m i j (l ∷ ls) few le there =
    (still_among n m i j l few le there.0, still_there n m i j ls few le there.1)

pub one_more_there : (n m place : ℕ) (ls : List told.HowReached) → place < n → AllByRecursion (IsWayAmong n m) ls
    → AllByRecursion (IsWayAmong n m) (ls ++ how_reached.Attempt place ∷ [])
one_more_there n m place [] lt there = (lt, tt)
one_more_there n m place (l ∷ ls) lt there = (there.0, one_more_there n m place ls lt there.1)

-- numbers are skipped, and then the state at this place is transferred
abbrev pub over_at : ℕ → ℕ → List told.HowReached
over_at skipped i = replicate skipped how_reached.Skipped ++ how_reached.Transfer i ∷ []

pub over_there : (n m skipped i : ℕ) (ls : List told.HowReached) → i < m → AllByRecursion (IsWayAmong n m) ls
    → AllByRecursion (IsWayAmong n m) (ls ++ over_at skipped i)
over_there n m zero i [] lt there = (lt, tt)
over_there n m (suc skipped) i [] lt there = (tt, over_there n m skipped i [] lt tt)
over_there n m skipped i (l ∷ ls) lt there = (there.0, over_there n m skipped i ls lt there.1)

pub over_count : (skipped i : ℕ) → length (over_at skipped i) ≡ skipped + 1
over_count skipped i = length-append (replicate skipped how_reached.Skipped) (how_reached.Transfer i ∷ [])
    ∙ ap (λ (n : ℕ). n + 1) (length-replicate skipped how_reached.Skipped)

told_reached_push : (transferred : ℕ) (ls : List HowReached) (p : Placed)
    → told_reached_from transferred (ls ++ ByAttempt p ∷ [])
    ≡ told_reached_from transferred ls ++ ReachedBy (placed_executed_attempt p) ∷ []
told_reached_push transferred [] p = refl
told_reached_push transferred (ByAttempt q ∷ ls) p = ap
    (λ (xs : List ToldReached). ReachedBy (placed_executed_attempt q) ∷ xs)
    (told_reached_push transferred ls p)
told_reached_push transferred (ByTransfer at x ∷ ls) p = ap (λ (xs : List ToldReached). ReachedFrom transferred ∷ xs)
    (told_reached_push (suc transferred) ls p)
told_reached_push transferred (Skipped ∷ ls) p = ap (λ (xs : List ToldReached). NotReached ∷ xs)
    (told_reached_push transferred ls p)

-- what a state leaves is told as it is kept, where its place is how many states were transferred before it
told_reached_over : (rs : List ExecutedAttempt) (transferred i skipped at : ℕ) (x : Transfer) (ls : List HowReached)
    → i ≡ transferred + length (transfers_by ls)
    → told_reached_from transferred ls ++ map (told_reached_in rs) (over_at skipped i)
    ≡ told_reached_from transferred (ls ++ over skipped at x)
told_reached_over rs transferred i zero at x [] is =
    (let same : i ≡ transferred = omega arith in ap (λ (n : ℕ). ReachedFrom n ∷ []) same)
told_reached_over rs transferred i (suc skipped) at x [] is = ap (λ (xs : List ToldReached). NotReached ∷ xs)
    (told_reached_over rs transferred i skipped at x [] is)
told_reached_over rs transferred i skipped at x (ByAttempt q ∷ ls) is = ap
    (λ (xs : List ToldReached). ReachedBy (placed_executed_attempt q) ∷ xs)
    (told_reached_over rs transferred i skipped at x ls is)
told_reached_over rs transferred i skipped at x (ByTransfer o y ∷ ls) is =
    ap (λ (xs : List ToldReached). ReachedFrom transferred ∷ xs)
    (told_reached_over rs (suc transferred) i skipped at x ls (omega (arith, is)))
told_reached_over rs transferred i skipped at x (Skipped ∷ ls) is = ap (λ (xs : List ToldReached). NotReached ∷ xs)
    (told_reached_over rs transferred i skipped at x ls is)

-- what stands first after so many
first_behind : (rs : List ExecutedAttempt) (n : ℕ) (r : ExecutedAttempt) (rest : List ExecutedAttempt)
    → r ∷ rest ≡ drop n rs → executed_attempt_at rs n ≡ r
first_behind [] n r rest e = absurd (none n e)
  where
    none : (n : ℕ) → r ∷ rest ≡ drop n [] → ⊥
    none zero e = absurd (cc)
    none (suc n) e = absurd (cc)
first_behind (x ∷ rs) zero r rest e = same x rs r rest e
  where
    same : (x : ExecutedAttempt) (xs : List ExecutedAttempt) (y : ExecutedAttempt) (ys : List ExecutedAttempt)
        → y ∷ ys ≡ x ∷ xs → x ≡ y
    same x xs y ys e = cc
first_behind (x ∷ rs) (suc n) r rest e = first_behind rs n r rest e

pub settled_attempt : (s : SectionState) (at : ℕ) (a : Attempt) (rs after : List ExecutedAttempt) (n m : ℕ)
    (ls : List told.HowReached) → after ≡ rs ++ executed_attempt (at, a) ∷ [] → n ≤ length rs
    → AllByRecursion (IsWayAmong (length rs) m) ls → AreSettled s rs n ls
    → AreSettled (next s (at, Attempts a)) after n ls
settled_attempt s at a rs after n m ls is few there settled =
    subst (λ (xs : List ExecutedAttempt). AreSettled (next s (at, Attempts a)) xs n ls) (sym is) (record {
      pending = map-append placed_executed_attempt s.pending
          (record { offset = at; attempt = a; path = path_of s } ∷ [])
          ∙ ap (λ (xs : List ExecutedAttempt). xs ++ executed_attempt (at, a) ∷ []) settled.pending
          ∙ sym (drop-append-le n rs (executed_attempt (at, a) ∷ []) few);
      told_reached = ways_reached_among rs (executed_attempt (at, a) ∷ []) m ls there ∙ settled.told_reached;
    })

pub settled_commit : (s : SectionState) (pending : List Placed) (c : Commit) (rs : List ExecutedAttempt) (n m : ℕ)
    (ls : List told.HowReached)
    → s.pending ≡ pending → commits_first pending c ≡ true → m ≡ n + 1
    → AreSettled s rs n ls → AreSettled (committing s pending) rs m (ls ++ how_reached.Attempt n ∷ [])
settled_commit s [] c rs n m ls is first more settled = absurd (false≢true first)
settled_commit s (p ∷ ps) c rs n m ls is first more settled =
    let open_is : placed_executed_attempt p ∷ map placed_executed_attempt ps ≡ drop n rs =
    ap (map placed_executed_attempt) (sym is) ∙ settled.pending in
    record {
      pending = ap (drop 1) open_is ∙ drop-drop 1 n rs ∙ ap (λ (k : ℕ). drop k rs) (sym more);
      told_reached = map-append (told_reached_in rs) ls (how_reached.Attempt n ∷ [])
          ∙ ap (λ (r : ExecutedAttempt). map (told_reached_in rs) ls ++ ReachedBy r ∷ [])
          (first_behind rs n (placed_executed_attempt p) (map placed_executed_attempt ps) open_is)
          ∙ ap (λ (xs : List ToldReached). xs ++ ReachedBy (placed_executed_attempt p) ∷ []) settled.told_reached
          ∙ sym (told_reached_push 0 s.ways_reached p);
    }

pub settled_rollback : (s : SectionState) (at : ℕ) (r : Rollback) (rs : List ExecutedAttempt) (n m : ℕ)
    (ls : List told.HowReached) → length rs ≤ m → AreSettled s rs n ls → AreSettled (next s (at, RollsBack r)) rs m ls
settled_rollback s at r rs n m ls all settled =
    record { pending = sym (drop_all m rs all); told_reached = settled.told_reached }

pub settled_transfer : (s : SectionState) (at : ℕ) (x : Transfer) (rs : List ExecutedAttempt) (n m i skipped : ℕ)
    (ls : List told.HowReached) → length rs ≤ m → i ≡ length (transfers_by s.ways_reached) → skipped
    ≡ x.seq - (s.last + 1)
    → AreSettled s rs n ls → AreSettled (after_transfer s at x) rs m (ls ++ over_at skipped i)
settled_transfer s at x rs n m i skipped ls all place count settled = record {
  pending = sym (drop_all m rs all);
  told_reached = map-append (told_reached_in rs) ls (over_at skipped i)
      ∙ ap (λ (xs : List ToldReached). xs ++ map (told_reached_in rs) (over_at skipped i)) settled.told_reached
      ∙ told_reached_over rs 0 i skipped at x s.ways_reached (omega (arith, place))
      ∙ ap (λ (n : ℕ). told_reached_from 0 (s.ways_reached ++ over n at x)) count;
}
