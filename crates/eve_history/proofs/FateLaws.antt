-- Public: other crates cite these lemmas. The attempts that a section has committed or discarded in the end are those
-- with that fate.
use Rattle.std.proofs.Common.{◌≡◌, ℕ, zero, suc, ◌+◌, ◌-◌, Bool, true, false, cond, List, [], ◌∷◌, ◌++◌, map, length}
use Rattle.std.proofs.Common.{replicate, refl, sym, ap, ◌∙◌, append_assoc, add-one, arith}
use Rattle.std.proofs.lemmas.List.{append-nil, map-append, length-append}
use Rattle.eve_grammar.specs.Trace.{Attempt, Commit, Transfer, Step, Attempts, Commits, RollsBack, Transfers, Trace}
use Rattle.eve_grammar.specs.Spelling.{steps_at}
use Rattle.eve_history.specs.declared.fate.Fate.{Fate}
use Rattle.eve_history.specs.declared.fate.Fate.TheVariants.{Committed, Discarded, Open}
use Rattle.eve_history.specs.Section.{Placed, HowReached, ByAttempt, ByTransfer, Skipped, attempts_by, SectionState}
use Rattle.eve_history.specs.Section.{start, next, committing, after_transfer, path_of, state_after}
use Rattle.eve_history.specs.Fates.{fate_in, fates_from}
use Rattle.eve_history.specs.SectionHistory.{attempts_among, history, placed_at, picked, is_committed, is_discarded}
use Rattle.eve_history.specs.KeptSections.{open_fates}
use Rattle.eve_history.proofs.SectionSteps.{open_attempt, open_push, open_commit, open_rollback, open_transfer}
use Rattle.eve_history.proofs.SectionSteps.{open_end}
use Rattle.eve_history.proofs.Transfers.{over}

-- those that are open, and then those of the steps, with what becomes of each
abbrev picked_from : (Fate → Bool) → List Placed → List (ℕ × Step) → List (ℕ × Attempt)
picked_from test pending steps =
    picked test (map placed_at pending ++ attempts_among steps)
    (open_fates steps 0 (length pending) ++ fates_from (length pending) steps)

picked-same : (test : Fate → Bool) (fate : Fate) (ps : List Placed) (xs : List (ℕ × Attempt)) (fates : List Fate)
    → test fate ≡ false
    → picked test (map placed_at ps ++ xs) (replicate (length ps) fate ++ fates) ≡ picked test xs fates
picked-same test fate [] xs fates fails = refl
picked-same test fate (p ∷ ps) xs fates fails = rw fails (picked-same test fate ps xs fates fails)

picked-all : (test : Fate → Bool) (fate : Fate) (ps : List Placed) (xs : List (ℕ × Attempt)) (fates : List Fate)
    → test fate ≡ true
    → picked test (map placed_at ps ++ xs) (replicate (length ps) fate ++ fates)
    ≡ map placed_at ps ++ picked test xs fates
picked-all test fate [] xs fates passes = refl
picked-all test fate (p ∷ ps) xs fates passes =
    rw passes (ap (λ (ys : List (ℕ × Attempt)). placed_at p ∷ ys) (picked-all test fate ps xs fates passes))

-- none is settled after the last step
at_end : (test : Fate → Bool) (ps : List Placed) → test Open ≡ false → picked_from test ps [] ≡ []
at_end test ps fails = ap (λ (fs : List Fate). picked test (map placed_at ps ++ []) (fs ++ [])) (open_end 0 (length ps))
    ∙ picked-same test Open ps [] [] fails ∙ refl

-- an attempt becomes the last open one
at_attempt : (test : Fate → Bool) (at : ℕ) (a : Attempt) (rest : List (ℕ × Step)) (ps : List Placed) (p : Placed)
    → placed_at p ≡ (at, a) → picked_from test ps ((at, Attempts a) ∷ rest) ≡ picked_from test (ps ++ p ∷ []) rest
at_attempt test at a rest ps p is =
    let n = length ps in
    let count : length (ps ++ p ∷ []) ≡ suc n = length-append ps (p ∷ []) ∙ add-one n in
    let here : 0 + n ≡ n = omega arith in
    let items : map placed_at ps ++ ((at, a) ∷ attempts_among rest)
    ≡ map placed_at (ps ++ p ∷ []) ++ attempts_among rest =
    sym (append_assoc (map placed_at ps) ((at, a) ∷ []) (attempts_among rest))
    ∙ ap (λ (x : ℕ × Attempt). (map placed_at ps ++ x ∷ []) ++ attempts_among rest) (sym is)
    ∙ ap (λ (xs : List (ℕ × Attempt)). xs ++ attempts_among rest) (sym (map-append placed_at ps (p ∷ []))) in
    let fates : open_fates ((at, Attempts a) ∷ rest) 0 n ++ (fate_in rest n ∷ fates_from (suc n) rest)
    ≡ open_fates rest 0 (length (ps ++ p ∷ [])) ++ fates_from (length (ps ++ p ∷ [])) rest =
    ap (λ (fs : List Fate). fs ++ (fate_in rest n ∷ fates_from (suc n) rest)) (open_attempt at a rest 0 n)
    ∙ sym (append_assoc (open_fates rest 0 n) (fate_in rest n ∷ []) (fates_from (suc n) rest))
    ∙ ap (λ (fs : List Fate). fs ++ fates_from (suc n) rest)
    (ap (λ (m : ℕ). open_fates rest 0 n ++ fate_in rest m ∷ []) (sym here) ∙ sym (open_push rest 0 n))
    ∙ ap (λ (m : ℕ). open_fates rest 0 m ++ fates_from m rest) (sym count) in
    λ i. picked test (items i) (fates i)

-- the first open one is committed
at_commit : (test : Fate → Bool) (at : ℕ) (c : Commit) (rest : List (ℕ × Step)) (p : Placed) (ps : List Placed)
    → picked_from test (p ∷ ps) ((at, Commits c) ∷ rest)
    ≡ cond (test Committed) (placed_at p ∷ picked_from test ps rest) (picked_from test ps rest)
at_commit test at c rest p ps =
    let less : suc (length ps) - 1 ≡ length ps = omega arith in
    let same : picked test (map placed_at ps ++ attempts_among rest)
    (open_fates ((at, Commits c) ∷ rest) 1 (length ps) ++ fates_from (suc (length ps) - 1) rest)
    ≡ picked_from test ps rest =
    λ i. picked test (map placed_at ps ++ attempts_among rest)
    (open_commit at c rest 0 (length ps) i ++ fates_from (less i) rest) in
    ap (λ (xs : List (ℕ × Attempt)). cond (test Committed) (placed_at p ∷ xs) xs) same

pub attempts_by_push : (ls : List HowReached) (p : Placed) → attempts_by (ls ++ ByAttempt p ∷ [])
    ≡ attempts_by ls ++ p ∷ []
attempts_by_push [] p = refl
attempts_by_push (ByAttempt q ∷ ls) p = ap (λ (ps : List Placed). q ∷ ps) (attempts_by_push ls p)
attempts_by_push (ByTransfer at x ∷ ls) p = attempts_by_push ls p
attempts_by_push (Skipped ∷ ls) p = attempts_by_push ls p

attempts_by_over : (skipped at : ℕ) (x : Transfer) (ls : List HowReached) → attempts_by (ls ++ over skipped at x)
    ≡ attempts_by ls
attempts_by_over zero at x [] = refl
attempts_by_over (suc skipped) at x [] = attempts_by_over skipped at x []
attempts_by_over skipped at x (ByAttempt p ∷ ls) =
    ap (λ (ps : List Placed). p ∷ ps) (attempts_by_over skipped at x ls)
attempts_by_over skipped at x (ByTransfer o y ∷ ls) = attempts_by_over skipped at x ls
attempts_by_over skipped at x (Skipped ∷ ls) = attempts_by_over skipped at x ls

pub attempts_by_transferring : (s : SectionState) (at : ℕ) (x : Transfer)
    → attempts_by (after_transfer s at x).ways_reached
    ≡ attempts_by s.ways_reached
attempts_by_transferring s at x = attempts_by_over (x.seq - (s.last + 1)) at x s.ways_reached

committed_after : (s : SectionState) (steps : List (ℕ × Step))
    → map placed_at (attempts_by (state_after s steps).ways_reached)
    ≡ map placed_at (attempts_by s.ways_reached) ++ picked_from is_committed s.pending steps
committed_after s [] = sym
    (ap (λ (xs : List (ℕ × Attempt)). map placed_at (attempts_by s.ways_reached) ++ xs)
    (at_end is_committed s.pending refl)
    ∙ append-nil (map placed_at (attempts_by s.ways_reached)))
committed_after s ((at, Attempts a) ∷ rest) =
    committed_after (next s (at, Attempts a)) rest
    ∙ ap (λ (xs : List (ℕ × Attempt)). map placed_at (attempts_by s.ways_reached) ++ xs)
    (sym (at_attempt is_committed at a rest s.pending (record { offset = at; attempt = a; path = path_of s }) refl))
committed_after s ((at, Commits c) ∷ rest) = committed_after (committing s s.pending) rest ∙ by s.pending refl
  where
    by : (pending : List Placed) → s.pending ≡ pending
        → map placed_at (attempts_by (committing s pending).ways_reached) ++
        picked_from is_committed (committing s pending).pending rest
        ≡ map placed_at (attempts_by s.ways_reached) ++ picked_from is_committed pending ((at, Commits c) ∷ rest)
    by [] is = ap (λ (ps : List Placed). map placed_at (attempts_by s.ways_reached) ++ picked_from is_committed ps rest)
        is
    by (p ∷ ps) is =
        ap (λ (ls : List Placed). map placed_at ls ++ picked_from is_committed ps rest)
        (attempts_by_push s.ways_reached p)
        ∙ ap (λ (xs : List (ℕ × Attempt)). xs ++ picked_from is_committed ps rest)
        (map-append placed_at (attempts_by s.ways_reached) (p ∷ []))
        ∙ append_assoc (map placed_at (attempts_by s.ways_reached)) (placed_at p ∷ [])
        (picked_from is_committed ps rest)
        ∙ ap (λ (xs : List (ℕ × Attempt)). map placed_at (attempts_by s.ways_reached) ++ xs)
        (sym (at_commit is_committed at c rest p ps))
committed_after s ((at, RollsBack r) ∷ rest) =
    committed_after (next s (at, RollsBack r)) rest
    ∙ ap (λ (xs : List (ℕ × Attempt)). map placed_at (attempts_by s.ways_reached) ++ xs)
    (sym (ap (λ (fs : List Fate). picked is_committed (map placed_at s.pending ++ attempts_among rest)
    (fs ++ fates_from 0 rest)) (open_rollback at r rest 0 (length s.pending))
    ∙ picked-same is_committed Discarded s.pending (attempts_among rest) (fates_from 0 rest) refl))
committed_after s ((at, Transfers x) ∷ rest) =
    committed_after (next s (at, Transfers x)) rest
    ∙ ap (λ (ps : List Placed). map placed_at ps ++ picked_from is_committed [] rest) (attempts_by_transferring s at x)
    ∙ ap (λ (xs : List (ℕ × Attempt)). map placed_at (attempts_by s.ways_reached) ++ xs)
    (sym (ap (λ (fs : List Fate). picked is_committed (map placed_at s.pending ++ attempts_among rest)
    (fs ++ fates_from 0 rest)) (open_transfer at x rest 0 (length s.pending))
    ∙ picked-same is_committed Discarded s.pending (attempts_among rest) (fates_from 0 rest) refl))

discarded_after : (s : SectionState) (steps : List (ℕ × Step)) → map placed_at (state_after s steps).discarded
    ≡ map placed_at s.discarded ++ picked_from is_discarded s.pending steps
discarded_after s [] = sym
    (ap (λ (xs : List (ℕ × Attempt)). map placed_at s.discarded ++ xs) (at_end is_discarded s.pending refl)
    ∙ append-nil (map placed_at s.discarded))
discarded_after s ((at, Attempts a) ∷ rest) =
    discarded_after (next s (at, Attempts a)) rest
    ∙ ap (λ (xs : List (ℕ × Attempt)). map placed_at s.discarded ++ xs)
    (sym (at_attempt is_discarded at a rest s.pending (record { offset = at; attempt = a; path = path_of s }) refl))
discarded_after s ((at, Commits c) ∷ rest) = discarded_after (committing s s.pending) rest ∙ by s.pending refl
  where
    by : (pending : List Placed) → s.pending ≡ pending
        → map placed_at (committing s pending).discarded ++ picked_from is_discarded (committing s pending).pending rest
        ≡ map placed_at s.discarded ++ picked_from is_discarded pending ((at, Commits c) ∷ rest)
    by [] is = ap (λ (ps : List Placed). map placed_at s.discarded ++ picked_from is_discarded ps rest) is
    by (p ∷ ps) is = ap (λ (xs : List (ℕ × Attempt)). map placed_at s.discarded ++ xs)
        (sym (at_commit is_discarded at c rest p ps))
discarded_after s ((at, RollsBack r) ∷ rest) =
    discarded_after (next s (at, RollsBack r)) rest
    ∙ ap (λ (xs : List (ℕ × Attempt)). xs ++ picked is_discarded (attempts_among rest) (fates_from 0 rest))
    (map-append placed_at s.discarded s.pending)
    ∙ append_assoc (map placed_at s.discarded) (map placed_at s.pending)
    (picked is_discarded (attempts_among rest) (fates_from 0 rest))
    ∙ ap (λ (xs : List (ℕ × Attempt)). map placed_at s.discarded ++ xs)
    (sym (ap (λ (fs : List Fate). picked is_discarded (map placed_at s.pending ++ attempts_among rest)
    (fs ++ fates_from 0 rest)) (open_rollback at r rest 0 (length s.pending))
    ∙ picked-all is_discarded Discarded s.pending (attempts_among rest) (fates_from 0 rest) refl))
discarded_after s ((at, Transfers x) ∷ rest) =
    discarded_after (next s (at, Transfers x)) rest
    ∙ ap (λ (xs : List (ℕ × Attempt)). xs ++ picked is_discarded (attempts_among rest) (fates_from 0 rest))
    (map-append placed_at s.discarded s.pending)
    ∙ append_assoc (map placed_at s.discarded) (map placed_at s.pending)
    (picked is_discarded (attempts_among rest) (fates_from 0 rest))
    ∙ ap (λ (xs : List (ℕ × Attempt)). map placed_at s.discarded ++ xs)
    (sym (ap (λ (fs : List Fate). picked is_discarded (map placed_at s.pending ++ attempts_among rest)
    (fs ++ fates_from 0 rest)) (open_transfer at x rest 0 (length s.pending))
    ∙ picked-all is_discarded Discarded s.pending (attempts_among rest) (fates_from 0 rest) refl))

pub committed_are_picked : (t : Trace) (e : ℕ) → map placed_at (attempts_by (history t e).ways_reached)
    ≡ picked is_committed (attempts_among (steps_at t e)) (fates_from 0 (steps_at t e))
unfolding history
committed_are_picked t e = committed_after start (steps_at t e)

pub discarded_are_picked : (t : Trace) (e : ℕ) → map placed_at (history t e).discarded
    ≡ picked is_discarded (attempts_among (steps_at t e)) (fates_from 0 (steps_at t e))
unfolding history
discarded_are_picked t e = discarded_after start (steps_at t e)
