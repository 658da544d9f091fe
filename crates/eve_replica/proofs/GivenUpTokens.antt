-- What the steps of a section give up, and what they leave open.
use Rattle.std.proofs.Common.{◌≡◌, ◌≢◌, ℕ, ◌+◌, ◌<◌, ◌≤◌, ◌==◌, Bool, if◌then◌else◌, List, [], ◌∷◌, ◌++◌}
use Rattle.std.proofs.Common.{length, map, drop, slice_get, Option, Some, None, option_map, refl, sym, ap, ◌∙◌}
use Rattle.std.proofs.Common.{eq-eqb, arith}
use Rattle.std.proofs.lemmas.Bool.{ne_eqb}
use Rattle.std.proofs.lemmas.List.{append-nil, map-append, drop-map}
use Rattle.std.proofs.lemmas.Option.{slice_get-map}
use Rattle.eve_grammar.specs.Trace.{Attempt, Step, Rollback, Attempts, Commits, RollsBack, Transfers}
use Rattle.eve_attempts.specs.Ledgers.{Ledger, Opened}
use Rattle.eve_replica.specs.Decisions.{token_given_up, open_after}
use Rattle.eve_replica.specs.Sections.{RunPlan, GoesThrough}

-- ---- one step more

-- by which nothing is given up for this view
abbrev pub GivesNone : ℕ → Step → Type 0
GivesNone view x = (opened : List (List ℕ)) → token_given_up view opened (x ∷ []) ≡ None

pub none_more : (view : ℕ) (opened : List (List ℕ)) (steps : List Step) (x : Step) → GivesNone view x
    → token_given_up view opened (steps ++ x ∷ []) ≡ token_given_up view opened steps
none_more view opened [] x none = none opened
none_more view opened (Attempts a ∷ steps) x none = none_more view (opened ++ a.token ∷ []) steps x none
none_more view opened (Commits c ∷ steps) x none = none_more view (drop 1 opened) steps x none
none_more view opened (RollsBack r ∷ steps) x none =
    ap (λ (rest : Option (List ℕ)). if r.view == view then slice_get opened 0 else rest)
    (none_more view [] steps x none)
none_more view opened (Transfers y ∷ steps) x none = none_more view [] steps x none

-- such as a rollback to another view
pub other_view : (view : ℕ) (r : Rollback) → r.view ≢ view → GivesNone view (RollsBack r)
other_view view r other =
    λ opened. ap (λ (b : Bool). if b then slice_get opened 0 else None) (ne_eqb r.view view other)

-- ---- along a section

-- the tokens of a ledger's open attempts
abbrev pub tokens_of : Ledger → List (List ℕ)
tokens_of s = map (λ o. o.token) s.opened

-- views rise
view_rises : (p : RunPlan) (steps : List Step) (a b : Ledger) → GoesThrough p steps a b → a.view ≤ b.view
view_rises p [] a b same = let e = ap (λ (s : Ledger). s.view) same in omega arith
view_rises p (Attempts x ∷ steps) a b goes =
    let here = ap (λ (s : Ledger). s.view) goes.1.closed.opens.changed in
    let rest = view_rises p steps goes.0 b goes.2 in omega arith
view_rises p (Commits x ∷ steps) a b goes =
    let here = ap (λ (s : Ledger). s.view) goes.1.changed in
    let rest = view_rises p steps goes.0 b goes.2 in omega arith
view_rises p (RollsBack x ∷ steps) a b goes =
    let here = ap (λ (s : Ledger). s.view) goes.1.rolled_back.changed in
    let rest = view_rises p steps goes.0 b goes.2 in omega arith
view_rises p (Transfers x ∷ steps) a b goes =
    let here = ap (λ (s : Ledger). s.view) goes.1.transferred.changed in
    let rest = view_rises p steps goes.0 b goes.2 in omega (arith, goes.1.view)

-- For a view to which a section doesn't come, what its next steps give up is of what it leaves open.
pub given_up_along : (p : RunPlan) (view : ℕ) (steps rest : List Step) (a b : Ledger) → GoesThrough p steps a b
    → (a.view < view → b.view < view)
    → token_given_up view (tokens_of a) (steps ++ rest) ≡ token_given_up view (tokens_of b) rest
given_up_along p view [] rest a b same none = ap (λ (s : Ledger). token_given_up view (tokens_of s) rest) same
given_up_along p view (Attempts x ∷ steps) rest a b goes none =
    let opens = goes.1.closed.opens.changed in
    let stays = ap (λ (s : Ledger). s.view) opens in
    let tokens : tokens_of goes.0 ≡ tokens_of a ++ x.token ∷ [] =
    ap tokens_of opens ∙ map-append (λ (o : Opened). o.token) a.opened _ in
    ap (λ (ts : List (List ℕ)). token_given_up view ts (steps ++ rest)) (sym tokens)
    ∙ given_up_along p view steps rest goes.0 b goes.2 (λ up. none (omega arith))
given_up_along p view (Commits x ∷ steps) rest a b goes none =
    let stays = ap (λ (s : Ledger). s.view) goes.1.changed in
    let tokens : tokens_of goes.0 ≡ drop 1 (tokens_of a) =
    ap tokens_of goes.1.changed
    ∙ ap (λ (os : List Opened). drop 1 (map (λ o. o.token) os)) (sym goes.1.opened) in
    ap (λ (ts : List (List ℕ)). token_given_up view ts (steps ++ rest)) (sym tokens)
    ∙ given_up_along p view steps rest goes.0 b goes.2 (λ up. none (omega arith))
given_up_along p view (RollsBack x ∷ steps) rest a b goes none =
    let made = goes.1.rolled_back in
    let to = made.view in
    let here = ap (λ (s : Ledger). s.view) made.changed in
    let rise = view_rises p steps goes.0 b goes.2 in
    ap (λ (c : Bool). if c then slice_get (tokens_of a) 0 else token_given_up view [] (steps ++ rest))
    (ne_eqb x.view view (λ same. let past = none (omega arith) in omega arith))
    ∙ ap (λ (ts : List (List ℕ)). token_given_up view ts (steps ++ rest)) (sym (ap tokens_of made.changed))
    ∙ given_up_along p view steps rest goes.0 b goes.2 (λ up. none (omega arith))
given_up_along p view (Transfers x ∷ steps) rest a b goes none =
    let made = goes.1.transferred in
    let stays = ap (λ (s : Ledger). s.view) made.changed ∙ goes.1.view in
    ap (λ (ts : List (List ℕ)). token_given_up view ts (steps ++ rest)) (sym (ap tokens_of made.changed))
    ∙ given_up_along p view steps rest goes.0 b goes.2 (λ up. none (omega arith))

-- For such a view nothing was given up,
pub none_given_up : (p : RunPlan) (view : ℕ) (steps : List Step) (b : Ledger) → p.first.opened ≡ []
    → GoesThrough p steps p.first b → (p.first.view < view → b.view < view) → token_given_up view [] steps ≡ None
none_given_up p view steps b begun goes none =
    ap (λ (os : List Opened). token_given_up view (map (λ o. o.token) os) steps) (sym begun)
    ∙ ap (token_given_up view (tokens_of p.first)) (sym (append-nil steps))
    ∙ given_up_along p view steps [] p.first b goes none

-- and by a rollback to it is the token of the first open attempt.
pub first_given_up : (p : RunPlan) (steps : List Step) (b : Ledger) (r : Rollback) → p.first.opened ≡ []
    → GoesThrough p steps p.first b → r.view ≡ b.view + 1
    → token_given_up (b.view + 1) [] (steps ++ RollsBack r ∷ []) ≡ option_map (λ o. o.token) (slice_get b.opened 0)
first_given_up p steps b r begun goes to =
    let Opens : List Opened → Option (List ℕ) =
    λ os. token_given_up (b.view + 1) (map (λ o. o.token) os) (steps ++ RollsBack r ∷ []) in
    ap Opens (sym begun)
    ∙ given_up_along p (b.view + 1) steps (RollsBack r ∷ []) p.first b goes (λ up. omega arith)
    ∙ ap (λ (c : Bool). if c then slice_get (tokens_of b) 0 else None) (eq-eqb r.view (b.view + 1) to)
    ∙ slice_get-map (λ (o : Opened). o.token) b.opened 0

-- ---- what is left open

-- view and token
abbrev pub Marked : Type 0
Marked = ℕ × List ℕ

abbrev pub attempt_marked : Attempt → Marked
attempt_marked a = (a.view, a.token)

abbrev pub open_marked : Opened → Marked
open_marked o = (o.view, o.token)

-- The attempts that are open after a section have the views and tokens of those that its ledger has open.
pub open_along : (p : RunPlan) (steps : List Step) (opened : List Attempt) (a b : Ledger) → GoesThrough p steps a b
    → map attempt_marked opened ≡ map open_marked a.opened
    → map attempt_marked (open_after opened steps) ≡ map open_marked b.opened
open_along p [] opened a b same marked = marked ∙ ap (λ (s : Ledger). map open_marked s.opened) same
open_along p (Attempts x ∷ steps) opened a b goes marked =
    open_along p steps (opened ++ x ∷ []) goes.0 b goes.2
    (map-append attempt_marked opened (x ∷ [])
    ∙ ap (λ (ms : List Marked). ms ++ attempt_marked x ∷ []) marked
    ∙ sym (map-append open_marked a.opened _)
    ∙ sym (ap (λ (s : Ledger). map open_marked s.opened) goes.1.closed.opens.changed))
open_along p (Commits x ∷ steps) opened a b goes marked =
    open_along p steps (drop 1 opened) goes.0 b goes.2
    (sym (drop-map attempt_marked 1 opened)
    ∙ ap (drop 1) (marked ∙ ap (map open_marked) goes.1.opened)
    ∙ sym (ap (λ (s : Ledger). map open_marked s.opened) goes.1.changed))
open_along p (RollsBack x ∷ steps) opened a b goes marked =
    open_along p steps [] goes.0 b goes.2
    (sym (ap (λ (s : Ledger). map open_marked s.opened) goes.1.rolled_back.changed))
open_along p (Transfers x ∷ steps) opened a b goes marked =
    open_along p steps [] goes.0 b goes.2
    (sym (ap (λ (s : Ledger). map open_marked s.opened) goes.1.transferred.changed))

-- the first of them
pub first_open : (attempts : List Attempt) (own : Opened) (others : List Opened)
    → map attempt_marked attempts ≡ map open_marked (own ∷ others)
    → (a : Attempt) × (slice_get attempts 0 ≡ Some a) × (a.view ≡ own.view) × (a.token ≡ own.token)
first_open [] own others marked = absurd (let none = ap length marked in omega arith)
first_open (a ∷ attempts) own others marked =
    let same : slice_get (map attempt_marked (a ∷ attempts)) 0 ≡ slice_get (map open_marked (own ∷ others)) 0 =
    ap (λ (ms : List Marked). slice_get ms 0) marked in (
      a,
      refl,
      ap (λ (m : Option Marked). elim m [ None ↦ 0 | Some x ↦ x.0 ]) same,
      ap (λ (m : Option Marked). elim m [ None ↦ [] | Some x ↦ x.1 ]) same,
    )
