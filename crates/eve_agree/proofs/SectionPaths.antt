-- Public: other crates cite these lemmas. What happened to a section's rows, one step further.
use Rattle.std.proofs.Common.{◌≡◌, ℕ, zero, suc, List, [], ◌∷◌, ◌++◌, map, refl, sym, ap, ◌∙◌, append_assoc}
use Rattle.std.specs.Prelude.{replicate}
use Rattle.std.specs.List.{flat_map}
use Rattle.std.proofs.lemmas.Grind.{flat_map-append}
use Rattle.std.proofs.lemmas.List.{map-append}
use Rattle.eve_grammar.specs.Trace.{Transfer}
use Rattle.eve_history.specs.Section.{Came, Ran, Transferred, Placed, HowReached, ByAttempt, ByTransfer, Skipped}
use Rattle.eve_history.specs.Section.{came_by}

-- one number more is reached by an attempt
pub came_by_push : (ls : List HowReached) (p : Placed) → flat_map came_by (ls ++ ByAttempt p ∷ [])
    ≡ flat_map came_by ls ++ Ran p.attempt ∷ []
came_by_push ls p = flat_map-append came_by ls (ByAttempt p ∷ [])

-- so it is where the first open attempt is committed
pub path_committed : (ls : List HowReached) (p : Placed) (ps : List Placed)
    → flat_map came_by ls ++ map (λ q. Ran q.attempt) (p ∷ ps)
    ≡ flat_map came_by (ls ++ ByAttempt p ∷ []) ++ map (λ q. Ran q.attempt) ps
path_committed ls p ps =
    sym (append_assoc (flat_map came_by ls) (Ran p.attempt ∷ []) (map (λ q. Ran q.attempt) ps))
    ∙ ap (λ (path : List Came). path ++ map (λ q. Ran q.attempt) ps) (sym (came_by_push ls p))

-- one attempt more is open
pub path_attempted : (ls : List HowReached) (ps : List Placed) (p : Placed)
    → flat_map came_by ls ++ map (λ q. Ran q.attempt) (ps ++ p ∷ [])
    ≡ (flat_map came_by ls ++ map (λ q. Ran q.attempt) ps) ++ Ran p.attempt ∷ []
path_attempted ls ps p =
    ap (λ (path : List Came). flat_map came_by ls ++ path) (map-append (λ (q : Placed). Ran q.attempt) ps (p ∷ []))
    ∙ sym (append_assoc (flat_map came_by ls) (map (λ q. Ran q.attempt) ps) (Ran p.attempt ∷ []))

-- a state is transferred, and the numbers before its own are skipped
pub path_transferred : (ls : List HowReached) (n at : ℕ) (x : Transfer)
    → flat_map came_by (ls ++ (replicate n Skipped ++ ByTransfer at x ∷ []))
    ≡ flat_map came_by ls ++ Transferred x.rows ∷ []
path_transferred ls n at x =
    flat_map-append came_by ls (replicate n Skipped ++ ByTransfer at x ∷ [])
    ∙ ap (λ (path : List Came). flat_map came_by ls ++ path) (skipped n)
  where
    skipped : (m : ℕ) → flat_map came_by (replicate m Skipped ++ ByTransfer at x ∷ []) ≡ Transferred x.rows ∷ []
    skipped zero = refl
    skipped (suc m) = skipped m
