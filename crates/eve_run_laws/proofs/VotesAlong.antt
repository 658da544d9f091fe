-- The votes on which a replica of a run took its steps: they rise, and they are those for its commits and rollbacks.
use Rattle.std.proofs.Common.{◌≡◌, ◌+◌, ◌-◌, List, [], ◌∷◌, ◌++◌, All, sym, ap, ◌∙◌, subst, arith}
use Rattle.std.specs.Prelude.{⊤}
use Rattle.std.specs.List.{AllByRecursion}
use Rattle.std.proofs.lemmas.List.Elements.{All-nil, All-cons, All-head, All-append}
use Rattle.eve_grammar.specs.Trace.{Step, Attempts, Commits, RollsBack, Transfers, Attempt, Commit, Vote}
use Rattle.eve_attempts.specs.Ledgers.{Opened, Ledger}
use Rattle.eve_attempts.specs.ClosedAttempts.{opened_as}
use Rattle.eve_attempts.specs.CommitsAndRollbacks as ledgers
use Rattle.eve_replica.specs.Sections.{RunPlan, AttemptsNext, GoesThrough, AreVotesOf, commit_vote, rollback_vote}
use Rattle.eve_replica.specs.inner.RunInvariant.{AreOfItsView}
use Rattle.eve_replica.proofs.Steps.{committed_in_view}
use Rattle.eve_run_laws.proofs.VotesApart.{Rise, rise_from_earlier}

-- ---- they rise

-- all open attempts stay of the ledger's view
attempted_in_view : (p : RunPlan) (old new : Ledger) (a : Attempt) → AttemptsNext p old new a → AreOfItsView old
    → AreOfItsView new
attempted_in_view p old new a made of_view =
    let closed = made.closed in
    let one = opened_as a closed.ordered in
    let InView : Opened → Type 0 = λ o. o.view ≡ old.view in
    subst AreOfItsView (sym closed.opens.changed)
    (All-append InView old.opened (one ∷ []) of_view (All-cons InView one [] closed.attempt.view (All-nil InView)))

-- so are the first open attempt and the others
opened_in_view : (old new : Ledger) (c : Commit) (made : ledgers.Commits old new c) → AreOfItsView old
    → All (λ o. o.view ≡ old.view) (made.first ∷ made.others)
opened_in_view old new c made of_view =
    subst (λ (os : List Opened). All (λ o. o.view ≡ old.view) os) made.opened of_view

-- the votes rise from where the ledger stands, if its open attempts are all of its view
pub votes_rise : (p : RunPlan) (steps : List Step) (votes : List Vote) (a b : Ledger) → AreOfItsView a
    → GoesThrough p steps a b → AreVotesOf steps votes → Rise (a.committed + 1) a.view votes
votes_rise p [] votes a b of_view goes led = subst (Rise (a.committed + 1) a.view) (sym led) tt
votes_rise p (Attempts x ∷ steps) votes a b of_view goes led =
    subst (λ (s : Ledger). Rise (s.committed + 1) s.view votes) goes.1.closed.opens.changed
    (votes_rise p steps votes goes.0 b (attempted_in_view p a goes.0 x goes.1 of_view) goes.2 led)
votes_rise p (Commits c ∷ steps) votes a b of_view goes led =
    let made = goes.1 in
    let seq : c.seq ≡ a.committed + 1 = ap (λ (d : Commit). d.seq) made.commit in
    let view : c.view ≡ a.view =
    ap (λ (d : Commit). d.view) made.commit
    ∙ All-head (λ o. o.view ≡ a.view) made.first made.others (opened_in_view a goes.0 c made of_view) in
    let number = ap (λ (s : Ledger). s.committed) made.changed in
    let same = ap (λ (s : Ledger). s.view) made.changed in
    subst (Rise (a.committed + 1) a.view) (sym led.1) (
      (omega (arith, seq), omega (arith, view)),
      rise_from_earlier (c.seq + 1) (goes.0.committed + 1) c.view goes.0.view led.0
          (omega (arith, seq, number)) (omega (arith, view, same))
          (votes_rise p steps led.0 goes.0 b (committed_in_view a goes.0 c made of_view) goes.2 led.2),
    )
votes_rise p (RollsBack r ∷ steps) votes a b of_view goes led =
    let made = goes.1.rolled_back in
    let number = ap (λ (s : Ledger). s.committed) made.changed in
    let same = ap (λ (s : Ledger). s.view) made.changed in
    subst (Rise (a.committed + 1) a.view) (sym led.1) (
      (omega (arith, made.to), omega (arith, made.view)),
      rise_from_earlier (r.to + 1) (goes.0.committed + 1) (r.view - 1 + 1) goes.0.view led.0
          (omega (arith, made.to, number)) (omega (arith, made.view, same))
          (votes_rise p steps led.0 goes.0 b
          (subst AreOfItsView (sym made.changed) (All-nil (λ (o : Opened). o.view ≡ a.view + 1))) goes.2 led.2),
    )
votes_rise p (Transfers x ∷ steps) votes a b of_view goes led =
    let made = goes.1 in
    let changed = made.transferred.changed in
    let number = ap (λ (s : Ledger). s.committed) changed in
    let same = ap (λ (s : Ledger). s.view) changed in
    subst (Rise (a.committed + 1) a.view) (sym led.2) (
      (omega (arith, made.next), omega (arith, made.view)),
      rise_from_earlier (x.seq + 1) (goes.0.committed + 1) x.view goes.0.view led.1 (omega (arith, number))
          (omega (arith, same))
          (votes_rise p steps led.1 goes.0 b
          (subst AreOfItsView (sym changed) (All-nil (λ (o : Opened). o.view ≡ x.view))) goes.2 led.3),
    )

-- ---- they are among those that verifiers gave

-- of the vote on which a replica commits or rolls back
abbrev pub OfItsVote : (Vote → Type 0) → Step → Type 0
OfItsVote Q (Attempts a) = ⊤
OfItsVote Q (Commits c) = Q (commit_vote c.seq c.view c.token)
OfItsVote Q (RollsBack r) = Q (rollback_vote (r.to + 1) (r.view - 1))
OfItsVote Q (Transfers x) = ⊤

-- what holds of each vote that a verifier gave holds of those
pub each_on : (Q : Vote → Type 0) (steps : List Step) (own later : List Vote) → AreVotesOf steps own
    → AllByRecursion Q (own ++ later) → AllByRecursion (OfItsVote Q) steps
each_on Q [] own later led all = tt
each_on Q (Attempts a ∷ steps) own later led all = (tt, each_on Q steps own later led all)
each_on Q (Commits c ∷ steps) own later led all =
    let mine = subst (λ (vs : List Vote). AllByRecursion Q (vs ++ later)) led.1 all in
    (mine.0, each_on Q steps led.0 later led.2 mine.1)
each_on Q (RollsBack r ∷ steps) own later led all =
    let mine = subst (λ (vs : List Vote). AllByRecursion Q (vs ++ later)) led.1 all in
    (mine.0, each_on Q steps led.0 later led.2 mine.1)
each_on Q (Transfers x ∷ steps) own later led all =
    let mine = subst (λ (vs : List Vote). AllByRecursion Q (vs ++ later)) led.2 all in
    (tt, each_on Q steps led.1 later led.3 mine.1)
