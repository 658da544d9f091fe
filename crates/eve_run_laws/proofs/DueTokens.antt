-- Each committed attempt of a run has the token that is due.
use Rattle.std.proofs.Common.{◌≡◌, ℕ, ℤ, zero, suc, ◌+◌, ◌*◌, List, [], ◌∷◌, ◌++◌, take, length, slice_get, Some}
use Rattle.std.proofs.Common.{sym, subst, ap, ◌∙◌, arith}
use Rattle.std.specs.List.{AllByRecursion, flat_map}
use Rattle.eve_smallbank.specs.Access.{balance_of_row}
use Rattle.eve_smallbank.specs.Chain.{Table, values_of}
use Rattle.eve_grammar.specs.Trace.{Step, Attempts, Commits, RollsBack, Transfers, Trace}
use Rattle.eve_grammar.proofs.Lists.{all-append, take_one_more}
use Rattle.eve_token.specs.Token.{token_of}
use Rattle.eve_attempts.specs.Ledgers.{Ledger, ledger_rows, table_now}
use Rattle.eve_replica.specs.Sections.{RunPlan, MakesOf}
use Rattle.eve_history.specs.Section.{Came, Ran, Placed, ByAttempt, came_by, attempts_by, SectionState, start, path_of}
use Rattle.eve_history.specs.Section.{committing, next}
use Rattle.eve_history.specs.SectionHistory.{history, committed_at, IsRightSection}
use Rattle.eve_history.proofs.FateLaws.{attempts_by_push, attempts_by_transferring}
use Rattle.eve_chains.specs.Visible.{rows_after}
use Rattle.eve_chains.specs.Committed.{path_to, first_rows}
use Rattle.eve_chains.proofs.LinkedPaths.{how_reached_by, linked_number, committed_number, none≢some}
use Rattle.eve_agree.specs.DueTokens.{TokensAreDue}
use Rattle.eve_agree.proofs.ByNumber.{all_each}
use Rattle.eve_agree.proofs.SectionPaths.{came_by_push, path_attempted}
use Rattle.eve_agree.proofs.TokensInOrder.{rows_are}
use Rattle.eve_run_laws.proofs.LedgersAlike.{AreAlike}

-- the balances of all customers after what came
abbrev pub balances_along : Trace → List Came → List ℤ
balances_along t path = first_rows (2 * length t.customers) (values_of (rows_after t path))

-- the attempt's token is that of the balances that it left behind its path, and of its replies
pub record IsDueAlong (t : Trace) (q : Placed) : Type 0 where
  pub token : q.attempt.token
      ≡ token_of t.head.version q.attempt.seq (balances_along t (q.path ++ Ran q.attempt ∷ [])) q.attempt.replies

-- so of each committed and each open attempt
pub record AreDueSoFar (t : Trace) (s : SectionState) : Type 0 where
  pub committed : AllByRecursion (IsDueAlong t) (attempts_by s.ways_reached)
  pub pending : AllByRecursion (IsDueAlong t) s.pending

-- ---- along a section

-- the rows of a ledger that has come to where the section has are the balances along its path
pub balances_now : (t : Trace) (l : Ledger) (path : List Came) → ledger_rows l ≡ 2 * length t.customers
    → table_now l ≡ rows_after t path → l.rows.balances ≡ balances_along t path
balances_now t l path many now =
    rows_are l.rows.balances
    ∙ ap (λ n. first_rows n (balance_of_row l.rows.balances)) many
    ∙ ap (λ (table : Table). first_rows (2 * length t.customers) (values_of table)) now

due_committing : (t : Trace) (s : SectionState) (pending : List Placed) → AllByRecursion (IsDueAlong t) pending
    → AreDueSoFar t s → AreDueSoFar t (committing s pending)
due_committing t s [] all due = due
due_committing t s (p ∷ ps) all due = record {
  committed = subst (AllByRecursion (IsDueAlong t)) (sym (attempts_by_push s.ways_reached p))
      (all-append (IsDueAlong t) (attempts_by s.ways_reached) (p ∷ []) due.committed (all.0, tt));
  pending = all.1;
}

module _ (p : RunPlan) (t : Trace) where
  pub due_next : (s : SectionState) (old new : Ledger) (at : ℕ) (x : Step) → AreAlike t s old
      → AreAlike t (next s (at, x)) new → MakesOf p x old new → AreDueSoFar t s → AreDueSoFar t (next s (at, x))
  due_next s old new at (Attempts a) before after makes due =
      let q : Placed = record { offset = at; attempt = a; path = path_of s } in
      let left : new.rows.balances ≡ balances_along t (path_of s ++ Ran a ∷ []) =
      balances_now t new (path_of s ++ Ran a ∷ []) after.rows
      (after.now ∙ ap (rows_after t) (path_attempted s.ways_reached s.pending q)) in
      record {
        committed = due.committed;
        pending = all-append (IsDueAlong t) s.pending (q ∷ []) due.pending (
          record {
            token = makes.closed.attempt.token
                ∙ ap (λ (version : ℕ). token_of version a.seq new.rows.balances a.replies) before.version
                ∙ ap (λ (balances : List ℤ). token_of t.head.version a.seq balances a.replies) left;
          },
          tt,
        );
      }
  due_next s old new at (Commits c) before after makes due = due_committing t s s.pending due.pending due
  due_next s old new at (RollsBack r) before after makes due = record { committed = due.committed; pending = tt }
  due_next s old new at (Transfers x) before after makes due = record {
    committed = subst (AllByRecursion (IsDueAlong t)) (sym (attempts_by_transferring s at x)) due.committed;
    pending = tt;
  }

pub due_first : (t : Trace) → AreDueSoFar t start
due_first t = record { committed = tt; pending = tt }

-- ---- at its end

-- what came up to the number of an attempt is its path and itself
path_to_its_own : (t : Trace) (e n : ℕ) (p : Placed) → IsRightSection t e → committed_at t e (suc n) ≡ Some p
    → p.path ++ Ran p.attempt ∷ [] ≡ path_to t e p.attempt.seq
path_to_its_own t e n p right at =
    let ls = (history t e).ways_reached in
    let next : n + 1 ≡ p.attempt.seq = let number = committed_number t e (suc n) p right at in omega arith in
    ap (λ (path : List Came). path ++ Ran p.attempt ∷ []) (linked_number t e n p right at).path
    ∙ sym (came_by_push (take n ls) p)
    ∙ ap (flat_map came_by) (sym (take_one_more ls n (ByAttempt p) (how_reached_by (slice_get ls n) p at)))
    ∙ ap (path_to t e) next

pub tokens_due : (t : Trace) (e : ℕ) → IsRightSection t e → AreDueSoFar t (history t e) → TokensAreDue t e
tokens_due t e right due zero p at = none≢some p at
tokens_due t e right due (suc n) p at =
    (all_each t e (IsDueAlong t) due.committed (suc n) p at).token
    ∙ ap (λ (path : List Came). token_of t.head.version p.attempt.seq (balances_along t path) p.attempt.replies)
    (path_to_its_own t e n p right at)
