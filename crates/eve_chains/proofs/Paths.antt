-- What the rows have after an attempt's path is what those leave that count of the attempts before it.
use Rattle.std.proofs.Common.{◌≡◌, ℕ, zero, suc, ◌+◌, ◌≤◌, ◌<◌, ◌==◌, Bool, true, false, cond, ◌||◌, List, [], ◌∷◌}
use Rattle.std.proofs.Common.{◌++◌, map, fold, flat_map, length, filter, refl, sym, subst, ap, ◌∙◌, append_assoc}
use Rattle.std.proofs.Common.{append-nil, arith}
use Rattle.std.proofs.Common.{IsTrue, add-zero, suc-add, add-suc, ◌-◌, get_or, length-append}
use Rattle.std.specs.List.{AllByRecursion}
use Rattle.std.specs.Prelude.{nat_le, nat_lt, ◌&&◌}
use Rattle.std.specs.Bool.{beq}
use Rattle.std.proofs.lemmas.Bool.{and_parts, eqb-true, eq-eqb, ne_eqb, leb-true, false≢true}
use Rattle.std.proofs.lemmas.List.{map-append}
use Rattle.std.proofs.lemmas.List.Elements.{filter-append}
use Rattle.eve_grammar.specs.Trace.{Attempt, Commit, Rollback, Transfer, Step, Attempts, Commits, RollsBack, Transfers}
use Rattle.eve_grammar.specs.Trace.{Trace}
use Rattle.eve_grammar.specs.Spelling.{steps_at}
use Rattle.eve_grammar.proofs.Lists.{all-weaker, all-append}
use Rattle.eve_history.specs.declared.fate.Fate.TheVariants.{Committed}
use Rattle.eve_history.specs.Section.{Came, Ran, Transferred, HowReached, ByAttempt, ByTransfer, Skipped, came_by}
use Rattle.eve_history.specs.Section.{attempts_by}
use Rattle.eve_history.specs.Section.{Placed, SectionState, start, path_of, committing, next, state_after, is_right}
use Rattle.eve_history.specs.Section.{are_right, is_due, is_right_attempt, is_right_certificate, are_right_accesses}
use Rattle.eve_history.specs.Section.{request_count, commits_first, is_right_rollback, after_transfer}
use Rattle.eve_history.specs.Section.{is_right_transfer}
use Rattle.eve_history.specs.Fates.{fate_in}
use Rattle.eve_history.specs.SectionHistory.{is_committed, is_discarded, history, IsRightSection}
use Rattle.eve_history.proofs.FateLaws.{attempts_by_push}
use Rattle.eve_smallbank.specs.declared.versioned.Versioned.{Versioned}
use Rattle.eve_smallbank.specs.Chain.{Table, table_after_all}
use Rattle.std.proofs.lemmas.List.Sums.{fold-append}
use Rattle.std.proofs.lemmas.Grind.{flat_map-append}
use Rattle.eve_chains.specs.Visible.{opening_table, execution, with_came, rows_after, transferred_table}
use Rattle.eve_chains.specs.Rows.{states_by, bases_of, Fated, to_come, settles, told_of}
use Rattle.eve_chains.proofs.LeftByRecords.{rows_after-push}
use Rattle.eve_chains.proofs.LinkedPaths.{transferring, attempts_transferring, came_transferring}

abbrev pub all_placed : List Fated → List Placed
all_placed xs = map (λ x. x.placed) xs

abbrev pub ran : List Placed → List Came
ran ps = map (λ p. Ran p.attempt) ps

abbrev pub will_commit : Fated → Bool
will_commit x = is_committed x.fate

abbrev pub will_fall : Fated → Bool
will_fall x = is_discarded x.fate

abbrev pub view_of : Fated → ℕ
view_of x = x.placed.attempt.view

abbrev pub number_of : Fated → ℕ
number_of x = x.placed.attempt.seq

-- Its writes count for what comes in this view, after as many states that were transferred: it will be committed, or no
-- rollback came since.
abbrev pub counts_in : ℕ → ℕ → Fated → Bool
counts_in transferred view x = (x.transferred == transferred)
    && (is_committed x.fate || (x.placed.attempt.view == view))

abbrev pub counting : ℕ → ℕ → List Fated → List Fated
counting transferred view xs = filter (counts_in transferred view) xs

-- it counts in every later view
abbrev stays_in : ℕ → Fated → Bool
stays_in transferred x = (x.transferred == transferred) && is_committed x.fate

-- after no more states, and in no later view
abbrev pub IsNoLater : ℕ → ℕ → Fated → Type 0
IsNoLater transferred view x = (x.transferred ≤ transferred) × (view_of x ≤ view)

-- After each attempt's path the rows have what those before it that count leave of what the rows had after as many
-- states; and none of those before it is later.
abbrev pub AreCounting : Trace → (ℕ → Table) → List Fated → List Fated → Type 0
AreCounting t bases before [] = Unit {0}
AreCounting t bases before (x ∷ xs) =
    (rows_after t x.placed.path
    ≡ fold (with_came t) (bases x.transferred) (ran (all_placed (counting x.transferred (view_of x) before))))
    × AllByRecursion (IsNoLater x.transferred (view_of x)) before
    × (settles x ≡ true → AllByRecursion (λ y. settles y ≡ true) (counting x.transferred (view_of x) before))
    × AreCounting t bases (before ++ x ∷ []) xs

-- ---- behind the last state that was transferred

abbrev since_next : List Placed → HowReached → List Placed
since_next ps (ByAttempt p) = ps ++ p ∷ []
since_next ps (ByTransfer at x) = []
since_next ps Skipped = ps

-- the attempts by which numbers were reached behind it
abbrev since : List HowReached → List Placed
since ls = fold since_next [] ls

-- an attempt has no state transferred
pub transferred_more : (ls : List HowReached) (p : Placed) → states_by (ls ++ ByAttempt p ∷ []) ≡ states_by ls
transferred_more [] p = refl
transferred_more (ByAttempt q ∷ ls) p = transferred_more ls p
transferred_more (ByTransfer at x ∷ ls) p = ap (λ (xs : List (List Versioned)). x.rows ∷ xs) (transferred_more ls p)
transferred_more (Skipped ∷ ls) p = transferred_more ls p

-- ---- a state is transferred

states_more : (ls ms : List HowReached) → states_by (ls ++ ms) ≡ states_by ls ++ states_by ms
states_more [] ms = refl
states_more (ByAttempt p ∷ ls) ms = states_more ls ms
states_more (ByTransfer at x ∷ ls) ms = ap (λ (xs : List (List Versioned)). x.rows ∷ xs) (states_more ls ms)
states_more (Skipped ∷ ls) ms = states_more ls ms

states_transferring : (skipped at : ℕ) (x : Transfer) → states_by (transferring skipped at x) ≡ x.rows ∷ []
states_transferring zero at x = refl
states_transferring (suc n) at x = states_transferring n at x

pub state_more : (s : SectionState) (at : ℕ) (x : Transfer)
    → states_by (after_transfer s at x).ways_reached ≡ states_by s.ways_reached ++ x.rows ∷ []
state_more s at x = states_more s.ways_reached (transferring (x.seq - (s.last + 1)) at x)
    ∙ ap (λ (xs : List (List Versioned)). states_by s.ways_reached ++ xs)
    (states_transferring (x.seq - (s.last + 1)) at x)

pub one_more_state : (s : SectionState) (at : ℕ) (x : Transfer)
    → length (states_by (after_transfer s at x).ways_reached) ≡ suc (length (states_by s.ways_reached))
one_more_state s at x = ap (λ (xs : List (List Versioned)). length xs) (state_more s at x)
    ∙ length-append (states_by s.ways_reached) (x.rows ∷ []) ∙ omega arith

since_transferring : (ps : List Placed) (skipped at : ℕ) (x : Transfer) → fold since_next ps (transferring skipped at x)
    ≡ []
since_transferring ps zero at x = refl
since_transferring ps (suc n) at x = since_transferring ps n at x

none_since : (ls : List HowReached) (skipped at : ℕ) (x : Transfer) → since (ls ++ transferring skipped at x) ≡ []
none_since ls skipped at x =
    fold-append since_next [] ls (transferring skipped at x) ∙ since_transferring (since ls) skipped at x

-- the states that these steps transfer
abbrev states_among : List (ℕ × Step) → List (List Versioned)
states_among [] = []
states_among ((at, Attempts a) ∷ steps) = states_among steps
states_among ((at, Commits c) ∷ steps) = states_among steps
states_among ((at, RollsBack r) ∷ steps) = states_among steps
states_among ((at, Transfers x) ∷ steps) = x.rows ∷ states_among steps

states_committing : (s : SectionState) (ps : List Placed) → states_by (committing s ps).ways_reached
    ≡ states_by s.ways_reached
states_committing s [] = refl
states_committing s (p ∷ ps) = transferred_more s.ways_reached p

states_after : (s : SectionState) (steps : List (ℕ × Step))
    → states_by (state_after s steps).ways_reached ≡ states_by s.ways_reached ++ states_among steps
states_after s [] = sym (append-nil (states_by s.ways_reached))
states_after s ((at, Attempts a) ∷ steps) = states_after (next s (at, Attempts a)) steps
states_after s ((at, Commits c) ∷ steps) =
    states_after (next s (at, Commits c)) steps
    ∙ ap (λ (xs : List (List Versioned)). xs ++ states_among steps) (states_committing s s.pending)
states_after s ((at, RollsBack r) ∷ steps) = states_after (next s (at, RollsBack r)) steps
states_after s ((at, Transfers x) ∷ steps) =
    states_after (next s (at, Transfers x)) steps
    ∙ ap (λ (xs : List (List Versioned)). xs ++ states_among steps) (state_more s at x)
    ∙ append_assoc (states_by s.ways_reached) (x.rows ∷ []) (states_among steps)

item_behind : {A : Type 0} (xs : List A) (x : A) (ys : List A) (d : A) → get_or (xs ++ x ∷ ys) (length xs) d ≡ x
item_behind [] x ys d = refl
item_behind (y ∷ xs) x ys d = item_behind xs x ys d

-- ---- the open attempts and what becomes of them

abbrev opened : ℕ → ℕ → List (ℕ × Step) → List Placed → List Fated
opened transferred n rest [] = []
opened transferred n rest (p ∷ ps) =
    record { placed = p; transferred = transferred; fate = fate_in rest n } ∷ opened transferred (suc n) rest ps

opened_attempt : (transferred n at : ℕ) (a : Attempt) (rest : List (ℕ × Step)) (ps : List Placed)
    → opened transferred n ((at, Attempts a) ∷ rest) ps ≡ opened transferred n rest ps
opened_attempt transferred n at a rest [] = refl
opened_attempt transferred n at a rest (p ∷ ps) =
    ap (λ xs. record { placed = p; transferred = transferred; fate = fate_in rest n } ∷ xs)
    (opened_attempt transferred (suc n) at a rest ps)

opened_commit : (transferred n at : ℕ) (c : Commit) (rest : List (ℕ × Step)) (ps : List Placed)
    → opened transferred (suc n) ((at, Commits c) ∷ rest) ps ≡ opened transferred n rest ps
opened_commit transferred n at c rest [] = refl
opened_commit transferred n at c rest (p ∷ ps) =
    ap (λ xs. record { placed = p; transferred = transferred; fate = fate_in rest n } ∷ xs)
    (opened_commit transferred (suc n) at c rest ps)

opened_push : (transferred n : ℕ) (rest : List (ℕ × Step)) (ps : List Placed) (q : Placed)
    → opened transferred n rest (ps ++ q ∷ [])
    ≡ opened transferred n rest ps
    ++ record { placed = q; transferred = transferred; fate = fate_in rest (n + length ps) } ∷ []
opened_push transferred n rest [] q =
    ap (λ (m : ℕ). record { placed = q; transferred = transferred; fate = fate_in rest m } ∷ []) (sym (add-zero n))
opened_push transferred n rest (p ∷ ps) q =
    ap (λ xs. record { placed = p; transferred = transferred; fate = fate_in rest n } ∷ xs)
    (opened_push transferred (suc n) rest ps q
    ∙ ap (λ (m : ℕ). opened transferred (suc n) rest ps
    ++ record { placed = q; transferred = transferred; fate = fate_in rest m } ∷ [])
    (suc-add n (length ps) ∙ sym (add-suc n (length ps))))

none_commits : (transferred n at : ℕ) (r : Rollback) (rest : List (ℕ × Step)) (ps : List Placed)
    → filter will_commit (opened transferred n ((at, RollsBack r) ∷ rest) ps) ≡ []
none_commits transferred n at r rest [] = refl
none_commits transferred n at r rest (p ∷ ps) = none_commits transferred (suc n) at r rest ps

all_fall : (transferred n at : ℕ) (r : Rollback) (rest : List (ℕ × Step)) (ps : List Placed)
    → all_placed (filter will_fall (opened transferred n ((at, RollsBack r) ∷ rest) ps)) ≡ ps
all_fall transferred n at r rest [] = refl
all_fall transferred n at r rest (p ∷ ps) = ap (λ qs. p ∷ qs) (all_fall transferred (suc n) at r rest ps)

none_commits_behind : (transferred n at : ℕ) (x : Transfer) (rest : List (ℕ × Step)) (ps : List Placed)
    → filter will_commit (opened transferred n ((at, Transfers x) ∷ rest) ps) ≡ []
none_commits_behind transferred n at x rest [] = refl
none_commits_behind transferred n at x rest (p ∷ ps) = none_commits_behind transferred (suc n) at x rest ps

all_fall_behind : (transferred n at : ℕ) (x : Transfer) (rest : List (ℕ × Step)) (ps : List Placed)
    → all_placed (filter will_fall (opened transferred n ((at, Transfers x) ∷ rest) ps)) ≡ ps
all_fall_behind transferred n at x rest [] = refl
all_fall_behind transferred n at x rest (p ∷ ps) = ap (λ qs. p ∷ qs) (all_fall_behind transferred (suc n) at x rest ps)

none_commits_at_end : (transferred n : ℕ) (ps : List Placed) → filter will_commit (opened transferred n [] ps) ≡ []
none_commits_at_end transferred n [] = refl
none_commits_at_end transferred n (p ∷ ps) = none_commits_at_end transferred (suc n) ps

none_falls_at_end : (transferred n : ℕ) (ps : List Placed) → all_placed (filter will_fall (opened transferred n [] ps))
    ≡ []
none_falls_at_end transferred n [] = refl
none_falls_at_end transferred n (p ∷ ps) = none_falls_at_end transferred (suc n) ps

-- ---- attempts that have come

-- a committed attempt
abbrev sure : ℕ → Placed → Fated
sure transferred p = record { placed = p; transferred = transferred; fate = Committed }

-- These attempts came, and these steps are still to come: of those behind the last state that was transferred, of all
-- that are committed, of the open and of the discarded ones.
record HasCome (transferred view : ℕ) (behind done pending discarded : List Placed) (rest : List (ℕ × Step))
    (xs : List Fated) : Type 0 where
  counts : counting transferred view xs ≡ map (sure transferred) behind ++ opened transferred 0 rest pending
  stays : filter (stays_in transferred) xs ≡ map (sure transferred) behind
      ++ filter will_commit (opened transferred 0 rest pending)
  commit : all_placed (filter will_commit xs) ≡ done
      ++ all_placed (filter will_commit (opened transferred 0 rest pending))
  fall : all_placed (filter will_fall xs) ≡ discarded
      ++ all_placed (filter will_fall (opened transferred 0 rest pending))
  within : AllByRecursion (IsNoLater transferred view) xs

-- the section has come to this state by them
abbrev AreCome : SectionState → List (ℕ × Step) → List Fated → Type 0
AreCome s rest xs = HasCome (length (states_by s.ways_reached)) s.view (since s.ways_reached)
    (attempts_by s.ways_reached) s.pending
    s.discarded rest xs

-- those of the list, and of one more
placed_push : (test : Fated → Bool) (xs : List Fated) (x : Fated) → all_placed (filter test (xs ++ x ∷ []))
    ≡ all_placed (filter test xs) ++ all_placed (filter test (x ∷ []))
placed_push test xs x = ap all_placed (filter-append test xs (x ∷ []))
    ∙ map-append (λ (y : Fated). y.placed) (filter test xs) (filter test (x ∷ []))

-- one that counts in its view
counts_own : (x : Fated) (transferred view : ℕ) → x.transferred ≡ transferred → view_of x ≡ view
    → counts_in transferred view x ≡ true
counts_own x transferred view as_many e =
    ap (λ (b : Bool). b && (is_committed x.fate || (view_of x == view))) (eq-eqb x.transferred transferred as_many)
    ∙ by (is_committed x.fate)
  where
    by : (b : Bool) → (b || (view_of x == view)) ≡ true
    by true = refl
    by false = eq-eqb (view_of x) view e

kept_alone : (test : Fated → Bool) (x : Fated) → test x ≡ true → filter test (x ∷ []) ≡ x ∷ []
kept_alone test x e = ap (λ (b : Bool). cond b (x ∷ []) []) e

stays_alone : (x : Fated) (transferred : ℕ) → x.transferred ≡ transferred → filter (stays_in transferred) (x ∷ [])
    ≡ filter will_commit (x ∷ [])
stays_alone x transferred as_many =
    ap (λ (b : Bool). cond (b && will_commit x) (x ∷ []) []) (eq-eqb x.transferred transferred as_many)

or-false : (b : Bool) → (b || false) ≡ b
or-false true = refl
or-false false = refl

-- in a later view only what commits counts
counting_later : (transferred up view : ℕ) (xs : List Fated) → up < view → AllByRecursion (IsNoLater transferred up) xs
    → counting transferred view xs ≡ filter (stays_in transferred) xs
counting_later transferred up view [] less all = refl
counting_later transferred up view (x ∷ xs) less all =
    (λ i. cond (same i) (x ∷ counting_later transferred up view xs less all.1 i)
    (counting_later transferred up view xs less all.1 i))
  where
    other : view_of x ≡ view → ⊥
    other e = omega (arith, all.0.1)

    same : counts_in transferred view x ≡ stays_in transferred x
    same = ap (λ (b : Bool). (x.transferred == transferred) && (will_commit x || b)) (ne_eqb (view_of x) view other)
        ∙ ap (λ (b : Bool). (x.transferred == transferred) && b) (or-false (will_commit x))

-- ---- an attempt comes

module _ (transferred view : ℕ) (behind done pending discarded : List Placed) (at : ℕ) (a : Attempt)
    (rest : List (ℕ × Step))
    (new : Fated) where
  opened_one : new.transferred ≡ transferred → new.fate ≡ fate_in rest (length pending)
      → opened transferred 0 rest (pending ++ new.placed ∷ [])
      ≡ opened transferred 0 ((at, Attempts a) ∷ rest) pending ++ new ∷ []
  opened_one as_many its =
      opened_push transferred 0 rest pending new.placed
      ∙ (λ i. sym (opened_attempt transferred 0 at a rest pending) i ++ record {
        placed = new.placed;
        transferred = sym as_many i;
        fate = (ap (fate_in rest) none ∙ sym its) i;
      } ∷ [])
    where
      none : 0 + length pending ≡ length pending
      none = omega arith

  come_attempt : new.transferred ≡ transferred → view_of new ≡ view → new.fate ≡ fate_in rest (length pending)
      → (xs : List Fated)
      → HasCome transferred view behind done pending discarded ((at, Attempts a) ∷ rest) xs
      → HasCome transferred view behind done (pending ++ new.placed ∷ []) discarded rest (xs ++ new ∷ [])
  come_attempt as_many same its xs known = record {
    counts = filter-append (counts_in transferred view) xs (new ∷ [])
        ∙ (λ i. known.counts i ++ kept_alone (counts_in transferred view) new
        (counts_own new transferred view as_many same) i)
        ∙ append_assoc (map (sure transferred) behind) (opened transferred 0 ((at, Attempts a) ∷ rest) pending)
        (new ∷ [])
        ∙ ap (λ (ys : List Fated). map (sure transferred) behind ++ ys) (sym (opened_one as_many its));
    stays = filter-append (stays_in transferred) xs (new ∷ [])
        ∙ (λ i. known.stays i ++ stays_alone new transferred as_many i)
        ∙ append_assoc (map (sure transferred) behind)
        (filter will_commit (opened transferred 0 ((at, Attempts a) ∷ rest) pending)) (filter will_commit (new ∷ []))
        ∙ ap (λ (ys : List Fated). map (sure transferred) behind ++ ys)
        (sym (filter-append will_commit (opened transferred 0 ((at, Attempts a) ∷ rest) pending) (new ∷ []))
        ∙ ap (filter will_commit) (sym (opened_one as_many its)));
    commit = more will_commit done known.commit;
    fall = more will_fall discarded known.fall;
    within = all-append (IsNoLater transferred view) xs (new ∷ []) known.within ((equal as_many, equal same), tt);
  }
    where
      equal : {m n : ℕ} → m ≡ n → m ≤ n
      equal e = omega arith

      more : (test : Fated → Bool) (before : List Placed)
          → all_placed (filter test xs)
          ≡ before ++ all_placed (filter test (opened transferred 0 ((at, Attempts a) ∷ rest) pending))
          → all_placed (filter test (xs ++ new ∷ []))
          ≡ before ++ all_placed (filter test (opened transferred 0 rest (pending ++ new.placed ∷ [])))
      more test before is =
          placed_push test xs new ∙ ap (λ (qs : List Placed). qs ++ all_placed (filter test (new ∷ []))) is
          ∙ append_assoc before (all_placed (filter test (opened transferred 0 ((at, Attempts a) ∷ rest) pending)))
          (all_placed (filter test (new ∷ [])))
          ∙ ap (λ (qs : List Placed). before ++ qs)
          (sym (placed_push test (opened transferred 0 ((at, Attempts a) ∷ rest) pending) new)
          ∙ ap (λ (ys : List Fated). all_placed (filter test ys)) (sym (opened_one as_many its)))

-- ---- a commit

come_commit : (transferred view : ℕ) (behind done discarded : List Placed) (p : Placed) (ps : List Placed) (at : ℕ)
    (c : Commit) (rest : List (ℕ × Step)) (xs : List Fated)
    → HasCome transferred view behind done (p ∷ ps) discarded ((at, Commits c) ∷ rest) xs
    → HasCome transferred view (behind ++ p ∷ []) (done ++ p ∷ []) ps discarded rest xs
come_commit transferred view behind done discarded p ps at c rest xs known = record {
  counts = known.counts
      ∙ ap (λ (ys : List Fated). map (sure transferred) behind ++ sure transferred p ∷ ys)
      (opened_commit transferred 0 at c rest ps)
      ∙ one_sure (opened transferred 0 rest ps);
  stays = known.stays
      ∙ ap (λ (ys : List Fated). map (sure transferred) behind ++ sure transferred p ∷ filter will_commit ys)
      (opened_commit transferred 0 at c rest ps) ∙ one_sure (filter will_commit (opened transferred 0 rest ps));
  commit = known.commit
      ∙ ap (λ (ys : List Fated). done ++ p ∷ all_placed (filter will_commit ys))
      (opened_commit transferred 0 at c rest ps)
      ∙ sym (append_assoc done (p ∷ []) (all_placed (filter will_commit (opened transferred 0 rest ps))));
  fall = known.fall
      ∙ ap (λ (ys : List Fated). discarded ++ all_placed (filter will_fall ys))
      (opened_commit transferred 0 at c rest ps);
  within = known.within;
}
  where
    one_sure : (ys : List Fated) → map (sure transferred) behind ++ sure transferred p ∷ ys
        ≡ map (sure transferred) (behind ++ p ∷ []) ++ ys
    one_sure ys = sym (ap (λ (zs : List Fated). zs ++ ys) (map-append (sure transferred) behind (p ∷ []))
        ∙ append_assoc (map (sure transferred) behind) (sure transferred p ∷ []) ys)

-- ---- a rollback

come_rollback : (transferred view : ℕ) (behind done pending discarded : List Placed) (at : ℕ) (r : Rollback)
    (rest : List (ℕ × Step)) (xs : List Fated) → view < r.view
    → HasCome transferred view behind done pending discarded ((at, RollsBack r) ∷ rest) xs
    → HasCome transferred r.view behind done [] (discarded ++ pending) rest xs
come_rollback transferred view behind done pending discarded at r rest xs later known = record {
  counts = counting_later transferred view r.view xs later known.within ∙ stay;
  stays = stay;
  commit = known.commit
      ∙ ap (λ (ys : List Fated). done ++ all_placed ys) (none_commits transferred 0 at r rest pending);
  fall = known.fall ∙ ap (λ (qs : List Placed). discarded ++ qs) (all_fall transferred 0 at r rest pending)
      ∙ sym (append-nil (discarded ++ pending));
  within = all-weaker (IsNoLater transferred view) (IsNoLater transferred r.view) xs (λ x h. (h.0, up (view_of x) h.1))
      known.within;
}
  where
    up : (n : ℕ) → n ≤ view → n ≤ r.view
    up n h = omega (arith, later)

    stay : filter (stays_in transferred) xs ≡ map (sure transferred) behind ++ []
    stay = known.stays ∙ ap (λ (ys : List Fated). map (sure transferred) behind ++ ys)
        (none_commits transferred 0 at r rest pending)

-- ---- a state is transferred

-- nothing that came counts behind one state more
none_behind : (transferred view : ℕ) (test : Fated → Bool) (xs : List Fated)
    → AllByRecursion (IsNoLater transferred view) xs
    → filter (λ y. (y.transferred == suc transferred) && test y) xs ≡ []
none_behind transferred view test [] all = refl
none_behind transferred view test (y ∷ xs) all =
    ap (λ (b : Bool). cond (b && test y) (y ∷ kept) kept) (ne_eqb y.transferred (suc transferred) other)
    ∙ none_behind transferred view test xs all.1
  where
    kept : List Fated
    kept = filter (λ z. (z.transferred == suc transferred) && test z) xs

    other : y.transferred ≡ suc transferred → ⊥
    other e = omega (arith, all.0.0)

come_transfer : (transferred view : ℕ) (behind done pending discarded : List Placed) (at : ℕ) (x : Transfer)
    (rest : List (ℕ × Step)) (xs : List Fated) → view ≤ x.view
    → HasCome transferred view behind done pending discarded ((at, Transfers x) ∷ rest) xs
    → HasCome (suc transferred) x.view [] done [] (discarded ++ pending) rest xs
come_transfer transferred view behind done pending discarded at x rest xs later known = record {
  counts = none_behind transferred view (λ y. is_committed y.fate || (y.placed.attempt.view == x.view)) xs known.within;
  stays = none_behind transferred view (λ y. is_committed y.fate) xs known.within;
  commit = known.commit
      ∙ ap (λ (ys : List Fated). done ++ all_placed ys) (none_commits_behind transferred 0 at x rest pending);
  fall = known.fall ∙ ap (λ (qs : List Placed). discarded ++ qs) (all_fall_behind transferred 0 at x rest pending)
      ∙ sym (append-nil (discarded ++ pending));
  within = all-weaker (IsNoLater transferred view) (IsNoLater (suc transferred) x.view) xs
      (λ y h. (more y.transferred h.0, up (view_of y) h.1)) known.within;
}
  where
    more : (n : ℕ) → n ≤ transferred → n ≤ suc transferred
    more n h = omega arith

    up : (n : ℕ) → n ≤ view → n ≤ x.view
    up n h = omega (arith, later)

module _ (t : Trace) where
  its_view : (s : SectionState) (a : Attempt) → IsTrue (is_right t s (Attempts a)) → a.view ≡ s.view
  its_view s a right =
      let own = and_parts (is_right_attempt t s a) (is_right_certificate t a && are_right_accesses t a [] a.accesses)
      right in
      let due = and_parts (is_due t s a) (length a.certificate == request_count t a) own.0 in
      let one = and_parts (a.seq == s.last + 1 + length s.pending)
      (nat_le a.seq (length t.batches) &&
      (nat_le a.seq (s.last + t.head.window) && ((a.view == s.view) && beq a.serial s.rolled_back))) due.0 in
      let two = and_parts (nat_le a.seq (length t.batches))
      (nat_le a.seq (s.last + t.head.window) && ((a.view == s.view) && beq a.serial s.rolled_back)) one.1 in
      let three = and_parts (nat_le a.seq (s.last + t.head.window)) ((a.view == s.view) && beq a.serial s.rolled_back)
      two.1 in
      let four = and_parts (a.view == s.view) (beq a.serial s.rolled_back) three.1 in
      eqb-true a.view s.view four.0

  later_view : (s : SectionState) (r : Rollback) → IsTrue (is_right_rollback t s r) → s.view < r.view
  later_view s r right =
      let one = and_parts (r.to == s.last) (nat_lt s.last (length t.batches) && (r.view == s.view + 1)) right in
      let is : r.view ≡ s.view + 1 =
      eqb-true r.view (s.view + 1) (and_parts (nat_lt s.last (length t.batches)) (r.view == s.view + 1) one.1).1 in
      omega (arith, is)

  no_lower_view : (s : SectionState) (x : Transfer) → IsTrue (is_right_transfer t s x) → s.view ≤ x.view
  no_lower_view s x right =
      let one = and_parts (nat_lt s.last x.seq) (nat_le x.seq (length t.batches) && nat_le s.view x.view) right in
      leb-true s.view x.view (and_parts (nat_le x.seq (length t.batches)) (nat_le s.view x.view) one.1).1

  abbrev new : SectionState → ℕ → Attempt → List (ℕ × Step) → Fated
  new s at a rest = record {
    placed = record { offset = at; attempt = a; path = path_of s };
    transferred = length (states_by s.ways_reached);
    fate = fate_in rest (length s.pending);
  }

  attempt_comes : (s : SectionState) (at : ℕ) (a : Attempt) (rest : List (ℕ × Step)) → IsTrue
      (is_right t s (Attempts a))
      → (xs : List Fated) → AreCome s ((at, Attempts a) ∷ rest) xs
      → AreCome (next s (at, Attempts a)) rest (xs ++ new s at a rest ∷ [])
  attempt_comes s at a rest right xs known =
      come_attempt (length (states_by s.ways_reached)) s.view (since s.ways_reached) (attempts_by s.ways_reached)
      s.pending
      s.discarded
      at a rest (new s at a rest) refl (its_view s a right) refl xs known

  commit_comes : (s : SectionState) (at : ℕ) (c : Commit) (rest : List (ℕ × Step)) (pending : List Placed) → s.pending
      ≡ pending → IsTrue (commits_first pending c) → (xs : List Fated)
      → AreCome s ((at, Commits c) ∷ rest) xs → AreCome (committing s pending) rest xs
  commit_comes s at c rest [] is right xs known = absurd (false≢true right)
  commit_comes s at c rest (p ∷ ps) is right xs known =
      let k = length (states_by s.ways_reached) in
      let now : HasCome k s.view (since s.ways_reached ++ p ∷ []) (attempts_by s.ways_reached ++ p ∷ []) ps s.discarded
      rest
      xs =
      come_commit k s.view (since s.ways_reached) (attempts_by s.ways_reached) s.discarded p ps at c rest xs
      (subst (λ (qs : List Placed). HasCome k s.view (since s.ways_reached) (attempts_by s.ways_reached) qs s.discarded
      ((at, Commits c) ∷ rest) xs) is known) in
      subst (λ (m : ℕ). HasCome m s.view (since (s.ways_reached ++ ByAttempt p ∷ []))
      (attempts_by (s.ways_reached ++ ByAttempt p ∷ [])) ps s.discarded rest xs)
      (sym (ap (λ (xs : List (List Versioned)). length xs) (transferred_more s.ways_reached p)))
      (subst (λ (qs : List Placed). HasCome k s.view qs (attempts_by (s.ways_reached ++ ByAttempt p ∷ [])) ps
      s.discarded rest
      xs) (sym (fold-append since_next [] s.ways_reached (ByAttempt p ∷ [])))
      (subst (λ (qs : List Placed). HasCome k s.view (since s.ways_reached ++ p ∷ []) qs ps s.discarded rest xs)
      (sym (attempts_by_push s.ways_reached p)) now))

  rollback_comes : (s : SectionState) (at : ℕ) (r : Rollback) (rest : List (ℕ × Step)) → IsTrue
      (is_right_rollback t s r)
      → (xs : List Fated) → AreCome s ((at, RollsBack r) ∷ rest) xs → AreCome (next s (at, RollsBack r)) rest xs
  rollback_comes s at r rest right xs known =
      come_rollback (length (states_by s.ways_reached)) s.view (since s.ways_reached) (attempts_by s.ways_reached)
      s.pending
      s.discarded at r rest xs (later_view s r right) known

  transfer_comes : (s : SectionState) (at : ℕ) (x : Transfer) (rest : List (ℕ × Step)) → IsTrue
      (is_right_transfer t s x)
      → (xs : List Fated) → AreCome s ((at, Transfers x) ∷ rest) xs → AreCome (next s (at, Transfers x)) rest xs
  transfer_comes s at x rest right xs known =
      let k = length (states_by s.ways_reached) in
      let skipped = x.seq - (s.last + 1) in
      let ls = s.ways_reached ++ transferring skipped at x in
      let fell = s.discarded ++ s.pending in
      let now : HasCome (suc k) x.view [] (attempts_by s.ways_reached) [] fell rest xs =
      come_transfer k s.view (since s.ways_reached) (attempts_by s.ways_reached) s.pending s.discarded at x rest xs
      (no_lower_view s x right) known in
      subst (λ (m : ℕ). HasCome m x.view (since ls) (attempts_by ls) [] fell rest xs) (sym (one_more_state s at x))
      (subst (λ (qs : List Placed). HasCome (suc k) x.view qs (attempts_by ls) [] fell rest xs)
      (sym (none_since s.ways_reached skipped at x))
      (subst (λ (qs : List Placed). HasCome (suc k) x.view [] qs [] fell rest xs)
      (sym (attempts_transferring s.ways_reached skipped at x)) now))

  -- ---- what the rows have

  -- of what came by numbers that were reached, and of what they had after as many states
  abbrev AreBased : (ℕ → Table) → List HowReached → Type 0
  AreBased bases ls =
      rows_after t (flat_map came_by ls) ≡ fold (with_came t) (bases (length (states_by ls))) (ran (since ls))

  ran_more : (table : Table) (ps qs : List Placed)
      → fold (with_came t) table (ran (ps ++ qs)) ≡ fold (with_came t) (fold (with_came t) table (ran ps)) (ran qs)
  ran_more table ps qs = ap (fold (with_came t) table) (map-append (λ (p : Placed). Ran p.attempt) ps qs)
      ∙ fold-append (with_came t) table (ran ps) (ran qs)

  based_commit : (bases : ℕ → Table) (s : SectionState) (pending : List Placed) → AreBased bases s.ways_reached
      → AreBased bases (committing s pending).ways_reached
  based_commit bases s [] based = based
  based_commit bases s (p ∷ ps) based =
      ap (rows_after t) (flat_map-append came_by s.ways_reached (ByAttempt p ∷ []))
      ∙ rows_after-push t (flat_map came_by s.ways_reached) p.attempt
      ∙ ap (λ (table : Table). table_after_all table (execution t p.attempt)) based
      ∙ sym (ran_more (bases (length (states_by s.ways_reached))) (since s.ways_reached) (p ∷ []))
      ∙ (λ i. fold (with_came t) (bases (length (sym (transferred_more s.ways_reached p) i)))
      (ran (sym (fold-append since_next [] s.ways_reached (ByAttempt p ∷ [])) i)))

  based_transfer : (bases : ℕ → Table) (s : SectionState) (at : ℕ) (x : Transfer)
      → bases (suc (length (states_by s.ways_reached))) ≡ transferred_table x.rows → AreBased bases
      (next s (at, Transfers x)).ways_reached
  based_transfer bases s at x has =
      let skipped = x.seq - (s.last + 1) in
      ap (rows_after t) (flat_map-append came_by s.ways_reached (transferring skipped at x)
      ∙ ap (λ (cs : List Came). flat_map came_by s.ways_reached ++ cs) (came_transferring skipped at x))
      ∙ fold-append (with_came t) (opening_table t) (flat_map came_by s.ways_reached) (Transferred x.rows ∷ [])
      ∙ sym has
      ∙ (λ i. fold (with_came t) (bases (sym (one_more_state s at x) i))
      (ran (sym (none_since s.ways_reached skipped at x) i)))

  -- after the path of an attempt
  based_path : (bases : ℕ → Table) (s : SectionState) → AreBased bases s.ways_reached
      → rows_after t (path_of s)
      ≡ fold (with_came t) (bases (length (states_by s.ways_reached))) (ran (since s.ways_reached ++ s.pending))
  based_path bases s based =
      fold-append (with_came t) (opening_table t) (flat_map came_by s.ways_reached) (ran s.pending)
      ∙ ap (λ (table : Table). fold (with_came t) table (ran s.pending)) based
      ∙ sym (ran_more (bases (length (states_by s.ways_reached))) (since s.ways_reached) s.pending)

  -- ---- all of them

  -- what settles is after nothing open
  settles_before : (rest : List (ℕ × Step)) (m n : ℕ) → m ≤ n
      → (is_committed (fate_in rest n) || is_discarded (fate_in rest n)) ≡ true
      → (is_committed (fate_in rest m) || is_discarded (fate_in rest m)) ≡ true
  settles_before [] m n up done = done
  settles_before ((at, Attempts a) ∷ rest) m n up done = settles_before rest m n up done
  settles_before ((at, Commits c) ∷ rest) zero n up done = refl
  settles_before ((at, Commits c) ∷ rest) (suc m) zero up done = absurd (omega arith)
  settles_before ((at, Commits c) ∷ rest) (suc m) (suc n) up done = settles_before rest m n (omega arith) done
  settles_before ((at, RollsBack r) ∷ rest) m n up done = refl
  settles_before ((at, Transfers x) ∷ rest) m n up done = refl

  all_settle : (transferred : ℕ) (rest : List (ℕ × Step)) (from n : ℕ) (ps : List Placed) → from + length ps ≤ n
      → (is_committed (fate_in rest n) || is_discarded (fate_in rest n)) ≡ true
      → AllByRecursion (λ y. settles y ≡ true) (opened transferred from rest ps)
  all_settle transferred rest from n [] up done = tt
  all_settle transferred rest from n (p ∷ ps) up done =
      (settles_before rest from n (omega arith) done, all_settle transferred rest (suc from) n ps (omega arith) done)

  sure_settle : (transferred : ℕ) (ps : List Placed)
      → AllByRecursion (λ y. settles y ≡ true) (map (sure transferred) ps)
  sure_settle transferred [] = tt
  sure_settle transferred (p ∷ ps) = (refl, sure_settle transferred ps)

  placed_sure : (transferred : ℕ) (ps : List Placed) → all_placed (map (sure transferred) ps) ≡ ps
  placed_sure transferred [] = refl
  placed_sure transferred (p ∷ ps) = ap (λ qs. p ∷ qs) (placed_sure transferred ps)

  placed_opened : (transferred n : ℕ) (rest : List (ℕ × Step)) (ps : List Placed)
      → all_placed (opened transferred n rest ps) ≡ ps
  placed_opened transferred n rest [] = refl
  placed_opened transferred n rest (p ∷ ps) = ap (λ qs. p ∷ qs) (placed_opened transferred (suc n) rest ps)

  -- what the rows have after each of these states
  abbrev HaveStates : (ℕ → Table) → List (List Versioned) → Type 0
  HaveStates bases states = (k : ℕ) → bases (suc k) ≡ transferred_table (get_or states k [])

  come_all : (bases : ℕ → Table) (s : SectionState) (rest : List (ℕ × Step)) (xs : List Fated)
      → IsTrue (are_right t s rest) → AreCome s rest xs → AreBased bases s.ways_reached
      → HaveStates bases (states_by s.ways_reached ++ states_among rest)
      → AreCounting t bases xs (to_come s rest)
  come_all bases s [] xs right known based has = tt
  come_all bases s ((at, Attempts a) ∷ rest) xs right known based has =
      let parts = and_parts (is_right t s (Attempts a)) (are_right t (next s (at, Attempts a)) rest) right in
      let k = length (states_by s.ways_reached) in
      let steps = (at, Attempts a) ∷ rest in
      let view : a.view ≡ s.view = its_view s a parts.0 in
      let count : counting k a.view xs ≡ map (sure k) (since s.ways_reached) ++ opened k 0 steps s.pending =
      ap (λ (v : ℕ). counting k v xs) view ∙ known.counts in
      let placed : all_placed (counting k a.view xs) ≡ since s.ways_reached ++ s.pending =
      ap all_placed count
      ∙ map-append (λ (y : Fated). y.placed) (map (sure k) (since s.ways_reached)) (opened k 0 steps s.pending)
      ∙ (λ i. placed_sure k (since s.ways_reached) i ++ placed_opened k 0 steps s.pending i) in (
        based_path bases s based ∙ ap (λ (ps : List Placed). fold (with_came t) (bases k) (ran ps)) (sym placed),
        subst (λ (v : ℕ). AllByRecursion (IsNoLater k v) xs) (sym view) known.within,
        λ done. subst (AllByRecursion (λ y. settles y ≡ true)) (sym count)
            (all-append (λ y. settles y ≡ true) (map (sure k) (since s.ways_reached)) (opened k 0 steps s.pending)
            (sure_settle k (since s.ways_reached))
            (all_settle k steps 0 (length s.pending) s.pending none done)),
        come_all bases (next s (at, Attempts a)) rest (xs ++ new s at a rest ∷ []) parts.1
            (attempt_comes s at a rest parts.0 xs known) based has,
      )
    where
      none : 0 + length s.pending ≤ length s.pending
      none = omega arith
  come_all bases s ((at, Commits c) ∷ rest) xs right known based has =
      let parts = and_parts (is_right t s (Commits c)) (are_right t (next s (at, Commits c)) rest) right in
      come_all bases (next s (at, Commits c)) rest xs parts.1
      (commit_comes s at c rest s.pending refl
      (and_parts (c.seq == s.last + 1) (commits_first s.pending c) parts.0).1 xs known)
      (based_commit bases s s.pending based)
      (subst (λ (states : List (List Versioned)). HaveStates bases (states ++ states_among rest))
      (sym (states_committing s s.pending)) has)
  come_all bases s ((at, RollsBack r) ∷ rest) xs right known based has =
      let parts = and_parts (is_right t s (RollsBack r)) (are_right t (next s (at, RollsBack r)) rest) right in
      come_all bases (next s (at, RollsBack r)) rest xs parts.1 (rollback_comes s at r rest parts.0 xs known) based
      has
  come_all bases s ((at, Transfers x) ∷ rest) xs right known based has =
      let parts = and_parts (is_right t s (Transfers x)) (are_right t (next s (at, Transfers x)) rest) right in
      come_all bases (next s (at, Transfers x)) rest xs parts.1 (transfer_comes s at x rest parts.0 xs known)
      (based_transfer bases s at x
      (has (length (states_by s.ways_reached))
      ∙ ap transferred_table (item_behind (states_by s.ways_reached) x.rows (states_among rest) [])))
      (subst (HaveStates bases) (sym (ap (λ (states : List (List Versioned)). states ++ states_among rest)
      (state_more s at x) ∙ append_assoc (states_by s.ways_reached) (x.rows ∷ []) (states_among rest))) has)

  -- where the section ends
  record HasEnded (s : SectionState) (xs : List Fated) : Type 0 where
    committed : all_placed (filter will_commit xs) ≡ attempts_by s.ways_reached
    discarded : all_placed (filter will_fall xs) ≡ s.discarded

  come_end : (s : SectionState) (rest : List (ℕ × Step)) (xs : List Fated) → IsTrue (are_right t s rest)
      → AreCome s rest xs → HasEnded (state_after s rest) (xs ++ to_come s rest)
  come_end s [] xs right known =
      let k = length (states_by s.ways_reached) in
      record {
        committed = ap (λ (ys : List Fated). all_placed (filter will_commit ys)) (append-nil xs) ∙ known.commit
            ∙ ap (λ (ys : List Fated). attempts_by s.ways_reached ++ all_placed ys) (none_commits_at_end k 0 s.pending)
            ∙ append-nil (attempts_by s.ways_reached);
        discarded = ap (λ (ys : List Fated). all_placed (filter will_fall ys)) (append-nil xs) ∙ known.fall
            ∙ ap (λ (qs : List Placed). s.discarded ++ qs) (none_falls_at_end k 0 s.pending) ∙ append-nil s.discarded;
      }
  come_end s ((at, Attempts a) ∷ rest) xs right known =
      let parts = and_parts (is_right t s (Attempts a)) (are_right t (next s (at, Attempts a)) rest) right in
      subst (HasEnded (state_after (next s (at, Attempts a)) rest))
      (append_assoc xs (new s at a rest ∷ []) (to_come (next s (at, Attempts a)) rest))
      (come_end (next s (at, Attempts a)) rest (xs ++ new s at a rest ∷ []) parts.1
      (attempt_comes s at a rest parts.0 xs known))
  come_end s ((at, Commits c) ∷ rest) xs right known =
      let parts = and_parts (is_right t s (Commits c)) (are_right t (next s (at, Commits c)) rest) right in
      come_end (next s (at, Commits c)) rest xs parts.1
      (commit_comes s at c rest s.pending refl
      (and_parts (c.seq == s.last + 1) (commits_first s.pending c) parts.0).1 xs known)
  come_end s ((at, RollsBack r) ∷ rest) xs right known =
      let parts = and_parts (is_right t s (RollsBack r)) (are_right t (next s (at, RollsBack r)) rest) right in
      come_end (next s (at, RollsBack r)) rest xs parts.1 (rollback_comes s at r rest parts.0 xs known)
  come_end s ((at, Transfers x) ∷ rest) xs right known =
      let parts = and_parts (is_right t s (Transfers x)) (are_right t (next s (at, Transfers x)) rest) right in
      come_end (next s (at, Transfers x)) rest xs parts.1 (transfer_comes s at x rest parts.0 xs known)

  none_came : (rest : List (ℕ × Step)) → AreCome start rest []
  none_came rest = record { counts = refl; stays = refl; commit = refl; fall = refl; within = tt }

  -- ---- a replica's section

  -- what the rows of replica e have after as many states
  abbrev pub rows_of : ℕ → ℕ → Table
  rows_of e k row = bases_of t e row k

  pub counting_told : (e : ℕ) → IsRightSection t e → AreCounting t (rows_of e) [] (told_of t e)
  unfolding history
  counting_told e right = come_all (rows_of e) start (steps_at t e) [] right (none_came (steps_at t e)) refl
      (λ k. ap (λ (states : List (List Versioned)). transferred_table (get_or states k []))
      (states_after start (steps_at t e)))

  pub committed_told : (e : ℕ) → IsRightSection t e → all_placed (filter will_commit (told_of t e))
      ≡ attempts_by (history t e).ways_reached
  unfolding history
  committed_told e right = (come_end start (steps_at t e) [] right (none_came (steps_at t e))).committed

  pub discarded_told : (e : ℕ) → IsRightSection t e → all_placed (filter will_fall (told_of t e))
      ≡ (history t e).discarded
  unfolding history
  discarded_told e right = (come_end start (steps_at t e) [] right (none_came (steps_at t e))).discarded
