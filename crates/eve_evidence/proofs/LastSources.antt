-- The last source in front of an attempt, and what became of it, step after step.
use Rattle.std.proofs.Common.{◌≡◌, ℕ, zero, suc, ◌+◌, ◌-◌, List, [], ◌∷◌, ◌++◌, length, replicate}
use Rattle.std.proofs.Common.{Bool, Option, None, Some, refl, sym, ap, subst, ◌∙◌, append_assoc, arith, inl, inr}
use Rattle.std.specs.Option.{option_map}
use Rattle.std.specs.Prelude.{IsTrue, ◌↔◌}
use Rattle.std.proofs.lemmas.List.Sums.{fold-append}
use Rattle.std.proofs.lemmas.List.{length-append}
use Rattle.eve_smallbank.specs.declared.versioned.Versioned.{Versioned}
use Rattle.eve_grammar.specs.Trace.{Attempt, Commit, Rollback, Step, Attempts, Commits, RollsBack, Transfers, Trace}
use Rattle.eve_grammar.specs.Trace.{Transfer}
use Rattle.eve_grammar.proofs.Lists.{all-push}
use Rattle.eve_views.specs.Form.{SomePlace}
use Rattle.eve_history.specs.Section.{Placed, HowReached, ByAttempt, ByTransfer, Skipped, SectionState, start, next}
use Rattle.eve_history.specs.Section.{state_after, attempts_by, committing, path_of}
use Rattle.eve_history.specs.SectionHistory.{placed_at}
use Rattle.eve_history.proofs.StructureLaws.{state_after-append}
use Rattle.eve_evidence.specs.declared.evidence.Source.{Source}
use Rattle.eve_evidence.specs.declared.evidence.Source.TheVariants as source
use Rattle.eve_evidence.specs.declared.prefix.Prefix.{Prefix}
use Rattle.eve_evidence.specs.declared.prefix.LastSource.{LastSource}
use Rattle.eve_evidence.specs.declared.prefix.Since.{Since}
use Rattle.eve_evidence.specs.declared.prefix.Since.TheVariants as since
use Rattle.eve_evidence.specs.Course.{last_state, later_state}
use Rattle.eve_evidence.specs.Seen.{and_rollback, rollbacks_behind, NamesRow, Restores}
use Rattle.eve_evidence.specs.Seen.{NoneAmong, NoneIn, IsLastAmong, IsLastIn, IsDiscardedBy, IsCommittedIn}
use Rattle.eve_evidence.specs.inner.LastSource.{IsOpenAfter, IsSince, IsLastSource}
use Rattle.eve_evidence.specs.inner.LastSource.{since_commit, since_discarded, last_found, last_with, IsSourceFound}
use Rattle.eve_evidence.specs.inner.LastSource.{IsRestoredBy}
use Rattle.eve_evidence.specs.inner.LastSource.{IsPrefix}

-- ---- one step more

-- a place stays where more follows
pub place_grows : {A : Type 0} (P : List A → A → Type 0) (xs ys : List A) → SomePlace xs P → SomePlace (xs ++ ys) P
place_grows {A} P xs ys place = record {
  before = place.before;
  item = place.item;
  rest = place.rest ++ ys;
  is = ap (λ (zs : List A). zs ++ ys) place.is ∙ append_assoc place.before (place.item ∷ place.rest) ys;
  holds = place.holds;
}

-- how many attempts are open
abbrev open_count : SectionState → ℕ
open_count s = length s.pending

-- where a state is transferred
abbrev over : SectionState → ℕ → Transfer → List HowReached
over s at x = replicate (x.seq - (s.last + 1)) Skipped ++ ByTransfer at x ∷ []

attempts_by-append : (xs ys : List HowReached) → attempts_by (xs ++ ys) ≡ attempts_by xs ++ attempts_by ys
attempts_by-append [] ys = refl
attempts_by-append (ByAttempt p ∷ xs) ys = ap (λ (ps : List Placed). p ∷ ps) (attempts_by-append xs ys)
attempts_by-append (ByTransfer at x ∷ xs) ys = attempts_by-append xs ys
attempts_by-append (Skipped ∷ xs) ys = attempts_by-append xs ys

committed_grows : (ways_reached more : List HowReached) (b : ℕ × Attempt)
    → SomePlace (attempts_by ways_reached) (λ _ p. placed_at p ≡ b)
    → SomePlace (attempts_by (ways_reached ++ more)) (λ _ p. placed_at p ≡ b)
committed_grows ways_reached more b place =
    subst (λ (ps : List Placed). SomePlace ps (λ _ p. placed_at p ≡ b)) (sym (attempts_by-append ways_reached more))
    (place_grows (λ _ p. placed_at p ≡ b) (attempts_by ways_reached) (attempts_by more) place)

module _ (steps : List (ℕ × Step)) (step : ℕ × Step) where
  came : state_after start (steps ++ step ∷ []) ≡ next (state_after start steps) step
  came = state_after-append start steps (step ∷ [])

  rollbacks_came : rollbacks_behind (steps ++ step ∷ []) ≡ and_rollback (rollbacks_behind steps) step
  rollbacks_came = fold-append and_rollback [] steps (step ∷ [])

  none_grows : (row : ℕ) (has : Versioned) → NoneAmong row has steps → NoneIn row has step
      → NoneAmong row has (steps ++ step ∷ [])
  none_grows row has none own = all-push (NoneIn row has) steps step none own

  last_grows : (row : ℕ) (has : Versioned) (b : ℕ × Step) (s : Source) → IsLastAmong row has steps b s
      → NoneIn row has step → IsLastAmong row has (steps ++ step ∷ []) b s
  last_grows row has b s last own = record {
    before = last.before;
    behind = last.behind ++ step ∷ [];
    is = ap (λ (xs : List (ℕ × Step)). xs ++ step ∷ []) last.is
        ∙ append_assoc last.before (b ∷ last.behind) (step ∷ []);
    own = last.own;
    none = all-push (NoneIn row has) last.behind step last.none own;
  }

  last_now : (row : ℕ) (has : Versioned) (s : Source) → IsLastIn row has step s
      → IsLastAmong row has (steps ++ step ∷ []) step s
  last_now row has s own = record { before = steps; behind = []; is = refl; own = own; none = tt }

  discarded_grows : (b : ℕ × Attempt) (by : ℕ × Step) → IsDiscardedBy steps b by
      → IsDiscardedBy (steps ++ step ∷ []) b by
  discarded_grows b by place = place_grows _ steps (step ∷ []) place

  -- an open attempt is discarded
  discarded_now : (b : ℕ × Attempt) (count : ℕ) → IsOpenAfter (state_after start steps) b count
      → IsDiscardedBy (steps ++ step ∷ []) b step
  discarded_now b count is = record {
    before = steps;
    item = step;
    rest = [];
    is = refl;
    holds = (refl, record { before = is.before; item = is.item; rest = is.behind; is = is.is; holds = is.same });
  }

  -- the last source with what becomes of it, in a step that has none
  last_goes_on : (t : Trace) (row : ℕ) (has : Versioned) (to : Since → Since) → to since.Settled ≡ since.Settled
      → ((b : ℕ × Attempt) (w : Since) → IsSince row steps b w → IsSince row (steps ++ step ∷ []) b (to w))
      → NoneIn row has step → (last : Option LastSource) → IsLastSource t row has steps last
      → IsLastSource t row has (steps ++ step ∷ []) (last_with to last)
  last_goes_on t row has to settled goes own None is = (is.0, none_grows row has is.1 own)
  last_goes_on t row has to settled goes own (Some l) (inl of) = inl (record {
    by = of.by;
    last = last_grows row has (of.by.0, Attempts of.by.1) l.source of.last own;
    came = goes of.by l.since of.came;
  })
  last_goes_on t row has to settled goes own (Some l) (inr (inl of)) = inr (inl (record {
    at = of.at;
    state = of.state;
    last = last_grows row has (of.at, Transfers of.state) l.source of.last own;
    came = ap to of.came ∙ settled;
  }))
  last_goes_on t row has to settled goes own (Some l) (inr (inr of)) = inr (inr (record {
    source_is = of.source_is;
    gives = of.gives;
    none = none_grows row has of.none own;
    came = ap to of.came ∙ settled;
  }))

-- ---- an attempt

module _ (row : ℕ) (steps : List (ℕ × Step)) (at : ℕ) (a : Attempt) where
  abbrev step_a : ℕ × Step
  step_a = (at, Attempts a)

  abbrev placed_a : Placed
  placed_a = record { offset = at; attempt = a; path = path_of (state_after start steps) }

  since_attempt : (b : ℕ × Attempt) (w : Since) → IsSince row steps b w → IsSince row (steps ++ step_a ∷ []) b w
  since_attempt b (since.Open count) is =
      subst (λ (s : SectionState). IsOpenAfter s b count) (sym (came steps step_a)) (record {
        before = is.before;
        item = is.item;
        behind = is.behind ++ placed_a ∷ [];
        is = ap (λ (ps : List Placed). ps ++ placed_a ∷ []) is.is
            ∙ append_assoc is.before (is.item ∷ is.behind) (placed_a ∷ []);
        same = is.same;
        count_is = is.count_is;
      })
  since_attempt b since.Settled is = subst (λ (s : SectionState). IsCommittedIn s b) (sym (came steps step_a)) is
  since_attempt b (since.RolledBack by restores) is = (is.0, discarded_grows steps step_a b _ is.1, is.2)
  since_attempt b (since.Discarded by) is = (is.0, discarded_grows steps step_a b _ is.1)

  same_last : (last : Option LastSource) → last_with (λ w. w) last ≡ last
  same_last None = refl
  same_last (Some l) = refl

  last_attempt : (t : Trace) (has : Versioned) (found : Option Source) (last : Option LastSource) (count : ℕ)
      → count ≡ open_count (state_after start steps) → IsLastSource t row has steps last
      → IsSourceFound row has step_a found
      → IsLastSource t row has (steps ++ step_a ∷ [])
      (last_found count last found)
  last_attempt t has (Some s) last count count_is is own = inl (record {
    by = (at, a);
    last = last_now steps step_a row has s own;
    came = subst (λ (st : SectionState). IsOpenAfter st (at, a) count) (sym (came steps step_a)) (record {
      before = (state_after start steps).pending;
      item = placed_a;
      behind = [];
      is = refl;
      same = refl;
      count_is = sym count_is;
    });
  })
  last_attempt t has None last count count_is is own =
      subst (IsLastSource t row has (steps ++ step_a ∷ [])) (same_last last)
      (last_goes_on steps step_a t row has (λ w. w) refl since_attempt own last is)

  pub prefix_attempt : (t : Trace) (has : Versioned) (f : Prefix) (found : Option Source) (opened : ℕ)
      (last : Option LastSource)
      → opened ≡ f.pending + 1
      → last ≡ last_found f.pending f.last found
      → IsPrefix t row has steps f → IsSourceFound row has step_a found
      → IsPrefix t row has (steps ++ step_a ∷ [])
      (record { pending = opened; base = f.base; restored = f.restored; last = last })
  prefix_attempt t has f found opened last opened_is last_is is own =
      let s = state_after start steps in record {
        open_is = opened_is ∙ ap (λ (n : ℕ). n + 1) is.open_is ∙ sym (length-append s.pending (placed_a ∷ []))
            ∙ ap open_count (sym (came steps step_a));
        base_is = is.base_is
            ∙ ap (λ (st : SectionState). option_map (λ (y : ℕ × Transfer). y.0) (last_state st.ways_reached))
            (sym (came steps step_a));
        restored_is = subst (λ (rs : List (ℕ × Rollback)). IsRestoredBy row has rs f.restored)
            (sym (rollbacks_came steps step_a)) is.restored_is;
        last_is = subst (IsLastSource t row has (steps ++ step_a ∷ [])) (sym last_is)
            (last_attempt t has found f.last f.pending is.open_is is.last_is own);
      }

-- ---- a commit

module _ (row : ℕ) (steps : List (ℕ × Step)) (at : ℕ) (c : Commit) where
  abbrev step_c : ℕ × Step
  step_c = (at, Commits c)

  abbrev before_c : SectionState
  before_c = state_after start steps

  -- the first open attempt is committed
  first_commits : (b : ℕ × Attempt) (before : List Placed) (p : Placed) (behind : List Placed) → placed_at p ≡ b
      → length before ≡ 0 → IsCommittedIn (committing before_c (before ++ p ∷ behind)) b
  first_commits b [] p behind same none =
      subst (λ (ps : List Placed). SomePlace ps (λ _ q. placed_at q ≡ b))
      (sym (attempts_by-append before_c.ways_reached (ByAttempt p ∷ []))) (record {
        before = attempts_by before_c.ways_reached;
        item = p;
        rest = [];
        is = refl;
        holds = same;
      })
  first_commits b (q ∷ before) p behind same none = absurd (omega (arith, none))

  -- another one moves up
  other_moves : (b : ℕ × Attempt) (count : ℕ) (before : List Placed) (p : Placed) (behind : List Placed)
      → placed_at p ≡ b → length before ≡ suc count
      → IsOpenAfter (committing before_c (before ++ p ∷ behind)) b count
  other_moves b count [] p behind same some = absurd (omega (arith, some))
  other_moves b count (q ∷ before) p behind same some = record {
    before = before;
    item = p;
    behind = behind;
    is = refl;
    same = same;
    count_is = omega (arith, some);
  }

  stays_committed : (b : ℕ × Attempt) (ps : List Placed) → IsCommittedIn before_c b
      → IsCommittedIn (committing before_c ps) b
  stays_committed b [] is = is
  stays_committed b (p ∷ ps) is = committed_grows before_c.ways_reached (ByAttempt p ∷ []) b is

  since_committed : (b : ℕ × Attempt) (w : Since) → IsSince row steps b w
      → IsSince row (steps ++ step_c ∷ []) b (since_commit w)
  since_committed b (since.Open zero) is =
      subst (λ (s : SectionState). IsCommittedIn s b) (sym (came steps step_c))
      (subst (λ (ps : List Placed). IsCommittedIn (committing before_c ps) b) (sym is.is)
      (first_commits b is.before is.item is.behind is.same is.count_is))
  since_committed b (since.Open (suc count)) is =
      subst (λ (s : SectionState). IsOpenAfter s b count) (sym (came steps step_c))
      (subst (λ (ps : List Placed). IsOpenAfter (committing before_c ps) b count) (sym is.is)
      (other_moves b count is.before is.item is.behind is.same is.count_is))
  since_committed b since.Settled is =
      subst (λ (s : SectionState). IsCommittedIn s b) (sym (came steps step_c)) (stays_committed b before_c.pending is)
  since_committed b (since.RolledBack by restores) is = (is.0, discarded_grows steps step_c b _ is.1, is.2)
  since_committed b (since.Discarded by) is = (is.0, discarded_grows steps step_c b _ is.1)

  fewer : (n : ℕ) (ps : List Placed) → n ≡ length ps → n - 1
      ≡ open_count (committing (record before_c { pending = ps }) ps)
  fewer n [] e = omega (arith, e)
  fewer n (p ∷ ps) e = omega (arith, e)

  same_base : (ps : List Placed) → last_state (committing before_c ps).ways_reached ≡ last_state before_c.ways_reached
  same_base [] = refl
  same_base (p ∷ ps) = fold-append later_state None before_c.ways_reached (ByAttempt p ∷ [])

  pub prefix_commit : (t : Trace) (has : Versioned) (f : Prefix) (many : ℕ) (last : Option LastSource)
      → many ≡ f.pending - 1 → last ≡ last_with since_commit f.last → IsPrefix t row has steps f
      → IsPrefix t row has (steps ++ step_c ∷ [])
      (record { pending = many; base = f.base; restored = f.restored; last = last })
  prefix_commit t has f many last open_is last_is is = record {
    open_is = open_is ∙ fewer f.pending before_c.pending is.open_is ∙ ap open_count (sym (came steps step_c));
    base_is = is.base_is ∙ ap (option_map (λ (y : ℕ × Transfer). y.0)) (sym (same_base before_c.pending)
        ∙ ap (λ (s : SectionState). last_state s.ways_reached) (sym (came steps step_c)));
    restored_is = subst (λ (rs : List (ℕ × Rollback)). IsRestoredBy row has rs f.restored)
        (sym (rollbacks_came steps step_c)) is.restored_is;
    last_is = subst (IsLastSource t row has (steps ++ step_c ∷ [])) (sym last_is)
        (last_goes_on steps step_c t row has since_commit refl since_committed tt f.last is.last_is);
  }

-- ---- a rollback

module _ (row : ℕ) (steps : List (ℕ × Step)) (at : ℕ) (r : Rollback) where
  abbrev step_r : ℕ × Step
  step_r = (at, RollsBack r)

  since_rolled_back : (restores : Bool) → (IsTrue restores ↔ NamesRow row r) → (b : ℕ × Attempt) (w : Since)
      → IsSince row steps b w
      → IsSince row (steps ++ step_r ∷ []) b (since_discarded (since.RolledBack at restores) w)
  since_rolled_back restores is_it b (since.Open count) is = (r, discarded_now steps step_r b count is, is_it)
  since_rolled_back restores is_it b since.Settled is =
      subst (λ (s : SectionState). IsCommittedIn s b) (sym (came steps step_r)) is
  since_rolled_back restores is_it b (since.RolledBack by other) is =
      (is.0, discarded_grows steps step_r b _ is.1, is.2)
  since_rolled_back restores is_it b (since.Discarded by) is = (is.0, discarded_grows steps step_r b _ is.1)

  -- the last that restores it, behind one more
  pub restoring_grows : (has : Versioned) (rs : List (ℕ × Rollback)) (o : Option ℕ) → IsRestoredBy row has rs o
      → ¬ Restores row has r → IsRestoredBy row has (rs ++ (at, r) ∷ []) o
  restoring_grows has rs None none own = all-push (λ (q : ℕ × Rollback). ¬ Restores row has q.1) rs (at, r) none own
  restoring_grows has rs (Some o) last own = record {
    before = last.before;
    item = last.item;
    behind = last.behind ++ (at, r) ∷ [];
    is = ap (λ (xs : List (ℕ × Rollback)). xs ++ (at, r) ∷ []) last.is
        ∙ append_assoc last.before ((o, last.item) ∷ last.behind) ((at, r) ∷ []);
    gives = last.gives;
    none = all-push (λ (q : ℕ × Rollback). ¬ Restores row has q.1) last.behind (at, r) last.none own;
  }

  pub restoring_now : (has : Versioned) (rs : List (ℕ × Rollback)) → Restores row has r
      → IsRestoredBy row has (rs ++ (at, r) ∷ []) (Some at)
  restoring_now has rs gives =
      record { before = rs; item = r; behind = []; is = refl; gives = gives; none = tt }

  pub prefix_rollback : (t : Trace) (has : Versioned) (f : Prefix) (restored : Option ℕ) (restores : Bool)
      (last : Option LastSource) → (IsTrue restores ↔ NamesRow row r)
      → last ≡ last_with (since_discarded (since.RolledBack at restores)) f.last
      → IsRestoredBy row has (rollbacks_behind steps ++ (at, r) ∷ []) restored → IsPrefix t row has steps f
      → IsPrefix t row has (steps ++ step_r ∷ [])
      (record { pending = 0; base = f.base; restored = restored; last = last })
  prefix_rollback t has f restored restores last names last_is again is = record {
    open_is = ap open_count (sym (came steps step_r));
    base_is = is.base_is
        ∙ ap (λ (st : SectionState). option_map (λ (y : ℕ × Transfer). y.0) (last_state st.ways_reached))
        (sym (came steps step_r));
    restored_is = subst (λ (rs : List (ℕ × Rollback)). IsRestoredBy row has rs restored)
        (sym (rollbacks_came steps step_r)) again;
    last_is = subst (IsLastSource t row has (steps ++ step_r ∷ [])) (sym last_is)
        (last_goes_on steps step_r t row has (since_discarded (since.RolledBack at restores)) refl
        (since_rolled_back restores names) tt f.last is.last_is);
  }

-- ---- a state that is transferred

module _ (row : ℕ) (steps : List (ℕ × Step)) (at : ℕ) (x : Transfer) where
  abbrev step_x : ℕ × Step
  step_x = (at, Transfers x)

  abbrev before_x : SectionState
  before_x = state_after start steps

  since_over : (b : ℕ × Attempt) (w : Since) → IsSince row steps b w
      → IsSince row (steps ++ step_x ∷ []) b (since_discarded (since.Discarded at) w)
  since_over b (since.Open count) is = (x, discarded_now steps step_x b count is)
  since_over b since.Settled is =
      subst (λ (s : SectionState). IsCommittedIn s b) (sym (came steps step_x))
      (committed_grows before_x.ways_reached (over before_x at x) b is)
  since_over b (since.RolledBack by restores) is = (is.0, discarded_grows steps step_x b _ is.1, is.2)
  since_over b (since.Discarded by) is = (is.0, discarded_grows steps step_x b _ is.1)

  base_now : Some at ≡ option_map (λ (y : ℕ × Transfer). y.0)
      (last_state (state_after start (steps ++ step_x ∷ [])).ways_reached)
  base_now =
      let skipped : List HowReached = replicate (x.seq - (before_x.last + 1)) Skipped in
      ap (option_map (λ (y : ℕ × Transfer). y.0))
      (sym (fold-append later_state None before_x.ways_reached (skipped ++ ByTransfer at x ∷ [])
      ∙ fold-append later_state (last_state before_x.ways_reached) skipped (ByTransfer at x ∷ []))
      ∙ ap (λ (s : SectionState). last_state s.ways_reached) (sym (came steps step_x)))

  pub prefix_state : (t : Trace) (has : Versioned) (last : Option LastSource)
      → IsLastSource t row has (steps ++ step_x ∷ []) last
      → IsPrefix t row has (steps ++ step_x ∷ [])
      (record { pending = 0; base = Some at; restored = None; last = last })
  prefix_state t has last last_is = record {
    open_is = ap open_count (sym (came steps step_x));
    base_is = base_now;
    restored_is = subst (λ (rs : List (ℕ × Rollback)). IsRestoredBy row has rs None) (sym (rollbacks_came steps step_x))
        tt;
    last_is = last_is;
  }

  pub last_kept : (t : Trace) (has : Versioned) (last : Option LastSource) → NoneIn row has step_x
      → IsLastSource t row has steps last
      → IsLastSource t row has (steps ++ step_x ∷ []) (last_with (since_discarded (since.Discarded at)) last)
  last_kept t has last own is =
      last_goes_on steps step_x t row has (since_discarded (since.Discarded at)) refl since_over own last is

  pub last_is_it : (t : Trace) (has : Versioned) → IsLastIn row has step_x (source.Transfer at)
      → IsLastSource t row has (steps ++ step_x ∷ [])
      (Some (record { source = source.Transfer at; since = since.Settled }))
  last_is_it t has own = inr (inl (record {
    at = at;
    state = x;
    last = last_now steps step_x row has (source.Transfer at) own;
    came = refl;
  }))
