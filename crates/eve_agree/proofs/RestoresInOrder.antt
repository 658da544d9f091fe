-- Public: other crates cite these lemmas. Steps of a section judged one after another: which attempts are open, and the
-- first rollback that is wrong.
use Rattle.std.proofs.Common.{◌≡◌, ℕ, zero, suc, ◌+◌, ◌-◌, ◌*◌, ◌<◌, ◌≤◌, ◌==◌, Bool, true, false, ◌&&◌, List, []}
use Rattle.std.proofs.Common.{◌∷◌, ◌++◌, map, take, drop, length, Some, refl, sym, subst, ap, ◌∙◌, inl}
use Rattle.std.proofs.Common.{inr, ◌⊎◌, append_assoc, append-nil, arith, IsTrue, IsFalse}
use Rattle.std.specs.List.{AllByRecursion, list_all, flat_map}
use Rattle.std.proofs.lemmas.Bool.{and_parts, and_from, cases_lt, false≢true}
use Rattle.std.proofs.lemmas.List.{map-append, length-map, length-append, length-drop, drop-map, drop-drop, drop_all}
use Rattle.std.proofs.lemmas.List.{drop-append-le}
use Rattle.eve_smallbank.specs.Chain.{Table}
use Rattle.eve_smallbank.specs.declared.entry.Entry.{Entry}
use Rattle.eve_grammar.specs.Trace.{Access, Attempt, Commit, Rollback, Transfer, Step, Attempts, Commits, RollsBack}
use Rattle.eve_grammar.specs.Trace.{Transfers, Trace, head_of}
use Rattle.eve_grammar.specs.Frames.{OfReplica}
use Rattle.eve_grammar.specs.Spelling.{frame_text, step_text, section_start, steps_of, steps_at}
use Rattle.eve_grammar.specs.Limits.{HasLimits, is_number, is_step, is_rising}
use Rattle.eve_grammar.specs.Limits.{is_restore, is_rollback, row_count}
use Rattle.eve_frames.specs.Views.{rollback_in}
use Rattle.eve_frames.specs.declared.attempt.AttemptView.{AttemptView}
use Rattle.eve_frames.specs.declared.commit.CommitView.{CommitView}
use Rattle.eve_frames.specs.declared.rollback.RollbackView.{RollbackView}
use Rattle.eve_frames.specs.declared.transfer.TransferView.{TransferView}
use Rattle.eve_views.specs.StepKinds.{IsStep}
use Rattle.eve_views.specs.declared.steps.Step as step_read
use Rattle.eve_views.specs.declared.steps.Step.TheVariants as of
use Rattle.eve_views.specs.Code.{code_number}
use Rattle.eve_views.specs.Form.{IsUpTo, SomePlace, IsLeast, IsFaultIn}
use Rattle.eve_views.specs.declared.fault.Code.{Code}
use Rattle.eve_views.specs.declared.fault.Code.TheVariants as code
use Rattle.eve_views.specs.declared.fault.Fault.{Fault}
use Rattle.eve_history.specs.Section.{Placed, SectionState, start, path_of, committing, next, state_after}
use Rattle.eve_history.specs.Section.{commits_first, is_right_commit, is_right, are_right}
use Rattle.eve_history.specs.SectionHistory.{ExecutedAttempt, SectionHistory, executed_attempt}
use Rattle.eve_history.specs.SectionHistory.{attempts_among, rollbacks_among, section_history, placed_at}
use Rattle.eve_history.specs.SectionHistory.{IsRightSection}
use Rattle.eve_history.specs.Structure.{OfRollback}
use Rattle.eve_history.proofs.SectionSteps.{come_start, attempts_among-append}
use Rattle.eve_history.proofs.StructureLaws.{state_after-append}
use Rattle.eve_history.proofs.RightSections.{none_at}
use Rattle.eve_history.proofs.Places.{place_cases, no_place, weaker_place, Rising, located_rising, At, first_place}
use Rattle.eve_chains.specs.Along.{entries_along, AreWithin}
use Rattle.eve_chains.proofs.AttemptRecords.{IsWithin, within_section}
use Rattle.eve_chains.specs.Sound.{SettledAreSound}
use Rattle.eve_chains.specs.Visible.{executions}
use Rattle.eve_chains.specs.Committed.{attempts_of}
use Rattle.eve_agree.specs.Tables.{committed_rows, open_entries, are_right_restores, restores_rightly}
use Rattle.eve_agree.specs.Tables.{all_restore_rightly, are_written_in, RestoresAreRight}
use Rattle.eve_agree.specs.Restores.{StandsInRestores}
use Rattle.eve_agree.specs.Marks.{unmarked, marked, noted_between, written_in}
use Rattle.eve_agree.proofs.MarkLaws.{first_writes}
use Rattle.eve_agree.proofs.DiscardedAttempts.{follows_committed, open_noted}

-- After these steps of replica e's section the others are still to come. This many attempts came, and the open ones
-- begin at this number.
pub record HasCome (t : Trace) (e : ℕ) (prefix rest : List (ℕ × Step)) (first end : ℕ) : Type 0 where
  pub split : steps_at t e ≡ prefix ++ rest
  pub came : length (attempts_among prefix) ≡ end
  pub fewer : first ≤ end
  pub pending : map placed_at (state_after start prefix).pending ≡ drop first (attempts_among prefix)

-- These steps are still to come, and the rollbacks before them are right.
pub record HasJudged (t : Trace) (e : ℕ) (rest : List (ℕ × Step)) (first end : ℕ) : Type 0 where
  pub prefix : List (ℕ × Step)
  pub come : HasCome t e prefix rest first end
  pub rightly : SettledAreSound t e → all_restore_rightly t start prefix ≡ true

rightly-push : (t : Trace) (s : SectionState) (xs : List (ℕ × Step)) (x : ℕ × Step) → all_restore_rightly t s xs ≡ true
    → restores_rightly t (state_after s xs) x.1 ≡ true
    → all_restore_rightly t s (xs ++ x ∷ []) ≡ true
rightly-push t s [] x all own = and_from (restores_rightly t s x.1) true own refl
rightly-push t s (y ∷ xs) x all own =
    let parts = and_parts (restores_rightly t s y.1) (all_restore_rightly t (next s y) xs) all in
    and_from (restores_rightly t s y.1) (all_restore_rightly t (next s y) (xs ++ x ∷ [])) parts.0
    (rightly-push t (next s y) xs x parts.1 own)

-- a step that was met, and the steps after it
abbrev pub ComesNext : step_read.Step → List (ℕ × Step) → List (ℕ × Step) → Type 0
ComesNext s steps rest = (step : ℕ × Step) × (steps ≡ step ∷ rest) × IsStep s step

pub come_first : (t : Trace) (e : ℕ) → HasCome t e [] (steps_at t e) 0 0
come_first t e = record { split = refl; came = refl; fewer = omega arith; pending = refl }

pub judged_start : (t : Trace) (e : ℕ) → HasJudged t e (steps_at t e) 0 0
judged_start t e = record { prefix = []; come = come_first t e; rightly = λ _. refl }

module _ (t : Trace) (e : ℕ) (prefix : List (ℕ × Step)) (step : ℕ × Step) (rest : List (ℕ × Step)) (first end : ℕ)
    (come : HasCome t e prefix (step ∷ rest) first end) where
  one_more : steps_at t e ≡ (prefix ++ step ∷ []) ++ rest
  one_more = come.split ∙ sym (append_assoc prefix (step ∷ []) rest)

  pub state_next : state_after start (prefix ++ step ∷ []) ≡ next (state_after start prefix) step
  state_next = state_after-append start prefix (step ∷ [])

-- ---- an attempt

module _ (t : Trace) (e at : ℕ) (a : Attempt) (prefix rest : List (ℕ × Step)) (first end : ℕ)
    (come : HasCome t e prefix ((at, Attempts a) ∷ rest) first end) where
  pub come_attempt : HasCome t e (prefix ++ (at, Attempts a) ∷ []) rest first (end + 1)
  come_attempt =
      let s = state_after start prefix in
      let placed : Placed = record { offset = at; attempt = a; path = path_of s } in
      let few : first ≤ end = come.fewer in
      let came : length (attempts_among prefix) ≡ end = come.came in
      let more = attempts_among-append prefix ((at, Attempts a) ∷ []) in
      record {
        split = one_more t e prefix (at, Attempts a) rest first end come;
        came = ap length more ∙ length-append (attempts_among prefix) ((at, a) ∷ []) ∙ ap (λ (n : ℕ). n + 1) came;
        fewer = omega arith;
        pending = ap (λ (o : SectionState). map placed_at o.pending)
            (state_next t e prefix (at, Attempts a) rest first end come) ∙ map-append placed_at s.pending (placed ∷ [])
            ∙ ap (λ (xs : List (ℕ × Attempt)). xs ++ (at, a) ∷ []) come.pending
            ∙ sym (drop-append-le first (attempts_among prefix) ((at, a) ∷ []) (omega arith))
            ∙ ap (drop first) (sym more);
      }

  pub attempt_there : end < length (attempts_among (steps_at t e))
  attempt_there =
      let long = ap length (ap attempts_among come.split
      ∙ attempts_among-append prefix ((at, Attempts a) ∷ rest))
      ∙ length-append (attempts_among prefix) ((at, a) ∷ attempts_among rest) in
      let came : length (attempts_among prefix) ≡ end = come.came in
      omega arith

-- an attempt that was met
pub attempt_located : (K : Type 0) (H : List (ℕ × Step) → Type 0) (steps rest : List (ℕ × Step)) (s : step_read.Step)
    (v : AttemptView) (xs : List (ℕ × Access)) → ComesNext s steps rest → s ≡ of.Attempt v xs
    → ((at : ℕ) (a : Attempt) → H ((at, Attempts a) ∷ rest) → K) → H steps → K
attempt_located K H steps rest s v xs comes is then held =
    by comes.0 (subst (λ o. IsStep o comes.0) is comes.2) (subst H comes.1 held)
  where
    by : (step : ℕ × Step) → IsStep (of.Attempt v xs) step → H (step ∷ rest) → K
    by (at, Attempts a) own here = then at a here
    by (at, Commits c) own here = absurd own
    by (at, RollsBack r) own here = absurd own
    by (at, Transfers x) own here = absurd own

pub on_attempt : (t : Trace) (e : ℕ) (steps rest : List (ℕ × Step)) (first end : ℕ) (s : step_read.Step)
    (v : AttemptView)
    (xs : List (ℕ × Access)) → ComesNext s steps rest → s ≡ of.Attempt v xs
    → HasJudged t e steps first end → HasJudged t e rest first (end + 1)
    × (end < length (attempts_among (steps_at t e)))
on_attempt t e steps rest first end s v xs comes is judged =
    attempt_located (HasJudged t e rest first (end + 1) × (end < length (attempts_among (steps_at t e))))
    (λ ys. HasJudged t e ys first end) steps rest s v xs comes is
    (λ at a here. (
      record {
        prefix = here.prefix ++ (at, Attempts a) ∷ [];
        come = come_attempt t e at a here.prefix rest first end here.come;
        rightly = λ sound. rightly-push t start here.prefix (at, Attempts a) (here.rightly sound) refl;
      },
      attempt_there t e at a here.prefix rest first end here.come,
    )) judged

-- ---- a commit

right_there : (t : Trace) (s : SectionState) (prefix : List (ℕ × Step)) (step : ℕ × Step) (rest : List (ℕ × Step))
    → IsTrue (are_right t s (prefix ++ step ∷ rest)) → IsTrue (is_right t (state_after s prefix) step.1)
right_there t s [] step rest right = (and_parts (is_right t s step.1) (are_right t (next s step) rest) right).0
right_there t s (x ∷ prefix) step rest right = right_there t (next s x) prefix step rest
    (and_parts (is_right t s x.1) (are_right t (next s x) (prefix ++ step ∷ rest)) right).1

module _ (t : Trace) (e at : ℕ) (c : Commit) (prefix rest : List (ℕ × Step)) (first end : ℕ)
    (right : IsRightSection t e) (come : HasCome t e prefix ((at, Commits c) ∷ rest) first end) where
  pub come_commit : HasCome t e (prefix ++ (at, Commits c) ∷ []) rest (first + 1) end × (first < end)
  come_commit =
      let s = state_after start prefix in
      let own : IsTrue (is_right_commit s c) = right_there t start prefix (at, Commits c) rest
      (subst (λ (xs : List (ℕ × Step)). IsTrue (are_right t start xs)) come.split right) in
      by s.pending refl (and_parts (c.seq == s.last + 1) (commits_first s.pending c) own).1
    where
      by : (pending : List Placed) → (state_after start prefix).pending ≡ pending → commits_first pending c ≡ true
          → HasCome t e (prefix ++ (at, Commits c) ∷ []) rest (first + 1) end × (first < end)
      by [] is ok = absurd (false≢true ok)
      by (p ∷ ps) is ok =
          let s = state_after start prefix in
          let items = attempts_among prefix in
          let open_is : placed_at p ∷ map placed_at ps ≡ drop first items = ap (map placed_at) (sym is)
          ∙ come.pending in
          let count : suc (length (map placed_at ps)) ≡ length items - first = ap length open_is
          ∙ length-drop first items in
          let came : length items ≡ end = come.came in
          let more : attempts_among (prefix ++ (at, Commits c) ∷ []) ≡ items =
          attempts_among-append prefix ((at, Commits c) ∷ []) ∙ append-nil items in (
            record {
              split = one_more t e prefix (at, Commits c) rest first end come;
              came = ap length more ∙ came;
              fewer = omega arith;
              pending = ap (λ (o : SectionState). map placed_at o.pending)
                  (state_next t e prefix (at, Commits c) rest first end come ∙ ap (committing s) is)
                  ∙ ap (drop 1) open_is ∙ drop-drop 1 first items ∙ ap (drop (first + 1)) (sym more);
            },
            omega arith,
          )

-- a commit that was met
pub commit_located : (K : Type 0) (H : List (ℕ × Step) → Type 0) (steps rest : List (ℕ × Step)) (s : step_read.Step)
    (v : CommitView) → ComesNext s steps rest → s ≡ of.Commit v
    → ((at : ℕ) (c : Commit) → H ((at, Commits c) ∷ rest) → K) → H steps → K
commit_located K H steps rest s v comes is then held =
    by comes.0 (subst (λ o. IsStep o comes.0) is comes.2) (subst H comes.1 held)
  where
    by : (step : ℕ × Step) → IsStep (of.Commit v) step → H (step ∷ rest) → K
    by (at, Attempts a) own here = absurd own
    by (at, Commits c) own here = then at c here
    by (at, RollsBack r) own here = absurd own
    by (at, Transfers x) own here = absurd own

pub on_commit : (t : Trace) (e : ℕ) (steps rest : List (ℕ × Step)) (first end : ℕ) (s : step_read.Step) (v : CommitView)
    → IsRightSection t e → ComesNext s steps rest → s ≡ of.Commit v
    → HasJudged t e steps first end → HasJudged t e rest (first + 1) end × (first < end)
on_commit t e steps rest first end s v right comes is judged =
    commit_located (HasJudged t e rest (first + 1) end × (first < end)) (λ ys. HasJudged t e ys first end) steps rest s
    v
    comes is
    (λ at c here.
    let come = come_commit t e at c here.prefix rest first end right here.come in (
      record {
        prefix = here.prefix ++ (at, Commits c) ∷ [];
        come = come.0;
        rightly = λ sound. rightly-push t start here.prefix (at, Commits c) (here.rightly sound) refl;
      },
      come.1,
    )) judged

-- ---- a state that is transferred

-- it leaves no attempt open
pub come_transfer : (t : Trace) (e at : ℕ) (x : Transfer) (prefix rest : List (ℕ × Step)) (first end : ℕ)
    → HasCome t e prefix ((at, Transfers x) ∷ rest) first end
    → HasCome t e (prefix ++ (at, Transfers x) ∷ []) rest end end
come_transfer t e at x prefix rest first end come =
    let more : attempts_among (prefix ++ (at, Transfers x) ∷ []) ≡ attempts_among prefix =
    attempts_among-append prefix ((at, Transfers x) ∷ []) ∙ append-nil (attempts_among prefix) in
    record {
      split = one_more t e prefix (at, Transfers x) rest first end come;
      came = ap length more ∙ come.came;
      fewer = omega arith;
      pending = ap (λ (o : SectionState). map placed_at o.pending)
          (state_next t e prefix (at, Transfers x) rest first end come)
          ∙ sym (ap (drop end) more
          ∙ drop_all end (attempts_among prefix) (let came : length (attempts_among prefix)
          ≡ end = come.came in omega arith));
    }

-- a state that was met
pub transfer_located : (K : Type 0) (H : List (ℕ × Step) → Type 0) (steps rest : List (ℕ × Step)) (s : step_read.Step)
    (v : TransferView) → ComesNext s steps rest → s ≡ of.Transfer v
    → ((at : ℕ) (x : Transfer) → H ((at, Transfers x) ∷ rest) → K) → H steps → K
transfer_located K H steps rest s v comes is then held =
    by comes.0 (subst (λ o. IsStep o comes.0) is comes.2) (subst H comes.1 held)
  where
    by : (step : ℕ × Step) → IsStep (of.Transfer v) step → H (step ∷ rest) → K
    by (at, Attempts a) own here = absurd own
    by (at, Commits c) own here = absurd own
    by (at, RollsBack r) own here = absurd own
    by (at, Transfers x) own here = then at x here

pub on_transfer : (t : Trace) (e : ℕ) (steps rest : List (ℕ × Step)) (first end : ℕ) (s : step_read.Step)
    (v : TransferView)
    → ComesNext s steps rest → s ≡ of.Transfer v → HasJudged t e steps first end → HasJudged t e rest end end
on_transfer t e steps rest first end s v comes is judged =
    transfer_located (HasJudged t e rest end end) (λ ys. HasJudged t e ys first end) steps rest s v comes is
    (λ at x here. record {
      prefix = here.prefix ++ (at, Transfers x) ∷ [];
      come = come_transfer t e at x here.prefix rest first end here.come;
      rightly = λ sound. rightly-push t start here.prefix (at, Transfers x) (here.rightly sound) refl;
    }) judged

-- ---- a rollback

abbrev pub rolled : RollbackView → ℕ × Step
rolled v = (v.offset, RollsBack (rollback_in v.bytes.now))

-- a rollback that was met
pub rollback_located : (H : List (ℕ × Step) → Type 0) (steps rest : List (ℕ × Step)) (s : step_read.Step)
    (v : RollbackView)
    → ComesNext s steps rest → s ≡ of.Rollback v → H steps → H (rolled v ∷ rest)
rollback_located H steps rest s v comes is held =
    by comes.0 (subst (λ o. IsStep o comes.0) is comes.2) (subst H comes.1 held)
  where
    by : (step : ℕ × Step) → IsStep (of.Rollback v) step → H (step ∷ rest) → H (rolled v ∷ rest)
    by (at, Attempts a) own here = absurd own
    by (at, Commits c) own here = absurd own
    by (at, RollsBack r) own here =
        subst (λ (o : ℕ). H ((o, RollsBack (rollback_in v.bytes.now)) ∷ rest)) (sym own.0)
        (subst (λ (q : Rollback). H ((at, RollsBack q) ∷ rest)) (sym own.1) here)
    by (at, Transfers x) own here = absurd own

pub on_rollback : (t : Trace) (e : ℕ) (steps rest : List (ℕ × Step)) (first end : ℕ) (s : step_read.Step)
    (v : RollbackView)
    → ComesNext s steps rest → s ≡ of.Rollback v
    → HasJudged t e steps first end → HasJudged t e (rolled v ∷ rest) first end
on_rollback t e steps rest first end s v comes is judged =
    rollback_located (λ ys. HasJudged t e ys first end) steps rest s v comes is judged

-- the last of a list's prefix
part : {A : Type 0} (xs ys : List A) (first n : ℕ) → first ≤ length xs → n ≡ length xs - first
    → take n (drop first (xs ++ ys)) ≡ drop first xs
part {A = A} xs ys first n le e =
    ap (take n) (drop-append-le first xs ys le) ∙ prefix (drop first xs) n (e ∙ sym (length-drop first xs))
  where
    prefix : (zs : List A) (m : ℕ) → m ≡ length zs → take m (zs ++ ys) ≡ zs
    prefix [] zero e = refl
    prefix [] (suc m) e = absurd (omega arith)
    prefix (z ∷ zs) zero e = absurd (omega arith)
    prefix (z ∷ zs) (suc m) e = ap (λ (ws : List A). z ∷ ws) (prefix zs m (omega arith))

each_step : (P : ℕ × Step → Bool) (prefix : List (ℕ × Step)) (step : ℕ × Step) (rest : List (ℕ × Step))
    → IsTrue (list_all P (prefix ++ step ∷ rest)) → IsTrue (P step)
each_step P [] step rest all = (and_parts (P step) (list_all P rest) all).0
each_step P (x ∷ prefix) step rest all =
    each_step P prefix step rest (and_parts (P x) (list_all P (prefix ++ step ∷ rest)) all).1

module _ (t : Trace) (e at : ℕ) (r : Rollback) (prefix rest : List (ℕ × Step)) (first end : ℕ)
    (come : HasCome t e prefix ((at, RollsBack r) ∷ rest) first end) where
  abbrev pub executed_attempts : List ExecutedAttempt
  executed_attempts = map executed_attempt (attempts_among (steps_at t e))

  -- the open attempts are those from one number up to the other
  pub noted_open : HasLimits t → IsRightSection t e → noted_between executed_attempts first end
      ≡ open_entries t (state_after start prefix)
  noted_open limits right =
      let items = attempts_among prefix in
      let came : length items ≡ end = come.came in
      let few : first ≤ end = come.fewer in
      let along : List ExecutedAttempt → List Entry = flat_map (λ (q : ExecutedAttempt). entries_along q.ordered) in
      let all : executed_attempts ≡ map executed_attempt items ++ map executed_attempt (attempts_among rest) =
      ap (map executed_attempt)
      (ap attempts_among come.split ∙ attempts_among-append prefix ((at, RollsBack r) ∷ rest))
      ∙ map-append executed_attempt items (attempts_among rest) in
      let same : length (map executed_attempt items) ≡ length items = length-map items executed_attempt in
      ap (λ (qs : List ExecutedAttempt). along (take (end - first) (drop first qs))) all
      ∙ ap along (part (map executed_attempt items) (map executed_attempt (attempts_among rest)) first (end - first)
      (omega arith) (omega arith))
      ∙ ap along (drop-map executed_attempt first items ∙ ap (map executed_attempt) (sym come.pending))
      ∙ open_noted t e prefix at r rest come.split limits right

  pub marked_open : HasLimits t → IsRightSection t e → SettledAreSound t e
      → marked unmarked (noted_between executed_attempts first end)
      ≡ written_in (committed_rows t (state_after start prefix)) (noted_between executed_attempts first end)
  marked_open limits right sound =
      let s = state_after start prefix in
      subst (λ (es : List Entry). marked unmarked es ≡ written_in (committed_rows t s) es)
      (sym (noted_open limits right))
      (first_writes (committed_rows t s) (executions t (attempts_of s.pending))
      (follows_committed t e prefix at r rest come.split sound))

  -- what was found of it is whether it is right
  pub found_is : (result : Bool) → HasLimits t → IsRightSection t e → SettledAreSound t e
      → ((table : Table) → marked unmarked (noted_between executed_attempts first end)
      ≡ written_in table (noted_between executed_attempts first end)
      → result ≡ are_written_in table (noted_between executed_attempts first end) r.restores)
      → result ≡ are_right_restores t (state_after start prefix) r.restores
  found_is result limits right sound found =
      let s = state_after start prefix in
      found (committed_rows t s) (marked_open limits right sound)
      ∙ ap (λ (es : List Entry). are_written_in (committed_rows t s) es r.restores) (noted_open limits right)

  pub all_there : end ≤ length executed_attempts
  all_there =
      let long = ap length (ap attempts_among come.split
      ∙ attempts_among-append prefix ((at, RollsBack r) ∷ rest))
      ∙ length-append (attempts_among prefix) (attempts_among rest) in
      let came : length (attempts_among prefix) ≡ end = come.came in
      omega (arith, length-map (attempts_among (steps_at t e)) executed_attempt)

  -- it leaves no attempt open
  pub come_rollback : HasCome t e (prefix ++ (at, RollsBack r) ∷ []) rest end end
  come_rollback =
      let more : attempts_among (prefix ++ (at, RollsBack r) ∷ []) ≡ attempts_among prefix =
      attempts_among-append prefix ((at, RollsBack r) ∷ []) ∙ append-nil (attempts_among prefix) in
      record {
        split = one_more t e prefix (at, RollsBack r) rest first end come;
        came = ap length more ∙ come.came;
        fewer = omega arith;
        pending = ap (λ (o : SectionState). map placed_at o.pending)
            (state_next t e prefix (at, RollsBack r) rest first end come)
            ∙ sym (ap (drop end) more
            ∙ drop_all end (attempts_among prefix) (let came : length (attempts_among prefix)
            ≡ end = come.came in omega arith));
      }

  -- its restores are within the limits
  pub restores_fit : HasLimits t → IsTrue (list_all (is_restore (2 * length t.customers)) r.restores)
      × IsTrue (is_rising r.restores)
  restores_fit limits =
      let fits : IsTrue (is_rollback (row_count (head_of t)) r) =
      each_step (λ x. is_step (row_count (head_of t)) x.1) prefix (at, RollsBack r) rest
      (subst (λ (xs : List (ℕ × Step)). IsTrue (list_all (λ x. is_step (row_count (head_of t)) x.1) xs)) come.split
      (come_start t e limits).fit) in
      let one = and_parts (is_number 4 r.to) _ fits in
      let two = and_parts (is_number 4 r.view)
      (is_rising r.restores && list_all (is_restore (row_count (head_of t))) r.restores) one.1 in
      let three = and_parts (is_rising r.restores) (list_all (is_restore (row_count (head_of t))) r.restores) two.1 in
      (three.1, three.0)

pub judged_rollback : (t : Trace) (e at : ℕ) (r : Rollback) (rest : List (ℕ × Step)) (first end : ℕ)
    (judged : HasJudged t e ((at, RollsBack r) ∷ rest) first end)
    → (SettledAreSound t e → are_right_restores t (state_after start judged.prefix) r.restores ≡ true)
    → HasJudged t e rest end end
judged_rollback t e at r rest first end judged right = record {
  prefix = judged.prefix ++ (at, RollsBack r) ∷ [];
  come = come_rollback t e at r judged.prefix rest first end judged.come;
  rightly = λ sound. rightly-push t start judged.prefix (at, RollsBack r) (judged.rightly sound) (right sound);
}

-- ---- faults

abbrev pub IsWrong : Trace → SectionState → List (ℕ × Step) → ℕ × Step → Type 0
IsWrong t s before step = OfRollback step.1 (λ r. IsFalse (are_right_restores t (state_after s before) r.restores))

-- none is wrong among steps that restore rightly
none_wrong : (t : Trace) (s : SectionState) (steps : List (ℕ × Step)) → all_restore_rightly t s steps ≡ true
    → SomePlace steps (IsWrong t s) → ⊥
none_wrong t s [] rightly place = no_place _ place
none_wrong t s (x ∷ steps) rightly place =
    let parts = and_parts (restores_rightly t s x.1) (all_restore_rightly t (next s x) steps) rightly in
    elim (place_cases (IsWrong t s) x steps place) [
      | inl here ↦ own x.1 parts.0 here
      | inr there ↦ none_wrong t (next s x) steps parts.1 there
    ]
  where
    own : (step : Step) → restores_rightly t s step ≡ true
        → OfRollback step (λ r. IsFalse (are_right_restores t s r.restores)) → ⊥
    own (Attempts a) right wrong = wrong
    own (Commits c) right wrong = wrong
    own (RollsBack r) right wrong = false≢true (sym wrong ∙ right)
    own (Transfers y) right wrong = wrong

pub faultless : (t : Trace) (e : ℕ) → RestoresAreRight t e → (f : Fault) → ¬ IsFaultIn StandsInRestores t e f
faultless t e right f is = by f.code is.stands
  where
    by : (c : Code) → StandsInRestores c t e f.offset → ⊥
    by code.Restore stands = none_wrong t start (steps_at t e) right
        (weaker_place _ (IsWrong t start) (steps_at t e) (λ b y h. h.1) stands)
    by _ stands = absurd stands

steps_rising : (t : Trace) (e : ℕ) → Rising (section_start t e + length (frame_text (OfReplica e))) (steps_at t e)
unfolding steps_at
steps_rising t e = located_rising step_text (section_start t e + length (frame_text (OfReplica e))) (steps_of t e)

pub wrong_is_least : (t : Trace) (e at : ℕ) (r : Rollback) (rest : List (ℕ × Step)) (first end : ℕ)
    (judged : HasJudged t e ((at, RollsBack r) ∷ rest) first end)
    → SettledAreSound t e → are_right_restores t (state_after start judged.prefix) r.restores ≡ false
    → IsLeast (IsFaultIn StandsInRestores t e) (record { code = code.Restore; offset = at; replica = Some e })
wrong_is_least t e at r rest first end judged sound wrong = record {
  is = record {
    stands = record {
      before = judged.prefix;
      item = (at, RollsBack r);
      rest = rest;
      is = judged.come.split;
      holds = (refl, wrong);
    };
    inside = refl;
  };
  least = λ g other. by g g.code refl other.stands;
}
  where
    lesser : (m n : ℕ) → m ≤ n → (m < n) ⊎ (m ≡ n)
    lesser m n le = elim (cases_lt m n) [ inl lt ↦ inl lt | inr ge ↦ inr (omega arith) ]

    by : (g : Fault) (c : Code) → g.code ≡ c → StandsInRestores c t e g.offset
        → IsUpTo (record { code = code.Restore; offset = at; replica = Some e }) g
    by g code.Restore is stands =
        let low = section_start t e + length (frame_text (OfReplica e)) in
        let le : at ≤ g.offset =
        first_place (IsWrong t start) low g.offset judged.prefix (at, RollsBack r) rest
        (subst (Rising low) judged.come.split (steps_rising t e))
        (none_wrong t start judged.prefix (judged.rightly sound))
        (subst (λ (xs : List (ℕ × Step)). SomePlace xs (At g.offset (IsWrong t start))) judged.come.split stands) in
        let same : code_number code.Restore ≤ code_number g.code =
        subst (λ (d : Code). code_number code.Restore ≤ code_number d) (sym is) (omega arith) in
        elim (lesser at g.offset le) [ inl lt ↦ inl lt | inr eq ↦ inr (eq, same) ]
    by g _ is stands = absurd stands

pub judged_end : (t : Trace) (e first end : ℕ) → HasJudged t e [] first end → SettledAreSound t e → RestoresAreRight t e
judged_end t e first end judged sound = subst (λ (xs : List (ℕ × Step)). all_restore_rightly t start xs ≡ true)
    (sym (judged.come.split ∙ append-nil judged.prefix)) (judged.rightly sound)

-- ---- where there is no rollback

none_rolled : (t : Trace) (s : SectionState) (steps : List (ℕ × Step)) → length (rollbacks_among steps) ≡ 0
    → all_restore_rightly t s steps ≡ true
none_rolled t s [] none = refl
none_rolled t s ((at, Attempts a) ∷ steps) none = none_rolled t (next s (at, Attempts a)) steps none
none_rolled t s ((at, Commits c) ∷ steps) none = none_rolled t (next s (at, Commits c)) steps none
none_rolled t s ((at, RollsBack r) ∷ steps) none = absurd (omega arith)
none_rolled t s ((at, Transfers x) ∷ steps) none = none_rolled t (next s (at, Transfers x)) steps none

pub right_without : (t : Trace) (e : ℕ) → length (section_history t e).rollbacks ≡ 0 → RestoresAreRight t e
unfolding section_history
right_without t e none = none_rolled t start (steps_at t e) none

-- where there is one the section is there
pub section_there : (t : Trace) (e : ℕ) → (length (section_history t e).rollbacks ≡ 0 → ⊥) → e < length t.sections
unfolding section_history
section_there t e some = elim (cases_lt e (length t.sections)) [
  | inl lt ↦ lt
  | inr ge ↦ absurd (some (ap (λ (xs : List (ℕ × Step)). length (rollbacks_among xs)) (none_at t e ge)))
]

pub told_attempts : (t : Trace) (e : ℕ) → (section_history t e).attempts
    ≡ map executed_attempt (attempts_among (steps_at t e))
unfolding section_history
told_attempts t e = refl

-- ---- within the limits

executed_within : (rows : ℕ) (xs : List (ℕ × Attempt)) → AllByRecursion (IsWithin rows) xs
    → AllByRecursion (λ r. AreWithin rows r.ordered) (map executed_attempt xs)
executed_within rows [] all = tt
executed_within rows (x ∷ xs) all = (all.0.within, executed_within rows xs all.1)

pub attempts_within : (t : Trace) (e : ℕ) → HasLimits t
    → AllByRecursion (λ r. AreWithin (2 * length t.customers) r.ordered)
    (map executed_attempt (attempts_among (steps_at t e)))
attempts_within t e limits =
    executed_within (row_count (head_of t)) (attempts_among (steps_at t e)) (within_section t e limits)

-- ---- what is told

module _ (t : Trace) (h : SectionHistory) (told : h ≡ section_history t h.replica) where
  pub right_told : length h.rollbacks ≡ 0 → RestoresAreRight t h.replica
  right_told none = right_without t h.replica (ap (λ (x : SectionHistory). length x.rollbacks) (sym told) ∙ none)

  pub section_told : (length h.rollbacks ≡ 0 → ⊥) → h.replica < length t.sections
  section_told some = section_there t h.replica
      (λ none. some (ap (λ (x : SectionHistory). length x.rollbacks) told ∙ none))

  pub attempts_told : h.attempts ≡ map executed_attempt (attempts_among (steps_at t h.replica))
  attempts_told = ap (λ (x : SectionHistory). x.attempts) told ∙ told_attempts t h.replica

  pub within_told : (rows : ℕ) → HasLimits t → rows ≡ 2 * length t.customers
      → AllByRecursion (λ r. AreWithin rows r.ordered) h.attempts
  within_told rows limits many =
      subst (λ (n : ℕ). AllByRecursion (λ r. AreWithin n r.ordered) h.attempts) (sym many)
      (subst (λ (rs : List ExecutedAttempt). AllByRecursion (λ r. AreWithin (2 * length t.customers) r.ordered) rs)
      (sym attempts_told) (attempts_within t h.replica limits))

  pub attempt_told : (end : ℕ) → end < length (attempts_among (steps_at t h.replica)) → end < length h.attempts
  attempt_told end lt = subst (λ (n : ℕ). end < n)
      (sym (ap length attempts_told ∙ length-map (attempts_among (steps_at t h.replica)) executed_attempt)) lt

  -- a rollback of the section
  module _ (at : ℕ) (r : Rollback) (prefix rest : List (ℕ × Step)) (first end : ℕ)
      (come : HasCome t h.replica prefix ((at, RollsBack r) ∷ rest) first end) where
    pub there_told : end ≤ length h.attempts
    there_told = subst (λ (rs : List ExecutedAttempt). end ≤ length rs) (sym attempts_told)
        (all_there t h.replica at r prefix rest first end come)

    pub found_told : (result : Bool) → HasLimits t → IsRightSection t h.replica → SettledAreSound t h.replica
        → ((table : Table) → marked unmarked (noted_between h.attempts first end)
        ≡ written_in table (noted_between h.attempts first end)
        → result ≡ are_written_in table (noted_between h.attempts first end) r.restores)
        → result ≡ are_right_restores t (state_after start prefix) r.restores
    found_told result limits right sound found =
        found_is t h.replica at r prefix rest first end come result limits right sound
        (subst (λ (rs : List ExecutedAttempt). (table : Table) → marked unmarked (noted_between rs first end)
        ≡ written_in table (noted_between rs first end)
        → result ≡ are_written_in table (noted_between rs first end) r.restores) attempts_told found)
