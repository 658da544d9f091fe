-- A section, step after step.
use Rattle.std.proofs.Common.{◌≡◌, ℕ, ◌+◌, ◌-◌, ◌<◌, true, false, Vec, List, [], ◌∷◌, ◌++◌, map, length}
use Rattle.std.proofs.Common.{take, replicate, Some, None, refl, sym, ap, subst, ◌∙◌, append_assoc, arith}
use Rattle.std.specs.declared.alloc.Global.{Global}
use Rattle.std.specs.List.{AllByRecursion, take-map}
use Rattle.std.proofs.lemmas.List.Sums.{fold-append}
use Rattle.std.proofs.lemmas.List.{map-append, length-map, length-append, append-nil}
use Rattle.eve_grammar.specs.Trace.{Access, Attempt, Commit, Rollback, Transfer, Step, Attempts, Commits, RollsBack}
use Rattle.eve_grammar.specs.Trace.{Transfers}
use Rattle.eve_grammar.specs.Frames.{without_accesses}
use Rattle.eve_grammar.specs.Spelling.{accesses_at}
use Rattle.eve_grammar.proofs.Lists.{all-push}
use Rattle.eve_frames.specs.Decoded.{attempt_decoded, rollback_decoded, transfer_decoded}
use Rattle.eve_frames.specs.declared.attempt.AttemptView.{AttemptView}
use Rattle.eve_frames.specs.declared.commit.CommitView.{CommitView}
use Rattle.eve_frames.specs.declared.rollback.RollbackView.{RollbackView}
use Rattle.eve_frames.specs.declared.transfer.TransferView.{TransferView}
use Rattle.eve_views.specs.StepKinds.{IsStep}
use Rattle.eve_views.specs.declared.steps.Step.TheVariants as of
use Rattle.eve_history.specs.Section.{Placed, HowReached, ByAttempt, ByTransfer, Skipped, SectionState, next}
use Rattle.eve_history.specs.Section.{committing, path_of}
use Rattle.eve_history.specs.SectionHistory.{placed_at}
use Rattle.eve_history.specs.Structure.{accesses_of}
use Rattle.eve_history.proofs.StructureLaws.{accesses_of-at}
use Rattle.eve_evidence.specs.declared.course.Course.{Course}
use Rattle.eve_evidence.specs.declared.course.OnPath.{OnPath}
use Rattle.eve_evidence.specs.Course.{placed_on, IsOnPath, standing, IsCourse, later_state, last_state}
use Rattle.eve_evidence.specs.Course.{state_number, with_reached, attempts_behind}
use Rattle.eve_evidence.proofs.Lists.{all-take}

-- an attempt that was met, with its access records
pub attempt_whole : (at : ℕ) (decoded a : Attempt) (xs : List (ℕ × Access)) → decoded ≡ without_accesses a
    → xs ≡ accesses_at at a → record decoded { accesses = accesses_of xs } ≡ a
attempt_whole at decoded a xs is accesses =
    ap (λ (b : Attempt). record b { accesses = accesses_of xs }) is
    ∙ ap (λ (ys : List (ℕ × Access)). record a { accesses = accesses_of ys }) accesses
    ∙ ap (λ (ys : List Access). record a { accesses = ys }) (accesses_of-at at a)

pub standing_count : (s : SectionState) → length (standing s) ≡ length (attempts_behind s.ways_reached)
    + length s.pending
standing_count s = length-map (attempts_behind s.ways_reached ++ s.pending) placed_at
    ∙ length-append (attempts_behind s.ways_reached) s.pending

pub path_count : (s : SectionState) (c : Course) → IsCourse s c → length c.path.items
    ≡ length (attempts_behind s.ways_reached) + length s.pending
path_count s c is = sym (length-map c.path.items placed_on) ∙ ap length is.path ∙ standing_count s

take-append-here : {A : Type 0} (xs ys : List A) → take (length xs) (xs ++ ys) ≡ xs
take-append-here [] ys = refl
take-append-here (x ∷ xs) ys = ap (λ zs. x ∷ zs) (take-append-here xs ys)

-- ---- a step that was met

-- what holds of an attempt as its frames say it holds of the step
pub on_attempt : (attempt : AttemptView) (xs : List (ℕ × Access)) (step : ℕ × Step) (P : ℕ × Step → Type 0)
    → IsStep (of.Attempt attempt xs) step
    → ((a : Attempt) → attempt_decoded attempt ≡ without_accesses a → xs ≡ accesses_at attempt.offset a
    → P (attempt.offset, Attempts a)) → P step
on_attempt attempt xs (at, Attempts a) P stands holds =
    subst (λ (n : ℕ). P (n, Attempts a)) stands.0
    (holds a stands.1 (stands.2 ∙ ap (λ (n : ℕ). accesses_at n a) (sym stands.0)))
on_attempt attempt xs (at, Commits d) P stands holds = elim stands [ ]
on_attempt attempt xs (at, RollsBack r) P stands holds = elim stands [ ]
on_attempt attempt xs (at, Transfers x) P stands holds = elim stands [ ]

pub on_commit : (commit : CommitView) (step : ℕ × Step) (P : ℕ × Step → Type 0) → IsStep (of.Commit commit) step
    → ((at : ℕ) (d : Commit) → P (at, Commits d)) → P step
on_commit commit (at, Commits d) P stands holds = holds at d
on_commit commit (at, Attempts a) P stands holds = elim stands [ ]
on_commit commit (at, RollsBack r) P stands holds = elim stands [ ]
on_commit commit (at, Transfers x) P stands holds = elim stands [ ]

pub on_rollback : (rollback : RollbackView) (step : ℕ × Step) (P : ℕ × Step → Type 0)
    → IsStep (of.Rollback rollback) step → P (rollback.offset, RollsBack (rollback_decoded rollback)) → P step
on_rollback rollback (at, RollsBack r) P stands holds =
    subst (λ (n : ℕ). P (n, RollsBack r)) stands.0
    (subst (λ (q : Rollback). P (rollback.offset, RollsBack q)) stands.1 holds)
on_rollback rollback (at, Attempts a) P stands holds = elim stands [ ]
on_rollback rollback (at, Commits d) P stands holds = elim stands [ ]
on_rollback rollback (at, Transfers x) P stands holds = elim stands [ ]

pub on_state : (state : TransferView) (step : ℕ × Step) (P : ℕ × Step → Type 0) → IsStep (of.Transfer state) step
    → P (state.offset, Transfers (transfer_decoded state)) → P step
on_state state (at, Transfers x) P stands holds =
    subst (λ (n : ℕ). P (n, Transfers x)) stands.0
    (subst (λ (y : Transfer). P (state.offset, Transfers y)) stands.1 holds)
on_state state (at, Attempts a) P stands holds = elim stands [ ]
on_state state (at, Commits d) P stands holds = elim stands [ ]
on_state state (at, RollsBack r) P stands holds = elim stands [ ]

-- ---- one step more

-- an attempt comes
pub attempt_comes : (s : SectionState) (c : Course) (step : ℕ × Step) (attempt : AttemptView) (xs : List (ℕ × Access))
    (path : Vec OnPath Global) → IsCourse s c → IsStep (of.Attempt attempt xs) step
    → path.items ≡ c.path.items ++ record { attempt = attempt; accesses = xs } ∷ []
    → IsCourse (next s step) (record c { rolled_back = false; path = path })
attempt_comes s c (at, Attempts a) attempt xs path is stands more =
    let new : OnPath = record { attempt = attempt; accesses = xs } in
    let whole : placed_on new ≡ (at, a) =
    λ i. (stands.0 i, attempt_whole at (attempt_decoded attempt) a xs stands.1 stands.2 i) in
    let p : Placed = record { offset = at; attempt = a; path = path_of s } in
    record {
      view = is.view;
      rolled_back = refl;
      transferred = is.transferred;
      committed = is.committed;
      last = is.last;
      path = ap (map placed_on) more ∙ map-append placed_on c.path.items (new ∷ [])
          ∙ ap (λ (ys : List (ℕ × Attempt)). ys ++ placed_on new ∷ []) is.path
          ∙ ap (λ (y : ℕ × Attempt). standing s ++ y ∷ []) whole
          ∙ sym (map-append placed_at (attempts_behind s.ways_reached ++ s.pending) (p ∷ []))
          ∙ ap (map placed_at) (append_assoc (attempts_behind s.ways_reached) s.pending (p ∷ []));
      framed = subst (AllByRecursion IsOnPath) (sym more)
          (all-push IsOnPath c.path.items new is.framed
          (stands.2 ∙ ap (λ (y : ℕ × Attempt). accesses_at y.0 y.1) (sym whole)));
    }
attempt_comes s c (at, Commits d) attempt xs path is stands more = elim stands [ ]
attempt_comes s c (at, RollsBack r) attempt xs path is stands more = elim stands [ ]
attempt_comes s c (at, Transfers x) attempt xs path is stands more = elim stands [ ]

-- a commit comes, where an attempt is open
one_committed : (s : SectionState) (c : Course) (p : Placed) (ps : List Placed) → IsCourse s c → s.pending ≡ p ∷ ps
    → IsCourse (committing s (p ∷ ps)) (record c { committed = c.committed + 1 })
one_committed s c p ps is first =
    let push : attempts_behind (s.ways_reached ++ ByAttempt p ∷ []) ≡ attempts_behind s.ways_reached ++ p ∷ [] =
    fold-append with_reached [] s.ways_reached (ByAttempt p ∷ []) in
    let state : last_state (s.ways_reached ++ ByAttempt p ∷ []) ≡ last_state s.ways_reached =
    fold-append later_state None s.ways_reached (ByAttempt p ∷ []) in
    let number : state_number (last_state (s.ways_reached ++ ByAttempt p ∷ []))
    ≡ state_number (last_state s.ways_reached) =
    ap state_number state in
    let longer : length (attempts_behind (s.ways_reached ++ ByAttempt p ∷ [])) ≡ length (attempts_behind s.ways_reached)
    + 1 =
    ap length push ∙ length-append (attempts_behind s.ways_reached) (p ∷ []) in
    record {
      view = is.view;
      rolled_back = is.rolled_back;
      transferred = is.transferred ∙ sym state;
      committed = ap (λ (n : ℕ). n + 1) is.committed ∙ sym longer;
      last = omega (arith, is.last, number, longer);
      path = is.path
          ∙ ap (λ (qs : List Placed). map placed_at (attempts_behind s.ways_reached ++ qs)) first
          ∙ ap (map placed_at) (sym (append_assoc (attempts_behind s.ways_reached) (p ∷ []) ps))
          ∙ ap (λ (qs : List Placed). map placed_at (qs ++ ps)) (sym push);
      framed = is.framed;
    }

pub commit_comes : (s : SectionState) (c : Course) (step : ℕ × Step) (commit : CommitView) → IsCourse s c
    → IsStep (of.Commit commit) step → c.committed < length c.path.items
    → IsCourse (next s step) (record c { committed = c.committed + 1 })
commit_comes s c (at, Commits d) commit is stands some = by s.pending refl
  where
    by : (ps : List Placed) → s.pending ≡ ps → IsCourse (committing s ps) (record c { committed = c.committed + 1 })
    by [] none = absurd (omega (arith, some, path_count s c is, is.committed, ap length none))
    by (p ∷ ps) first = one_committed s c p ps is first
commit_comes s c (at, Attempts a) commit is stands some = elim stands [ ]
commit_comes s c (at, RollsBack r) commit is stands some = elim stands [ ]
commit_comes s c (at, Transfers x) commit is stands some = elim stands [ ]

-- a rollback comes
pub rollback_comes : (s : SectionState) (c : Course) (step : ℕ × Step) (rollback : RollbackView) (view : ℕ)
    (path : Vec OnPath Global) → IsCourse s c → IsStep (of.Rollback rollback) step →
    view ≡ (rollback_decoded rollback).view
    → path.items ≡ take c.committed c.path.items
    → IsCourse (next s step)
    (record { view = view; rolled_back = true; transferred = c.transferred; committed = c.committed; path = path })
rollback_comes s c (at, RollsBack r) rollback view path is stands view_is kept = record {
  view = view_is ∙ ap (λ (q : Rollback). q.view) stands.1;
  rolled_back = refl;
  transferred = is.transferred;
  committed = is.committed;
  last = is.last;
  path = ap (map placed_on) kept ∙ sym (take-map placed_on c.committed c.path.items)
      ∙ ap (take c.committed) is.path
      ∙ ap (λ (n : ℕ). take n (standing s)) is.committed
      ∙ ap (take (length (attempts_behind s.ways_reached)))
      (map-append placed_at (attempts_behind s.ways_reached) s.pending)
      ∙ prefix
      ∙ ap (map placed_at) (sym (append-nil (attempts_behind s.ways_reached)));
  framed = subst (AllByRecursion IsOnPath) (sym kept) (all-take IsOnPath c.committed c.path.items is.framed);
}
  where
    prefix : take (length (attempts_behind s.ways_reached))
        (map placed_at (attempts_behind s.ways_reached) ++ map placed_at s.pending)
        ≡ map placed_at (attempts_behind s.ways_reached)
    prefix = ap (λ (n : ℕ). take n (map placed_at (attempts_behind s.ways_reached) ++ map placed_at s.pending))
        (sym (length-map (attempts_behind s.ways_reached) placed_at))
        ∙ take-append-here (map placed_at (attempts_behind s.ways_reached)) (map placed_at s.pending)
rollback_comes s c (at, Attempts a) rollback view path is stands view_is kept = elim stands [ ]
rollback_comes s c (at, Commits d) rollback view path is stands view_is kept = elim stands [ ]
rollback_comes s c (at, Transfers x) rollback view path is stands view_is kept = elim stands [ ]

-- a state is transferred
pub state_comes : (s : SectionState) (step : ℕ × Step) (state : TransferView) (view : ℕ) (path : Vec OnPath Global)
    → IsStep (of.Transfer state) step → view ≡ (transfer_decoded state).view → path.items ≡ []
    → IsCourse (next s step)
    (record { view = view; rolled_back = false; transferred = Some state; committed = 0; path = path })
state_comes s (at, Transfers x) state view path stands view_is none =
    let skipped : List HowReached = replicate (x.seq - (s.last + 1)) Skipped in
    let all : List HowReached = s.ways_reached ++ (skipped ++ ByTransfer at x ∷ []) in
    let behind : attempts_behind all ≡ [] =
    fold-append with_reached [] s.ways_reached (skipped ++ ByTransfer at x ∷ [])
    ∙ fold-append with_reached (attempts_behind s.ways_reached) skipped (ByTransfer at x ∷ []) in
    let last : last_state all ≡ Some (at, x) =
    fold-append later_state None s.ways_reached (skipped ++ ByTransfer at x ∷ [])
    ∙ fold-append later_state (last_state s.ways_reached) skipped (ByTransfer at x ∷ []) in
    let number : state_number (last_state all) ≡ x.seq = ap state_number last in
    let count : length (attempts_behind all) ≡ 0 = ap length behind in
    record {
      view = view_is ∙ ap (λ (y : Transfer). y.view) stands.1;
      rolled_back = refl;
      transferred = (λ i. Some (stands.0 i, stands.1 i)) ∙ sym last;
      committed = sym count;
      last = omega (arith, number, count);
      path = ap (map placed_on) none ∙ ap (λ (ps : List Placed). map placed_at (ps ++ [])) (sym behind);
      framed = subst (AllByRecursion IsOnPath) (sym none) tt;
    }
state_comes s (at, Attempts a) state view path stands view_is none = elim stands [ ]
state_comes s (at, Commits d) state view path stands view_is none = elim stands [ ]
state_comes s (at, RollsBack r) state view path stands view_is none = elim stands [ ]
