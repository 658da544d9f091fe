-- What the handlers of steps need of what has come.
use Rattle.std.proofs.Common.{◌≡◌, ℕ, ◌+◌, ◌-◌, ◌<◌, ◌≤◌, ◌==◌, true, false, List, [], ◌∷◌, ◌++◌, map, length, take}
use Rattle.std.proofs.Common.{replicate, Some, None, IsTrue, refl, sym, ap, subst, ◌∙◌, append_assoc, arith}
use Rattle.std.specs.List.{AllByRecursion, list_any}
use Rattle.std.proofs.lemmas.Bool.{and_parts}
use Rattle.std.proofs.lemmas.List.{take_all}
use Rattle.eve_grammar.specs.Trace.{Access, Attempt, Commit, Rollback, Transfer, Step, Attempts, Commits, RollsBack}
use Rattle.eve_grammar.specs.Trace.{Transfers, Trace, head_of}
use Rattle.eve_grammar.specs.Frames.{OfAttempt, OfAccess}
use Rattle.eve_grammar.specs.Spelling.{frame_text, accesses_at}
use Rattle.eve_grammar.specs.Limits.{is_step, row_count}
use Rattle.eve_frames.specs.Views.{attempt_in}
use Rattle.eve_frames.specs.declared.attempt.AttemptView.{AttemptView}
use Rattle.eve_frames.specs.declared.commit.CommitView.{CommitView}
use Rattle.eve_frames.specs.declared.rollback.RollbackView.{RollbackView}
use Rattle.eve_frames.specs.declared.transfer.TransferView.{TransferView}
use Rattle.eve_frames.specs.Views.{commit_in, rollback_in, transfer_in}
use Rattle.eve_views.specs.StepKinds.{IsStep}
use Rattle.eve_views.specs.declared.steps.Step.TheVariants as of
use Rattle.eve_views.specs.declared.fault.Code.TheVariants as code
use Rattle.eve_views.specs.declared.fault.Fault.{Fault}
use Rattle.eve_views.specs.declared.fault.CheckFault.{CheckFault}
use Rattle.eve_views.specs.declared.fault.CheckFault.TheVariants.{Found, Memory}
use Rattle.eve_views.specs.Form.{IfFound}
use Rattle.eve_history.specs.declared.fate.Fate.{Fate}
use Rattle.eve_history.specs.declared.fate.Fate.TheVariants.{Discarded}
use Rattle.eve_history.specs.declared.how_reached.HowReached as told
use Rattle.eve_history.specs.declared.how_reached.HowReached.TheVariants as how_reached
use Rattle.eve_history.specs.Section.{SectionState, start, state_after, is_right_commit, is_right_rollback}
use Rattle.eve_history.specs.Section.{is_right_transfer}
use Rattle.eve_history.specs.SectionHistory.{ordered, access_with}
use Rattle.eve_history.specs.Structure.{accesses_of}
use Rattle.eve_history.specs.inner.FirstWrong.{wrong_step}
use Rattle.eve_history.specs.KeptSections.{KeptSection, HasCome, ComesNext}
use Rattle.eve_history.proofs.StructureLaws.{accesses_of-at}
use Rattle.eve_history.proofs.WaysKept.{over_at}
use Rattle.eve_views.proofs.FrameOffsets.{length-located}
use Rattle.eve_history.proofs.Records.{all_there, attempt_fits}

pub weaker_found : (x : CheckFault) (P Q : Fault → Type 0) → ((f : Fault) → P f → Q f) → IfFound x P → IfFound x Q
weaker_found Memory P Q weaker h = tt
weaker_found (Found f) P Q weaker h = weaker f h

-- ---- commits, rollbacks and states transferred

pub commit_wrong : (t : Trace) (s : SectionState) (at : ℕ) (c : Commit) → is_right_commit s c ≡ false
    → wrong_step t s (at, Commits c) ≡ Some (record { code = code.Commit; offset = at })
commit_wrong t s at c wrong = rw wrong refl

pub commit_right : (t : Trace) (s : SectionState) (at : ℕ) (c : Commit) → is_right_commit s c ≡ true
    → wrong_step t s (at, Commits c) ≡ None
commit_right t s at c right = rw right refl

pub rollback_wrong : (t : Trace) (s : SectionState) (at : ℕ) (r : Rollback) → is_right_rollback t s r ≡ false
    → wrong_step t s (at, RollsBack r) ≡ Some (record { code = code.Rollback; offset = at })
rollback_wrong t s at r wrong = rw wrong refl

pub rollback_right : (t : Trace) (s : SectionState) (at : ℕ) (r : Rollback) → is_right_rollback t s r ≡ true
    → wrong_step t s (at, RollsBack r) ≡ None
rollback_right t s at r right = rw right refl

pub transfer_wrong : (t : Trace) (s : SectionState) (at : ℕ) (x : Transfer) → is_right_transfer t s x ≡ false
    → wrong_step t s (at, Transfers x) ≡ Some (record { code = code.Transfer; offset = at })
transfer_wrong t s at x wrong = rw wrong refl

pub transfer_right : (t : Trace) (s : SectionState) (at : ℕ) (x : Transfer) → is_right_transfer t s x ≡ true
    → wrong_step t s (at, Transfers x) ≡ None
transfer_right t s at x right = rw right refl

-- all open attempts are discarded
pub discarded_all : (fates after : List Fate) (n v a : ℕ) → after ≡ take n fates ++ replicate (n - v) Discarded → n ≡ a
    → v ≡ length fates → length fates ≤ a → fates ++ replicate (a - length fates) Discarded ≡ after
discarded_all fates after n v a is count old few =
    let all : take n fates ≡ fates = take_all n fates (omega arith) in
    let more : a - length fates ≡ n - v = omega arith in
    ap (λ (m : ℕ). fates ++ replicate m Discarded) more ∙ ap (λ (fs : List Fate). fs ++ replicate (n - v) Discarded)
    (sym all) ∙ sym is

-- numbers are skipped, and then a state is transferred
pub ways_reached_over : (ls skips after : List told.HowReached) (n v last seq place i : ℕ)
    → skips ≡ take n ls ++ replicate (n - v) how_reached.Skipped → after ≡ skips ++ how_reached.Transfer place ∷ []
    → n ≡ seq - 1 → v ≡ length ls → length ls ≡ last → last < seq → place ≡ i
    → ls ++ over_at (seq - (last + 1)) i ≡ after
ways_reached_over ls skips after n v last seq place i is more count old all later same =
    let whole : take n ls ≡ ls = take_all n ls (omega arith) in
    let skipped : seq - (last + 1) ≡ n - v = omega arith in
    (λ j. ls ++ over_at (skipped j) (sym same j))
    ∙ sym (append_assoc ls (replicate (n - v) how_reached.Skipped) (how_reached.Transfer place ∷ []))
    ∙ ap (λ (xs : List told.HowReached). (xs ++ replicate (n - v) how_reached.Skipped) ++ how_reached.Transfer place
    ∷ [])
    (sym whole)
    ∙ ap (λ (xs : List told.HowReached). xs ++ how_reached.Transfer place ∷ []) (sym is) ∙ sym more

-- ---- attempts

module _ (t : Trace) (e : ℕ) (rest : List (ℕ × Step)) (b : Attempt) (k : KeptSection) (at : ℕ) (decoded : Attempt)
    (xs : List (ℕ × Access)) (comes : ComesNext t e rest b k at decoded xs) where
  its_fit : (length b.certificate ≤ 256) × (length b.accesses ≡ length b.certificate)
  its_fit = attempt_fits (row_count (head_of t)) b
      (and_parts (is_step (row_count (head_of t)) (Attempts b)) _ comes.come.fit).0

  pub its_records_count : length xs ≡ length decoded.certificate
  its_records_count =
      ap length comes.accesses ∙ length-located (λ (x : Access). frame_text (OfAccess x))
      (at + length (frame_text (OfAttempt b))) b.accesses ∙ its_fit.1
      ∙ ap (λ (a : Attempt). length a.certificate) (sym comes.attempt)

  pub its_accesses : accesses_of xs ≡ b.accesses
  its_accesses = ap accesses_of comes.accesses ∙ accesses_of-at at b

  pub its_indexes : wrong_step t (state_after start comes.come.prefix) (at, Attempts b) ≡ None
      → AllByRecursion (λ i. (i < 256) × IsTrue (list_any (λ y. y.index == i) (accesses_of xs))) decoded.certificate
  its_indexes right =
      subst (λ (ys : List Access). AllByRecursion (λ i. (i < 256) × IsTrue (list_any (λ y. y.index == i) ys))
      decoded.certificate) (sym its_accesses)
      (subst (λ (order : List ℕ). AllByRecursion (λ i. (i < 256) × IsTrue (list_any (λ y. y.index == i) b.accesses))
      order) (ap (λ (a : Attempt). a.certificate) (sym comes.attempt))
      (all_there t (state_after start comes.come.prefix) at b right its_fit.1 its_fit.0))

  pub its_order : (order : List ℕ) → order ≡ decoded.certificate → map (access_with xs) order ≡ ordered at b
  its_order order is =
      (λ i. map (access_with (comes.accesses i)) (is i))
      ∙ ap (λ (a : Attempt). map (access_with (accesses_at at b)) a.certificate) comes.attempt

-- ---- which step it is

pub comes_next : (t : Trace) (e : ℕ) (rest : List (ℕ × Step)) (next : ℕ × Step) (k : KeptSection) (a : AttemptView)
    (xs : List (ℕ × Access)) → IsStep (of.Attempt a xs) next → HasCome t e (next ∷ rest) k
    → (b : Attempt) × ComesNext t e rest b k a.offset (attempt_in a.bytes.now) xs
comes_next t e rest (at, Attempts b) k a xs is come = (
  b,
  record {
    come = subst (λ (o : ℕ). HasCome t e ((o, Attempts b) ∷ rest) k) (sym is.0) come;
    attempt = is.1;
    accesses = is.2 ∙ ap (λ (o : ℕ). accesses_at o b) (sym is.0);
  },
)
comes_next t e rest (at, Commits c) k a xs is come = absurd is
comes_next t e rest (at, RollsBack r) k a xs is come = absurd is
comes_next t e rest (at, Transfers x) k a xs is come = absurd is

pub commit_next : (next : ℕ × Step) (c : CommitView) → IsStep (of.Commit c) next
    → next ≡ (c.offset, Commits (commit_in c.bytes.now))
commit_next (at, Commits d) c is = λ i. (sym is.0 i, Commits (sym is.1 i))
commit_next (at, Attempts b) c is = absurd is
commit_next (at, RollsBack r) c is = absurd is
commit_next (at, Transfers x) c is = absurd is

pub rollback_next : (next : ℕ × Step) (r : RollbackView) → IsStep (of.Rollback r) next
    → next ≡ (r.offset, RollsBack (rollback_in r.bytes.now))
rollback_next (at, RollsBack q) r is = λ i. (sym is.0 i, RollsBack (sym is.1 i))
rollback_next (at, Attempts b) r is = absurd is
rollback_next (at, Commits c) r is = absurd is
rollback_next (at, Transfers x) r is = absurd is

pub transfer_next : (next : ℕ × Step) (x : TransferView) → IsStep (of.Transfer x) next
    → next ≡ (x.offset, Transfers (transfer_in x.bytes.now))
transfer_next (at, Transfers y) x is = λ i. (sym is.0 i, Transfers (sym is.1 i))
transfer_next (at, Attempts b) x is = absurd is
transfer_next (at, Commits c) x is = absurd is
transfer_next (at, RollsBack r) x is = absurd is

pub come_as : (t : Trace) (e : ℕ) (rest : List (ℕ × Step)) (k : KeptSection) (next step : ℕ × Step) → next ≡ step
    → HasCome t e (next ∷ rest) k → HasCome t e (step ∷ rest) k
come_as t e rest k next step = subst (λ (x : ℕ × Step). HasCome t e (x ∷ rest) k)
