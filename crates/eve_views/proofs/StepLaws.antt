-- The next step of a section: its frames, and those after them.
use Rattle.std.proofs.Common.{◌≡◌, ◌≢◌, ℕ, ◌+◌, ◌-◌, ◌≤◌, List, [], ◌∷◌, ◌++◌, map, length, take, drop, Some, refl, sym}
use Rattle.std.proofs.Common.{ap, subst, ◌∙◌, append_assoc, arith, Bool}
use Rattle.std.specs.Prelude.{slice_get, slice_index, IsTrue, ◌&&◌, ◌==◌}
use Rattle.std.specs.List.{flat_map, list_all}
use Rattle.std.proofs.lemmas.Bool.{eqb-true, and_parts}
use Rattle.std.proofs.lemmas.List.{length-append, length-take-le, length-drop, take-append-drop, length-map, take_at}
use Rattle.std.proofs.lemmas.List.{drop_at, drop-drop}
use Rattle.std.proofs.Math.Seq.{take-append-add}
use Rattle.std.proofs.lemmas.Option.{same_Some}
use Rattle.eve_grammar.specs.Trace.{Attempt, Step, Attempts, Commits, RollsBack, Transfers}
use Rattle.eve_grammar.specs.Frames.{Frame, OfAttempt, OfAccess, OfCommit, OfRollback, OfTransfer, kind_of}
use Rattle.eve_grammar.specs.Frames.{without_accesses, step_frames}
use Rattle.eve_grammar.specs.Spelling.{frame_text, frames_text, located, accesses_at, step_text}
use Rattle.eve_grammar.specs.Limits.{is_step, is_access, is_attempt}
use Rattle.eve_grammar.specs.declared.limits.TheConstants.{MOST_ROWS}
use Rattle.eve_grammar.proofs.Lists.{slice_get-behind}
use Rattle.eve_frames.specs.Views.{has_attempt_body, has_commit_body, has_rollback_body, has_transfer_body, attempt_in}
use Rattle.eve_frames.specs.Views.{commit_in, rollback_in, transfer_in, Says}
use Rattle.eve_frames.proofs.Rereading.{attempt_again, commit_again, rollback_again, transfer_again}
use Rattle.eve_views.specs.Parts.{byte_of, frames_between, accesses_between, steps_between, AreAccesses, AreSteps}
use Rattle.eve_views.proofs.FrameOffsets.{length-frames_text}
use Rattle.eve_views.proofs.PartLaws.{accesses_are, says_located, IsFrameAt}
use Rattle.eve_views.proofs.CutLaws.{steps_are}

-- ---- frames at a place

-- the frames from a place on, and what they make of the places after them
record IsAt (fs part : List Frame) (at : ℕ) : Type 0 where
  there : frames_between fs at (length part) ≡ part
  first : (f : Frame) (others : List Frame) → part ≡ f ∷ others → slice_get fs at ≡ Some f
  byte : byte_of fs (at + length part) ≡ byte_of fs at + length (frames_text part)

is_at : (fs part behind : List Frame) (at : ℕ) → at ≤ length fs → drop at fs ≡ part ++ behind → IsAt fs part at
is_at fs part behind at le cut =
    let wide : length (take at fs) ≡ at = length-take-le at fs le in
    let all : fs ≡ take at fs ++ drop at fs = sym (take-append-drop at fs) in
    let here : take (length part) (drop at fs) ≡ part = ap (take (length part)) cut
    ∙ take_at part behind (length part) refl in
    let prefix : take (at + length part) fs ≡ take at fs ++ part =
    ap (take (at + length part)) all
    ∙ (let same : at + length part ≡ length (take at fs) + length part = omega (arith, wide) in
    ap (λ (n : ℕ). take n (take at fs ++ drop at fs)) same)
    ∙ take-append-add (take at fs) (drop at fs) (length part) ∙ ap (λ (gs : List Frame). take at fs ++ gs) here in
    record {
      there = here;
      first = λ f others e.
          let same : at ≡ length (take at fs) + 0 = omega (arith, wide) in
          ap (λ (gs : List Frame). slice_get gs at) all ∙ ap (slice_get (take at fs ++ drop at fs)) same
          ∙ slice_get-behind (take at fs) (drop at fs) 0
          ∙ ap (λ (gs : List Frame). slice_get gs 0) (cut ∙ ap (λ (gs : List Frame). gs ++ behind) e);
      byte = omega (
        arith,
        ap (λ (gs : List Frame). length (frames_text gs)) prefix,
        length-frames_text (take at fs) part,
      );
    }

-- ---- the first of the steps

-- a step, and those after it
record IsNext (fs : List Frame) (at to rows : ℕ) (s : Step) : Type 0 where
  right : IsTrue (is_step rows s)
  is : IsAt fs (step_frames s) at
  cut : (behind : List Frame) × (drop at fs ≡ step_frames s ++ behind)
  within : at + length (step_frames s) ≤ length fs
  rest : AreSteps fs (at + length (step_frames s)) to
  value : steps_between fs at (to - at) ≡ (byte_of fs at, s) ∷ steps_between fs (at + length (step_frames s))
      (to - (at + length (step_frames s)))

next_of : (fs : List Frame) (at to : ℕ) (are : AreSteps fs at to) (s : Step) (ss : List Step) → are.steps ≡ s ∷ ss
    → IsNext fs at to are.rows s
next_of fs at to are s ss e =
    let up = are.up in
    let within = are.within in
    let part = step_frames s in
    let later = flat_map step_frames ss in
    let others = drop (to - at) (drop at fs) in
    let long : length (drop at fs) ≡ length fs - at = length-drop at fs in
    let here : take (to - at) (drop at fs) ≡ part ++ later = are.there ∙ ap (flat_map step_frames) e in
    let many : to - at ≡ length part + length later =
    sym (length-take-le (to - at) (drop at fs) (omega (arith, up, within, long))) ∙ ap length here
    ∙ length-append part later in
    let cut : drop at fs ≡ part ++ (later ++ others) =
    sym (take-append-drop (to - at) (drop at fs)) ∙ ap (λ (gs : List Frame). gs ++ others) here
    ∙ append_assoc part later others in
    let behind : drop (at + length part) fs ≡ later ++ others = sym (drop-drop (length part) at fs)
    ∙ ap (drop (length part)) cut ∙ drop_at part (later ++ others) (length part) refl in
    let left : to - (at + length part) ≡ length later = omega (arith, up, many) in
    let all : IsTrue (is_step are.rows s && list_all (is_step are.rows) ss) =
    subst (λ (xs : List Step). IsTrue (list_all (is_step are.rows) xs)) e are.right in
    let both = and_parts (is_step are.rows s) (list_all (is_step are.rows) ss) all in
    let is : IsAt fs part at = is_at fs part (later ++ others) at (omega (arith, up, within)) cut in
    let rest : AreSteps fs (at + length part) to = record {
      steps = ss;
      rows = are.rows;
      few = are.few;
      right = both.1;
      up = omega (arith, up, many);
      within = within;
      there = ap (take (to - (at + length part))) behind ∙ take_at later others (to - (at + length part)) (sym left);
    } in
    record {
      right = both.0;
      is = is;
      cut = (later ++ others, cut);
      within = omega (arith, up, within, many);
      rest = rest;
      value = steps_are fs at to are ∙ ap (located step_text (byte_of fs at)) e
          ∙ ap (λ (xs : List (ℕ × Step)). (byte_of fs at, s) ∷ xs) (ap (λ (n : ℕ). located step_text n ss) (sym is.byte)
          ∙ sym (steps_are fs (at + length part) to rest));
    }

-- the frame that a step begins with
abbrev first : Step → Frame
first (Attempts a) = OfAttempt (without_accesses a)
first (Commits c) = OfCommit c
first (RollsBack r) = OfRollback r
first (Transfers x) = OfTransfer x

others_of : (s : Step) → (others : List Frame) × (step_frames s ≡ first s ∷ others)
others_of (Attempts a) = (map OfAccess a.accesses, refl)
others_of (Commits c) = ([], refl)
others_of (RollsBack r) = ([], refl)
others_of (Transfers x) = ([], refl)

-- a step that is there, and its first frame
record IsLocated (fs : List Frame) (at to : ℕ) (f : Frame) : Type 0 where
  rows : ℕ
  few : rows ≤ MOST_ROWS
  step : Step
  is : IsNext fs at to rows step
  begins : f ≡ first step

located_of : (fs : List Frame) (at to : ℕ) (f : Frame) (are : AreSteps fs at to) → at ≢ to → slice_get fs at ≡ Some f
    → IsLocated fs at to f
located_of fs at to f are more got = by are.steps refl
  where
    by : (steps : List Step) → are.steps ≡ steps → IsLocated fs at to f
    by [] e =
        let up = are.up in
        let within = are.within in
        let none : take (to - at) (drop at fs) ≡ [] = are.there ∙ ap (flat_map step_frames) e in
        let long = length-drop at fs in
        let empty : to - at ≡ 0 = sym (length-take-le (to - at) (drop at fs) (omega (arith, up, within, long)))
        ∙ ap length none in
        absurd (more (omega (arith, up, empty)))
    by (s ∷ ss) e =
        let next = next_of fs at to are s ss e in
        let o = others_of s in
        record {
          rows = are.rows;
          few = are.few;
          step = s;
          is = next;
          begins = same_Some f (first s)
              (sym got ∙ next.is.first (first s) o.0 o.1);
        }

-- no frame is left, and so no step
pub none_left : (fs : List Frame) (at to : ℕ) (are : AreSteps fs at to) → at ≡ to → steps_between fs at (to - at) ≡ []
none_left fs at to are e = by are.steps refl
  where
    by : (steps : List Step) → are.steps ≡ steps → steps_between fs at (to - at) ≡ []
    by [] none = steps_are fs at to are ∙ ap (located step_text (byte_of fs at)) none
    by (s ∷ ss) some =
        let next = next_of fs at to are s ss some in
        let o = others_of s in
        let up = next.rest.up in
        absurd (omega (arith, up, e, ap length o.1))

-- ---- by kind

-- an attempt is met: what its frame says, its accesses, and the steps after them
pub record IsAttemptLocated (fs : List Frame) (at to : ℕ) (bytes : List ℕ) : Type 0 where
  pub attempt : Attempt
  pub says : Says has_attempt_body attempt_in bytes (without_accesses attempt)
  pub frame : bytes ≡ frame_text (OfAttempt (without_accesses attempt))
  pub accesses : (to_accesses : ℕ) → to_accesses ≡ at + 1 + length attempt.certificate
      → AreAccesses fs (at + 1) to_accesses
  pub list : (to_accesses : ℕ) → to_accesses ≡ at + 1 + length attempt.certificate
      → accesses_between fs (at + 1) (to_accesses - (at + 1)) ≡ accesses_at (byte_of fs at) attempt
  pub rest : (next : ℕ) → next ≡ at + 1 + length attempt.certificate → AreSteps fs next to
  pub value : (next : ℕ) → next ≡ at + 1 + length attempt.certificate → steps_between fs at (to - at)
      ≡ (byte_of fs at, Attempts attempt) ∷ steps_between fs next (to - next)

attempt_located : (fs : List Frame) (at to : ℕ) (f : Frame) (bytes : List ℕ) → IsLocated fs at to f → kind_of f ≡ 17
    → bytes ≡ frame_text f → IsAttemptLocated fs at to bytes
attempt_located fs at to f bytes is_located kind text = by is_located.step is_located.is is_located.begins
  where
    by : (s : Step) → IsNext fs at to is_located.rows s → f ≡ first s → IsAttemptLocated fs at to bytes
    by (Commits c) next begins = absurd (omega (arith, kind, ap kind_of begins))
    by (RollsBack r) next begins = absurd (omega (arith, kind, ap kind_of begins))
    by (Transfers x) next begins = absurd (omega (arith, kind, ap kind_of begins))
    by (Attempts a) next begins =
        let few = is_located.few in
        let parts = and_parts (is_attempt a)
        ((length a.accesses == length a.certificate) && list_all (is_access is_located.rows) a.accesses) next.right in
        let more = and_parts (length a.accesses == length a.certificate)
        (list_all (is_access is_located.rows) a.accesses)
        parts.1 in
        let many : length a.accesses ≡ length a.certificate =
        eqb-true (length a.accesses) (length a.certificate) more.0 in
        let wide : length (step_frames (Attempts a)) ≡ 1 + length a.certificate =
        omega (arith, many, length-map a.accesses OfAccess) in
        let own : List Frame = map OfAccess a.accesses in
        let behind : drop (at + 1) fs ≡ own ++ next.cut.0 = sym (drop-drop 1 at fs) ∙ ap (drop 1) next.cut.1 in
        let inside = next.within in
        let is : IsAt fs own (at + 1) = is_at fs own next.cut.0 (at + 1) (omega (arith, wide, inside)) behind in
        let head : IsAt fs (first (Attempts a) ∷ []) at = is_at fs (first (Attempts a) ∷ []) (own ++ next.cut.0) at
        (omega (arith, wide, inside)) next.cut.1 in
        let are : AreAccesses fs (at + 1) (at + 1 + length a.certificate) = record {
          items = a.accesses;
          count = is_located.rows;
          few = few;
          right = more.1;
          many = omega (arith, many);
          up = omega arith;
          within = omega (arith, wide, inside);
          there = (let same : at + 1 + length a.certificate - (at + 1)
              ≡ length own = omega (arith, many, length-map a.accesses OfAccess) in ap (frames_between fs (at + 1)) same
              ∙ is.there);
        } in
        let byte : byte_of fs (at + 1) ≡ byte_of fs at + length (frame_text (OfAttempt a)) = head.byte
        ∙ omega (arith, length-append (frame_text (OfAttempt a)) []) in
        let step : at + length (step_frames (Attempts a)) ≡ at + 1 + length a.certificate = omega (arith, wide) in
        record {
          attempt = a;
          says = says_located has_attempt_body attempt_in bytes f (OfAttempt (without_accesses a)) (without_accesses a)
              text
              begins (attempt_again (without_accesses a) parts.0);
          frame = text ∙ ap frame_text begins;
          accesses = λ n e. subst (λ (n : ℕ). AreAccesses fs (at + 1) n) (sym e) are;
          list = λ n e. ap (λ (n : ℕ). accesses_between fs (at + 1) (n - (at + 1))) e
              ∙ accesses_are fs (at + 1) (at + 1 + length a.certificate) are
              ∙ ap (λ (n : ℕ). located (λ x. frame_text (OfAccess x)) n a.accesses) byte;
          rest = λ n e. subst (λ (n : ℕ). AreSteps fs n to) (step ∙ sym e) next.rest;
          value = λ n e. next.value ∙ ap (λ (n : ℕ). (byte_of fs at, Attempts a) ∷ steps_between fs n (to - n))
              (step ∙ sym e);
        }

-- a step of one frame is met
pub record IsOneLocated {A : Type 0} (is_frame : List ℕ → Bool) (read : List ℕ → A) (frame : A → Frame)
    (step : A → Step)
    (fs : List Frame) (at to : ℕ) (bytes : List ℕ) : Type 0 where
  pub decoded : A
  pub says : Says is_frame read bytes decoded
  pub text : bytes ≡ frame_text (frame decoded)
  pub rest : AreSteps fs (at + 1) to
  pub value : steps_between fs at (to - at) ≡ (byte_of fs at, step decoded) ∷ steps_between fs (at + 1) (to - (at + 1))

abbrev pub IsCommitLocated : List Frame → ℕ → ℕ → List ℕ → Type 0
IsCommitLocated = IsOneLocated has_commit_body commit_in OfCommit Commits

abbrev pub IsRollbackLocated : List Frame → ℕ → ℕ → List ℕ → Type 0
IsRollbackLocated = IsOneLocated has_rollback_body rollback_in OfRollback RollsBack

abbrev pub IsTransferLocated : List Frame → ℕ → ℕ → List ℕ → Type 0
IsTransferLocated = IsOneLocated has_transfer_body transfer_in OfTransfer Transfers

commit_located : (fs : List Frame) (at to : ℕ) (f : Frame) (bytes : List ℕ) → IsLocated fs at to f → kind_of f ≡ 19
    → bytes ≡ frame_text f → IsCommitLocated fs at to bytes
commit_located fs at to f bytes is_located kind text = by is_located.step is_located.is is_located.begins
  where
    by : (s : Step) → IsNext fs at to is_located.rows s → f ≡ first s → IsCommitLocated fs at to bytes
    by (Attempts a) next begins = absurd (omega (arith, kind, ap kind_of begins))
    by (RollsBack r) next begins = absurd (omega (arith, kind, ap kind_of begins))
    by (Transfers x) next begins = absurd (omega (arith, kind, ap kind_of begins))
    by (Commits c) next begins =
        record {
          decoded = c;
          says = says_located has_commit_body commit_in bytes f (OfCommit c) c text begins (commit_again c next.right);
          text = text ∙ ap frame_text begins;
          rest = next.rest;
          value = next.value;
        }

rollback_located : (fs : List Frame) (at to : ℕ) (f : Frame) (bytes : List ℕ) → IsLocated fs at to f → kind_of f ≡ 20
    → bytes ≡ frame_text f → IsRollbackLocated fs at to bytes
rollback_located fs at to f bytes is_located kind text = by is_located.step is_located.is is_located.begins
  where
    by : (s : Step) → IsNext fs at to is_located.rows s → f ≡ first s → IsRollbackLocated fs at to bytes
    by (Attempts a) next begins = absurd (omega (arith, kind, ap kind_of begins))
    by (Commits c) next begins = absurd (omega (arith, kind, ap kind_of begins))
    by (Transfers x) next begins = absurd (omega (arith, kind, ap kind_of begins))
    by (RollsBack r) next begins = record {
      decoded = r;
      says = says_located has_rollback_body rollback_in bytes f (OfRollback r) r text begins
          (rollback_again is_located.rows r next.right is_located.few);
      text = text ∙ ap frame_text begins;
      rest = next.rest;
      value = next.value;
    }

-- a step of none of the other kinds
transfer_located : (fs : List Frame) (at to : ℕ) (f : Frame) (bytes : List ℕ) → IsLocated fs at to f → kind_of f ≢ 17
    → kind_of f ≢ 19 → kind_of f ≢ 20 → bytes ≡ frame_text f → IsTransferLocated fs at to bytes
transfer_located fs at to f bytes is_located no_attempt no_commit no_rollback text =
    by is_located.step is_located.is is_located.begins
  where
    by : (s : Step) → IsNext fs at to is_located.rows s → f ≡ first s → IsTransferLocated fs at to bytes
    by (Attempts a) next begins = absurd (no_attempt (ap kind_of begins))
    by (Commits c) next begins = absurd (no_commit (ap kind_of begins))
    by (RollsBack r) next begins = absurd (no_rollback (ap kind_of begins))
    by (Transfers x) next begins = record {
      decoded = x;
      says = says_located has_transfer_body transfer_in bytes f (OfTransfer x) x text begins
          (transfer_again is_located.rows x next.right);
      text = text ∙ ap frame_text begins;
      rest = next.rest;
      value = next.value;
    }

-- ---- what is met where a step begins

first_byte : (bytes : List ℕ) (f : Frame) → bytes ≡ frame_text f → kind_of f ≡ slice_index bytes 0
first_byte bytes f text = sym (ap (λ (b : List ℕ). slice_index b 0) text)

pub attempt_here : (fs : List Frame) (at to : ℕ) (bytes : List ℕ) → AreSteps fs at to → at ≢ to → IsFrameAt fs at bytes
    → slice_index bytes 0 ≡ 17 → IsAttemptLocated fs at to bytes
attempt_here fs at to bytes are more f kind =
    attempt_located fs at to f.0 bytes (located_of fs at to f.0 are more f.1) (first_byte bytes f.0 f.2 ∙ kind) f.2

pub commit_here : (fs : List Frame) (at to : ℕ) (bytes : List ℕ) → AreSteps fs at to → at ≢ to → IsFrameAt fs at bytes
    → slice_index bytes 0 ≡ 19 → IsCommitLocated fs at to bytes
commit_here fs at to bytes are more f kind =
    commit_located fs at to f.0 bytes (located_of fs at to f.0 are more f.1) (first_byte bytes f.0 f.2 ∙ kind) f.2

pub rollback_here : (fs : List Frame) (at to : ℕ) (bytes : List ℕ) → AreSteps fs at to → at ≢ to → IsFrameAt fs at bytes
    → slice_index bytes 0 ≡ 20 → IsRollbackLocated fs at to bytes
rollback_here fs at to bytes are more f kind =
    rollback_located fs at to f.0 bytes (located_of fs at to f.0 are more f.1) (first_byte bytes f.0 f.2 ∙ kind) f.2

pub transfer_here : (fs : List Frame) (at to : ℕ) (bytes : List ℕ) → AreSteps fs at to → at ≢ to → IsFrameAt fs at bytes
    → slice_index bytes 0 ≢ 17 → slice_index bytes 0 ≢ 19 → slice_index bytes 0 ≢ 20 → IsTransferLocated fs at to bytes
transfer_here fs at to bytes are more f no_attempt no_commit no_rollback =
    let same = sym (first_byte bytes f.0 f.2) in
    transfer_located fs at to f.0 bytes (located_of fs at to f.0 are more f.1)
    (λ e. no_attempt (same ∙ e)) (λ e. no_commit (same ∙ e)) (λ e. no_rollback (same ∙ e)) f.2

-- the place after the accesses of an attempt that is met, by how many a view of it counts
pub after_accesses : (fs : List Frame) (at to : ℕ) (bytes own : List ℕ) (count : ℕ)
    (is_located : IsAttemptLocated fs at to bytes)
    → own ≡ bytes → count ≡ length (attempt_in own).certificate
    → at + 1 + count ≡ at + 1 + length is_located.attempt.certificate
after_accesses fs at to bytes own count is_located same is = ap (λ (n : ℕ). at + 1 + n)
    (is ∙ ap (λ (b : List ℕ). length (attempt_in b).certificate) same
    ∙ ap (λ (a : Attempt). length a.certificate) is_located.says.1)
