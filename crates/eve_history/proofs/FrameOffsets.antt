-- Where the frames of a section stand in a trace's bytes.
use Rattle.std.proofs.Common.{◌≡◌, ℕ, suc, ◌+◌, ◌^◌, ◌<◌, ◌≤◌, ◌==◌, Bool, true, false, ◌||◌, cond, List, [], ◌∷◌}
use Rattle.std.proofs.Common.{◌++◌, map, length, take, drop, slice_get, slice_index, Some, refl, sym, ap, subst, ◌∙◌}
use Rattle.std.proofs.Common.{append_assoc, IsTrue, inl, inr, arith}
use Rattle.std.specs.List.{AllByRecursion, flat_map, list_all, list_any}
use Rattle.std.proofs.lemmas.Bool.{and_parts, cases_lt, false≢true}
use Rattle.std.proofs.lemmas.List.{append-nil, length-append, take_at, drop_at, get_or_past, length-map}
use Rattle.std.proofs.lemmas.List.Concat.{flat_map-append}
use Rattle.std.proofs.lemmas.List.Folds.{flat_map-map}
use Rattle.byteorder.specs.Endian.{big_bytes, big_number}
use Rattle.eve_grammar.specs.Trace.{Access, Attempt, Rollback, Transfer, Step, Attempts, Commits, RollsBack}
use Rattle.eve_grammar.specs.Trace.{Transfers, Trace, head_of}
use Rattle.eve_grammar.specs.Frames.{Frame, OfReplica, OfAttempt, OfAccess, OfCommit, OfRollback, OfTransfer, kind_of}
use Rattle.eve_grammar.specs.Frames.{step_frames, frames_of, without_accesses}
use Rattle.eve_grammar.specs.Spelling.{body_text, frame_text, frames_text, head_text, length_of, spelling, located}
use Rattle.eve_grammar.specs.Spelling.{step_text, section_start, steps_of, steps_at, accesses_at}
use Rattle.eve_grammar.specs.Limits.{is_step, is_attempt, is_access, row_count}
use Rattle.eve_grammar.proofs.HeaderParts.{length-head_text}
use Rattle.eve_views.specs.inner.FramesBefore.{before_section}
use Rattle.eve_views.proofs.Bytes.{number_again}
use Rattle.eve_views.proofs.FrameLaws.{length-frame_text}
use Rattle.eve_views.proofs.CutLaws.{IsPart, section_cut}
use Rattle.eve_views.proofs.Lists.{cut_at}
use Rattle.eve_views.proofs.FrameOffsets.{located_get, section_begins, frames_text-flat_map}
use Rattle.eve_grammar.proofs.HeadLimits.{few_customers}
use Rattle.eve_grammar.specs.declared.limits.TheConstants.{MOST_ROWS}
use Rattle.eve_frames.specs.Views.{has_attempt_body, attempt_in, has_access_body, access_in}
use Rattle.eve_frames.specs.Views.{has_rollback_body, rollback_in, has_transfer_body, transfer_in}
use Rattle.eve_frames.proofs.Rereading.{attempt_again, access_again, rollback_again, transfer_again}
use Rattle.eve_history.specs.FrameOffsets.{frame_in, IsFramed, IsAttemptAt, IsAccessAt, IsRollbackAt, IsTransferAt}
use Rattle.eve_history.specs.SectionHistory.{access_with, attempts_among, executed_attempt}
use Rattle.eve_history.specs.Structure.{accesses_of}
use Rattle.eve_history.specs.KeptSections.{KeptSection, kept_executed_attempt, HasCome, ComesNext, seen}
use Rattle.eve_history.specs.Section.{start}
use Rattle.eve_history.proofs.Transfers.{transfers_few, transfers_after}
use Rattle.eve_grammar.proofs.GroupOrder.{all_at}
use Rattle.eve_grammar.proofs.Lists.{same_first, same_others, no_item}
use Rattle.eve_grammar.specs.FrameOrder.{Spells}
use Rattle.eve_grammar.proofs.Spelled.{limits_of_spelled}

-- a text stands at this place of another
pub record StandsIn (bytes : List ℕ) (at : ℕ) (text : List ℕ) : Type 0 where
  pub prefix : List ℕ
  pub behind : List ℕ
  pub is : bytes ≡ prefix ++ (text ++ behind)
  pub offset : length prefix ≡ at

-- a text that stands in a part stands in the whole
pub stands_inside : {bytes text inner : List ℕ} {at o : ℕ} → StandsIn bytes at text → StandsIn text o inner
    → StandsIn bytes (at + o) inner
stands_inside {bytes = bytes} {text = text} {inner = inner} {at = at} {o = o} outer own = record {
  prefix = outer.prefix ++ own.prefix;
  behind = own.behind ++ outer.behind;
  is = outer.is
      ∙ ap (λ (b : List ℕ). outer.prefix ++ (b ++ outer.behind)) own.is
      ∙ ap (λ (b : List ℕ). outer.prefix ++ b) (append_assoc own.prefix (inner ++ own.behind) outer.behind
      ∙ ap (λ (b : List ℕ). own.prefix ++ b) (append_assoc inner own.behind outer.behind))
      ∙ sym (append_assoc outer.prefix own.prefix (inner ++ (own.behind ++ outer.behind)));
  offset = (let a = outer.offset in let b = own.offset in omega (arith, length-append outer.prefix own.prefix));
}

-- ---- a frame that stands in bytes

-- how many bytes a trace has at most
spelled_short : (bytes : List ℕ) (t : Trace) → Spells bytes t → length bytes ≤ 2 ^ 30
unfolding spelling length_of
spelled_short bytes t spelled =
    let few = spelled.short in
    omega (
      arith,
      ap length spelled.spelled,
      length-append (head_text t.head (length_of t))
          (frames_text (frames_of t)),
      length-head_text t.head (length_of t),
    )

-- a trace's first byte is an E, so that no frame of a lower kind begins there
not_first : (t : Trace) (at : ℕ) (f : Frame) → kind_of f < 69 → StandsIn (spelling t) at (frame_text f) → 0 < at
unfolding spelling head_text
not_first t at f kind stands = subst (λ (n : ℕ). 0 < n) stands.offset (by stands.prefix stands.is)
  where
    by : (prefix : List ℕ) → spelling t ≡ prefix ++ (frame_text f ++ stands.behind) → 0 < length prefix
    by [] e = let first : 69 ≡ kind_of f = ap (λ (b : List ℕ). slice_index b 0) e in absurd (omega arith)
    by (x ∷ prefix) e = omega arith

pub framed_there : {bytes : List ℕ} {at : ℕ} (t : Trace) (f : Frame) → Spells bytes t → kind_of f < 69
    → StandsIn bytes at (frame_text f) → (frame_in bytes at ≡ frame_text f) × IsFramed bytes at
framed_there {bytes = bytes} {at = at} t f spelled kind stands =
    let short = spelled_short bytes t spelled in
    let own = subst (λ (b : List ℕ). StandsIn b at (frame_text f)) spelled.spelled stands in
    let n = length (body_text f) in
    let cut : drop at bytes ≡ frame_text f ++ stands.behind = ap (drop at) stands.is
    ∙ drop_at stands.prefix (frame_text f ++ stands.behind) at stands.offset in
    let long : length bytes ≡ at + (5 + n + length stands.behind) =
    ap length stands.is ∙ length-append stands.prefix (frame_text f ++ stands.behind)
    ∙ omega (arith, stands.offset, length-append (frame_text f) stands.behind, length-frame_text f) in
    let number : big_number 4 (drop 1 (drop at bytes)) ≡ n =
    ap (λ (b : List ℕ). big_number 4 (drop 1 b)) cut
    ∙ ap (big_number 4) (append_assoc (big_bytes 4 n) (body_text f) stands.behind)
    ∙ number_again n (body_text f ++ stands.behind) (omega (arith, long, short)) in
    let wide : length (frame_text f) ≡ 5 + big_number 4 (drop 1 (drop at bytes)) =
    omega (arith, number, length-frame_text f) in (
      ap (take (5 + big_number 4 (drop 1 (drop at bytes)))) cut
          ∙ take_at (frame_text f) stands.behind (5 + big_number 4 (drop 1 (drop at bytes))) wide,
      record {
        not_first = not_first t at f kind own;
        within = omega (arith, long, number);
        small = omega (arith, long, short);
      },
    )

-- ---- located texts

-- one of them stands where it is said to
pub record IsLocated {A : Type 0} (text : A → List ℕ) (at : ℕ) (xs : List A) (item : ℕ × A) : Type 0 where
  pub place : ℕ
  pub stands : StandsIn (flat_map text xs) place (text item.1)
  pub offset : item.0 ≡ at + place

pub located_stands : {A : Type 0} (text : A → List ℕ) (at : ℕ) (xs : List A) (before : List (ℕ × A)) (item : ℕ × A)
    (rest : List (ℕ × A)) → located text at xs ≡ before ++ item ∷ rest → IsLocated text at xs item
located_stands text at [] before item rest e = absurd (no_item before item rest e)
located_stands {A = A} text at (x ∷ xs) [] item rest e =
    subst (λ (y : ℕ × A). IsLocated text at (x ∷ xs) y)
    (same_first (at, x) item (located text (at + length (text x)) xs) rest e)
    (record {
      place = 0;
      stands = record { prefix = []; behind = flat_map text xs; is = refl; offset = refl };
      offset = omega arith;
    })
located_stands text at (x ∷ xs) (z ∷ before) item rest e =
    let later = located_stands text (at + length (text x)) xs before item rest
    (same_others (at, x) z (located text (at + length (text x)) xs) (before ++ item ∷ rest) e) in
    let o = later.offset in
    let p = later.stands.offset in
    record {
      place = length (text x) + later.place;
      stands = record {
        prefix = text x ++ later.stands.prefix;
        behind = later.stands.behind;
        is = ap (λ (b : List ℕ). text x ++ b) later.stands.is
            ∙ sym (append_assoc (text x) later.stands.prefix (text item.1 ++ later.stands.behind));
        offset = omega (arith, p, length-append (text x) later.stands.prefix);
      };
      offset = omega (arith, o);
    }

-- ---- the parts of a trace

-- a part stands behind its own first frame
pub part_stands : (t : Trace) (before part next : List Frame) (first : Frame) (at : ℕ) (text : List ℕ)
    → IsPart (frames_of t) before part next first → 32 + length (frames_text before) ≡ at → frames_text part ≡ text
    → StandsIn (spelling t) (at + length (frame_text first)) text
unfolding spelling
part_stands t before part next first at text cut begins decoded =
    let head = head_text t.head (length_of t) in
    let own = frame_text first in
    let all : frames_text (frames_of t) ≡ frames_text before ++ (own ++ (text ++ frames_text cut.rest)) =
    ap frames_text cut.whole ∙ flat_map-append frame_text before (first ∷ (part ++ cut.rest))
    ∙ ap (λ (b : List ℕ). frames_text before ++ (own ++ b)) (flat_map-append frame_text part cut.rest
    ∙ ap (λ (b : List ℕ). b ++ frames_text cut.rest) decoded) in
    record {
      prefix = head ++ (frames_text before ++ own);
      behind = frames_text cut.rest;
      is = ap (λ (b : List ℕ). head ++ b)
          (all ∙ sym (append_assoc (frames_text before) own (text ++ frames_text cut.rest)))
          ∙ sym (append_assoc head (frames_text before ++ own) (text ++ frames_text cut.rest));
      offset = omega (
        arith,
        length-append head (frames_text before ++ own),
        length-append (frames_text before) own,
        length-head_text t.head (length_of t),
        begins,
      );
    }

-- ---- the steps of a section

section_stands : (t : Trace) (e : ℕ) → e < length t.sections
    → StandsIn (spelling t) (section_start t e + length (frame_text (OfReplica e))) (flat_map step_text (steps_of t e))
section_stands t e lt = part_stands t (before_section t e) (flat_map step_frames (steps_of t e)) _ (OfReplica e)
    (section_start t e) (flat_map step_text (steps_of t e)) (section_cut t e lt) (section_begins t e)
    (frames_text-flat_map step_frames (steps_of t e))

pub step_stands : (t : Trace) (e : ℕ) (before : List (ℕ × Step)) (step : ℕ × Step) (rest : List (ℕ × Step))
    → steps_at t e ≡ before ++ step ∷ rest → StandsIn (spelling t) step.0 (step_text step.1)
unfolding steps_at
step_stands t e before step rest split = elim (cases_lt e (length t.sections)) [
  | inl lt ↦
      let found = located_stands step_text (section_start t e + length (frame_text (OfReplica e)))
      (steps_of t e) before step rest split in
      subst (λ (at : ℕ). StandsIn (spelling t) at (step_text step.1)) (sym found.offset)
      (stands_inside (section_stands t e lt) found.stands)
  | inr ge ↦ absurd (no_item before step rest
      (ap (located step_text (section_start t e + length (frame_text (OfReplica e))))
      (sym (get_or_past t.sections e [] ge))
      ∙ split))
]

-- its own frame stands first
pub first_stands : {bytes : List ℕ} {at : ℕ} (f : Frame) (fs : List Frame) → StandsIn bytes at (frames_text (f ∷ fs))
    → StandsIn bytes at (frame_text f)
first_stands {at = at} f fs stands = record {
  prefix = stands.prefix;
  behind = frames_text fs ++ stands.behind;
  is = stands.is ∙ ap (λ (b : List ℕ). stands.prefix ++ b) (append_assoc (frame_text f) (frames_text fs) stands.behind);
  offset = stands.offset;
}

-- the access frames after an attempt's own
pub access_stands : {bytes : List ℕ} (at : ℕ) (b : Attempt) (i : ℕ) (x : ℕ × Access)
    → StandsIn bytes at (step_text (Attempts b)) → slice_get (accesses_at at b) i ≡ Some x
    → StandsIn bytes x.0 (frame_text (OfAccess x.1))
access_stands {bytes = bytes} at b i x stands got =
    let xs = accesses_at at b in
    let own = frame_text (OfAttempt b) in
    let all = flat_map (λ y. frame_text (OfAccess y)) b.accesses in
    let found = located_stands (λ y. frame_text (OfAccess y)) (at + length own) b.accesses (take i xs) x
    (drop (suc i) xs) (cut_at xs i x got) in
    let inside : StandsIn (step_text (Attempts b)) (length own) all =
    record {
      prefix = own;
      behind = [];
      is = ap (λ (c : List ℕ). own ++ c)
          (flat_map-map frame_text OfAccess b.accesses ∙ sym (append-nil all));
      offset = refl;
    } in
    let sum : at + length own + found.place ≡ x.0 = sym found.offset in
    subst (λ (o : ℕ). StandsIn bytes o (frame_text (OfAccess x.1))) sum
    (stands_inside (stands_inside stands inside) found.stands)

-- ---- the step that comes next

-- the trace's bytes hold it where it is said to stand
next_stands : (bytes : List ℕ) (t : Trace) (e : ℕ) (rest : List (ℕ × Step)) (k : KeptSection) (at : ℕ) (step : Step)
    → Spells bytes t → HasCome t e ((at, step) ∷ rest) k → StandsIn bytes at (step_text step)
next_stands bytes t e rest k at step spelled come =
    subst (λ (c : List ℕ). StandsIn c at (step_text step)) (sym spelled.spelled)
    (step_stands t e come.prefix (at, step) rest come.split)

few_rows : (bytes : List ℕ) (t : Trace) → Spells bytes t → row_count (head_of t) ≤ MOST_ROWS
few_rows bytes t spelled =
    let small = few_customers (head_of t) (limits_of_spelled bytes t spelled).head in
    omega (arith, small)

-- an attempt is found again by the byte at which its frame begins
pub attempt_there : (bytes : List ℕ) (t : Trace) (e : ℕ) (rest : List (ℕ × Step)) (k : KeptSection) (at : ℕ)
    (b : Attempt)
    → Spells bytes t → HasCome t e ((at, Attempts b) ∷ rest) k
    → (attempt_in (frame_in bytes at) ≡ without_accesses b) × IsAttemptAt bytes at
attempt_there bytes t e rest k at b spelled come =
    let fits = (and_parts (is_step (row_count (head_of t)) (Attempts b)) _ come.fit).0 in
    let stands = first_stands (OfAttempt b) (map OfAccess b.accesses)
    (next_stands bytes t e rest k at (Attempts b) spelled come) in
    let framed = framed_there t (OfAttempt b) spelled (omega arith) stands in
    let says = attempt_again b (and_parts (is_attempt b) _ fits).0 in (
      ap attempt_in framed.0 ∙ says.1,
      record {
        framed = framed.1;
        attempt = subst (λ (c : List ℕ). IsTrue (has_attempt_body c)) (sym framed.0) says.0;
        text = framed.0 ∙ ap (λ (a : Attempt). frame_text (OfAttempt a)) (sym (ap attempt_in framed.0 ∙ says.1));
      },
    )

-- and a rollback by that of its own
pub rollback_there : (bytes : List ℕ) (t : Trace) (e : ℕ) (rest : List (ℕ × Step)) (k : KeptSection) (at : ℕ)
    (r : Rollback)
    → Spells bytes t → HasCome t e ((at, RollsBack r) ∷ rest) k
    → (rollback_in (frame_in bytes at) ≡ r) × IsRollbackAt bytes at
rollback_there bytes t e rest k at r spelled come =
    let fits = (and_parts (is_step (row_count (head_of t)) (RollsBack r)) _ come.fit).0 in
    let stands = first_stands (OfRollback r) [] (next_stands bytes t e rest k at (RollsBack r) spelled come) in
    let framed = framed_there t (OfRollback r) spelled (omega arith) stands in
    let says = rollback_again (row_count (head_of t)) r fits (few_rows bytes t spelled) in (
      ap rollback_in framed.0 ∙ says.1,
      record {
        framed = framed.1;
        rollback = subst (λ (c : List ℕ). IsTrue (has_rollback_body c)) (sym framed.0) says.0;
        text = framed.0 ∙ ap (λ (q : Rollback). frame_text (OfRollback q)) (sym (ap rollback_in framed.0 ∙ says.1));
      },
    )

-- and a state by that of its own
pub transfer_there : (bytes : List ℕ) (t : Trace) (e : ℕ) (rest : List (ℕ × Step)) (k : KeptSection) (at : ℕ)
    (x : Transfer)
    → Spells bytes t → HasCome t e ((at, Transfers x) ∷ rest) k
    → (transfer_in (frame_in bytes at) ≡ x) × IsTransferAt bytes at
transfer_there bytes t e rest k at x spelled come =
    let fits = (and_parts (is_step (row_count (head_of t)) (Transfers x)) _ come.fit).0 in
    let stands = first_stands (OfTransfer x) [] (next_stands bytes t e rest k at (Transfers x) spelled come) in
    let framed = framed_there t (OfTransfer x) spelled (omega arith) stands in
    let says = transfer_again (row_count (head_of t)) x fits in (
      ap transfer_in framed.0 ∙ says.1,
      record {
        framed = framed.1;
        transfer = subst (λ (c : List ℕ). IsTrue (has_transfer_body c)) (sym framed.0) says.0;
        text = framed.0 ∙ ap (λ (y : Transfer). frame_text (OfTransfer y)) (sym (ap transfer_in framed.0 ∙ says.1));
      },
    )

-- ---- how many steps came

step_long : (step : Step) → 1 ≤ length (step_text step)
step_long (Attempts a) = omega arith
step_long (Commits c) = omega arith
step_long (RollsBack r) = omega arith
step_long (Transfers x) = omega arith

-- before one of them stand no more than there are bytes before it
located_late : {A : Type 0} (text : A → List ℕ) (at : ℕ) (xs : List A) (before : List (ℕ × A)) (item : ℕ × A)
    (rest : List (ℕ × A)) → ((x : A) → 1 ≤ length (text x)) → located text at xs ≡ before ++ item ∷ rest
    → at + length before ≤ item.0
located_late text at [] before item rest long e = absurd (no_item before item rest e)
located_late {A = A} text at (x ∷ xs) [] item rest long e =
    let same : at ≡ item.0 = ap (λ (y : ℕ × A). y.0)
    (same_first (at, x) item (located text (at + length (text x)) xs) rest e) in
    omega arith
located_late text at (x ∷ xs) (z ∷ before) item rest long e =
    let own : 1 ≤ length (text x) = long x in
    let later : at + length (text x) + length before ≤ item.0 =
    located_late text (at + length (text x)) xs before item rest long
    (same_others (at, x) z (located text (at + length (text x)) xs) (before ++ item ∷ rest) e) in
    omega arith

steps_late : (t : Trace) (e : ℕ) (before : List (ℕ × Step)) (step : ℕ × Step) (rest : List (ℕ × Step))
    → steps_at t e ≡ before ++ step ∷ rest → length before ≤ step.0
unfolding steps_at
steps_late t e before step rest split =
    let late = located_late step_text (section_start t e + length (frame_text (OfReplica e))) (steps_of t e) before step
    rest step_long split in
    omega (arith, late)

attempts_few : (steps : List (ℕ × Step)) → length (attempts_among steps) ≤ length steps
attempts_few [] = omega arith
attempts_few ((at, Attempts a) ∷ steps) = let few = attempts_few steps in omega (arith, few)
attempts_few ((at, Commits c) ∷ steps) = let few = attempts_few steps in omega (arith, few)
attempts_few ((at, RollsBack r) ∷ steps) = let few = attempts_few steps in omega (arith, few)
attempts_few ((at, Transfers x) ∷ steps) = let few = attempts_few steps in omega (arith, few)

step_small : (bytes : List ℕ) (t : Trace) (at : ℕ) (step : Step) → Spells bytes t → StandsIn bytes at (step_text step)
    → at < 2 ^ 32
step_small bytes t at (Attempts b) spelled stands =
    (framed_there t (OfAttempt b) spelled (omega arith)
    (first_stands (OfAttempt b) (map OfAccess b.accesses) stands)).1.small
step_small bytes t at (Commits c) spelled stands =
    (framed_there t (OfCommit c) spelled (omega arith) (first_stands (OfCommit c) [] stands)).1.small
step_small bytes t at (RollsBack r) spelled stands =
    (framed_there t (OfRollback r) spelled (omega arith) (first_stands (OfRollback r) [] stands)).1.small
step_small bytes t at (Transfers x) spelled stands =
    (framed_there t (OfTransfer x) spelled (omega arith) (first_stands (OfTransfer x) [] stands)).1.small

-- where a step comes next, there are fewer before it than 32 bits can count
steps_small : (bytes : List ℕ) (t : Trace) (e : ℕ) (rest : List (ℕ × Step)) (k : KeptSection) (at : ℕ) (step : Step)
    → Spells bytes t → (come : HasCome t e ((at, step) ∷ rest) k) → length come.prefix < 2 ^ 32
steps_small bytes t e rest k at step spelled come =
    let small = step_small bytes t at step spelled (next_stands bytes t e rest k at step spelled come) in
    let late = steps_late t e come.prefix (at, step) rest come.split in
    omega (arith, small, late)

-- and so fewer attempts
pub attempts_small : (bytes : List ℕ) (t : Trace) (e : ℕ) (rest : List (ℕ × Step)) (k : KeptSection) (at : ℕ)
    (step : Step) → Spells bytes t → HasCome t e ((at, step) ∷ rest) k → length k.attempts < 2 ^ 32
attempts_small bytes t e rest k at step spelled come =
    let small = steps_small bytes t e rest k at step spelled come in
    let few = attempts_few come.prefix in
    let many : length k.attempts ≡ length (attempts_among come.prefix) =
    sym (length-map k.attempts (kept_executed_attempt k.records)) ∙ ap length come.attempts
    ∙ length-map (attempts_among come.prefix) executed_attempt in
    omega (arith, small, few)

-- and states
pub transfers_small : (bytes : List ℕ) (t : Trace) (e : ℕ) (rest : List (ℕ × Step)) (k : KeptSection) (at : ℕ)
    (step : Step) → Spells bytes t → HasCome t e ((at, step) ∷ rest) k → length k.transfers < 2 ^ 32
transfers_small bytes t e rest k at step spelled come =
    let small = steps_small bytes t e rest k at step spelled come in
    let few = transfers_few come.prefix in
    let many = ap length (come.transfers ∙ transfers_after start come.prefix) in
    omega (arith, small, few, many)

-- ---- the access records of an attempt that comes next

-- a record is found again by the byte at which its frame begins
pub record IsSeen (bytes : List ℕ) (x : ℕ × Access) : Type 0 where
  pub again : seen bytes x.0 ≡ x
  pub there : IsAccessAt bytes x.0

from_each : {A : Type 0} (P : A → Type 0) (xs : List A) → ((i : ℕ) (x : A) → slice_get xs i ≡ Some x → P x)
    → AllByRecursion P xs
from_each P [] each = tt
from_each P (x ∷ xs) each = (each 0 x refl, from_each P xs (λ i y e. each (suc i) y e))

seen_again : (bytes : List ℕ) (t : Trace) (x : ℕ × Access) → Spells bytes t
    → IsTrue (is_access (row_count (head_of t)) x.1)
    → StandsIn bytes x.0 (frame_text (OfAccess x.1)) → IsSeen bytes x
seen_again bytes t (at, x) spelled fits stands =
    let framed = framed_there t (OfAccess x) spelled (omega arith) stands in
    let says = access_again (row_count (head_of t)) x fits (few_rows bytes t spelled) in
    record {
      again = ap (λ (y : Access). (at, y)) (ap access_in framed.0 ∙ says.1);
      there = record {
        framed = framed.1;
        access = subst (λ (b : List ℕ). IsTrue (has_access_body b)) (sym framed.0) says.0;
        text = framed.0 ∙ ap (λ (y : Access). frame_text (OfAccess y)) (sym (ap access_in framed.0 ∙ says.1));
      };
    }

pub each_seen : (bytes : List ℕ) (t : Trace) (b : Attempt) (at : ℕ) → Spells bytes t
    → is_step (row_count (head_of t)) (Attempts b) ≡ true → StandsIn bytes at (step_text (Attempts b))
    → AllByRecursion (IsSeen bytes) (accesses_at at b)
each_seen bytes t b at spelled fit step =
    let records = (and_parts (length b.accesses == length b.certificate)
    (list_all (is_access (row_count (head_of t))) b.accesses) (and_parts (is_attempt b) _ fit).1).1 in
    from_each (IsSeen bytes) (accesses_at at b) (λ i x got.
    seen_again bytes t x spelled
    (all_at (is_access (row_count (head_of t))) b.accesses i x.1 records
    (located_get (λ y. frame_text (OfAccess y)) (at + length (frame_text (OfAttempt b))) b.accesses i x got))
    (access_stands at b i x step got))

pub all_seen : (bytes : List ℕ) (t : Trace) (e : ℕ) (rest : List (ℕ × Step)) (b : Attempt) (k : KeptSection) (at : ℕ)
    (decoded : Attempt) (xs : List (ℕ × Access)) → Spells bytes t → ComesNext t e rest b k at decoded xs
    → AllByRecursion (IsSeen bytes) xs
all_seen bytes t e rest b k at decoded xs spelled comes =
    let come = comes.come in
    let fits = (and_parts (is_step (row_count (head_of t)) (Attempts b)) _ come.fit).0 in
    subst (AllByRecursion (IsSeen bytes)) (sym comes.accesses)
    (each_seen bytes t b at spelled fits (next_stands bytes t e rest k at (Attempts b) spelled come))

pub all_small : (bytes : List ℕ) (xs : List (ℕ × Access)) → AllByRecursion (IsSeen bytes) xs
    → AllByRecursion (λ x. x.0 < 2 ^ 32) xs
all_small bytes [] all = tt
all_small bytes (x ∷ xs) all = (all.0.there.framed.small, all_small bytes xs all.1)

seen_with : (bytes : List ℕ) (xs : List (ℕ × Access)) (i : ℕ) → AllByRecursion (IsSeen bytes) xs
    → list_any (λ y. y.index == i) (accesses_of xs) ≡ true → IsSeen bytes (access_with xs i)
seen_with bytes [] i all some = absurd (false≢true some)
seen_with bytes (x ∷ xs) i all some = by (x.1.index == i) some (seen_with bytes xs i all.1)
  where
    by : (b : Bool) → (b || list_any (λ y. y.index == i) (accesses_of xs)) ≡ true
        → (list_any (λ y. y.index == i) (accesses_of xs) ≡ true → IsSeen bytes (access_with xs i))
        → IsSeen bytes (cond b x (access_with xs i))
    by true some rest = all.0
    by false some rest = rest some

-- they are kept in the certificate's order
pub seen_in_order : (bytes : List ℕ) (xs : List (ℕ × Access)) (order : List ℕ) → AllByRecursion (IsSeen bytes) xs
    → AllByRecursion (λ i. (i < 256) × IsTrue (list_any (λ y. y.index == i) (accesses_of xs))) order
    → map (seen bytes) (map (λ i. (access_with xs i).0) order) ≡ map (access_with xs) order
seen_in_order bytes xs [] all there = refl
seen_in_order bytes xs (i ∷ order) all there = λ j. (seen_with bytes xs i all there.0.1).again j ∷ seen_in_order bytes
    xs order all there.1 j

pub access_frames : (bytes : List ℕ) (xs : List (ℕ × Access)) (kept order : List ℕ) → AllByRecursion (IsSeen bytes) xs
    → AllByRecursion (λ i. (i < 256) × IsTrue (list_any (λ y. y.index == i) (accesses_of xs))) order
    → AllByRecursion (IsAccessAt bytes) kept
    → AllByRecursion (IsAccessAt bytes) (kept ++ map (λ i. (access_with xs i).0) order)
access_frames bytes xs (at ∷ kept) order all there known =
    (known.0, access_frames bytes xs kept order all there known.1)
access_frames bytes xs [] order all there known = by order there
  where
    by : (is : List ℕ) → AllByRecursion (λ i. (i < 256) × IsTrue (list_any (λ y. y.index == i) (accesses_of xs))) is
        → AllByRecursion (IsAccessAt bytes) (map (λ i. (access_with xs i).0) is)
    by [] there = tt
    by (i ∷ is) there = ((seen_with bytes xs i all there.0.1).there, by is there.1)
