-- Public: other crates cite these lemmas. The steps of a section, one after another.
use Rattle.eve_views.specs.Form.{IsLeast, IsFaultIn}
use Rattle.std.proofs.Common.{◌≡◌, ℕ, zero, suc, ◌+◌, ◌-◌, ◌<◌, ◌≤◌, ◌==◌, Bool, true, false, List, [], ◌∷◌, ◌++◌, map}
use Rattle.std.proofs.Common.{length, take, drop, replicate, Option, Some, None, IsTrue, refl, sym, ap, subst, ◌∙◌}
use Rattle.std.proofs.Common.{append_assoc, add-one, nat_lt, nat_le, ◌&&◌, arith}
use Rattle.std.specs.Prelude.{slice_index_or}
use Rattle.std.specs.List.{AllByRecursion, list_all}
use Rattle.std.proofs.lemmas.Bool.{and_parts, and_from, eqb-true, ltb-true, false≢true}
use Rattle.std.proofs.lemmas.List.{append-nil, map-append, length-map, length-append, length-drop, length-replicate}
use Rattle.std.proofs.lemmas.List.{drop_all, drop-append-le, drop-drop, drop_at, take-append-le, take_all}
use Rattle.eve_grammar.specs.Trace.{Access, Attempt, Commit, Rollback, Transfer, Step, Attempts, Commits, RollsBack}
use Rattle.eve_grammar.specs.Trace.{Transfers, Trace, head_of}
use Rattle.eve_grammar.specs.Frames.{without_accesses}
use Rattle.eve_grammar.specs.Spelling.{located, step_text, steps_of, steps_at, accesses_at}
use Rattle.eve_grammar.specs.Limits.{is_step, row_count, HasLimits}
use Rattle.eve_views.specs.declared.fault.Fault.{Fault}
use Rattle.eve_history.specs.declared.fate.Fate.{Fate}
use Rattle.eve_history.specs.declared.fate.Fate.TheVariants.{Committed, Discarded, Open}
use Rattle.eve_history.specs.declared.how_reached.HowReached as told
use Rattle.eve_history.specs.declared.how_reached.HowReached.TheVariants as how_reached
use Rattle.eve_history.specs.declared.wrong.Wrong.{Wrong}
use Rattle.eve_history.specs.Section.{Placed, SectionState, start, next}
use Rattle.eve_history.specs.Section.{committing, state_after, path_of, commits_first, is_right_commit}
use Rattle.eve_history.specs.Section.{transfers_by, are_right}
use Rattle.eve_history.specs.Fates.{fate_in, fates_from}
use Rattle.eve_history.specs.SectionHistory.{ExecutedAttempt, executed_attempt, ordered, attempts_among}
use Rattle.eve_history.specs.SectionHistory.{rollbacks_among, access_with, section_history}
use Rattle.eve_history.specs.SectionHistory.{told_reached_from, transferred_from}
use Rattle.eve_history.specs.inner.FirstWrong.{wrong_step, first_wrong, first_wrong_of, fault_of}
use Rattle.eve_history.specs.KeptSections.{KeptAttempt, KeptSection, open_count, kept_executed_attempt}
use Rattle.eve_history.specs.KeptSections.{executed_attempts}
use Rattle.eve_history.specs.KeptSections.{kept_at_first, section_history_of, StandsAt}
use Rattle.eve_history.specs.KeptSections.{AreSettled, open_fates, HasCome}
use Rattle.eve_history.proofs.StructureLaws.{state_after-append, are_right-push, right_step, steps_on, found_is_least}
use Rattle.eve_history.proofs.StructureLaws.{none_stands}
use Rattle.eve_history.proofs.Transfers.{transfers_commit, transfers_transferring}
use Rattle.eve_history.proofs.WaysKept.{still_there, one_more_there, over_at, over_there, over_count}
use Rattle.eve_history.proofs.WaysKept.{settled_attempt, settled_commit, settled_rollback, settled_transfer}
use Rattle.eve_history.specs.Structure.{StandsInStructure}

-- ---- before the first step

all_located : {A : Type 0} (p : A → Bool) (text : A → List ℕ) (at : ℕ) (xs : List A) → list_all p xs ≡ true
    → list_all (λ x. p x.1) (located text at xs) ≡ true
all_located p text at [] all = refl
all_located p text at (x ∷ xs) all =
    let parts = and_parts (p x) (list_all p xs) all in
    and_from (p x) (list_all (λ y. p y.1) (located text (at + length (text x)) xs)) parts.0
    (all_located p text (at + length (text x)) xs parts.1)

all_in_section : (p : Step → Bool) (sections : List (List Step)) (e : ℕ) → list_all (list_all p) sections ≡ true
    → list_all p (slice_index_or sections e []) ≡ true
all_in_section p [] e all = refl
all_in_section p (s ∷ sections) zero all = (and_parts (list_all p s) (list_all (list_all p) sections) all).0
all_in_section p (s ∷ sections) (suc e) all =
    all_in_section p sections e (and_parts (list_all p s) (list_all (list_all p) sections) all).1

-- what holds of all steps of all sections
pub steps_all : (p : Step → Bool) (t : Trace) (e : ℕ) → list_all (list_all p) t.sections ≡ true
    → list_all (λ x. p x.1) (steps_at t e) ≡ true
unfolding steps_at
steps_all p t e all = all_located p step_text _ (steps_of t e) (all_in_section p t.sections e all)

pub steps_fit : (t : Trace) (e : ℕ) → HasLimits t → list_all (λ x. is_step (row_count (head_of t)) x.1) (steps_at t e)
    ≡ true
steps_fit t e limits = steps_all (is_step (row_count (head_of t))) t e limits.sections

pub come_start_with : (t : Trace) (e : ℕ) (records : List (ℕ × Access)) → HasLimits t
    → HasCome t e (steps_at t e) (kept_at_first records)
come_start_with t e records limits = record {
  prefix = [];
  split = refl;
  right = refl;
  stands = record { view = refl; last = refl; rolled_back = refl; pending = refl; fewer = omega arith };
  attempts = refl;
  settled = record { pending = refl; told_reached = refl };
  is_kept = record { within = tt; fewer = omega arith; count = refl; there = tt };
  fates = refl;
  transferred = refl;
  rollbacks = refl;
  transfers = refl;
  fit = steps_fit t e limits;
}

pub come_start : (t : Trace) (e : ℕ) → HasLimits t → HasCome t e (steps_at t e) (kept_at_first [])
come_start t e limits = come_start_with t e [] limits

-- ---- one step more

pub attempts_among-append : (xs ys : List (ℕ × Step)) → attempts_among (xs ++ ys)
    ≡ attempts_among xs ++ attempts_among ys
attempts_among-append [] ys = refl
attempts_among-append ((at, Attempts a) ∷ xs) ys = ap (λ (zs : List (ℕ × Attempt)). (at, a) ∷ zs)
    (attempts_among-append xs ys)
attempts_among-append ((at, Commits c) ∷ xs) ys = attempts_among-append xs ys
attempts_among-append ((at, RollsBack r) ∷ xs) ys = attempts_among-append xs ys
attempts_among-append ((at, Transfers x) ∷ xs) ys = attempts_among-append xs ys

rollbacks_among-push : (xs : List (ℕ × Step)) (x : ℕ × Step) → rollbacks_among (xs ++ x ∷ [])
    ≡ rollbacks_among xs ++ rollbacks_among (x ∷ [])
rollbacks_among-push [] x = refl
rollbacks_among-push ((at, Attempts a) ∷ xs) x = rollbacks_among-push xs x
rollbacks_among-push ((at, Commits c) ∷ xs) x = rollbacks_among-push xs x
rollbacks_among-push ((at, RollsBack r) ∷ xs) x = ap (λ (ys : List (ℕ × Rollback)). (at, r) ∷ ys)
    (rollbacks_among-push xs x)
rollbacks_among-push ((at, Transfers y) ∷ xs) x = rollbacks_among-push xs x

-- a step at which something is wrong
pub come_wrong : (t : Trace) (e : ℕ) (step : ℕ × Step) (rest : List (ℕ × Step)) (k : KeptSection) (w : Wrong)
    (come : HasCome t e (step ∷ rest) k)
    → wrong_step t (state_after start come.prefix) step ≡ Some w
    → IsLeast (IsFaultIn StandsInStructure t e) (fault_of e w)
come_wrong t e step rest k w come wrong =
    found_is_least t e w
    (ap (first_wrong t start) come.split ∙ steps_on t start come.prefix (step ∷ rest) come.right
    ∙ ap (λ (o : Option Wrong). first_wrong_of o (first_wrong t (next (state_after start come.prefix) step) rest))
    wrong)

-- what is the same after any step that is right
module _ (t : Trace) (e : ℕ) (step : ℕ × Step) (rest : List (ℕ × Step)) (k : KeptSection)
    (come : HasCome t e (step ∷ rest) k)
    (nothing_is : wrong_step t (state_after start come.prefix) step ≡ None) where
  one_more : steps_at t e ≡ (come.prefix ++ step ∷ []) ++ rest
  one_more = come.split ∙ sym (append_assoc come.prefix (step ∷ []) rest)

  settled_next : (rs : List ExecutedAttempt) (n : ℕ) (ls : List told.HowReached)
      → AreSettled (next (state_after start come.prefix) step) rs n ls
      → AreSettled (state_after start (come.prefix ++ step ∷ [])) rs n ls
  settled_next rs n ls settled = subst (λ (s : SectionState). AreSettled s rs n ls)
      (sym (state_after-append start come.prefix (step ∷ []))) settled

  still_right : are_right t start (come.prefix ++ step ∷ []) ≡ true
  still_right = are_right-push t start come.prefix step come.right
      (right_step t (state_after start come.prefix) step nothing_is)

  stands_next : (k' : KeptSection) → StandsAt (next (state_after start come.prefix) step) k'
      → StandsAt (state_after start (come.prefix ++ step ∷ [])) k'
  stands_next k' stands = subst (λ (s : SectionState). StandsAt s k')
      (sym (state_after-append start come.prefix (step ∷ []))) stands

  transfers_next : (xs : List (ℕ × Transfer)) → xs
      ≡ transfers_by (next (state_after start come.prefix) step).ways_reached
      → xs ≡ transfers_by (state_after start (come.prefix ++ step ∷ [])).ways_reached
  transfers_next xs is = is ∙ ap (λ (s : SectionState). transfers_by s.ways_reached)
      (sym (state_after-append start come.prefix (step ∷ [])))

  rest_fits : IsTrue (list_all (λ x. is_step (row_count (head_of t)) x.1) rest)
  rest_fits = (and_parts (is_step (row_count (head_of t)) step.1) _ come.fit).1

-- ---- fates

pub open_attempt : (at : ℕ) (a : Attempt) (rest : List (ℕ × Step)) (b n : ℕ) → open_fates ((at, Attempts a) ∷ rest) b n
    ≡ open_fates rest b n
open_attempt at a rest b zero = refl
open_attempt at a rest b (suc n) = ap (λ (fs : List Fate). fate_in rest b ∷ fs) (open_attempt at a rest (suc b) n)

pub open_push : (rest : List (ℕ × Step)) (b n : ℕ) → open_fates rest b (suc n) ≡ open_fates rest b n ++ fate_in rest
    (b + n) ∷ []
open_push rest b zero = let e : b + 0 ≡ b = omega arith in ap (λ (m : ℕ). fate_in rest m ∷ []) (sym e)
open_push rest b (suc n) =
    let e : suc b + n ≡ b + suc n = omega arith in
    ap (λ (fs : List Fate). fate_in rest b ∷ fs)
    (open_push rest (suc b) n ∙ ap (λ (m : ℕ). open_fates rest (suc b) n ++ fate_in rest m ∷ []) e)

pub open_commit : (at : ℕ) (c : Commit) (rest : List (ℕ × Step)) (b n : ℕ)
    → open_fates ((at, Commits c) ∷ rest) (suc b) n ≡ open_fates rest b n
open_commit at c rest b zero = refl
open_commit at c rest b (suc n) = ap (λ (fs : List Fate). fate_in rest b ∷ fs) (open_commit at c rest (suc b) n)

pub open_rollback : (at : ℕ) (r : Rollback) (rest : List (ℕ × Step)) (b n : ℕ)
    → open_fates ((at, RollsBack r) ∷ rest) b n ≡ replicate n Discarded
open_rollback at r rest b zero = refl
open_rollback at r rest b (suc n) = ap (λ (fs : List Fate). Discarded ∷ fs) (open_rollback at r rest (suc b) n)

pub open_transfer : (at : ℕ) (x : Transfer) (rest : List (ℕ × Step)) (b n : ℕ)
    → open_fates ((at, Transfers x) ∷ rest) b n ≡ replicate n Discarded
open_transfer at x rest b zero = refl
open_transfer at x rest b (suc n) = ap (λ (fs : List Fate). Discarded ∷ fs) (open_transfer at x rest (suc b) n)

pub open_end : (b n : ℕ) → open_fates [] b n ≡ replicate n Open
open_end b zero = refl
open_end b (suc n) = ap (λ (fs : List Fate). Open ∷ fs) (open_end (suc b) n)

-- ---- an attempt

-- how many states were transferred before it
abbrev transferred_before : KeptAttempt → ℕ
transferred_before a = a.transferred

same_executed_attempt : (records more : List (ℕ × Access)) (xs : List KeptAttempt)
    → AllByRecursion (λ a. a.from + length a.attempt.certificate ≤ length records) xs
    → map (kept_executed_attempt (records ++ more)) xs ≡ map (kept_executed_attempt records) xs
same_executed_attempt records more [] within = refl
same_executed_attempt records more (a ∷ xs) within =
    let first : a.from + length a.attempt.certificate ≤ length records = within.0 in
    let one : drop a.from (records ++ more) ≡ drop a.from records ++ more =
    drop-append-le a.from records more (omega arith) in
    let two : take (length a.attempt.certificate) (drop a.from records ++ more) ≡ take (length a.attempt.certificate)
    (drop a.from records) =
    take-append-le (length a.attempt.certificate) (drop a.from records) more (omega (arith, length-drop a.from records))
    in
    λ i. record {
      offset = a.offset;
      attempt = a.attempt;
      ordered = (ap (take (length a.attempt.certificate)) one ∙ two)
          i;
    } ∷ same_executed_attempt records more xs within.1 i

pub still_within : (n m : ℕ) (xs : List KeptAttempt) (a : KeptAttempt) → n ≤ m
    → AllByRecursion (λ a. a.from + length a.attempt.certificate ≤ n) xs → a.from + length a.attempt.certificate ≤ m
    → AllByRecursion (λ a. a.from + length a.attempt.certificate ≤ m) (xs ++ a ∷ [])
still_within n m [] a le within last = (last, tt)
still_within n m (x ∷ xs) a le within last = let first : x.from + length x.attempt.certificate ≤ n = within.0 in
    (omega arith, still_within n m xs a le within.1 last)

-- with the attempt, whose records begin at this place of these
abbrev pub with_attempt_at : KeptSection → ℕ → Attempt → ℕ → List (ℕ × Access) → KeptSection
with_attempt_at k at decoded from records = record k {
  rolled_back = false;
  attempts = k.attempts ++ record { offset = at; attempt = decoded; transferred = length k.transfers; from = from }
      ∷ [];
  records = records;
}

-- with the attempt and its records
abbrev pub with_attempt : KeptSection → ℕ → Attempt → List (ℕ × Access) → KeptSection
with_attempt k at decoded records = with_attempt_at k at decoded (length k.records) (k.records ++ records)

-- where this many states were transferred before it
abbrev pub attempt_at : ℕ → Attempt → ℕ → ℕ → KeptAttempt
attempt_at at b transferred from = record
    { offset = at; attempt = without_accesses b; transferred = transferred; from = from }

module _ (t : Trace) (e at : ℕ) (b : Attempt) (rest : List (ℕ × Step)) (k : KeptSection)
    (come : HasCome t e ((at, Attempts b) ∷ rest) k)
    (right : wrong_step t (state_after start come.prefix) (at, Attempts b) ≡ None)
    (from : ℕ) (records : List (ℕ × Access))
    (earlier : map (kept_executed_attempt records) k.attempts ≡ executed_attempts k)
    (own : kept_executed_attempt records (attempt_at at b (length k.transfers) from) ≡ executed_attempt (at, b))
    (within : AllByRecursion (λ a. a.from + length a.attempt.certificate ≤ length records)
    (k.attempts ++ attempt_at at b (length k.transfers) from ∷ [])) where
  abbrev state : SectionState
  state = state_after start come.prefix

  abbrev added : KeptAttempt
  added = attempt_at at b (length k.transfers) from

  abbrev after : KeptSection
  after = with_attempt_at k at (without_accesses b) from records

  attempt_stands : StandsAt (next state (at, Attempts b)) after
  attempt_stands =
      let fewer : length k.fates ≤ length k.attempts = come.is_kept.fewer in
      let few : length k.fates ≤ length (map (λ (a : KeptAttempt). a.attempt) k.attempts) =
      omega (arith, length-map k.attempts (λ (a : KeptAttempt). a.attempt)) in
      record {
        view = come.stands.view;
        last = come.stands.last;
        rolled_back = refl;
        pending = map-append (λ (p : Placed). without_accesses p.attempt) state.pending
            (record { offset = at; attempt = b; path = path_of state } ∷ [])
            ∙ ap (λ (xs : List Attempt). xs ++ without_accesses b ∷ []) come.stands.pending
            ∙ sym (drop-append-le (length k.fates) (map (λ (a : KeptAttempt). a.attempt) k.attempts)
            (without_accesses b ∷ []) few)
            ∙ ap (drop (length k.fates)) (sym (map-append (λ (a : KeptAttempt). a.attempt) k.attempts (added ∷ [])));
        fewer = omega (arith, length-append k.attempts (added ∷ []));
      }

  one_executed_attempt_more : executed_attempts after ≡ executed_attempts k ++ executed_attempt (at, b) ∷ []
  one_executed_attempt_more =
      map-append (kept_executed_attempt records) k.attempts (added ∷ [])
      ∙ ap (λ (rs : List ExecutedAttempt). rs ++ kept_executed_attempt records added ∷ []) earlier
      ∙ ap (λ (r : ExecutedAttempt). executed_attempts k ++ r ∷ []) own

  attempts_more : executed_attempts after
      ≡ map executed_attempt (attempts_among (come.prefix ++ (at, Attempts b) ∷ []))
  attempts_more =
      one_executed_attempt_more
      ∙ ap (λ (rs : List ExecutedAttempt). rs ++ executed_attempt (at, b) ∷ []) come.attempts
      ∙ sym (map-append executed_attempt (attempts_among come.prefix) ((at, b) ∷ []))
      ∙ ap (map executed_attempt) (sym (attempts_among-append come.prefix ((at, Attempts b) ∷ [])))

  attempt_fates : fates_from 0 (steps_at t e)
      ≡ k.fates ++ (open_fates rest 0 (open_count after) ++ fates_from (open_count after) rest)
  attempt_fates =
      let n = open_count k in
      let fewer : length k.fates ≤ length k.attempts = come.is_kept.fewer in
      let more : suc n ≡ open_count after = omega (arith, length-append k.attempts (added ∷ [])) in
      let here : 0 + n ≡ n = omega arith in
      come.fates
      ∙ ap (λ (fs : List Fate). k.fates ++ fs)
      (ap (λ (fs : List Fate). fs ++ (fate_in rest n ∷ fates_from (suc n) rest)) (open_attempt at b rest 0 n)
      ∙ sym (append_assoc (open_fates rest 0 n) (fate_in rest n ∷ []) (fates_from (suc n) rest))
      ∙ ap (λ (fs : List Fate). fs ++ fates_from (suc n) rest)
      (ap (λ (m : ℕ). open_fates rest 0 n ++ fate_in rest m ∷ []) (sym here) ∙ sym (open_push rest 0 n))
      ∙ ap (λ (m : ℕ). open_fates rest 0 m ++ fates_from m rest) more)

  pub come_attempt_at : HasCome t e rest after
  come_attempt_at =
      let many : length (executed_attempts k) ≡ length k.attempts =
      length-map k.attempts (kept_executed_attempt k.records) in
      let longer : length (k.attempts ++ added ∷ []) ≡ length k.attempts + 1 = length-append k.attempts (added ∷ []) in
      let fewer : length k.fates ≤ length k.attempts = come.is_kept.fewer in
      record {
        prefix = come.prefix ++ (at, Attempts b) ∷ [];
        split = one_more t e (at, Attempts b) rest k come right;
        right = still_right t e (at, Attempts b) rest k come right;
        stands = stands_next t e (at, Attempts b) rest k come right _ attempt_stands;
        attempts = attempts_more;
        settled = settled_next t e (at, Attempts b) rest k come right _ _ _
            (settled_attempt state at b (executed_attempts k) (executed_attempts after)
            (length k.fates) (length k.transfers) k.ways_reached one_executed_attempt_more (omega arith)
            (still_there (length k.attempts) (length k.transfers) (length (executed_attempts k)) (length k.transfers)
            k.ways_reached (omega arith) (omega arith) come.is_kept.there)
            come.settled);
        is_kept = record {
          within = within;
          fewer = attempt_stands.fewer;
          count = come.is_kept.count;
          there = still_there (length k.attempts) (length k.transfers) (length (k.attempts ++ added ∷ []))
              (length k.transfers) k.ways_reached (omega arith) (omega arith) come.is_kept.there;
        };
        fates = attempt_fates;
        transferred = come.transferred
            ∙ sym (append_assoc (map transferred_before k.attempts) (length k.transfers ∷ [])
            (transferred_from (length k.transfers) rest))
            ∙ ap (λ (ns : List ℕ). ns ++ transferred_from (length k.transfers) rest)
            (sym (map-append transferred_before k.attempts (added ∷ [])));
        rollbacks = come.rollbacks
            ∙ sym (rollbacks_among-push come.prefix (at, Attempts b) ∙ append-nil (rollbacks_among come.prefix));
        transfers = transfers_next t e (at, Attempts b) rest k come right k.transfers come.transfers;
        fit = rest_fits t e (at, Attempts b) rest k come right;
      }

-- its records go behind those that are kept
module _ (t : Trace) (e at : ℕ) (b : Attempt) (rest : List (ℕ × Step)) (k : KeptSection)
    (come : HasCome t e ((at, Attempts b) ∷ rest) k)
    (right : wrong_step t (state_after start come.prefix) (at, Attempts b) ≡ None) where
  its_records : kept_executed_attempt (k.records ++ ordered at b)
      (attempt_at at b (length k.transfers) (length k.records)) ≡ executed_attempt (at, b)
  its_records =
      let many : length (ordered at b) ≤ length b.certificate =
      omega (arith, length-map b.certificate (access_with (accesses_at at b))) in
      λ i. record {
        offset = at;
        attempt = without_accesses b;
        ordered = (ap (take (length b.certificate)) (drop_at k.records (ordered at b) (length k.records) refl)
            ∙ take_all (length b.certificate) (ordered at b) many) i;
      }

  pub come_attempt : HasCome t e rest (with_attempt k at (without_accesses b) (ordered at b))
  come_attempt =
      let long : length (k.records ++ ordered at b) ≡ length k.records + length b.certificate =
      length-append k.records (ordered at b)
      ∙ ap (λ (n : ℕ). length k.records + n) (length-map b.certificate (access_with (accesses_at at b))) in
      come_attempt_at t e at b rest k come right (length k.records) (k.records ++ ordered at b)
      (same_executed_attempt k.records (ordered at b) k.attempts come.is_kept.within) its_records
      (still_within (length k.records) (length (k.records ++ ordered at b)) k.attempts
      (attempt_at at b (length k.transfers) (length k.records)) (omega arith) come.is_kept.within (omega arith))

-- ---- a commit

abbrev pub with_commit : KeptSection → ℕ → KeptSection
with_commit k seq = record k {
  last = seq;
  fates = k.fates ++ Committed ∷ [];
  ways_reached = k.ways_reached ++ how_reached.Attempt (length k.fates) ∷ [];
}

module _ (t : Trace) (e at : ℕ) (c : Commit) (rest : List (ℕ × Step)) (k : KeptSection)
    (come : HasCome t e ((at, Commits c) ∷ rest) k)
    (right : wrong_step t (state_after start come.prefix) (at, Commits c)
    ≡ None) where
  committed_right : is_right_commit (state_after start come.prefix) c ≡ true
  committed_right = right_step t (state_after start come.prefix) (at, Commits c) right

  commit_stands : (s : SectionState) (pending : List Placed) → s.pending ≡ pending → commits_first pending c ≡ true
      → c.seq ≡ s.last + 1 → StandsAt s k → StandsAt (committing s pending) (with_commit k c.seq)
      × (length k.fates < length k.attempts)
  commit_stands s [] is first seq stands = absurd (false≢true first)
  commit_stands s (p ∷ ps) is first seq stands =
      let items = map (λ (a : KeptAttempt). a.attempt) k.attempts in
      let open_is : without_accesses p.attempt ∷ map (λ (q : Placed). without_accesses q.attempt) ps
      ≡ drop (length k.fates) items = ap (map (λ (q : Placed). without_accesses q.attempt)) (sym is)
      ∙ stands.pending in
      let count : suc (length ps) ≡ length k.attempts - length k.fates =
      ap suc (sym (length-map ps (λ (q : Placed). without_accesses q.attempt))) ∙ ap length open_is
      ∙ length-drop (length k.fates) items
      ∙ ap (λ (n : ℕ). n - length k.fates) (length-map k.attempts (λ (a : KeptAttempt). a.attempt)) in
      let long : length (k.fates ++ Committed ∷ []) ≡ length k.fates + 1 = length-append k.fates (Committed ∷ []) in (
        record {
          view = stands.view;
          last = seq;
          rolled_back = stands.rolled_back;
          pending = ap (drop 1) open_is ∙ drop-drop 1 (length k.fates) items ∙ ap (λ (n : ℕ). drop n items) (sym long);
          fewer = omega arith;
        },
        omega arith,
      )

  commit_seq : c.seq ≡ (state_after start come.prefix).last + 1
  commit_seq = let s = state_after start come.prefix in eqb-true c.seq (s.last + 1)
      (and_parts (c.seq == s.last + 1) (commits_first s.pending c) committed_right).0

  commit_first : commits_first (state_after start come.prefix).pending c ≡ true
  commit_first = let s = state_after start come.prefix in
      (and_parts (c.seq == s.last + 1) (commits_first s.pending c) committed_right).1

  commit_parts : StandsAt (next (state_after start come.prefix) (at, Commits c)) (with_commit k c.seq)
      × (length k.fates < length k.attempts)
  commit_parts =
      commit_stands (state_after start come.prefix) (state_after start come.prefix).pending refl commit_first commit_seq
      come.stands

  commit_fates : fates_from 0 (steps_at t e)
      ≡ (k.fates ++ Committed ∷ []) ++
      (open_fates rest 0 (open_count (with_commit k c.seq)) ++ fates_from (open_count (with_commit k c.seq)) rest)
  commit_fates =
      let m = open_count (with_commit k c.seq) in
      let some : length k.fates < length k.attempts = commit_parts.1 in
      let more : open_count k ≡ suc m = omega (arith, length-append k.fates (Committed ∷ [])) in
      let less : suc m - 1 ≡ m = omega arith in
      come.fates
      ∙ ap (λ (n : ℕ). k.fates ++ (open_fates ((at, Commits c) ∷ rest) 0 n ++ fates_from (n - 1) rest)) more
      ∙ ap (λ (n : ℕ). k.fates ++ ((Committed ∷ open_fates ((at, Commits c) ∷ rest) 1 m) ++ fates_from n rest)) less
      ∙ ap (λ (fs : List Fate). k.fates ++ (Committed ∷ (fs ++ fates_from m rest))) (open_commit at c rest 0 m)
      ∙ sym (append_assoc k.fates (Committed ∷ []) (open_fates rest 0 m ++ fates_from m rest))

  pub come_commit : HasCome t e rest (with_commit k c.seq)
  come_commit = record {
    prefix = come.prefix ++ (at, Commits c) ∷ [];
    split = one_more t e (at, Commits c) rest k come right;
    right = still_right t e (at, Commits c) rest k come right;
    stands = stands_next t e (at, Commits c) rest k come right _ commit_parts.0;
    attempts = come.attempts
        ∙ ap (map executed_attempt)
        (sym (attempts_among-append come.prefix ((at, Commits c) ∷ []) ∙ append-nil (attempts_among come.prefix)));
    settled = settled_next t e (at, Commits c) rest k come right _ _ _
        (settled_commit (state_after start come.prefix) (state_after start come.prefix).pending c (executed_attempts k)
        (length k.fates) (length (k.fates ++ Committed ∷ [])) k.ways_reached refl commit_first
        (length-append k.fates (Committed ∷ [])) come.settled);
    is_kept = record {
      within = come.is_kept.within;
      fewer = commit_parts.0.fewer;
      count = length-append k.ways_reached (how_reached.Attempt (length k.fates) ∷ [])
          ∙ ap (λ (n : ℕ). n + 1) (come.is_kept.count ∙ come.stands.last) ∙ sym commit_seq;
      there = one_more_there (length k.attempts) (length k.transfers) (length k.fates) k.ways_reached commit_parts.1
          come.is_kept.there;
    };
    fates = commit_fates;
    transferred = come.transferred;
    rollbacks = come.rollbacks
        ∙ sym (rollbacks_among-push come.prefix (at, Commits c) ∙ append-nil (rollbacks_among come.prefix));
    transfers = transfers_next t e (at, Commits c) rest k come right k.transfers
        (come.transfers ∙ sym (transfers_commit (state_after start come.prefix)
        (state_after start come.prefix).pending));
    fit = rest_fits t e (at, Commits c) rest k come right;
  }

-- ---- a rollback

abbrev pub with_rollback : KeptSection → ℕ → Rollback → KeptSection
with_rollback k at r = record k {
  view = r.view;
  rolled_back = true;
  fates = k.fates ++ replicate (open_count k) Discarded;
  rollbacks = k.rollbacks ++ (at, r) ∷ [];
}

module _ (t : Trace) (e at : ℕ) (r : Rollback) (rest : List (ℕ × Step)) (k : KeptSection)
    (come : HasCome t e ((at, RollsBack r) ∷ rest) k)
    (right : wrong_step t (state_after start come.prefix) (at, RollsBack r) ≡ None) where
  all_settled : length (k.fates ++ replicate (open_count k) Discarded) ≡ length k.attempts
  all_settled =
      let fewer : length k.fates ≤ length k.attempts = come.is_kept.fewer in
      omega (
        arith,
        length-append k.fates (replicate (open_count k) Discarded),
        length-replicate (open_count k) Discarded,
      )

  rollback_stands : StandsAt (next (state_after start come.prefix) (at, RollsBack r)) (with_rollback k at r)
  rollback_stands = record {
    view = refl;
    last = come.stands.last;
    rolled_back = refl;
    pending = sym (drop_all (length (k.fates ++ replicate (open_count k) Discarded))
        (map (λ (a : KeptAttempt). a.attempt) k.attempts)
        (omega (arith, all_settled, length-map k.attempts (λ (a : KeptAttempt). a.attempt))));
    fewer = omega (arith, all_settled);
  }

  rollback_fates : fates_from 0 (steps_at t e)
      ≡ (k.fates ++ replicate (open_count k) Discarded) ++
      (open_fates rest 0 (open_count (with_rollback k at r)) ++ fates_from (open_count (with_rollback k at r)) rest)
  rollback_fates =
      let none : 0 ≡ open_count (with_rollback k at r) = omega (arith, all_settled) in
      come.fates
      ∙ ap (λ (fs : List Fate). k.fates ++ (fs ++ fates_from 0 rest)) (open_rollback at r rest 0 (open_count k))
      ∙ sym (append_assoc k.fates (replicate (open_count k) Discarded) (fates_from 0 rest))
      ∙ ap (λ (m : ℕ). (k.fates ++ replicate (open_count k) Discarded) ++ (open_fates rest 0 m ++ fates_from m rest))
      none

  pub come_rollback : HasCome t e rest (with_rollback k at r)
  come_rollback = record {
    prefix = come.prefix ++ (at, RollsBack r) ∷ [];
    split = one_more t e (at, RollsBack r) rest k come right;
    right = still_right t e (at, RollsBack r) rest k come right;
    stands = stands_next t e (at, RollsBack r) rest k come right _ rollback_stands;
    attempts = come.attempts
        ∙ ap (map executed_attempt) (sym (attempts_among-append come.prefix ((at, RollsBack r) ∷ [])
        ∙ append-nil (attempts_among come.prefix)));
    settled = settled_next t e (at, RollsBack r) rest k come right _ _ _
        (settled_rollback (state_after start come.prefix) at r (executed_attempts k) (length k.fates)
        (length (k.fates ++ replicate (open_count k) Discarded)) k.ways_reached
        (omega (arith, all_settled, length-map k.attempts (kept_executed_attempt k.records))) come.settled);
    is_kept = record {
      within = come.is_kept.within;
      fewer = rollback_stands.fewer;
      count = come.is_kept.count;
      there = come.is_kept.there;
    };
    fates = rollback_fates;
    transferred = come.transferred;
    rollbacks = ap (λ (rs : List (ℕ × Rollback)). rs ++ (at, r) ∷ []) come.rollbacks
        ∙ sym (rollbacks_among-push come.prefix (at, RollsBack r));
    transfers = transfers_next t e (at, RollsBack r) rest k come right k.transfers come.transfers;
    fit = rest_fits t e (at, RollsBack r) rest k come right;
  }

-- ---- a state is transferred

abbrev pub with_transfer : KeptSection → ℕ → Transfer → KeptSection
with_transfer k at x = record k {
  view = x.view;
  last = x.seq;
  rolled_back = false;
  fates = k.fates ++ replicate (open_count k) Discarded;
  ways_reached = k.ways_reached ++ over_at (x.seq - (k.last + 1)) (length k.transfers);
  transfers = k.transfers ++ (at, x) ∷ [];
}

module _ (t : Trace) (e at : ℕ) (x : Transfer) (rest : List (ℕ × Step)) (k : KeptSection)
    (come : HasCome t e ((at, Transfers x) ∷ rest) k)
    (right : wrong_step t (state_after start come.prefix) (at, Transfers x) ≡ None) where
  abbrev here : SectionState
  here = state_after start come.prefix

  pub later_number : k.last < x.seq
  later_number =
      let one = and_parts (nat_lt here.last x.seq) (nat_le x.seq (length t.batches) && nat_le here.view x.view)
      (right_step t here (at, Transfers x) right) in
      omega (arith, ltb-true here.last x.seq one.0, come.stands.last)

  all_discarded : length (k.fates ++ replicate (open_count k) Discarded) ≡ length k.attempts
  all_discarded =
      let fewer : length k.fates ≤ length k.attempts = come.is_kept.fewer in
      omega (
        arith,
        length-append k.fates (replicate (open_count k) Discarded),
        length-replicate (open_count k) Discarded,
      )

  transfer_stands : StandsAt (next here (at, Transfers x)) (with_transfer k at x)
  transfer_stands = record {
    view = refl;
    last = refl;
    rolled_back = refl;
    pending = sym (drop_all (length (k.fates ++ replicate (open_count k) Discarded))
        (map (λ (a : KeptAttempt). a.attempt) k.attempts)
        (omega (arith, all_discarded, length-map k.attempts (λ (a : KeptAttempt). a.attempt))));
    fewer = omega (arith, all_discarded);
  }

  transfer_fates : fates_from 0 (steps_at t e)
      ≡ (k.fates ++ replicate (open_count k) Discarded) ++
      (open_fates rest 0 (open_count (with_transfer k at x)) ++ fates_from (open_count (with_transfer k at x)) rest)
  transfer_fates =
      let none : 0 ≡ open_count (with_transfer k at x) = omega (arith, all_discarded) in
      come.fates
      ∙ ap (λ (fs : List Fate). k.fates ++ (fs ++ fates_from 0 rest)) (open_transfer at x rest 0 (open_count k))
      ∙ sym (append_assoc k.fates (replicate (open_count k) Discarded) (fates_from 0 rest))
      ∙ ap (λ (m : ℕ). (k.fates ++ replicate (open_count k) Discarded) ++ (open_fates rest 0 m ++ fates_from m rest))
      none

  pub come_transfer : HasCome t e rest (with_transfer k at x)
  come_transfer =
      let skipped = x.seq - (k.last + 1) in
      let one_more_state : length (k.transfers ++ (at, x) ∷ []) ≡ suc (length k.transfers) =
      length-append k.transfers ((at, x) ∷ []) ∙ add-one (length k.transfers) in
      record {
        prefix = come.prefix ++ (at, Transfers x) ∷ [];
        split = one_more t e (at, Transfers x) rest k come right;
        right = still_right t e (at, Transfers x) rest k come right;
        stands = stands_next t e (at, Transfers x) rest k come right _ transfer_stands;
        attempts = come.attempts
            ∙ ap (map executed_attempt) (sym (attempts_among-append come.prefix ((at, Transfers x) ∷ [])
            ∙ append-nil (attempts_among come.prefix)));
        settled = settled_next t e (at, Transfers x) rest k come right _ _ _
            (settled_transfer here at x (executed_attempts k) (length k.fates)
            (length (k.fates ++ replicate (open_count k) Discarded)) (length k.transfers) skipped k.ways_reached
            (omega (arith, all_discarded, length-map k.attempts (kept_executed_attempt k.records)))
            (ap length come.transfers) (ap (λ (n : ℕ). x.seq - (n + 1)) come.stands.last) come.settled);
        is_kept = record {
          within = come.is_kept.within;
          fewer = transfer_stands.fewer;
          count = omega (
            arith,
            length-append k.ways_reached (over_at skipped (length k.transfers)),
            over_count skipped (length k.transfers),
            come.is_kept.count,
            later_number,
          );
          there = over_there (length k.attempts) (length (k.transfers ++ (at, x) ∷ [])) skipped (length k.transfers)
              k.ways_reached (omega (arith, one_more_state))
              (still_there (length k.attempts) (length k.transfers) (length k.attempts)
              (length (k.transfers ++ (at, x) ∷ [])) k.ways_reached (omega arith) (omega (arith, one_more_state))
              come.is_kept.there);
        };
        fates = transfer_fates;
        transferred = come.transferred
            ∙ ap (λ (n : ℕ). map transferred_before k.attempts ++ transferred_from n rest) (sym one_more_state);
        rollbacks = come.rollbacks
            ∙ sym (rollbacks_among-push come.prefix (at, Transfers x) ∙ append-nil (rollbacks_among come.prefix));
        transfers = transfers_next t e (at, Transfers x) rest k come right (k.transfers ++ (at, x) ∷ [])
            (ap (λ (xs : List (ℕ × Transfer)). xs ++ (at, x) ∷ []) come.transfers
            ∙ sym (transfers_transferring here at x));
        fit = rest_fits t e (at, Transfers x) rest k come right;
      }

-- ---- after the last step

pub come_ended : (t : Trace) (e : ℕ) (k : KeptSection) (steps : List (ℕ × Step)) → steps ≡ [] → HasCome t e steps k
    → HasCome t e [] k
come_ended t e k steps none come = subst (λ (xs : List (ℕ × Step)). HasCome t e xs k) none come

module _ (t : Trace) (e : ℕ) (k : KeptSection) (come : HasCome t e [] k) where
  all_came : steps_at t e ≡ come.prefix
  all_came = come.split ∙ append-nil come.prefix

  pub come_right : are_right t start (steps_at t e) ≡ true
  come_right = ap (are_right t start) all_came ∙ come.right

  pub come_faultless : (f : Fault) → IsFaultIn StandsInStructure t e f → ⊥
  come_faultless f is =
      none_stands t e f (ap (first_wrong t start) come.split ∙ steps_on t start come.prefix [] come.right) is

  pub come_told : section_history_of e k ≡ section_history t e
  unfolding section_history
  come_told =
      let fates : k.fates ++ replicate (open_count k) Open ≡ fates_from 0 (steps_at t e) =
      ap (λ (fs : List Fate). k.fates ++ fs) (sym (append-nil (replicate (open_count k) Open))
      ∙ ap (λ (fs : List Fate). fs ++ []) (sym (open_end 0 (open_count k)))) ∙ sym come.fates in
      λ i. record {
        replica = e;
        right = sym come_right i;
        committed = (come.stands.last ∙ ap (λ (xs : List (ℕ × Step)). (state_after start xs).last) (sym all_came)) i;
        attempts = (come.attempts ∙ ap (λ (xs : List (ℕ × Step)). map executed_attempt (attempts_among xs))
            (sym all_came)) i;
        fates = fates i;
        transferred = (sym (append-nil (map transferred_before k.attempts)) ∙ sym come.transferred) i;
        ways_reached = (come.settled.told_reached
            ∙ ap (λ (xs : List (ℕ × Step)). told_reached_from 0 (state_after start xs).ways_reached) (sym all_came)) i;
        rollbacks = (come.rollbacks ∙ ap rollbacks_among (sym all_came)) i;
        transfers = (come.transfers
            ∙ ap (λ (xs : List (ℕ × Step)). transfers_by (state_after start xs).ways_reached) (sym all_came)) i;
      }
