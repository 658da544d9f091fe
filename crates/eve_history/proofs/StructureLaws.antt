-- Public: other crates cite these lemmas. The first wrong frame of a section is where the first fault of structure
-- stands.
use Rattle.std.proofs.Common.{◌≡◌, ℕ, ◌+◌, ◌≤◌, Bool, true, false, ◌&&◌, cond, List, [], ◌∷◌, ◌++◌, length, Option}
use Rattle.std.proofs.Common.{Some, None, refl, sym, ap, subst, ◌∙◌, append_assoc, inl, inr, IsTrue, arith}
use Rattle.std.specs.Prelude.{IsFalse}
use Rattle.std.proofs.lemmas.Bool.{cases_Bool, and_parts, and_from}
use Rattle.std.proofs.lemmas.List.{append-nil}
use Rattle.eve_grammar.specs.Trace.{Access, Attempt, Step, Attempts, Commits, RollsBack, Transfers, Trace}
use Rattle.eve_grammar.specs.Frames.{OfAttempt as OfAttemptFrame, OfAccess}
use Rattle.eve_grammar.specs.Spelling.{frame_text, located, steps_at, accesses_at}
use Rattle.eve_views.specs.declared.fault.Code.{Code}
use Rattle.eve_views.specs.declared.fault.Code.TheVariants as code
use Rattle.eve_views.specs.declared.fault.Fault.{Fault}
use Rattle.eve_views.specs.Code.{code_number}
use Rattle.eve_grammar.specs.Accesses.{is_right_place}
use Rattle.eve_history.specs.Section.{SectionState, start, next, state_after, is_right_attempt, is_right_certificate}
use Rattle.eve_history.specs.Section.{is_right_access, is_right_commit, is_right_rollback, are_right_accesses, is_right}
use Rattle.eve_history.specs.Section.{request_count, worker_count, is_right_transfer, are_right}
use Rattle.eve_views.specs.Form.{SomePlace, IsLeast, IsFaultIn}
use Rattle.eve_history.specs.Structure.{OfAttempt, OfCommit, OfRollback, OfTransfer, accesses_of, StandsInStructure}
use Rattle.eve_history.specs.declared.wrong.Wrong.{Wrong}
use Rattle.eve_history.specs.inner.FirstWrong.{found_or, first_wrong_of, wrong_access, wrong_records, wrong_attempt}
use Rattle.eve_history.specs.inner.FirstWrong.{wrong_commit, wrong_rollback, wrong_transfer, wrong_step, first_wrong}
use Rattle.eve_history.specs.inner.FirstWrong.{fault_of}

pub no_wrong : {A : Type 0} (w : Wrong) → ◌≡◌ {A = Option Wrong} None (Some w) → A
no_wrong w e = absurd (cc)

same_wrong : (v w : Wrong) → ◌≡◌ {A = Option Wrong} (Some v) (Some w) → v ≡ w
same_wrong v w e = cc

-- ---- step by step

pub state_after-append : (s : SectionState) (xs ys : List (ℕ × Step)) → state_after s (xs ++ ys)
    ≡ state_after (state_after s xs) ys
state_after-append s [] ys = refl
state_after-append s (x ∷ xs) ys = state_after-append (next s x) xs ys

pub are_right-push : (t : Trace) (s : SectionState) (xs : List (ℕ × Step)) (x : ℕ × Step) → are_right t s xs ≡ true
    → is_right t (state_after s xs) x.1 ≡ true → are_right t s (xs ++ x ∷ []) ≡ true
are_right-push t s [] x rights right = and_from (is_right t s x.1) true right refl
are_right-push t s (y ∷ xs) x rights right =
    let parts = and_parts (is_right t s y.1) (are_right t (next s y) xs) rights in
    and_from (is_right t s y.1) (are_right t (next s y) (xs ++ x ∷ [])) parts.0
    (are_right-push t (next s y) xs x parts.1 right)

pub are_right_accesses-push : (t : Trace) (a : Attempt) (before xs : List Access) (x : Access)
    → are_right_accesses t a before xs ≡ true → is_right_access t a (before ++ xs) x ≡ true
    → is_right_place (before ++ xs) x ≡ true
    → are_right_accesses t a before (xs ++ x ∷ []) ≡ true
are_right_accesses-push t a before [] x rights one two =
    let P : List Access → Type 0 = λ b. (is_right_access t a b x && (is_right_place b x && true)) ≡ true in
    subst P (append-nil before)
    (and_from (is_right_access t a (before ++ []) x) _ one
    (and_from (is_right_place (before ++ []) x) true two refl))
are_right_accesses-push t a before (y ∷ xs) x rights one two =
    let parts = and_parts (is_right_access t a before y) _ rights in
    let more = and_parts (is_right_place before y) _ parts.1 in
    and_from (is_right_access t a before y) _ parts.0
    (and_from (is_right_place before y) _ more.0
    (are_right_accesses-push t a (before ++ y ∷ []) xs x more.1
    (ap (λ (b : List Access). is_right_access t a b x) (append_assoc before (y ∷ []) xs) ∙ one)
    (ap (λ (b : List Access). is_right_place b x) (append_assoc before (y ∷ []) xs) ∙ two)))

pub accesses_of-append : (xs ys : List (ℕ × Access)) → accesses_of (xs ++ ys) ≡ accesses_of xs ++ accesses_of ys
accesses_of-append [] ys = refl
accesses_of-append (x ∷ xs) ys = ap (λ (zs : List Access). x.1 ∷ zs) (accesses_of-append xs ys)

-- the records of an attempt, with their offsets or without
accesses_of-located : (text : Access → List ℕ) (at : ℕ) (xs : List Access) → accesses_of (located text at xs) ≡ xs
accesses_of-located text at [] = refl
accesses_of-located text at (x ∷ xs) =
    ap (λ (ys : List Access). x ∷ ys) (accesses_of-located text (at + length (text x)) xs)

pub accesses_of-at : (at : ℕ) (a : Attempt) → accesses_of (accesses_at at a) ≡ a.accesses
accesses_of-at at a = accesses_of-located (λ x. frame_text (OfAccess x)) (at + length (frame_text (OfAttemptFrame a)))
    a.accesses

-- ---- what is right has nothing wrong, and the other way round

found_or-none : (at : ℕ) (o : Option Code) (later : Option Wrong) → found_or at o later ≡ None → (o ≡ None)
    × (later ≡ None)
found_or-none at None later e = (refl, e)
found_or-none at (Some c) later e = no_wrong _ (sym e)

first_wrong_of-none : (o later : Option Wrong) → first_wrong_of o later ≡ None → (o ≡ None) × (later ≡ None)
first_wrong_of-none None later e = (refl, e)
first_wrong_of-none (Some w) later e = no_wrong w (sym e)

none_or : (b : Bool) (c : Code) → cond b None (Some c) ≡ None → b ≡ true
none_or true c e = refl
none_or false c e = absurd (cc)

none_or_two : (b d : Bool) (c f : Code) → cond b (cond d None (Some f)) (Some c) ≡ None → (b ≡ true) × (d ≡ true)
none_or_two true true c f e = (refl, refl)
none_or_two true false c f e = absurd (cc)
none_or_two false d c f e = absurd (cc)

-- what is wrong with an access record of an attempt
abbrev wrong_record : Trace → Attempt → List Access → Access → Option Code
wrong_record t a = wrong_access (worker_count t a) (request_count t a)

pub right_records : (t : Trace) (a : Attempt) (before : List Access) (xs : List (ℕ × Access))
    → wrong_records t a before xs
    ≡ None → are_right_accesses t a before (accesses_of xs) ≡ true
right_records t a before [] e = refl
right_records t a before (x ∷ xs) e =
    let parts = found_or-none x.0 (wrong_record t a before x.1) _ e in
    let own = none_or_two (is_right_access t a before x.1) (is_right_place before x.1) code.Access code.WorkerOrder
    parts.0 in
    and_from (is_right_access t a before x.1) _ own.0
    (and_from (is_right_place before x.1) _ own.1 (right_records t a (before ++ x.1 ∷ []) xs parts.1))

-- records that are right, and then the rest
records_on : (t : Trace) (a : Attempt) (before : List Access) (xs ys : List (ℕ × Access))
    → are_right_accesses t a before (accesses_of xs) ≡ true
    → wrong_records t a before (xs ++ ys) ≡ wrong_records t a (before ++ accesses_of xs) ys
records_on t a before [] ys rights = ap (λ (b : List Access). wrong_records t a b ys) (sym (append-nil before))
records_on t a before (x ∷ xs) ys rights =
    let parts = and_parts (is_right_access t a before x.1) _ rights in
    let more = and_parts (is_right_place before x.1) _ parts.1 in
    rw (parts.0, more.0) (records_on t a (before ++ x.1 ∷ []) xs ys more.1
    ∙ ap (λ (b : List Access). wrong_records t a b ys) (append_assoc before (x.1 ∷ []) (accesses_of xs)))

pub right_step : (t : Trace) (s : SectionState) (step : ℕ × Step) → wrong_step t s step ≡ None → is_right t s step.1
    ≡ true
right_step t s (at, Attempts a) e =
    let parts = found_or-none at (wrong_attempt t s a) _ e in
    let own = none_or_two (is_right_attempt t s a) (is_right_certificate t a) code.Attempt code.Certificate parts.0 in
    and_from (is_right_attempt t s a) _ own.0
    (and_from (is_right_certificate t a) _ own.1
    (ap (are_right_accesses t a []) (sym (accesses_of-at at a)) ∙ right_records t a [] (accesses_at at a) parts.1))
right_step t s (at, Commits c) e = none_or (is_right_commit s c) code.Commit
    (found_or-none at (wrong_commit s c) None e).0
right_step t s (at, RollsBack r) e = none_or (is_right_rollback t s r) code.Rollback
    (found_or-none at (wrong_rollback t s r) None e).0
right_step t s (at, Transfers x) e = none_or (is_right_transfer t s x) code.Transfer
    (found_or-none at (wrong_transfer t s x) None e).0

pub nothing_wrong : (t : Trace) (s : SectionState) (step : ℕ × Step) → is_right t s step.1 ≡ true → wrong_step t s step
    ≡ None
nothing_wrong t s (at, Attempts a) right =
    let one = and_parts (is_right_attempt t s a) _ right in
    let two = and_parts (is_right_certificate t a) _ one.1 in
    let all : are_right_accesses t a [] (accesses_of (accesses_at at a)) ≡ true =
    ap (are_right_accesses t a []) (accesses_of-at at a) ∙ two.1 in
    let none : wrong_records t a [] (accesses_at at a) ≡ None =
    ap (wrong_records t a []) (sym (append-nil (accesses_at at a))) ∙ records_on t a [] (accesses_at at a) [] all in
    rw (one.0, two.0) none
nothing_wrong t s (at, Commits c) right = rw right refl
nothing_wrong t s (at, RollsBack r) right = rw right refl
nothing_wrong t s (at, Transfers x) right = rw right refl

-- steps that are right, and then the rest
pub steps_on : (t : Trace) (s : SectionState) (xs ys : List (ℕ × Step)) → are_right t s xs ≡ true
    → first_wrong t s (xs ++ ys) ≡ first_wrong t (state_after s xs) ys
steps_on t s [] ys rights = refl
steps_on t s (x ∷ xs) ys rights =
    let parts = and_parts (is_right t s x.1) _ rights in
    ap (λ (o : Option Wrong). first_wrong_of o (first_wrong t (next s x) (xs ++ ys))) (nothing_wrong t s x parts.0)
    ∙ steps_on t (next s x) xs ys parts.1

pub right_steps : (t : Trace) (s : SectionState) (xs : List (ℕ × Step)) → first_wrong t s xs ≡ None → are_right t s xs
    ≡ true
right_steps t s [] e = refl
right_steps t s (x ∷ xs) e =
    let parts = first_wrong_of-none (wrong_step t s x) _ e in
    and_from (is_right t s x.1) _ (right_step t s x parts.0) (right_steps t (next s x) xs parts.1)

-- ---- where a fault stands something is found

-- it is found at that offset, with no later a code
pub record IsFound (o : Option Wrong) (c : Code) (at : ℕ) : Type 0 where
  pub wrong : Wrong
  pub is : o ≡ Some wrong
  pub offset : wrong.offset ≡ at
  pub code : code_number wrong.code ≤ code_number c

found_here : {o : Option Wrong} {offset at : ℕ} (c : Code) → o ≡ Some (record { offset = offset; code = c })
    → offset ≡ at → IsFound o c at
found_here {o = o} {offset = offset} {at = at} c is here = record {
  wrong = record { offset = offset; code = c };
  is = is;
  offset = here;
  code = omega arith;
}

abbrev FoundAt : Trace → (ℕ → SectionState → Step → Type 0) → Code → ℕ → Type 0
FoundAt t P c at = (offset : ℕ) (s : SectionState) (step : Step) → P offset s step
    → IsFound (wrong_step t s (offset, step)) c at

-- of a step before which all are right: its offset, where the section has come to, and the step
abbrev OfSomeStep : Trace → ℕ → (ℕ → SectionState → Step → Type 0) → Type 0
OfSomeStep t e P = SomePlace (steps_at t e) (λ before step. IsTrue (are_right t start before)
    × P step.0 (state_after start before) step.1)

-- of an access record where all frames before it are right: its offset, the attempt, the records before it, and the
-- record
abbrev OfSomeAccess : Trace → ℕ → (ℕ → Attempt → List Access → Access → Type 0) → Type 0
OfSomeAccess t e P = OfSomeStep t e (λ offset s step. OfAttempt step (λ a.
    IsTrue (is_right_attempt t s a) × IsTrue (is_right_certificate t a)
    × SomePlace (accesses_at offset a) (λ before x. IsTrue (are_right_accesses t a [] (accesses_of before))
    × P x.0 a (accesses_of before) x.1)))

found_at_step : (t : Trace) (e : ℕ) (c : Code) (at : ℕ) (P : ℕ → SectionState → Step → Type 0) → FoundAt t P c at
    → OfSomeStep t e P → IsFound (first_wrong t start (steps_at t e)) c at
found_at_step t e c at P here place =
    let own = here place.item.0 (state_after start place.before) place.item.1 place.holds.1 in
    record {
      wrong = own.wrong;
      is = ap (first_wrong t start) place.is ∙ steps_on t start place.before (place.item ∷ place.rest) place.holds.0
          ∙ ap (λ (o : Option Wrong). first_wrong_of o
          (first_wrong t (next (state_after start place.before) place.item) place.rest)) own.is;
      offset = own.offset;
      code = own.code;
    }

found_attempt : (t : Trace) (at : ℕ)
    → FoundAt t (λ offset s step. (offset ≡ at) × OfAttempt step (λ a. IsFalse (is_right_attempt t s a))) code.Attempt
    at
found_attempt t at offset s (Attempts a) h = found_here code.Attempt (rw h.1 refl) h.0
found_attempt t at offset s (Commits c) h = absurd h.1
found_attempt t at offset s (RollsBack r) h = absurd h.1
found_attempt t at offset s (Transfers x) h = absurd h.1

found_certificate : (t : Trace) (at : ℕ)
    → FoundAt t (λ offset s step. (offset ≡ at) × OfAttempt step (λ a. IsFalse (is_right_certificate t a)))
    code.Certificate at
found_certificate t at offset s (Attempts a) h =
    elim (cases_Bool (is_right_attempt t s a)) [
      | inl right ↦ found_here code.Certificate (rw (right, h.1) refl) h.0
      | inr false_is ↦ record {
        wrong = record { offset = offset; code = code.Attempt };
        is = rw false_is refl;
        offset = h.0;
        code = omega arith;
      }
    ]
found_certificate t at offset s (Commits c) h = absurd h.1
found_certificate t at offset s (RollsBack r) h = absurd h.1
found_certificate t at offset s (Transfers x) h = absurd h.1

found_commit : (t : Trace) (at : ℕ)
    → FoundAt t (λ offset s step. (offset ≡ at) × OfCommit step (λ c. IsFalse (is_right_commit s c))) code.Commit at
found_commit t at offset s (Commits c) h = found_here code.Commit (rw h.1 refl) h.0
found_commit t at offset s (Attempts a) h = absurd h.1
found_commit t at offset s (RollsBack r) h = absurd h.1
found_commit t at offset s (Transfers x) h = absurd h.1

found_rollback : (t : Trace) (at : ℕ)
    → FoundAt t (λ offset s step. (offset ≡ at) × OfRollback step (λ r. IsFalse (is_right_rollback t s r)))
    code.Rollback at
found_rollback t at offset s (RollsBack r) h = found_here code.Rollback (rw h.1 refl) h.0
found_rollback t at offset s (Attempts a) h = absurd h.1
found_rollback t at offset s (Commits c) h = absurd h.1
found_rollback t at offset s (Transfers x) h = absurd h.1

found_transfer : (t : Trace) (at : ℕ)
    → FoundAt t (λ offset s step. (offset ≡ at) × OfTransfer step (λ x. IsFalse (is_right_transfer t s x)))
    code.Transfer at
found_transfer t at offset s (Transfers x) h = found_here code.Transfer (rw h.1 refl) h.0
found_transfer t at offset s (Attempts a) h = absurd h.1
found_transfer t at offset s (Commits c) h = absurd h.1
found_transfer t at offset s (RollsBack r) h = absurd h.1

-- the records of an attempt that is right but for them
abbrev pub InAttempt : Trace → SectionState → ℕ → Attempt → (List (ℕ × Access) → ℕ × Access → Type 0) → Type 0
InAttempt t s offset a P = IsTrue (is_right_attempt t s a) × IsTrue (is_right_certificate t a)
    × SomePlace (accesses_at offset a) P

found_in_attempt : (t : Trace) (s : SectionState) (offset at : ℕ) (a : Attempt) (c : Code)
    (P : ℕ → List Access → Access → Type 0)
    → ((from : ℕ) (before : List Access) (x : Access) → P from before x → (d : Code)
    × (wrong_record t a before x ≡ Some d) × (from ≡ at) × (code_number d ≤ code_number c))
    → InAttempt t s offset a (λ before x. IsTrue (are_right_accesses t a [] (accesses_of before))
    × P x.0 (accesses_of before) x.1)
    → IsFound (wrong_step t s (offset, Attempts a)) c at
found_in_attempt t s offset at a c P here place =
    let x = place.2.item in
    let own = here x.0 (accesses_of place.2.before) x.1 place.2.holds.1 in
    let records : wrong_records t a [] (accesses_at offset a) ≡ Some (record { offset = x.0; code = own.0 }) =
    ap (wrong_records t a []) place.2.is ∙ records_on t a [] place.2.before (x ∷ place.2.rest) place.2.holds.0
    ∙ ap (λ (o : Option Code). found_or x.0 o (wrong_records t a (accesses_of place.2.before ++ x.1 ∷ []) place.2.rest))
    own.1 in
    record {
      wrong = record { offset = x.0; code = own.0 };
      is = rw (place.0, place.1) records;
      offset = own.2;
      code = own.3;
    }

found_access : (t : Trace) (at : ℕ) (a : Attempt) (from : ℕ) (before : List Access) (x : Access) → (from ≡ at)
    × IsFalse (is_right_access t a before x)
    → (d : Code) × (wrong_record t a before x ≡ Some d) × (from ≡ at) × (code_number d ≤ code_number code.Access)
found_access t at a from before x h = (code.Access, rw h.1 refl, h.0, omega arith)

found_place : (t : Trace) (at : ℕ) (a : Attempt) (from : ℕ) (before : List Access) (x : Access) → (from ≡ at)
    × IsFalse (is_right_place before x)
    → (d : Code) × (wrong_record t a before x ≡ Some d) × (from ≡ at) × (code_number d ≤ code_number code.WorkerOrder)
found_place t at a from before x h =
    elim (cases_Bool (is_right_access t a before x)) [
      | inl right ↦ (code.WorkerOrder, rw (right, h.1) refl, h.0, omega arith)
      | inr wrong ↦ (code.Access, rw wrong refl, h.0, omega arith)
    ]

found_at_access : (t : Trace) (e : ℕ) (c : Code) (at : ℕ) (P : ℕ → Attempt → List Access → Access → Type 0)
    → ((a : Attempt) (from : ℕ) (before : List Access) (x : Access) → P from a before x → (d : Code)
    × (wrong_record t a before x ≡ Some d) × (from ≡ at) × (code_number d ≤ code_number c))
    → OfSomeAccess t e P → IsFound (first_wrong t start (steps_at t e)) c at
found_at_access t e c at P here place = found_at_step t e c at _ by place
  where
    by : FoundAt t (λ offset s step. OfAttempt step
        (λ a. InAttempt t s offset a (λ before x. IsTrue (are_right_accesses t a [] (accesses_of before))
        × P x.0 a (accesses_of before) x.1))) c at
    by offset s (Attempts a) h = found_in_attempt t s offset at a c (λ from before x. P from a before x) (here a) h
    by offset s (Commits c) h = absurd h
    by offset s (RollsBack r) h = absurd h
    by offset s (Transfers x) h = absurd h

found_of_fault : (t : Trace) (e : ℕ) (c : Code) (at : ℕ) → StandsInStructure c t e at
    → IsFound (first_wrong t start (steps_at t e)) c at
found_of_fault t e code.Attempt at h = found_at_step t e code.Attempt at _ (found_attempt t at) h
found_of_fault t e code.Certificate at h = found_at_step t e code.Certificate at _ (found_certificate t at) h
found_of_fault t e code.Access at h = found_at_access t e code.Access at _ (found_access t at) h
found_of_fault t e code.WorkerOrder at h = found_at_access t e code.WorkerOrder at _ (found_place t at) h
found_of_fault t e code.Commit at h = found_at_step t e code.Commit at _ (found_commit t at) h
found_of_fault t e code.Rollback at h = found_at_step t e code.Rollback at _ (found_rollback t at) h
found_of_fault t e code.Transfer at h = found_at_step t e code.Transfer at _ (found_transfer t at) h
found_of_fault t e c at h = absurd h

-- ---- what is found is a fault

stands_in_records : (t : Trace) (e : ℕ) (s : SectionState) (offset : ℕ) (a : Attempt) (w : Wrong)
    → ((P : ℕ → Attempt → List Access → Access → Type 0)
    → SomePlace (accesses_at offset a) (λ before x. IsTrue (are_right_accesses t a [] (accesses_of before))
    × P x.0 a (accesses_of before) x.1)
    → OfSomeAccess t e P)
    → (prefix back : List (ℕ × Access)) → accesses_at offset a ≡ prefix ++ back
    → are_right_accesses t a [] (accesses_of prefix) ≡ true
    → wrong_records t a (accesses_of prefix) back ≡ Some w → StandsInStructure w.code t e w.offset
stands_in_records t e s offset a w lift prefix [] is rights h = no_wrong w h
stands_in_records t e s offset a w lift prefix (x ∷ back) is rights h =
    by (is_right_access t a (accesses_of prefix) x.1) (is_right_place (accesses_of prefix) x.1) refl refl
    (λ rights g. stands_in_records t e s offset a w lift (prefix ++ x ∷ []) back
    (is ∙ sym (append_assoc prefix (x ∷ []) back)) rights g) h
  where
    found : (c : Code) → found_or x.0 (Some c) (wrong_records t a (accesses_of prefix ++ x.1 ∷ []) back) ≡ Some w
        → StandsInStructure c t e x.0 → StandsInStructure w.code t e w.offset
    found c g stands = subst (λ (v : Wrong). StandsInStructure v.code t e v.offset)
        (same_wrong (record { offset = x.0; code = c }) w g) stands

    more : is_right_access t a (accesses_of prefix) x.1 ≡ true → is_right_place (accesses_of prefix) x.1 ≡ true
        → are_right_accesses t a [] (accesses_of (prefix ++ x ∷ [])) ≡ true
    more p q =
        ap (are_right_accesses t a []) (accesses_of-append prefix (x ∷ []))
        ∙ are_right_accesses-push t a [] (accesses_of prefix) x.1 rights p q

    by : (b d : Bool) → is_right_access t a (accesses_of prefix) x.1 ≡ b → is_right_place (accesses_of prefix) x.1 ≡ d
        → (are_right_accesses t a [] (accesses_of (prefix ++ x ∷ [])) ≡ true
        → wrong_records t a (accesses_of (prefix ++ x ∷ [])) back ≡ Some w → StandsInStructure w.code t e w.offset)
        → found_or x.0 (cond b (cond d None (Some code.WorkerOrder)) (Some code.Access))
        (wrong_records t a (accesses_of prefix ++ x.1 ∷ []) back) ≡ Some w → StandsInStructure w.code t e w.offset
    by false d p q go g = found code.Access g
        (lift (λ from a before y. (from ≡ x.0) × IsFalse (is_right_access t a before y))
        (record { before = prefix; item = x; rest = back; is = is; holds = (rights, (refl, p)) }))
    by true false p q go g =
        found code.WorkerOrder g
        (lift (λ from a before y. (from ≡ x.0) × IsFalse (is_right_place before y))
        (record { before = prefix; item = x; rest = back; is = is; holds = (rights, (refl, q)) }))
    by true true p q go g = go (more p q)
        (ap (λ (b : List Access). wrong_records t a b back) (accesses_of-append prefix (x ∷ [])) ∙ g)

stands_at_step : (t : Trace) (e : ℕ) (prefix : List (ℕ × Step)) (step : ℕ × Step) (back : List (ℕ × Step)) (w : Wrong)
    → steps_at t e ≡ prefix ++ step ∷ back → are_right t start prefix ≡ true
    → wrong_step t (state_after start prefix) step ≡ Some w → StandsInStructure w.code t e w.offset
stands_at_step t e prefix (at, Commits c) back w is rights h = by (is_right_commit (state_after start prefix) c) refl h
  where
    by : (b : Bool) → is_right_commit (state_after start prefix) c ≡ b
        → found_or at (cond b None (Some code.Commit)) None ≡ Some w → StandsInStructure w.code t e w.offset
    by true p g = no_wrong w g
    by false p g =
        subst (λ (v : Wrong). StandsInStructure v.code t e v.offset)
        (same_wrong (record { offset = at; code = code.Commit }) w g)
        (record { before = prefix; item = (at, Commits c); rest = back; is = is; holds = (rights, (refl, p)) })
stands_at_step t e prefix (at, RollsBack r) back w is rights h =
    by (is_right_rollback t (state_after start prefix) r) refl h
  where
    by : (b : Bool) → is_right_rollback t (state_after start prefix) r ≡ b
        → found_or at (cond b None (Some code.Rollback)) None ≡ Some w → StandsInStructure w.code t e w.offset
    by true p g = no_wrong w g
    by false p g =
        subst (λ (v : Wrong). StandsInStructure v.code t e v.offset)
        (same_wrong (record { offset = at; code = code.Rollback }) w g)
        (record { before = prefix; item = (at, RollsBack r); rest = back; is = is; holds = (rights, (refl, p)) })
stands_at_step t e prefix (at, Transfers x) back w is rights h =
    by (is_right_transfer t (state_after start prefix) x) refl h
  where
    by : (b : Bool) → is_right_transfer t (state_after start prefix) x ≡ b
        → found_or at (cond b None (Some code.Transfer)) None ≡ Some w → StandsInStructure w.code t e w.offset
    by true p g = no_wrong w g
    by false p g =
        subst (λ (v : Wrong). StandsInStructure v.code t e v.offset)
        (same_wrong (record { offset = at; code = code.Transfer }) w g)
        (record { before = prefix; item = (at, Transfers x); rest = back; is = is; holds = (rights, (refl, p)) })
stands_at_step t e prefix (at, Attempts a) back w is rights h =
    by (is_right_attempt t (state_after start prefix) a) (is_right_certificate t a) refl refl h
  where
    found : (c : Code) → found_or at (Some c) (wrong_records t a [] (accesses_at at a)) ≡ Some w
        → StandsInStructure c t e at → StandsInStructure w.code t e w.offset
    found c g stands = subst (λ (v : Wrong). StandsInStructure v.code t e v.offset)
        (same_wrong (record { offset = at; code = c }) w g) stands

    by : (b d : Bool) → is_right_attempt t (state_after start prefix) a ≡ b → is_right_certificate t a ≡ d
        → found_or at (cond b (cond d None (Some code.Certificate)) (Some code.Attempt))
        (wrong_records t a [] (accesses_at at a)) ≡ Some w → StandsInStructure w.code t e w.offset
    by false d p q g = found code.Attempt g
        (record { before = prefix; item = (at, Attempts a); rest = back; is = is; holds = (rights, (refl, p)) })
    by true false p q g = found code.Certificate g
        (record { before = prefix; item = (at, Attempts a); rest = back; is = is; holds = (rights, (refl, q)) })
    by true true p q g =
        stands_in_records t e (state_after start prefix) at a w
        (λ P place. record {
          before = prefix;
          item = (at, Attempts a);
          rest = back;
          is = is;
          holds = (rights, (p, q, place));
        })
        [] (accesses_at at a) refl refl g

stands_behind : (t : Trace) (e : ℕ) (prefix back : List (ℕ × Step)) (w : Wrong) → steps_at t e ≡ prefix ++ back
    → are_right t start prefix ≡ true
    → first_wrong t (state_after start prefix) back ≡ Some w → StandsInStructure w.code t e w.offset
stands_behind t e prefix [] w is rights h = no_wrong w h
stands_behind t e prefix (step ∷ back) w is rights h =
    by (wrong_step t (state_after start prefix) step) refl
    (λ right. stands_behind t e (prefix ++ step ∷ []) back w (is ∙ sym (append_assoc prefix (step ∷ []) back))
    (are_right-push t start prefix step rights right)) h
  where
    by : (o : Option Wrong) → wrong_step t (state_after start prefix) step ≡ o
        → (is_right t (state_after start prefix) step.1 ≡ true
        → first_wrong t (state_after start (prefix ++ step ∷ [])) back ≡ Some w
        → StandsInStructure w.code t e w.offset)
        → first_wrong_of o (first_wrong t (next (state_after start prefix) step) back) ≡ Some w
        → StandsInStructure w.code t e w.offset
    by (Some v) p go g = stands_at_step t e prefix step back w is rights (p ∙ g)
    by None p go g =
        go (right_step t (state_after start prefix) step p)
        (ap (λ (s : SectionState). first_wrong t s back) (state_after-append start prefix (step ∷ [])) ∙ g)

-- ---- the first fault

-- what is found is the least
pub found_is_least : (t : Trace) (e : ℕ) (w : Wrong) → first_wrong t start (steps_at t e) ≡ Some w
    → IsLeast (IsFaultIn StandsInStructure t e) (fault_of e w)
found_is_least t e w h = record {
  is = record { stands = stands_behind t e [] (steps_at t e) w refl refl h; inside = refl };
  least = λ g other.
      let found = found_of_fault t e g.code g.offset other.stands in
      let same : found.wrong ≡ w = same_wrong found.wrong w (sym found.is ∙ h) in
      let offset : w.offset ≡ g.offset = ap (λ (v : Wrong). v.offset) (sym same) ∙ found.offset in
      let code : code_number w.code ≤ code_number g.code =
      subst (λ (v : Wrong). code_number v.code ≤ code_number g.code) same
      found.code in
      inr (offset, code);
}

-- where nothing is found none stands
pub none_stands : (t : Trace) (e : ℕ) (f : Fault) → first_wrong t start (steps_at t e) ≡ None
    → IsFaultIn StandsInStructure t e f
    → ⊥
none_stands t e f h is = let found = found_of_fault t e f.code f.offset is.stands in
    no_wrong found.wrong (sym h ∙ found.is)
