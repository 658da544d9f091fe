-- What was sent so far, and what is still to be sent.
use Rattle.std.proofs.Common.{◌≡◌, ℕ, zero, suc, ◌+◌, ◌-◌, ◌<◌, ◌≤◌, min, ◌⊎◌, inl, inr, List, [], ◌∷◌, ◌++◌, length}
use Rattle.std.proofs.Common.{drop, get_or, map, remove, subst, slice_get, Some, None, refl, sym, ap, ◌∙◌, append_assoc}
use Rattle.std.proofs.Common.{arith}
use Rattle.std.proofs.lemmas.Bool.{cases_lt}
use Rattle.std.proofs.lemmas.List.{drop_all, drop_more, get_or-map, append-nil}
use Rattle.std.proofs.lemmas.Option.{slice_get_cases, slice_get_within, get_or_from_slice_get}
use Rattle.eve_smallbank.specs.declared.request.Reply.{Reply}
use Rattle.eve_grammar.specs.Trace.{Asked, Batch, Attempt, Attempts, Commit, Commits, Rollback, RollsBack, Step, Sent}
use Rattle.eve_grammar.specs.Trace.{Transfers}
use Rattle.eve_grammar.specs.Trace.{Transfer}
use Rattle.eve_write.specs.declared.step.Step as code
use Rattle.eve_write.specs.Data.{step}
use Rattle.eve_replica.specs.SentReplies.{answered, answers_of, requests_there, requests_numbered, sent_along}
use Rattle.eve_replica.specs.SentReplies.{sent_from_on}

-- ---- the replies of an attempt

answered_next : (e seq : ℕ) (requests : List Asked) (replies : List Reply) (i : ℕ) (asked : Asked) (reply : Reply)
    → slice_get requests i ≡ Some asked → slice_get replies i ≡ Some reply
    → answered e seq (drop i requests) (drop i replies)
    ≡ answered e seq (asked ∷ []) (reply ∷ []) ++ answered e seq (drop (suc i) requests) (drop (suc i) replies)
answered_next e seq [] replies i asked reply one two = absurd cc
answered_next e seq (q ∷ qs) [] i asked reply one two = absurd cc
answered_next e seq (q ∷ qs) (r ∷ rs) zero asked reply one two =
    let a : q ≡ asked = cc in
    let b : r ≡ reply = cc in
    ap (λ (x : Asked). answered e seq (x ∷ []) (r ∷ []) ++ answered e seq qs rs) a
    ∙ ap (λ (y : Reply). answered e seq (asked ∷ []) (y ∷ []) ++ answered e seq qs rs) b
answered_next e seq (q ∷ qs) (r ∷ rs) (suc i) asked reply one two =
    answered_next e seq qs rs i asked reply one two

-- one request more was answered
pub answered_more : (e seq : ℕ) (requests : List Asked) (replies : List Reply) (i : ℕ) (asked : Asked) (reply : Reply)
    (before now all : List Sent) → slice_get requests i ≡ Some asked → slice_get replies i ≡ Some reply
    → now ≡ before ++ answered e seq (asked ∷ []) (reply ∷ [])
    → before ++ answered e seq (drop i requests) (drop i replies) ≡ all
    → now ++ answered e seq (drop (i + 1) requests) (drop (i + 1) replies) ≡ all
answered_more e seq requests replies i asked reply before now all one two more was =
    let next : suc i ≡ i + 1 = omega arith in
    let rest : ℕ → List Sent = λ n. answered e seq (drop n requests) (drop n replies) in
    ap (λ (xs : List Sent). xs ++ rest (i + 1)) more
    ∙ append_assoc before (answered e seq (asked ∷ []) (reply ∷ [])) (rest (i + 1))
    ∙ ap (λ (n : ℕ). before ++ (answered e seq (asked ∷ []) (reply ∷ []) ++ rest n)) (sym next)
    ∙ ap (λ (xs : List Sent). before ++ xs) (sym (answered_next e seq requests replies i asked reply one two))
    ∙ was

no_replies : (e seq : ℕ) (requests : List Asked) → answered e seq requests [] ≡ []
no_replies e seq [] = refl
no_replies e seq (q ∷ qs) = refl

-- all were answered
pub all_answered : (e seq : ℕ) (requests : List Asked) (replies : List Reply) (i : ℕ) (now all : List Sent)
    → (length requests ≤ i) ⊎ (length replies ≤ i)
    → now ++ answered e seq (drop i requests) (drop i replies) ≡ all → now ≡ all
all_answered e seq requests replies i now all (inl few) was =
    sym (append-nil now)
    ∙ ap (λ (qs : List Asked). now ++ answered e seq qs (drop i replies)) (sym (drop_all i requests few)) ∙ was
all_answered e seq requests replies i now all (inr few) was =
    sym (append-nil now) ∙ ap (λ (xs : List Sent). now ++ xs) (sym (no_replies e seq (drop i requests)))
    ∙ ap (λ (rs : List Reply). now ++ answered e seq (drop i requests) rs) (sym (drop_all i replies few)) ∙ was

-- one of two lists ends where the shorter one does
pub one_ends : (m n i : ℕ) → min m n ≤ i → (m ≤ i) ⊎ (n ≤ i)
one_ends m n i ends = elim (cases_lt i m) [
  | inl less ↦ inr (omega arith)
  | inr from ↦ inl from
]

-- where no batch has the attempt's number
pub none_asked : (batches : List Batch) (e : ℕ) (a : Attempt) (before : List Sent)
    → (a.seq < 1) ⊎ (length batches < a.seq) → before ≡ before ++ answers_of batches e a
none_asked batches e a before past =
    sym (append-nil before)
    ∙ ap (λ (qs : List Asked). before ++ answered e a.seq qs a.replies) (sym (none_there a.seq past))
  where
    past_end : (place : ℕ) → length batches ≤ place → slice_get batches place ≡ None
    past_end place far = elim (slice_get_cases batches place).1 [
      | inl w ↦ absurd (omega (arith, w.1))
      | inr w ↦ w.1
    ]

    none_there : (n : ℕ) → (n < 1) ⊎ (length batches < n) → requests_numbered batches n ≡ []
    none_there zero past = refl
    none_there (suc n) (inl few) = absurd (omega arith)
    none_there (suc n) (inr far) = ap requests_there (past_end n (omega arith))

-- the requests of the batch with this number
pub asked_there : (batches : List Batch) (n : ℕ) (b : Batch) → 1 ≤ n → slice_get batches (n - 1) ≡ Some b
    → requests_numbered batches n ≡ b.requests
asked_there batches zero b one there = absurd (omega arith)
asked_there batches (suc n) b one there =
    let same : n ≡ suc n - 1 = omega arith in
    ap (λ (m : ℕ). requests_there (slice_get batches m)) same ∙ ap requests_there there

-- ---- the replies of a section

-- an attempt is open from now on
pub attempt_sent : (batches : List Batch) (e : ℕ) (opened : List Attempt) (a : Attempt) (steps : List Step) (i : ℕ)
    (before all : List Sent) → i < length steps → get_or steps i (Attempts a) ≡ Attempts a
    → before ++ sent_along batches e opened (drop i steps) ≡ all
    → before ++ sent_along batches e (opened ++ a ∷ []) (drop (i + 1) steps) ≡ all
attempt_sent batches e opened a steps i before all there is was =
    let next : drop i steps ≡ Attempts a ∷ drop (i + 1) steps =
    drop_more steps i (Attempts a) there ∙ ap (λ (x : Step). x ∷ drop (i + 1) steps) is in
    ap (λ (xs : List Step). before ++ sent_along batches e opened xs) (sym next) ∙ was

-- the first open attempt is answered
pub commit_sent : (batches : List Batch) (e : ℕ) (opened : List Attempt) (a : Attempt) (c : Commit) (steps : List Step)
    (i : ℕ) (before now all : List Sent) → i < length steps → get_or steps i (Commits c) ≡ Commits c
    → now ≡ before ++ answers_of batches e a
    → before ++ sent_along batches e (a ∷ opened) (drop i steps) ≡ all
    → now ++ sent_along batches e opened (drop (i + 1) steps) ≡ all
commit_sent batches e opened a c steps i before now all there is more was =
    let next : drop i steps ≡ Commits c ∷ drop (i + 1) steps =
    drop_more steps i (Commits c) there ∙ ap (λ (x : Step). x ∷ drop (i + 1) steps) is in
    ap (λ (xs : List Sent). xs ++ sent_along batches e opened (drop (i + 1) steps)) more
    ∙ append_assoc before (answers_of batches e a) (sent_along batches e opened (drop (i + 1) steps))
    ∙ ap (λ (xs : List Step). before ++ sent_along batches e (a ∷ opened) xs) (sym next) ∙ was

-- nothing is open, so nothing is answered
pub empty_commit_sent : (batches : List Batch) (e : ℕ) (c : Commit) (steps : List Step) (i : ℕ)
    (before all : List Sent) → i < length steps → get_or steps i (Commits c) ≡ Commits c
    → before ++ sent_along batches e [] (drop i steps) ≡ all
    → before ++ sent_along batches e [] (drop (i + 1) steps) ≡ all
empty_commit_sent batches e c steps i before all there is was =
    let next : drop i steps ≡ Commits c ∷ drop (i + 1) steps =
    drop_more steps i (Commits c) there ∙ ap (λ (x : Step). x ∷ drop (i + 1) steps) is in
    ap (λ (xs : List Step). before ++ sent_along batches e [] xs) (sym next) ∙ was

-- nothing is open any more
pub rollback_sent : (batches : List Batch) (e : ℕ) (opened : List Attempt) (r : Rollback) (steps : List Step) (i : ℕ)
    (before all : List Sent) → i < length steps → get_or steps i (RollsBack r) ≡ RollsBack r
    → before ++ sent_along batches e opened (drop i steps) ≡ all
    → before ++ sent_along batches e [] (drop (i + 1) steps) ≡ all
rollback_sent batches e opened r steps i before all there is was =
    let next : drop i steps ≡ RollsBack r ∷ drop (i + 1) steps =
    drop_more steps i (RollsBack r) there ∙ ap (λ (x : Step). x ∷ drop (i + 1) steps) is in
    ap (λ (xs : List Step). before ++ sent_along batches e opened xs) (sym next) ∙ was

-- nor after a state that was transferred
pub transfer_sent : (batches : List Batch) (e : ℕ) (opened : List Attempt) (x : Transfer) (steps : List Step) (i : ℕ)
    (before all : List Sent) → i < length steps → get_or steps i (Transfers x) ≡ Transfers x
    → before ++ sent_along batches e opened (drop i steps) ≡ all
    → before ++ sent_along batches e [] (drop (i + 1) steps) ≡ all
transfer_sent batches e opened x steps i before all there is was =
    let next : drop i steps ≡ Transfers x ∷ drop (i + 1) steps =
    drop_more steps i (Transfers x) there ∙ ap (λ (y : Step). y ∷ drop (i + 1) steps) is in
    ap (λ (xs : List Step). before ++ sent_along batches e opened xs) (sym next) ∙ was

-- the section has ended
pub section_sent : (batches : List Batch) (e : ℕ) (opened : List Attempt) (steps : List Step) (i : ℕ)
    (now all : List Sent) → length steps ≤ i → now ++ sent_along batches e opened (drop i steps) ≡ all → now ≡ all
section_sent batches e opened steps i now all ends was =
    sym (append-nil now)
    ∙ ap (λ (xs : List Step). now ++ sent_along batches e opened xs) (sym (drop_all i steps ends)) ∙ was

-- ---- the replies of all replicas

-- one more replica sent its replies
pub replica_sent : (batches : List Batch) (sections : List (List Step)) (e : ℕ) (steps : List Step)
    (before now all : List Sent) → slice_get sections e ≡ Some steps
    → now ≡ before ++ sent_along batches e [] steps
    → before ++ sent_from_on batches e (drop e sections) ≡ all
    → now ++ sent_from_on batches (e + 1) (drop (e + 1) sections) ≡ all
replica_sent batches sections e steps before now all there more was =
    let next : drop e sections ≡ steps ∷ drop (e + 1) sections =
    drop_more sections e steps (slice_get_within sections e steps there)
    ∙ ap (λ (x : List Step). x ∷ drop (e + 1) sections) (get_or_from_slice_get sections e steps steps there) in
    ap (λ (xs : List Sent). xs ++ sent_from_on batches (e + 1) (drop (e + 1) sections)) more
    ∙ append_assoc before (sent_along batches e [] steps) (sent_from_on batches (e + 1) (drop (e + 1) sections))
    ∙ ap (λ (xs : List (List Step)). before ++ sent_from_on batches e xs) (sym next) ∙ was

pub replicas_sent : (batches : List Batch) (sections : List (List Step)) (e : ℕ) (now all : List Sent)
    → length sections ≤ e → now ++ sent_from_on batches e (drop e sections) ≡ all → now ≡ all
replicas_sent batches sections e now all ends was =
    sym (append-nil now)
    ∙ ap (λ (xs : List (List Step)). now ++ sent_from_on batches e xs) (sym (drop_all e sections ends)) ∙ was

-- ---- along a loop

-- what was sent and what is open, by other words
pub along_is : (batches : List Batch) (e : ℕ) (before before' : List Sent) (opened opened' : List Attempt)
    (rest : List Step) (all : List Sent) → before' ≡ before → opened' ≡ opened
    → before ++ sent_along batches e opened rest ≡ all → before' ++ sent_along batches e opened' rest ≡ all
along_is batches e before before' opened opened' rest all same same' is =
    ap (λ (xs : List Sent). xs ++ sent_along batches e opened' rest) same
    ∙ ap (λ (os : List Attempt). before ++ sent_along batches e os rest) same' ∙ is

-- the step that stands at a place of a section
pub step_at : (steps : List code.Step) (i : ℕ) (item : code.Step) (x : Step) → i < length steps
    → item ≡ get_or steps i item → step item ≡ x → get_or (map step steps) i x ≡ x
step_at steps i item x there is same =
    subst (λ (y : Step). get_or (map step steps) i y ≡ y) same
    (get_or-map step steps i item (step item) there ∙ ap step (sym is))

-- the first of some is taken off
pub first_removed : {A : Type 0} (xs : List A) (x : A) → 0 < length xs → x ≡ get_or xs 0 x → xs ≡ x ∷ remove xs 0
first_removed [] x some is = absurd (omega arith)
first_removed (y ∷ ys) x some is = ap (λ z. z ∷ ys) (sym is)
