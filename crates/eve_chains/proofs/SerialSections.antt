-- Serial order over a section: each committed attempt is chained from what the committed attempts before it left.
use Rattle.std.proofs.Common.{◌≡◌, ℕ, zero, suc, ◌-◌, ◌<◌, List, [], ◌∷◌, ◌++◌, map, flat_map, fold, take, slice_get}
use Rattle.std.proofs.Common.{Option, Some, None}
use Rattle.std.proofs.Common.{refl, sym, subst, ap, ◌∙◌, append-nil, IsTrue, arith}
use Rattle.std.proofs.lemmas.Bool.{and_parts}
use Rattle.eve_smallbank.specs.Conflict.{IsReordering}
use Rattle.std.proofs.lemmas.List.{map-append}
use Rattle.std.proofs.lemmas.List.Sums.{fold-append}
use Rattle.std.proofs.lemmas.Grind.{flat_map-append}
use Rattle.std.specs.List.{AllByRecursion}
use Rattle.std.proofs.lemmas.Option.{same_Some}
use Rattle.eve_smallbank.specs.declared.request.Reply.{Reply}
use Rattle.eve_smallbank.specs.SmallBank.{Bank, Request, run}
use Rattle.eve_smallbank.specs.Access.{Executed, bank_of}
use Rattle.eve_smallbank.specs.Chain.{Table, before_rest, values_of}
use Rattle.eve_smallbank.specs.SerialOrder.{bank_at, IsSound, IsSerial}
use Rattle.eve_smallbank.proofs.Members.{all_in}
use Rattle.eve_smallbank.proofs.Chains.{visible_at-before_rest}
use Rattle.eve_smallbank.proofs.SerialOrders.{serial}
use Rattle.eve_grammar.specs.Trace.{Trace}
use Rattle.eve_grammar.specs.Certificate.{is_permutation, keeps_groups}
use Rattle.eve_history.specs.Section.{Came, Placed, HowReached, ByAttempt, ByTransfer, Skipped, came_by, attempts_by}
use Rattle.eve_history.specs.Section.{batch_at, request_count, IsByAttempt}
use Rattle.eve_history.specs.SectionHistory.{ByAttemptsTo, history, committed_at, IsRightSection, names_of}
use Rattle.eve_chains.specs.Visible.{opening_table, executed_at, executed_in, execution, executions, with_came}
use Rattle.eve_chains.specs.Visible.{rows_after}
use Rattle.eve_chains.specs.Committed.{attempts_of, committed_to, path_to, bank_after, opening_bank, Leads}
use Rattle.eve_chains.specs.Committed.{IsSerialBetween}
use Rattle.eve_chains.specs.Sound.{IsSoundAlong, SettledAreSound}
use Rattle.eve_chains.proofs.Permutations.{reordering_of_permutations}
use Rattle.eve_chains.proofs.LinkedPaths.{linked_history, linked_number, none≢some, linked_at, how_reached_by}
use Rattle.eve_chains.proofs.LinkedPaths.{in_attempts}
use Rattle.eve_history.proofs.FateLaws.{attempts_by_push}
use Rattle.eve_chains.proofs.SerialRuns.{leads-append}

-- ---- lists

pub take_one_more : {A : Type 0} (xs : List A) (n : ℕ) (x : A) → slice_get xs n ≡ Some x → take (suc n) xs
    ≡ take n xs ++ x ∷ []
take_one_more [] n x e = none≢some x e
take_one_more (y ∷ xs) zero x e = ap (λ z. z ∷ []) (same_Some y x e)
take_one_more (y ∷ xs) (suc n) x e = ap (λ zs. y ∷ zs) (take_one_more xs n x e)

pub take_no_more : {A : Type 0} (xs : List A) (n : ℕ) → slice_get xs n ≡ None → take (suc n) xs ≡ take n xs
take_no_more [] zero e = refl
take_no_more [] (suc n) e = refl
take_no_more (y ∷ xs) zero e = none≢some y (sym e)
take_no_more (y ∷ xs) (suc n) e = ap (λ zs. y ∷ zs) (take_no_more xs n e)

all-prefix : {A : Type 0} (P : A → Type 0) (xs ys : List A) → AllByRecursion P (xs ++ ys) → AllByRecursion P xs
all-prefix P [] ys all = tt
all-prefix P (x ∷ xs) ys all = (all.0, all-prefix P xs ys all.1)

-- ---- banks

-- the requests of one more attempt by which a number was reached
pub one_more : (t : Trace) (ls : List HowReached) (n : ℕ) (p : Placed) → slice_get ls n ≡ Some (ByAttempt p)
    → executions t (attempts_of (attempts_by (take (suc n) ls)))
    ≡ executions t (attempts_of (attempts_by (take n ls))) ++ execution t p.attempt
one_more t ls n p e =
    ap (λ (ps : List Placed). executions t (attempts_of ps)) (ap attempts_by (take_one_more ls n (ByAttempt p) e)
    ∙ attempts_by_push (take n ls) p)
    ∙ ap (executions t) (map-append (λ (q : Placed). q.attempt) (attempts_by (take n ls)) (p ∷ []))
    ∙ flat_map-append (execution t) (attempts_of (attempts_by (take n ls))) (p.attempt ∷ [])
    ∙ ap (λ (xs : List Executed). executions t (attempts_of (attempts_by (take n ls))) ++ xs)
    (append-nil (execution t p.attempt))

-- what the rows have after one more number
pub rows_next : (t : Trace) (ls : List HowReached) (n : ℕ) (l : HowReached) → slice_get ls n ≡ Some l
    → rows_after t (flat_map came_by (take (suc n) ls))
    ≡ fold (with_came t) (rows_after t (flat_map came_by (take n ls))) (came_by l)
rows_next t ls n l e =
    ap (rows_after t) (ap (flat_map came_by) (take_one_more ls n l e) ∙ flat_map-append came_by (take n ls) (l ∷ [])
    ∙ ap (λ (cs : List Came). flat_map came_by (take n ls) ++ cs) (append-nil (came_by l)))
    ∙ fold-append (with_came t) (opening_table t) (flat_map came_by (take n ls)) (came_by l)

-- ---- the law

module _ (t : Trace) (e : ℕ) (right : IsRightSection t e) (sound : SettledAreSound t e) (n : ℕ) where
  committed_serial : (p : Placed) → slice_get (history t e).ways_reached n ≡ Some (ByAttempt p)
      → IsSerial (names_of t) (rows_after t (path_to t e n)) [] (execution t p.attempt)
  committed_serial p at =
      let own = all_in (IsSoundAlong t)
      (all-prefix (IsSoundAlong t) (attempts_by (history t e).ways_reached) (history t e).discarded sound)
      (in_attempts (history t e).ways_reached n p at) in
      let along = (linked_at t [] (history t e).ways_reached n p (linked_history t e right) at).path in
      serial (names_of t) (rows_after t (path_to t e n)) [] (execution t p.attempt)
      (subst (λ path. IsSound (names_of t) (rows_after t path) [] (execution t p.attempt)) along own)

  bank_next : (p : Placed) → slice_get (history t e).ways_reached n ≡ Some (ByAttempt p)
      → bank_at (names_of t) (rows_after t (path_to t e n)) (before_rest [] (execution t p.attempt))
      ≡ bank_after t e (suc n)
  unfolding bank_after
  bank_next p at = ap (λ (table : Table). bank_of (names_of t) (values_of table))
      (visible_at-before_rest (rows_after t (path_to t e n)) [] (execution t p.attempt)
      ∙ sym (rows_next t (history t e).ways_reached n (ByAttempt p) at))

  bank_now : bank_after t e n ≡ bank_at (names_of t) (rows_after t (path_to t e n)) []
  unfolding bank_after
  bank_now = refl

  -- a run from the rows after the path is one between the banks
  run_between : (p : Placed) → slice_get (history t e).ways_reached n ≡ Some (ByAttempt p)
      → (requests : List Request) (replies : List Reply)
      → run (bank_at (names_of t) (rows_after t (path_to t e n)) []) requests
      ≡ (
        bank_at (names_of t) (rows_after t (path_to t e n)) (before_rest [] (execution t p.attempt)),
        replies,
      )
      → run (bank_after t e n) requests ≡ (bank_after t e (suc n), replies)
  run_between p at requests replies runs =
      ap (λ (bank : Bank). run bank requests) bank_now ∙ runs ∙ ap (λ (bank : Bank). (bank, replies)) (bank_next p at)

  serial_next : (p : Placed) → slice_get (history t e).ways_reached n ≡ Some (ByAttempt p)
      → IsSerialBetween (bank_after t e n) (bank_after t e (suc n)) (execution t p.attempt)
  serial_next p at =
      let own = committed_serial p at in
      record {
        serial = run_between p at (map (λ x. x.request) (execution t p.attempt))
            (map (λ x. x.reply) (execution t p.attempt)) own.serial;
        agrees = own.agrees;
        any_order = λ ys order agrees. run_between p at (map (λ x. x.request) ys) (map (λ x. x.reply) ys)
            (own.any_order ys order agrees);
      }

  -- past the last number the bank stays
  bank_stays : slice_get (history t e).ways_reached n ≡ None → bank_after t e n ≡ bank_after t e (suc n)
  unfolding bank_after
  bank_stays none = ap (λ (ls : List HowReached). bank_of (names_of t) (values_of (rows_after t (flat_map came_by ls))))
      (sym (take_no_more (history t e).ways_reached n none))

pub serial_between : (t : Trace) (e : ℕ) → IsRightSection t e → SettledAreSound t e → (n : ℕ) (p : Placed)
    → committed_at t e n ≡ Some p
    → IsSerialBetween (bank_after t e (n - 1)) (bank_after t e n) (execution t p.attempt)
serial_between t e right sound zero p at = none≢some p at
serial_between t e right sound (suc n) p at =
    subst (λ (m : ℕ). IsSerialBetween (bank_after t e m) (bank_after t e (suc n)) (execution t p.attempt)) (same n)
    (serial_next t e right sound n p (how_reached_by (slice_get (history t e).ways_reached n) p at))
  where
    same : (n : ℕ) → n ≡ suc n - 1
    same n = omega arith

-- ---- from the opening on

opening_is_first : (t : Trace) (e : ℕ) → opening_bank t ≡ bank_after t e 0
unfolding bank_after opening_bank
opening_is_first t e = refl

module _ (t : Trace) (e : ℕ) (right : IsRightSection t e) (sound : SettledAreSound t e) where
  abbrev leads : ℕ → Type 0
  leads n = Leads (opening_bank t) (executions t (committed_to t e n)) (bank_after t e n)

  leads_next : (n : ℕ) → leads n → (o : Option HowReached) → slice_get (history t e).ways_reached n ≡ o
      → ((l : HowReached) → slice_get (history t e).ways_reached n ≡ Some l → IsByAttempt l) → leads (suc n)
  leads_next n before None none alone =
      subst (λ (ls : List HowReached). Leads (opening_bank t) (executions t (attempts_of (attempts_by ls)))
      (bank_after t e (suc n)))
      (sym (take_no_more (history t e).ways_reached n none))
      (subst (λ (bank : Bank). Leads (opening_bank t) (executions t (committed_to t e n)) bank)
      (bank_stays t e right sound n none) before)
  leads_next n before (Some (ByAttempt p)) at alone =
      subst (λ (xs : List Executed). Leads (opening_bank t) xs (bank_after t e (suc n)))
      (sym (one_more t (history t e).ways_reached n p at))
      (leads-append (opening_bank t) (bank_after t e n) (bank_after t e (suc n)) (executions t (committed_to t e n))
      (execution t p.attempt) before
      (serial_next t e right sound n p at).serial)
  leads_next n before (Some (ByTransfer at x)) is alone = absurd (alone (ByTransfer at x) is)
  leads_next n before (Some Skipped) is alone = absurd (alone Skipped is)

  -- where every number up to n was reached by an attempt
  leads_by_attempts : (n : ℕ)
      → ((m : ℕ) (l : HowReached) → m < n → slice_get (history t e).ways_reached m ≡ Some l → IsByAttempt l) → leads n
  leads_by_attempts zero alone = ap (λ (bank : Bank). (bank, [])) (opening_is_first t e)
  leads_by_attempts (suc n) alone =
      leads_next n (leads_by_attempts n (λ m l less. alone m l (omega arith))) (slice_get (history t e).ways_reached n)
      refl
      (λ l. alone n l (omega arith))

  pub leads_from_opening : (n : ℕ) → ByAttemptsTo t e n → leads n
  leads_from_opening n alone = leads_by_attempts n (λ m l less at. alone (suc m) l (omega arith) at)

-- ---- orders of the indexes

pub reordering_at : (t : Trace) (e n : ℕ) (p : Placed) (order : List ℕ) → IsRightSection t e → committed_at t e n
    ≡ Some p → IsTrue (is_permutation (request_count t p.attempt) order)
    → IsReordering (executed_in t p.attempt order) (execution t p.attempt)
reordering_at t e zero p order right at permutes = none≢some p at
reordering_at t e (suc n) p order right at permutes =
    let kept = (and_parts (keeps_groups (batch_at t p.attempt.seq).sizes (request_count t p.attempt)
    p.attempt.certificate) _
    (linked_number t e n p right at).certificate).0 in
    let certificate = (and_parts (is_permutation (request_count t p.attempt) p.attempt.certificate) _ kept).0 in
    reordering_of_permutations (executed_at t p.attempt) (request_count t p.attempt) order p.attempt.certificate
    permutes certificate
