-- What an attempt of the trace executed is what its records were, in the order of their ticks.
use Rattle.std.proofs.Common.{◌≡◌, ℕ, ◌+◌, ◌-◌, ◌==◌, true, false, List, [], ◌∷◌, ◌++◌, map, length, slice_get, Some}
use Rattle.std.proofs.Common.{refl, sym, subst, ap, ap₂, ◌∙◌, filter, append_assoc, arith}
use Rattle.std.specs.Prelude.{slice_index_or}
use Rattle.std.specs.List.{AllByRecursion, list_any}
use Rattle.std.proofs.lemmas.Bool.{and_parts, or_parts, not-true, eq-eqb, cond-true, cond-false}
use Rattle.std.proofs.lemmas.Option.{get_or_from_slice_get}
use Rattle.eve_smallbank.specs.declared.request.Reply.{Reply}
use Rattle.eve_smallbank.specs.declared.request.Reply.TheVariants.{Done}
use Rattle.eve_smallbank.specs.declared.entry.Entry.{Entry}
use Rattle.eve_smallbank.specs.declared.rows.Touched.{Touched}
use Rattle.eve_smallbank.specs.Access.{is_write}
use Rattle.eve_grammar.specs.Trace.{Access, Attempt, Batch, Trace}
use Rattle.eve_grammar.specs.Accesses.{is_new_access, is_right_place}
use Rattle.eve_stamps.specs.Applied.{Applied}
use Rattle.eve_history.specs.Section.{batch_at, no_batch}
use Rattle.eve_chains.specs.Visible.{entries_with, executed_at, executed_in, execution}
use Rattle.eve_agree.specs.Tables.{entries_of}
use Rattle.eve_attempts.specs.declared.prefix.AttemptHead.{AttemptHead}
use Rattle.eve_attempts.specs.Ledgers.{Ledger}
use Rattle.eve_attempts.specs.ClosedAttempts.{access_noted, executed, entries_in_order, are_right_records}
use Rattle.eve_grammar.specs.Trace.{request_with}
use Rattle.eve_attempts.specs.ClosedAttempts.{worker_limit, opened_as, Closes}
use Rattle.eve_attempts.proofs.TickOrder.{all_moved}
use Rattle.eve_replica.specs.Sections.{RunPlan, place_due, AttemptsNext}
use Rattle.eve_run_laws.proofs.LedgersAlike.{IsPlanOf, opened_of}

-- ---- the entries of an index

-- those after records that don't have it
entries_past : (before xs : List Access) (index : ℕ) → list_any (λ y. y.index == index) before ≡ false
    → entries_with (before ++ xs) index ≡ entries_with xs index
entries_past [] xs index none = refl
entries_past (y ∷ before) xs index none =
    let parts = or_parts (y.index == index) (list_any (λ (z : Access). z.index == index) before) none in
    cond-false (y.index == index) y.entries (entries_with (before ++ xs) index) parts.0
    ∙ entries_past before xs index parts.1

-- no two records have one index, so each is found by its own
entries_found : (workers count : ℕ) (before : List Access) (rs : List Applied)
    → are_right_records workers count before (map access_noted rs) ≡ true
    → AllByRecursion (λ r. entries_with (before ++ map access_noted rs) r.index ≡ r.entries) rs
entries_found workers count before [] right = tt
entries_found workers count before (r ∷ rs) right =
    let one = and_parts (is_new_access workers count before (access_noted r)) _ right in
    let two = and_parts (is_right_place before (access_noted r)) _ one.1 in
    let new = not-true (list_any (λ (y : Access). y.index == r.index) before)
    (and_parts _ _ (and_parts _ _ one.0).1).1 in (
      entries_past before (map access_noted (r ∷ rs)) r.index new
          ∙ cond-true (r.index == r.index) r.entries (entries_with (map access_noted rs) r.index)
          (eq-eqb r.index r.index refl),
      subst (λ (xs : List Access). AllByRecursion (λ q. entries_with xs q.index ≡ q.entries) rs)
          (append_assoc before (access_noted r ∷ []) (map access_noted rs))
          (entries_found workers count (before ++ access_noted r ∷ []) rs two.1),
    )

-- ---- which batch

-- the batch of an attempt is the one that was due
pub batch_due : (p : RunPlan) (t : Trace) (old new : Ledger) (a : Attempt) → IsPlanOf p t
    → (due : AttemptsNext p old new a) → batch_at t a.seq ≡ due.batch
batch_due p t old new a plan due =
    ap (λ (n : ℕ). slice_index_or t.batches (n - 1) no_batch) due.closed.attempt.seq
    ∙ ap (λ (n : ℕ). slice_index_or t.batches n no_batch) (place old.committed (length old.opened))
    ∙ get_or_from_slice_get t.batches (place_due old) due.batch no_batch
    (ap (λ (batches : List Batch). slice_get batches (place_due old)) (sym plan.batches) ∙ due.due)
  where
    place : (m n : ℕ) → m + 1 + n - 1 ≡ m + n
    place m n = omega arith

-- ---- what was executed

executed_one : (t : Trace) (b : Batch) (a : Attempt) (r : Applied) → batch_at t a.seq ≡ b
    → slice_get a.replies r.index ≡ Some r.reply → entries_with a.accesses r.index ≡ r.entries
    → executed_at t a r.index ≡ executed b r
executed_one t b a r batch reply entries =
    ap (λ (c : Batch). record {
      request = request_with c r.index;
      reply = slice_index_or a.replies r.index Done;
      entries = entries_with a.accesses r.index;
    }) batch
    ∙ ap₂ (λ (x : Reply) (es : List Entry). record { request = request_with b r.index; reply = x; entries = es })
    (get_or_from_slice_get a.replies r.index r.reply Done reply) entries

executed_all : (t : Trace) (b : Batch) (a : Attempt) (rs : List Applied) → batch_at t a.seq ≡ b
    → AllByRecursion (λ r. slice_get a.replies r.index ≡ Some r.reply) rs
    → AllByRecursion (λ r. entries_with a.accesses r.index ≡ r.entries) rs
    → AllByRecursion (λ r. executed_at t a r.index ≡ executed b r) rs
executed_all t b a [] batch replies entries = tt
executed_all t b a (r ∷ rs) batch replies entries =
    (executed_one t b a r batch replies.0 entries.0, executed_all t b a rs batch replies.1 entries.1)

mapped_through : {A B C : Type 0} (f : B → C) (g : A → B) (h : A → C) (xs : List A)
    → AllByRecursion (λ x. f (g x) ≡ h x) xs → map f (map g xs) ≡ map h xs
mapped_through f g h [] same = refl
mapped_through {C = C} f g h (x ∷ xs) same =
    ap₂ (λ (z : C) (zs : List C). z ∷ zs) same.0 (mapped_through f g h xs same.1)

pub executes : (t : Trace) (prefix : AttemptHead) (old new : Ledger) (b : Batch) (touched : List Touched)
    (records : List Applied) (a : Attempt) → batch_at t a.seq ≡ b
    → (c : Closes prefix old new b touched records a) → execution t a ≡ map (executed b) c.ordered
executes t prefix old new b touched records a batch c =
    let entries : AllByRecursion (λ r. entries_with a.accesses r.index ≡ r.entries) records =
    subst (λ (xs : List Access). AllByRecursion (λ r. entries_with xs r.index ≡ r.entries) records)
    (sym c.attempt.accesses)
    (entries_found (worker_limit old prefix.serial) _ [] records c.right.noted.accesses) in
    ap (executed_in t a) c.attempt.certificate
    ∙ mapped_through (executed_at t a) (λ (r : Applied). r.index) (executed b) c.ordered
    (all_moved (λ r. executed_at t a r.index ≡ executed b r) records c.ordered c.by_ticks.same
    (executed_all t b a records batch c.attempt.replies entries))

-- ---- what is kept of it

entries_executed : (b : Batch) (rs : List Applied) → entries_of (map (executed b) rs) ≡ entries_in_order rs
entries_executed b [] = refl
entries_executed b (r ∷ rs) = ap (λ (es : List Entry). r.entries ++ es) (entries_executed b rs)

-- the ledger keeps of the attempt what the trace says that it wrote
pub opens_as : (t : Trace) (prefix : AttemptHead) (old new : Ledger) (b : Batch) (touched : List Touched)
    (records : List Applied) (a : Attempt) → batch_at t a.seq ≡ b
    → (c : Closes prefix old new b touched records a) → opened_as a c.ordered ≡ opened_of t a
opens_as t prefix old new b touched records a batch c =
    ap (λ (es : List Entry). record { view = a.view; token = a.token; written = filter (λ e. is_write e.kind) es })
    (sym (entries_executed b c.ordered) ∙ ap entries_of (sym (executes t prefix old new b touched records a batch c)))
