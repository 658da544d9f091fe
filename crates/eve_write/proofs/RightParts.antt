-- What it tells of parts that they have a spelling.
use Rattle.std.proofs.Common.{◌≡◌, ℕ, ◌≤◌, Bool, true, ◌&&◌, eqb, IsTrue, List, [], ◌∷◌, length}
use Rattle.std.proofs.Common.{map, Vec, refl, sym, ◌∙◌, ap, arith}
use Rattle.std.specs.declared.alloc.Global.{Global}
use Rattle.std.specs.Arc.{arc_value}
use Rattle.std.specs.List.{list_all}
use Rattle.std.proofs.lemmas.Bool.{and_parts, and_from, eqb-true, le-leb}
use Rattle.std.proofs.lemmas.List.{length-map}
use Rattle.std.proofs.lemmas.List.Folds.{list_all-map}
use Rattle.eve_grammar.specs.Trace.{head_of}
use Rattle.eve_grammar.specs.Limits.{is_number, is_head, row_count, is_customer, is_batch, is_attempt}
use Rattle.eve_grammar.specs.Limits.{is_access, is_rising, is_restore, are_no_debts, is_versioned, is_step}
use Rattle.eve_grammar.specs.Limits.{is_of_version}
use Rattle.eve_grammar.specs.Limits.{is_vote, is_sent}
use Rattle.eve_write.specs.declared.step.Step as code
use Rattle.eve_write.specs.declared.step.Step.TheVariants.{Attempt, Commit, Rollback, Transfer}
use Rattle.eve_write.specs.declared.parts.Parts.{Parts}
use Rattle.eve_write.specs.Data.{customer, batch, attempt, section, votes, step, vote, sent, trace}
use Rattle.eve_write.specs.Writable.{fits_vote, HasSpelling}
use Rattle.eve_write.specs.Passes.{fits_step, right_step, right_vote, are_right_parts}
use Rattle.eve_grammar.specs.declared.head.Head.{Head}
use Rattle.eve_grammar.proofs.BodyCodecs.{few_restores}
use Rattle.eve_grammar.proofs.HeadLimits.{head_has_limits, few_customers}

-- a step that a section may hold can be written
step_fits : (rows : ℕ) → rows ≤ 131072 → (s : code.Step) → IsTrue (is_step rows (step s)) → IsTrue (fits_step s)
step_fits rows few (Attempt a) right =
    (and_parts (is_attempt (attempt a))
    (eqb (length a.accesses) (length a.certificate.items) && list_all (is_access rows) a.accesses) right).0
step_fits rows few (Commit x) right = refl
step_fits rows few (Rollback r) right =
    let restores = r.restores.items in
    let p = and_parts (is_number 4 r.to)
    (is_number 4 r.view && (is_rising restores && list_all (is_restore rows) restores)) right in
    let q = and_parts (is_number 4 r.view) (is_rising restores && list_all (is_restore rows) restores) p.1 in
    let s = and_parts (is_rising restores) (list_all (is_restore rows) restores) q.1 in
    le-leb (length r.restores.items) 131072
    (omega (arith, few_restores rows restores s.0 s.1))
step_fits rows few (Transfer x) right =
    let state = arc_value x in
    let taken = state.rows.items in
    let last = eqb (length taken) rows && list_all is_versioned taken in
    let p = and_parts (is_number 4 state.seq) (is_number 4 state.view && (are_no_debts 0 taken && last)) right in
    let q = and_parts (is_number 4 state.view) (are_no_debts 0 taken && last) p.1 in
    let s = and_parts (are_no_debts 0 taken) last q.1 in
    let many = eqb-true (length taken) rows (and_parts (eqb (length taken) rows) (list_all is_versioned taken) s.1).0 in
    le-leb (length taken) 131072 (omega arith)

steps_fit : (rows : ℕ) → rows ≤ 131072 → (xs : List code.Step) → IsTrue (list_all (is_step rows) (map step xs))
    → IsTrue (list_all fits_step xs)
steps_fit rows few [] right = refl
steps_fit rows few (x ∷ xs) right =
    let p = and_parts (is_step rows (step x)) (list_all (is_step rows) (map step xs)) right in
    and_from (fits_step x) (list_all fits_step xs) (step_fits rows few x p.0) (steps_fit rows few xs p.1)

sections_fit : (rows : ℕ) → rows ≤ 131072 → (xs : List (Vec code.Step Global))
    → IsTrue (list_all (list_all (is_step rows)) (map section xs))
    → IsTrue (list_all (λ s. list_all fits_step s.items) xs)
sections_fit rows few [] right = refl
sections_fit rows few (x ∷ xs) right =
    let p = and_parts (list_all (is_step rows) (section x)) (list_all (list_all (is_step rows)) (map section xs)) right
    in
    and_from (list_all fits_step x.items) (list_all (λ s. list_all fits_step s.items) xs)
    (steps_fit rows few x.items p.0) (sections_fit rows few xs p.1)

-- what is asked of parts that are written
pub record AreWritable (p : Parts) : Type 0 where
  pub customers : IsTrue (list_all (λ c. is_customer (customer c)) p.customers.items)
  pub batches : IsTrue (list_all (λ b. is_batch (batch b)) p.batches.items)
  pub sections : IsTrue (list_all (λ s. list_all fits_step s.items) p.sections.items)
  pub verifiers : IsTrue (list_all (λ v. list_all fits_vote v.items) p.verifiers.items)
  pub few_batches : length p.batches.items ≤ 65535
  pub few_sections : length p.sections.items ≤ 8
  pub few_verifiers : length p.verifiers.items ≤ 16

pub AreWritable-from_spelling : (p : Parts) → HasSpelling p → AreWritable p
AreWritable-from_spelling p spelled =
    let limits = spelled.limits in
    let head = head_has_limits (head_of (trace p)) limits.head in
    record {
      customers = sym (list_all-map is_customer customer p.customers.items) ∙ limits.customers;
      batches = sym (list_all-map is_batch batch p.batches.items) ∙ limits.batches;
      sections = sections_fit (row_count (head_of (trace p)))
          (omega (arith, few_customers (head_of (trace p)) limits.head)) p.sections.items limits.sections;
      verifiers = spelled.tokens;
      few_batches = omega (arith, head.few_batches, length-map p.batches.items batch);
      few_sections = omega (arith, head.few_replicas, length-map p.sections.items section);
      few_verifiers = omega (arith, head.few_verifiers, length-map p.verifiers.items votes);
    }

-- ---- the tests of parts

-- all pass two tests where all pass each of them
module _ {X : Type 0} (p q : X → Bool) where
  items_split : (xs : List X) → IsTrue (list_all (λ x. p x && q x) xs)
      → IsTrue (list_all p xs) × IsTrue (list_all q xs)
  items_split [] right = (refl, refl)
  items_split (x ∷ xs) right =
      let a = and_parts (p x && q x) (list_all (λ x. p x && q x) xs) right in
      let b = and_parts (p x) (q x) a.0 in
      let r = items_split xs a.1 in
      (and_from (p x) (list_all p xs) b.0 r.0, and_from (q x) (list_all q xs) b.1 r.1)

  items_join : (xs : List X) → IsTrue (list_all p xs) → IsTrue (list_all q xs)
      → IsTrue (list_all (λ x. p x && q x) xs)
  items_join [] one other = refl
  items_join (x ∷ xs) one other =
      let a = and_parts (p x) (list_all p xs) one in
      let b = and_parts (q x) (list_all q xs) other in
      and_from (p x && q x) (list_all (λ x. p x && q x) xs) (and_from (p x) (q x) a.0 b.0) (items_join xs a.1 b.1)

  vecs_split : (xs : List (Vec X Global)) → IsTrue (list_all (λ v. list_all (λ x. p x && q x) v.items) xs)
      → IsTrue (list_all (λ v. list_all p v.items) xs) × IsTrue (list_all (λ v. list_all q v.items) xs)
  vecs_split [] right = (refl, refl)
  vecs_split (v ∷ xs) right =
      let a =
      and_parts (list_all (λ x. p x && q x) v.items) (list_all (λ v. list_all (λ x. p x && q x) v.items) xs) right in
      let b = items_split v.items a.0 in
      let r = vecs_split xs a.1 in (
        and_from (list_all p v.items) (list_all (λ v. list_all p v.items) xs) b.0 r.0,
        and_from (list_all q v.items) (list_all (λ v. list_all q v.items) xs) b.1 r.1,
      )

  vecs_join : (xs : List (Vec X Global)) → IsTrue (list_all (λ v. list_all p v.items) xs)
      → IsTrue (list_all (λ v. list_all q v.items) xs)
      → IsTrue (list_all (λ v. list_all (λ x. p x && q x) v.items) xs)
  vecs_join [] one other = refl
  vecs_join (v ∷ xs) one other =
      let a = and_parts (list_all p v.items) (list_all (λ v. list_all p v.items) xs) one in
      let b = and_parts (list_all q v.items) (list_all (λ v. list_all q v.items) xs) other in
      and_from (list_all (λ x. p x && q x) v.items) (list_all (λ v. list_all (λ x. p x && q x) v.items) xs)
      (items_join v.items a.0 b.0) (vecs_join xs a.1 b.1)

-- the items of the code that pass, as what they are
vecs_are : {X Y : Type 0} (p : Y → Bool) (view : X → Y) (xs : List (Vec X Global))
    → list_all (λ v. list_all (λ x. p (view x)) v.items) xs ≡ list_all (list_all p) (map (λ v. map view v.items) xs)
vecs_are p view [] = refl
vecs_are p view (v ∷ xs) =
    ap (λ b. b && list_all (λ v. list_all (λ x. p (view x)) v.items) xs) (sym (list_all-map p view v.items))
    ∙ ap (λ b. list_all p (map view v.items) && b) (vecs_are p view xs)

-- parts that pass the tests under their header have a spelling
pub HasSpelling-from_tests : (p : Parts) → IsTrue (is_head (head_of (trace p)))
    → IsTrue (are_right_parts (head_of (trace p)) p) → HasSpelling p
HasSpelling-from_tests p right tests =
    let h = head_of (trace p) in
    let customers = list_all (λ c. is_customer (customer c)) p.customers.items in
    let batches = list_all (λ b. is_batch (batch b)) p.batches.items in
    let sections = list_all (λ s. list_all (right_step h) s.items) p.sections.items in
    let verifiers = list_all (λ v. list_all (right_vote h) v.items) p.verifiers.items in
    let replies = list_all (λ s. is_sent h.replicas h.batches (sent s)) p.sent.items in
    let a = and_parts customers (batches && (sections && (verifiers && replies))) tests in
    let b = and_parts batches (sections && (verifiers && replies)) a.1 in
    let s = and_parts sections (verifiers && replies) b.1 in
    let v = and_parts verifiers replies s.1 in
    let steps = vecs_split (λ s. is_of_version h.version (step s)) (λ s. is_step (row_count h) (step s))
    p.sections.items s.0 in
    let split = vecs_split (λ v. is_vote h.batches (vote v)) fits_vote p.verifiers.items v.0 in
    record {
      limits = record {
        counts = refl;
        head = right;
        customers = list_all-map is_customer customer p.customers.items ∙ a.0;
        batches = list_all-map is_batch batch p.batches.items ∙ b.0;
        sections = sym (vecs_are (is_step (row_count h)) step p.sections.items) ∙ steps.1;
        kinds = sym (vecs_are (is_of_version h.version) step p.sections.items) ∙ steps.0;
        votes = sym (vecs_are (is_vote h.batches) vote p.verifiers.items) ∙ split.0;
        sent = list_all-map (is_sent h.replicas h.batches) sent p.sent.items ∙ v.1;
      };
      tokens = split.1;
    }

-- and those that have a spelling pass them
pub tests_from-HasSpelling : (p : Parts) → HasSpelling p → IsTrue (are_right_parts (head_of (trace p)) p)
tests_from-HasSpelling p spelled =
    let h = head_of (trace p) in
    let limits = spelled.limits in
    let customers = list_all (λ c. is_customer (customer c)) p.customers.items in
    let batches = list_all (λ b. is_batch (batch b)) p.batches.items in
    let sections = list_all (λ s. list_all (right_step h) s.items) p.sections.items in
    let verifiers = list_all (λ v. list_all (right_vote h) v.items) p.verifiers.items in
    let replies = list_all (λ s. is_sent h.replicas h.batches (sent s)) p.sent.items in
    and_from customers (batches && (sections && (verifiers && replies)))
    (sym (list_all-map is_customer customer p.customers.items) ∙ limits.customers)
    (and_from batches (sections && (verifiers && replies)) (sym (list_all-map is_batch batch p.batches.items)
    ∙ limits.batches)
    (and_from sections (verifiers && replies)
    (vecs_join (λ s. is_of_version h.version (step s)) (λ s. is_step (row_count h) (step s)) p.sections.items
    (vecs_are (is_of_version h.version) step p.sections.items ∙ limits.kinds)
    (vecs_are (is_step (row_count h)) step p.sections.items ∙ limits.sections))
    (and_from verifiers replies
    (vecs_join (λ v. is_vote h.batches (vote v)) fits_vote p.verifiers.items
    (vecs_are (is_vote h.batches) vote p.verifiers.items ∙ limits.votes) spelled.tokens)
    (sym (list_all-map (is_sent h.replicas h.batches) sent p.sent.items) ∙ limits.sent))))

-- what the tests tell under a header that is that of the parts
pub tested : (p : Parts) (h : Head) (r : Bool) → h ≡ head_of (trace p) → IsTrue (is_head h) → r ≡ are_right_parts h p
    → r ≡ true → HasSpelling p
tested p h r same right is holds =
    HasSpelling-from_tests p (ap is_head (sym same) ∙ right) (ap (λ k. are_right_parts k p) (sym same) ∙ sym is ∙ holds)

pub passed : (p : Parts) (h : Head) (r : Bool) → h ≡ head_of (trace p) → r ≡ are_right_parts h p → HasSpelling p
    → r ≡ true
passed p h r same is spelled = is ∙ ap (λ k. are_right_parts k p) same ∙ tests_from-HasSpelling p spelled
