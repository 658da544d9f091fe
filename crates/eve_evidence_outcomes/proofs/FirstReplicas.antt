-- The lowest-numbered replica that committed a batch, and balances of all replicas.
use Rattle.std.proofs.Common.{◌≡◌, ℕ, zero, suc, ◌+◌, ◌*◌, ◌/◌, ◌<◌, Bool, true, false, ℤ, List, [], ◌∷◌}
use Rattle.std.proofs.Common.{length}
use Rattle.std.proofs.Common.{map, slice_get, get_or, Some, None, refl, sym, ap, ◌∙◌, inl, inr, arith}
use Rattle.std.specs.List.{enumerate_from, find}
use Rattle.std.specs.Option.{is_some, option_map}
use Rattle.std.proofs.lemmas.Bool.{cases_Bool, cond-true, cond-false, false≢true}
use Rattle.std.proofs.lemmas.List.{length-append, length-map}
use Rattle.std.proofs.lemmas.List.FromFn.{length-enumerate_from}
use Rattle.std.proofs.lemmas.Option.{same_Some, slice_get-map, slice_get_within, get_or_from_slice_get}
use Rattle.eve_grammar.specs.Trace.{Customer, Trace}
use Rattle.eve_grammar.specs.Spelling.{customers_at, customer_text}
use Rattle.eve_grammar.specs.declared.head.TheConstants.{HEADER_LEN}
use Rattle.eve_views.proofs.FrameOffsets.{located_get}
use Rattle.eve_grammar.proofs.Numbered.{numbered_at}
use Rattle.eve_history.specs.Section.{Placed}
use Rattle.eve_chains.proofs.LinkedPaths.{none≢some}
use Rattle.eve_history.specs.SectionHistory.{SectionHistory, section_history, section_histories, committed_at, names_of}
use Rattle.eve_history.proofs.RightSections.{as_many_told, section_history_at}
use Rattle.eve_chains.specs.Committed.{first_rows, balances_to, values_to}
use Rattle.eve_chains.specs.CommittedValues.{Settling, settling, settlings}
use Rattle.eve_agree.specs.Agreement.{first_to_commit}
use Rattle.eve_evidence.specs.Told.{row_name}

-- ---- the first that passes

-- what is at e, and nothing before it
found_at : {A : Type 0} (p : ℕ → Bool) (xs : List A) (k e : ℕ) → e < length xs → p (k + e) ≡ true
    → ((u : ℕ) → u < e → p (k + u) ≡ false) → find p (map (λ x. x.0) (enumerate_from k xs)) ≡ Some (k + e)
found_at p [] k e lt on off = absurd (omega arith)
found_at p (x ∷ xs) k zero lt on off =
    let here : k + 0 ≡ k = omega arith in
    cond-true (p k) (Some k) (find p (map (λ y. y.0) (enumerate_from (k + 1) xs))) (sym (ap p here) ∙ on)
    ∙ ap Some (sym here)
found_at p (x ∷ xs) k (suc e) lt on off =
    let here : k + 0 ≡ k = omega arith in
    let next : k + suc e ≡ k + 1 + e = omega arith in
    cond-false (p k) (Some k) (find p (map (λ y. y.0) (enumerate_from (k + 1) xs)))
    (sym (ap p here) ∙ off 0 (omega arith))
    ∙ found_at p xs (k + 1) e (omega arith) (sym (ap p next) ∙ on)
    (λ u less. (let step : k + suc u ≡ k + 1 + u = omega arith in sym (ap p step) ∙ off (suc u) (omega arith)))
    ∙ ap Some (sym next)

none_at : {A : Type 0} (p : ℕ → Bool) (xs : List A) (k : ℕ) → ((u : ℕ) → u < length xs → p (k + u) ≡ false)
    → find p (map (λ x. x.0) (enumerate_from k xs)) ≡ None
none_at p [] k off = refl
none_at p (x ∷ xs) k off =
    let here : k + 0 ≡ k = omega arith in
    cond-false (p k) (Some k) (find p (map (λ y. y.0) (enumerate_from (k + 1) xs)))
    (sym (ap p here) ∙ off 0 (omega arith))
    ∙ none_at p xs (k + 1)
    (λ u less. (let step : k + suc u ≡ k + 1 + u = omega arith in sym (ap p step) ∙ off (suc u) (omega arith)))

-- where none was found none passes
none_found : {A : Type 0} (p : ℕ → Bool) (xs : List A) (k e : ℕ) → e < length xs
    → find p (map (λ x. x.0) (enumerate_from k xs)) ≡ None → p (k + e) ≡ false
none_found p [] k e lt none = absurd (omega arith)
none_found p (x ∷ xs) k e lt none = elim (cases_Bool (p k)) [
  | inl on ↦ absurd (none≢some k
      (sym none ∙ cond-true (p k) (Some k) (find p (map (λ y. y.0) (enumerate_from (k + 1) xs))) on))
  | inr off ↦ by e lt off (λ u less. none_found p xs (k + 1) u less
      (sym (cond-false (p k) (Some k) (find p (map (λ y. y.0) (enumerate_from (k + 1) xs))) off) ∙ none))
]
  where
    by : (e : ℕ) → e < suc (length xs) → p k ≡ false → ((u : ℕ) → u < length xs → p (k + 1 + u) ≡ false)
        → p (k + e) ≡ false
    by zero lt off rest = (let here : k + 0 ≡ k = omega arith in ap p here ∙ off)
    by (suc e) lt off rest = (let next : k + suc e ≡ k + 1 + e = omega arith in ap p next ∙ rest e (omega arith))

-- ---- of all replicas

module _ (t : Trace) (n : ℕ) where
  pub first_is : (e : ℕ) → e < length t.sections → is_some (committed_at t e n) ≡ true
      → ((u : ℕ) → u < e → committed_at t u n ≡ None) → first_to_commit t n ≡ Some e
  first_is e lt there none =
      let from : 0 + e ≡ e = omega arith in
      found_at (λ f. is_some (committed_at t f n)) t.sections 0 e lt
      (ap (λ (f : ℕ). is_some (committed_at t f n)) from ∙ there)
      (λ u less. (let same : 0 + u ≡ u = omega arith in
      ap (λ (f : ℕ). is_some (committed_at t f n)) same ∙ ap is_some (none u less)))
      ∙ ap Some from

  -- one that committed the batch is found
  pub first_found : (e : ℕ) (p : Placed) → e < length t.sections → committed_at t e n ≡ Some p
      → first_to_commit t n ≡ None → ⊥
  first_found e p lt at none =
      let from : 0 + e ≡ e = omega arith in
      false≢true (sym (sym (ap (λ (f : ℕ). is_some (committed_at t f n)) from)
      ∙ none_found (λ f. is_some (committed_at t f n)) t.sections 0 e lt none) ∙ ap is_some at)

  pub first_none : ((u : ℕ) → u < length t.sections → committed_at t u n ≡ None) → first_to_commit t n ≡ None
  first_none none = none_at (λ f. is_some (committed_at t f n)) t.sections 0
      (λ u less. (let same : 0 + u ≡ u = omega arith in
      ap (λ (f : ℕ). is_some (committed_at t f n)) same ∙ ap is_some (none u less)))

module _ (t : Trace) where
  pub history_as : (hs : List SectionHistory) (e : ℕ) (h : SectionHistory) → hs ≡ section_histories t
      → slice_get hs e ≡ Some h → (e < length t.sections) × (h ≡ section_history t e)
  history_as hs e h is got =
      let here : slice_get (section_histories t) e ≡ Some h = ap (λ (xs : List SectionHistory). slice_get xs e) (sym is)
      ∙ got in
      let lt = slice_get_within (section_histories t) e h here in
      let count = as_many_told t in
      let there : e < length t.sections = omega arith in
      (there, same_Some h (section_history t e) (sym here ∙ section_history_at t e there))

  pub settlings_count : length (settlings t) ≡ length t.sections
  unfolding settlings
  settlings_count = length-map (enumerate_from 0 t.sections) (λ s. settling t s.0)
      ∙ length-enumerate_from 0 t.sections

  pub settling_at : (e : ℕ) → e < length t.sections → slice_get (settlings t) e ≡ Some (settling t e)
  unfolding settlings
  settling_at e lt = numbered_at (settling t) t.sections e lt

  pub settled_as : (ss : List Settling) (e : ℕ) (s : Settling) → ss ≡ settlings t → e < length t.sections
      → slice_get ss e ≡ Some s → s ≡ settling t e
  settled_as ss e s is lt got =
      same_Some s (settling t e) (sym got ∙ ap (λ (xs : List Settling). slice_get xs e) is ∙ settling_at e lt)

pub replica_is : (t : Trace) (e : ℕ) (h : SectionHistory) → h ≡ section_history t e → h.replica ≡ e
unfolding section_history
replica_is t e h is = ap (λ (x : SectionHistory). x.replica) is

-- ---- balances

rows_long : (n : ℕ) (values : ℕ → ℤ) → length (first_rows n values) ≡ n
rows_long zero values = refl
rows_long (suc n) values =
    omega (arith, length-append (first_rows n values) (values n ∷ []), rows_long n values)

pub balances_long : (t : Trace) (e n : ℕ) (b : List ℤ) → b ≡ balances_to t e n → length b ≡ 2 * length t.customers
balances_long t e n b is = ap (λ (xs : List ℤ). length xs) is ∙ rows_long (2 * length t.customers) (values_to t e n)

-- the name of a row's customer
pub read_name : (t : Trace) (row customer : ℕ) (c : ℕ × Customer) (name : List ℕ) → customer ≡ row / 2
    → slice_get (customers_at t) customer ≡ Some c → name ≡ c.1.name → name ≡ row_name t row
unfolding customers_at
read_name t row customer c name is got own =
    let there : slice_get t.customers customer ≡ Some c.1 =
    located_get customer_text HEADER_LEN t.customers customer c got in
    own
    ∙ sym (get_or_from_slice_get (names_of t) customer c.1.name []
    (slice_get-map (λ (d : Customer). d.name) t.customers customer ∙ ap (option_map (λ (d : Customer). d.name)) there))
    ∙ ap (λ (k : ℕ). get_or (names_of t) k []) is
