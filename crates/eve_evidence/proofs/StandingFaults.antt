-- Where a fault of a section stands: at one of its steps.
use Rattle.std.proofs.Common.{◌≡◌, ℕ, ◌==◌, Bool, true, false, ◌⊎◌, inl, inr, List, [], ◌∷◌, ◌++◌, length, refl}
use Rattle.std.proofs.Common.{sym, subst}
use Rattle.std.specs.Prelude.{IsTrue, IsFalse}
use Rattle.std.proofs.lemmas.Bool.{and_parts, eqb-true}
use Rattle.eve_smallbank.proofs.Members.{In, here, there}
use Rattle.eve_grammar.specs.Accesses.{is_right_place}
use Rattle.eve_grammar.specs.Trace.{Access, Attempt, Step, Attempts, Commits, RollsBack, Transfers, Trace}
use Rattle.eve_grammar.specs.Spelling.{steps_at, accesses_at}
use Rattle.eve_views.specs.declared.fault.Code.{Code}
use Rattle.eve_views.specs.declared.fault.Code.TheVariants as code
use Rattle.eve_views.specs.Form.{SomePlace}
use Rattle.eve_history.specs.Section.{Placed, attempts_by, SectionState, start, next, committing, state_after, settled}
use Rattle.eve_history.specs.Section.{request_count, is_due, is_right_attempt, is_right_certificate, is_right_access}
use Rattle.eve_history.specs.Section.{is_right_commit}
use Rattle.eve_history.specs.Section.{is_right_rollback, is_right_transfer, are_right, are_right_accesses}
use Rattle.eve_history.specs.SectionHistory.{history}
use Rattle.eve_history.specs.Structure.{OfAttempt, OfCommit, OfRollback, OfTransfer, AtStep, AtAccess, accesses_of}
use Rattle.eve_history.specs.Structure.{StandsInStructure}
use Rattle.eve_history.proofs.FateLaws.{attempts_by_push, attempts_by_transferring}
use Rattle.eve_history.proofs.Places.{weaker_place, place_here, place_later}
use Rattle.eve_chains.proofs.Distinct.{in_right, in_split}
use Rattle.eve_chains.specs.Visible.{visible_to}
use Rattle.eve_chains.specs.Faults.{AtSettledAccess, StandsInRecords, StandsInChains}
use Rattle.eve_evidence.specs.Told.{placed_in}
use Rattle.eve_evidence.specs.Section.{WrongAccess, StandsAtStep, StandsAlong}

-- ---- structure

module _ (t : Trace) (e at : ℕ) where
  -- a fault at a step's own frame
  own_along : (c : Code) (P : SectionState → Step → Type 0)
      → ((s : SectionState) (step : ℕ × Step) → step.0 ≡ at → P s step.1 → StandsAtStep c t at s step)
      → AtStep t e at P → StandsAlong c t e at
  own_along c P to stands =
      weaker_place _ _ (steps_at t e) (λ before step h. to (state_after start before) step h.1.0 h.1.1) stands

  -- a fault at one of an attempt's access records
  access_along : (c : Code) (P : Attempt → List Access → Access → Type 0)
      → ((s : SectionState) (o : ℕ) (a : Attempt) (own : List (ℕ × Access)) (x : Access) → P a (accesses_of own) x
      → WrongAccess c t s o a own x)
      → AtAccess t e at P → StandsAlong c t e at
  access_along c P to stands = weaker_place _ _ (steps_at t e) (λ before step h. by before step h.1) stands
    where
      by : (before : List (ℕ × Step)) (step : ℕ × Step)
          → OfAttempt step.1 (λ a. IsTrue (is_right_attempt t (state_after start before) a)
          × IsTrue (is_right_certificate t a)
          × SomePlace (accesses_at step.0 a) (λ own x. IsTrue (are_right_accesses t a [] (accesses_of own))
          × ((x.0 ≡ at) × P a (accesses_of own) x.1)))
          → StandsAtStep c t at (state_after start before) step
      by before (o, Attempts a) h =
          inr (weaker_place _ _ (accesses_at o a)
          (λ own x w. (w.1.0, to (state_after start before) o a own x.1 w.1.1)) h.2)
      by before (o, Commits d) h = elim h [ ]
      by before (o, RollsBack r) h = elim h [ ]
      by before (o, Transfers x) h = elim h [ ]

  true_there : (b : Bool) → (b ≡ false → ⊥) → b ≡ true
  true_there true other = refl
  true_there false other = absurd (other refl)

  certificate_along : StandsInStructure code.Certificate t e at → (StandsInStructure code.Attempt t e at → ⊥)
      → StandsAlong code.Certificate t e at
  certificate_along stands apart = record {
    before = stands.before;
    item = stands.item;
    rest = stands.rest;
    is = stands.is;
    holds = by stands.item
        (λ wrong. apart (record {
          before = stands.before;
          item = stands.item;
          rest = stands.rest;
          is = stands.is;
          holds = wrong;
        }))
        stands.holds;
  }
    where
      by : (step : ℕ × Step)
          → (IsTrue (are_right t start stands.before) × ((step.0 ≡ at)
          × OfAttempt step.1 (λ a. IsFalse (is_right_attempt t (state_after start stands.before) a))) → ⊥)
          → IsTrue (are_right t start stands.before) × ((step.0 ≡ at)
          × OfAttempt step.1 (λ a. IsFalse (is_right_certificate t a)))
          → StandsAtStep code.Certificate t at (state_after start stands.before) step
      by (o, Attempts a) none h =
          let s = state_after start stands.before in
          let right : is_right_attempt t s a ≡ true =
          true_there (is_right_attempt t s a) (λ wrong. none (h.0, (h.1.0, wrong))) in
          let count = and_parts (is_due t s a) (length a.certificate == request_count t a) right in
          inl (h.1.0, (eqb-true (length a.certificate) (request_count t a) count.1, h.1.1))
      by (o, Commits c) none h = elim h.1.1 [ ]
      by (o, RollsBack r) none h = elim h.1.1 [ ]
      by (o, Transfers x) none h = elim h.1.1 [ ]

  at_attempt : (s : SectionState) (step : ℕ × Step) → step.0 ≡ at
      → OfAttempt step.1 (λ a. IsFalse (is_right_attempt t s a)) → StandsAtStep code.Attempt t at s step
  at_attempt s (o, Attempts a) offset wrong = inl (offset, wrong)
  at_attempt s (o, Commits c) offset wrong = elim wrong [ ]
  at_attempt s (o, RollsBack r) offset wrong = elim wrong [ ]
  at_attempt s (o, Transfers x) offset wrong = elim wrong [ ]

  at_commit : (s : SectionState) (step : ℕ × Step) → step.0 ≡ at
      → OfCommit step.1 (λ c. IsFalse (is_right_commit s c)) → StandsAtStep code.Commit t at s step
  at_commit s (o, Attempts a) offset wrong = elim wrong [ ]
  at_commit s (o, Commits c) offset wrong = (offset, wrong)
  at_commit s (o, RollsBack r) offset wrong = elim wrong [ ]
  at_commit s (o, Transfers x) offset wrong = elim wrong [ ]

  at_rollback : (s : SectionState) (step : ℕ × Step) → step.0 ≡ at
      → OfRollback step.1 (λ r. IsFalse (is_right_rollback t s r)) → StandsAtStep code.Rollback t at s step
  at_rollback s (o, Attempts a) offset wrong = elim wrong [ ]
  at_rollback s (o, Commits c) offset wrong = elim wrong [ ]
  at_rollback s (o, RollsBack r) offset wrong = (offset, wrong)
  at_rollback s (o, Transfers x) offset wrong = elim wrong [ ]

  at_state : (s : SectionState) (step : ℕ × Step) → step.0 ≡ at
      → OfTransfer step.1 (λ x. IsFalse (is_right_transfer t s x)) → StandsAtStep code.Transfer t at s step
  at_state s (o, Attempts a) offset wrong = elim wrong [ ]
  at_state s (o, Commits c) offset wrong = elim wrong [ ]
  at_state s (o, RollsBack r) offset wrong = elim wrong [ ]
  at_state s (o, Transfers x) offset wrong = (offset, wrong)

pub structure_along : (t : Trace) (c : Code) (e at : ℕ) → StandsInStructure c t e at
    → (c ≡ code.Certificate → StandsInStructure code.Attempt t e at → ⊥) → StandsAlong c t e at
structure_along t code.Attempt e at stands apart = own_along t e at code.Attempt _ (at_attempt t e at) stands
structure_along t code.Certificate e at stands apart = certificate_along t e at stands (apart refl)
structure_along t code.Access e at stands apart =
    access_along t e at code.Access (λ a own x. IsFalse (is_right_access t a own x)) (λ s o a own x wrong. wrong) stands
structure_along t code.WorkerOrder e at stands apart =
    access_along t e at code.WorkerOrder (λ a own x. IsFalse (is_right_place own x)) (λ s o a own x wrong. wrong) stands
structure_along t code.Commit e at stands apart = own_along t e at code.Commit _ (at_commit t e at) stands
structure_along t code.Rollback e at stands apart = own_along t e at code.Rollback _ (at_rollback t e at) stands
structure_along t code.Transfer e at stands apart = own_along t e at code.Transfer _ (at_state t e at) stands
structure_along t c e at stands apart = absurd stands

-- ---- settled attempts

-- it is one of the state's attempts
abbrev Has : Placed → SectionState → Type 0
Has p s = In p (attempts_by s.ways_reached) ⊎ (In p s.pending ⊎ In p s.discarded)

-- at this step, where the section has come to this state, it comes
abbrev Comes : Placed → SectionState → ℕ × Step → Type 0
Comes p s step = (step ≡ (p.offset, Attempts p.attempt)) × (p ≡ placed_in s p.offset p.attempt)

only : {p q : Placed} → In p (q ∷ []) → p ≡ q
only here = refl
only (there i) = elim i [ ]

commits_from : (p : Placed) (s : SectionState) (ps : List Placed) → ((q : Placed) → In q ps → Has q s)
    → Has p (committing s ps) → Has p s
commits_from p s [] old has = has
commits_from p s (q ∷ ps) old (inl i) = elim (in_split (attempts_by s.ways_reached) (q ∷ [])
    (subst (In p) (attempts_by_push s.ways_reached q) i)) [
      | inl j ↦ inl j
      | inr j ↦ subst (λ (x : Placed). Has x s) (sym (only j)) (old q here)
    ]
commits_from p s (q ∷ ps) old (inr (inl i)) = old p (there i)
commits_from p s (q ∷ ps) old (inr (inr i)) = inr (inr i)

has_next : (p : Placed) (s : SectionState) (step : ℕ × Step) → Has p (next s step) → Has p s ⊎ Comes p s step
has_next p s (o, Attempts a) (inl i) = inl (inl i)
has_next p s (o, Attempts a) (inr (inl i)) = elim (in_split s.pending (placed_in s o a ∷ []) i) [
  | inl j ↦ inl (inr (inl j))
  | inr j ↦ inr (subst (λ (x : Placed). Comes x s (o, Attempts a)) (sym (only j)) (refl, refl))
]
has_next p s (o, Attempts a) (inr (inr i)) = inl (inr (inr i))
has_next p s (o, Commits c) has = inl (commits_from p s s.pending (λ q i. inr (inl i)) has)
has_next p s (o, RollsBack r) (inl i) = inl (inl i)
has_next p s (o, RollsBack r) (inr (inl i)) = elim i [ ]
has_next p s (o, RollsBack r) (inr (inr i)) = elim (in_split s.discarded s.pending i) [
  | inl j ↦ inl (inr (inr j))
  | inr j ↦ inl (inr (inl j))
]
has_next p s (o, Transfers x) (inl i) = inl (inl (subst (In p) (attempts_by_transferring s o x) i))
has_next p s (o, Transfers x) (inr (inl i)) = elim i [ ]
has_next p s (o, Transfers x) (inr (inr i)) = elim (in_split s.discarded s.pending i) [
  | inl j ↦ inl (inr (inr j))
  | inr j ↦ inl (inr (inl j))
]

has_after : (p : Placed) (s : SectionState) (steps : List (ℕ × Step)) → Has p (state_after s steps)
    → Has p s ⊎ SomePlace steps (λ before step. Comes p (state_after s before) step)
has_after p s [] has = inl has
has_after p s (step ∷ steps) has = elim (has_after p (next s step) steps has) [
  | inl own ↦ elim (has_next p s step own) [
    | inl old ↦ inl old
    | inr comes ↦ inr (place_here _ step steps comes)
  ]
  | inr later ↦ inr (place_later _ step steps later)
]

none_at_start : (p : Placed) → Has p start → ⊥
none_at_start p (inl i) = elim i [ ]
none_at_start p (inr (inl i)) = elim i [ ]
none_at_start p (inr (inr i)) = elim i [ ]

pub settled_comes : (t : Trace) (e : ℕ) (p : Placed) → In p (settled (history t e))
    → SomePlace (steps_at t e) (λ before step. Comes p (state_after start before) step)
unfolding history
settled_comes t e p i = elim (has_after p start (steps_at t e) has) [
  | inl none ↦ absurd (none_at_start p none)
  | inr place ↦ place
]
  where
    has : Has p (state_after start (steps_at t e))
    has = elim (in_split (attempts_by (state_after start (steps_at t e)).ways_reached)
        (state_after start (steps_at t e)).discarded i) [
          | inl j ↦ inl j
          | inr j ↦ inr (inr j)
        ]

in_middle : (before : List Placed) (p : Placed) (rest : List Placed) → In p (before ++ p ∷ rest)
in_middle before p rest = in_right before (p ∷ rest) here

-- ---- records and chains

-- a fault at a record of an attempt that was committed or discarded stands at that attempt's step
settled_along : (t : Trace) (e at : ℕ) (c : Code) (P : Placed → Access → Type 0)
    → ((s : SectionState) (p : Placed) (own : List (ℕ × Access)) (x : Access) → P p x
    → p ≡ placed_in s p.offset p.attempt → WrongAccess c t s p.offset p.attempt own x)
    → AtSettledAccess t e at P → StandsAlong c t e at
settled_along t e at c P to stands =
    let p = stands.item in
    let i = subst (λ (ps : List Placed). In p ps) (sym stands.is) (in_middle stands.before p stands.rest) in
    weaker_place _ _ (steps_at t e) (λ before step comes. subst (StandsAtStep c t at (state_after start before))
    (sym comes.0) (inr (weaker_place _ _ (accesses_at p.offset p.attempt)
    (λ own x w. (w.0, to (state_after start before) p own x.1 w.1 comes.1)) stands.holds)))
    (settled_comes t e p i)

pub records_along : (t : Trace) (c : Code) (e at : ℕ) → StandsInRecords c t e at → StandsAlong c t e at
records_along t code.Record e at stands = settled_along t e at code.Record _ (λ s p own x wrong is. wrong) stands
records_along t c e at stands = absurd stands

pub chains_along : (t : Trace) (c : Code) (e at : ℕ) → StandsInChains c t e at → StandsAlong c t e at
chains_along t code.Version e at stands =
    settled_along t e at code.Version _
    (λ s p own x wrong is. subst (λ (q : Placed). SomePlace x.entries
    (λ _ y. y.version ≡ (visible_to t q x.index y.row).version → ⊥)) is wrong) stands
chains_along t code.Value e at stands =
    settled_along t e at code.Value _
    (λ s p own x wrong is. subst (λ (q : Placed). SomePlace x.entries
    (λ _ y. y.seen ≡ (visible_to t q x.index y.row).value → ⊥)) is wrong) stands
chains_along t c e at stands = absurd stands
