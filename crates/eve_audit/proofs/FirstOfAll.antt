-- The first of the faults of a trace, where one stands.
use Rattle.std.proofs.Common.{◌≡◌, ℕ, zero, suc, ◌+◌, ◌<◌, ◌≤◌, ◌⊎◌, inl, inr, length, Some, None, List, refl, sym, ap}
use Rattle.std.proofs.Common.{subst, ◌∙◌, arith, take_all}
use Rattle.std.specs.List.{flat_map}
use Rattle.std.proofs.lemmas.Bool.{cases_lt}
use Rattle.std.proofs.lemmas.List.FromFn.{length-enumerate_from}
use Rattle.eve_smallbank.specs.Access.{Executed, Fits}
use Rattle.eve_grammar.specs.Trace.{Trace}
use Rattle.eve_grammar.specs.Frames.{sections_of}
use Rattle.eve_grammar.specs.Spelling.{section_text, sections_start, section_start, verifiers_start, length_of}
use Rattle.eve_views.specs.Code.{code_number, phase_of}
use Rattle.eve_views.specs.declared.fault.Code.{Code}
use Rattle.eve_views.specs.declared.fault.Code.TheVariants as code
use Rattle.eve_views.specs.declared.fault.Fault.{Fault}
use Rattle.eve_history.specs.Order.{StandsInOrders}
use Rattle.eve_history.specs.Structure.{StandsInStructure}
use Rattle.eve_chains.specs.Faults.{StandsInRecords, StandsInChains}
use Rattle.eve_agree.specs.Restores.{StandsInRestores}
use Rattle.eve_agree.specs.DueTokens.{StandsInTokens}
use Rattle.eve_votes.specs.Faults.{StandsInVotes}
use Rattle.eve_agree.specs.Majority.{StandsInMajorities}
use Rattle.eve_agree.specs.Agreement.{StandsInAgreement}
use Rattle.eve_agree.specs.SentReplies.{StandsInReplies}
use Rattle.eve_audit.specs.Verdict.{IsOwnFault, of_structure, of_records, of_chains, of_restores, of_tokens}
use Rattle.eve_audit.specs.Verdict.{IsTraceFault, of_votes, of_majorities, of_agreement, of_replies, in_orders}
use Rattle.eve_audit.specs.Verdict.{in_section, in_common}
use Rattle.eve_views.specs.Form.{HasNone, Precedes, IsFaultOutside}
use Rattle.eve_views.specs.inner.PartPlaces.{StandInOrder}
use Rattle.eve_audit.specs.Reports.{IsFirstOf}
use Rattle.eve_audit.proofs.Sections.{LiesIn, IsLaidOut}
use Rattle.eve_audit.proofs.OneVerdict.{code_with, with_its_number}
use Rattle.eve_audit.proofs.FaultPlaces.{majority_lies, outcome_lies}
use Rattle.eve_audit.proofs.FaultOffsets.{trace_fault_within}
use Rattle.eve_audit.proofs.Decidability.{Decided, decided_as, decided_both, numbers, below_or_none}
use Rattle.eve_audit.proofs.DecidedVotes.{HaveVotes}
use Rattle.eve_audit.proofs.StandingDecided.{orders_decided, votes_decided, replies_decided, structure_decided}
use Rattle.eve_audit.proofs.StandingDecided.{records_decided, chains_decided, restores_decided, tokens_decided}
use Rattle.eve_audit.proofs.StandingDecided.{majorities_decided, agreement_decided}

decided_either : {P Q : Type 0} → Decided P → Decided Q → Decided (P ⊎ Q)
decided_either (inl p) q = inl (inl p)
decided_either (inr n) (inl q) = inl (inr q)
decided_either (inr n) (inr m) = inr (λ either. elim either [ inl p ↦ n p | inr q ↦ m q ])

-- ---- the first number at which it holds

abbrev FirstBelow : (ℕ → Type 0) → ℕ → Type 0
FirstBelow P n = (i : ℕ) × (i < n) × P i × ((j : ℕ) → j < i → ¬ P j)

first_below : (P : ℕ → Type 0) → ((i : ℕ) → Decided (P i)) → (n : ℕ) → FirstBelow P n ⊎ ((j : ℕ) → j < n → ¬ P j)
first_below P decided zero = inr (λ j lt. absurd (omega (arith, lt)))
first_below P decided (suc n) = elim (first_below P decided n) [
  | inl found ↦ inl (found.0, less n found.0 found.1, found.2, found.3)
  | inr none ↦ elim (decided n) [
    | inl here ↦ inl (n, omega arith, here, none)
    | inr wrong ↦ inr (λ j lt. by j lt none wrong)
  ]
]
  where
    less : (n i : ℕ) → i < n → i < suc n
    less n i lt = omega (arith, lt)

    by : (j : ℕ) → j < suc n → ((i : ℕ) → i < n → ¬ P i) → ¬ P n → ¬ P j
    by j lt none wrong = elim (cases_lt j n) [
      | inl below ↦ none j below
      | inr up
          ↦ (let same : n ≡ j = omega (arith, lt, up) in subst (λ (k : ℕ). ¬ P k) same wrong)
    ]

-- ---- the first by phase, offset and number

number-few : (c : Code) → code_number c < 91
number-few code.Length = omega arith
number-few c = omega arith

phase-few : (c : Code) → phase_of c < 12
phase-few code.Length = omega arith
phase-few c = omega arith

module _ (S : Code → ℕ → Type 0) (decided : (c : Code) (at : ℕ) → Decided (S c at)) (end : ℕ)
    (within : (c : Code) (at : ℕ) → S c at → at ≤ end) where
  -- at this place
  abbrev Here : ℕ → ℕ → ℕ → Type 0
  Here phase at number = (phase_of (code_with number) ≡ phase) × (code_number (code_with number) ≡ number)
      × S (code_with number) at

  here : (phase at number : ℕ) → Decided (Here phase at number)
  here phase at number =
      decided_as (λ all. (all.0.0, all.0.1, all.1)) (λ all. ((all.0, all.1), all.2))
      (decided_both (decided_both (numbers (phase_of (code_with number)) phase)
      (numbers (code_number (code_with number)) number)) (decided (code_with number) at))

  here_from : (c : Code) (at : ℕ) → S c at → Here (phase_of c) at (code_number c)
  here_from c at stands =
      let same = sym (with_its_number c) in
      (ap phase_of (with_its_number c), ap code_number (with_its_number c), subst (λ (d : Code). S d at) same stands)

  abbrev AtOffset : ℕ → ℕ → Type 0
  AtOffset phase at = (number : ℕ) × (number < 91) × Here phase at number

  abbrev InPhase : ℕ → Type 0
  InPhase phase = (at : ℕ) × (at < end + 1) × AtOffset phase at

  at_offset : (phase at : ℕ) → Decided (AtOffset phase at)
  at_offset phase at = below_or_none (Here phase at) (here phase at) 91

  in_phase : (phase : ℕ) → Decided (InPhase phase)
  in_phase phase = below_or_none (AtOffset phase) (at_offset phase) (end + 1)

  offset_from : (c : Code) (at : ℕ) → S c at → AtOffset (phase_of c) at
  offset_from c at stands = (code_number c, number-few c, here_from c at stands)

  phase_from : (c : Code) (at : ℕ) → S c at → InPhase (phase_of c)
  phase_from c at stands = let le = within c at stands in (at, omega (arith, le), offset_from c at stands)

  -- it stands, and precedes all that stand
  pub record IsFirstHere : Type 0 where
    pub kind : Code
    pub offset : ℕ
    pub stands : S kind offset
    pub first : (c : Code) (at : ℕ) → S c at
        → (phase_of kind < phase_of c)
        ⊎ ((phase_of kind ≡ phase_of c) × ((offset < at) ⊎ ((offset ≡ at) × (code_number kind ≤ code_number c))))

  made : (phase at number : ℕ) → ((p : ℕ) → p < phase → ¬ InPhase p) → ((o : ℕ) → o < at → ¬ AtOffset phase o)
      → ((k : ℕ) → k < number → ¬ Here phase at k) → Here phase at number → IsFirstHere
  made phase at number no_phase no_offset no_number is = record {
    kind = code_with number;
    offset = at;
    stands = is.2;
    first = λ c o stands. by c o stands (cases_lt phase (phase_of c)) (cases_lt (phase_of c) phase);
  }
    where
      lowest : (c : Code) → phase ≡ phase_of c → S c at → (code_number c < number) ⊎ (number ≤ code_number c)
          → code_number (code_with number) ≤ code_number c
      lowest c same stands (inr le) = omega (arith, is.1, le)
      lowest c same stands (inl lt) =
          absurd (no_number (code_number c) lt
          (subst (λ (p : ℕ). Here p at (code_number c)) (sym same) (here_from c at stands)))

      up_to : (c : Code) (o : ℕ) → phase ≡ phase_of c → S c o → (at < o) ⊎ (o ≤ at) → (o < at) ⊎ (at ≤ o) → (at < o)
          ⊎ ((at ≡ o) × (code_number (code_with number) ≤ code_number c))
      up_to c o same stands (inl lt) other = inl lt
      up_to c o same stands (inr le) (inl lt) =
          absurd (no_offset o lt (subst (λ (p : ℕ). AtOffset p o) (sym same) (offset_from c o stands)))
      up_to c o same stands (inr le) (inr ge) =
          let equal : at ≡ o = omega (arith, le, ge) in
          inr (equal, lowest c same (subst (S c) (sym equal) stands) (cases_lt (code_number c) number))

      by : (c : Code) (o : ℕ) → S c o → (phase < phase_of c) ⊎ (phase_of c ≤ phase) → (phase_of c < phase)
          ⊎ (phase ≤ phase_of c)
          → (phase_of (code_with number) < phase_of c)
          ⊎ ((phase_of (code_with number) ≡ phase_of c)
          × ((at < o) ⊎ ((at ≡ o) × (code_number (code_with number) ≤ code_number c))))
      by c o stands (inl lt) other = inl (omega (arith, is.0, lt))
      by c o stands (inr le) (inl lt) = absurd (no_phase (phase_of c) lt (phase_from c o stands))
      by c o stands (inr le) (inr ge) =
          let same : phase ≡ phase_of c = omega (arith, le, ge) in
          inr (is.0 ∙ same, up_to c o same stands (cases_lt at o) (cases_lt o at))

  pub first_or_none : IsFirstHere ⊎ ((c : Code) (at : ℕ) → ¬ S c at)
  first_or_none = elim (first_below InPhase in_phase 12) [
    | inr none ↦ inr (λ c at stands. none (phase_of c) (phase-few c) (phase_from c at stands))
    | inl phase ↦ elim (first_below (AtOffset phase.0) (at_offset phase.0) (end + 1)) [
      | inr none ↦ absurd (none phase.2.0 phase.2.1 phase.2.2)
      | inl at ↦ elim (first_below (Here phase.0 at.0) (here phase.0 at.0) 91) [
        | inr none ↦ absurd (none at.2.0 at.2.1 at.2.2)
        | inl number ↦ inl (made phase.0 at.0 number.0 phase.3 at.3 number.3 number.2)
      ]
    ]
  ]

-- ---- what stands in a trace

abbrev Own : Trace → ℕ → Code → ℕ → Type 0
Own t e c at = StandsInStructure c t e at
    ⊎ (StandsInRecords c t e at ⊎ (StandsInChains c t e at ⊎ (StandsInRestores c t e at ⊎ StandsInTokens c t e at)))

abbrev OfSome : Trace → (ℕ → Type 0) → Type 0
OfSome t P = (e : ℕ) × (e < length t.sections) × P e

abbrev StandsAt : Trace → Code → ℕ → Type 0
StandsAt t c at =
    StandsInOrders c t at ⊎ (OfSome t (λ e. Own t e c at)
    ⊎ (StandsInVotes c t at ⊎ (OfSome t (λ e. StandsInMajorities c t e at)
    ⊎ (OfSome t (λ e. StandsInAgreement c t e at) ⊎ StandsInReplies c t at))))

of_some : (t : Trace) (P : ℕ → Type 0) → ((e : ℕ) → Decided (P e)) → Decided (OfSome t P)
of_some t P decided = below_or_none P decided (length t.sections)

all_decided : (t : Trace) → HaveVotes t → ((names : List (List ℕ)) (x : Executed) → Decided (Fits names x))
    → (c : Code) (at : ℕ) → Decided (StandsAt t c at)
all_decided t votes fits c at =
    decided_either (orders_decided t at c)
    (decided_either (of_some t (λ e. Own t e c at) (λ e.
    decided_either (structure_decided t at e c)
    (decided_either (records_decided t at e fits c) (decided_either (chains_decided t at e c)
    (decided_either (restores_decided t at e c) (tokens_decided t at e c))))))
    (decided_either (votes_decided t at votes c)
    (decided_either (of_some t (λ e. StandsInMajorities c t e at) (λ e. majorities_decided t at e votes c))
    (decided_either (of_some t (λ e. StandsInAgreement c t e at) (λ e. agreement_decided t at e c))
    (replies_decided t at c)))))

-- a fault of this code at this offset
record IsAt (t : Trace) (c : Code) (at : ℕ) : Type 0 where
  fault : Fault
  is : IsTraceFault t fault
  kind : fault.code ≡ c
  offset : fault.offset ≡ at

module _ (t : Trace) (c : Code) (at : ℕ) where
  outside : Fault
  outside = record { code = c; offset = at; replica = None }

  inside : ℕ → Fault
  inside e = record { code = c; offset = at; replica = Some e }

  own_at : (e : ℕ) → e < length t.sections → IsOwnFault t e (inside e) → IsAt t c at
  unfolding inside
  own_at e lt is = record { fault = inside e; is = in_section (e, lt, is); kind = refl; offset = refl }

  own_fault : (e : ℕ) → Own t e c at → IsOwnFault t e (inside e)
  unfolding inside
  own_fault e (inl s) = of_structure (record { stands = s; inside = refl })
  own_fault e (inr (inl s)) = of_records (record { stands = s; inside = refl })
  own_fault e (inr (inr (inl s))) = of_chains (record { stands = s; inside = refl })
  own_fault e (inr (inr (inr (inl s)))) = of_restores (record { stands = s; inside = refl })
  own_fault e (inr (inr (inr (inr s)))) = of_tokens (record { stands = s; inside = refl })

  fault_at : StandsAt t c at → IsAt t c at
  unfolding inside outside
  fault_at (inl s) = record {
    fault = outside;
    is = in_orders (record { stands = s; outside = refl });
    kind = refl;
    offset = refl;
  }
  fault_at (inr (inl s)) = own_at s.0 s.1 (own_fault s.0 s.2)
  fault_at (inr (inr (inl s))) =
      record {
        fault = outside;
        is = in_common (of_votes (record { stands = s; outside = refl }));
        kind = refl;
        offset = refl;
      }
  fault_at (inr (inr (inr (inl s)))) =
      record {
        fault = inside s.0;
        is = in_common (of_majorities (s.0, record { stands = s.2; inside = refl }));
        kind = refl;
        offset =
            refl;
      }
  fault_at (inr (inr (inr (inr (inl s))))) =
      record {
        fault = inside s.0;
        is = in_common (of_agreement (s.0, record { stands = s.2; inside = refl }));
        kind = refl;
        offset =
            refl;
      }
  fault_at (inr (inr (inr (inr (inr s))))) =
      record {
        fault = outside;
        is = in_common (of_replies (record { stands = s; outside = refl }));
        kind = refl;
        offset = refl;
      }

-- a section in which an offset lies is there
there : (t : Trace) → StandInOrder t → (e at : ℕ) → LiesIn t e at → e < length t.sections
there t parts e at lies = elim (cases_lt e (length t.sections)) [
  | inl lt ↦ lt
  | inr le ↦
      let count : length (sections_of t) ≡ length t.sections = length-enumerate_from 0 t.sections in
      let behind : section_start t e ≡ verifiers_start t =
      ap (λ xs. sections_start t + length (flat_map section_text xs))
      (take_all e (sections_of t) (omega (arith, count, le))) in
      let all = parts.last_section (e + 1) in
      absurd (omega (arith, lies.0, lies.1, behind, all))
]

module _ (t : Trace) (laid : IsLaidOut t) where
  own_from : (e : ℕ) (f : Fault) → IsOwnFault t e f → Own t e f.code f.offset
  own_from e f (of_structure is) = inl is.stands
  own_from e f (of_records is) = inr (inl is.stands)
  own_from e f (of_chains is) = inr (inr (inl is.stands))
  own_from e f (of_restores is) = inr (inr (inr (inl is.stands)))
  own_from e f (of_tokens is) = inr (inr (inr (inr is.stands)))

  stands_from : (f : Fault) → IsTraceFault t f → StandsAt t f.code f.offset
  stands_from f (in_orders is) = inl is.stands
  stands_from f (in_section below) = inr (inl (below.0, below.1, own_from below.0 f below.2))
  stands_from f (in_common (of_votes is)) = inr (inr (inl is.stands))
  stands_from f (in_common (of_majorities is)) =
      inr (inr (inr (inl (
        is.0,
        there t laid.parts is.0 f.offset
            (majority_lies t laid is.0 f.code f.offset is.1.stands),
        is.1.stands,
      ))))
  stands_from f (in_common (of_agreement is)) =
      inr (inr (inr (inr (inl (
        is.0,
        there t laid.parts is.0 f.offset
            (outcome_lies t laid is.0 f.code f.offset is.1.stands),
        is.1.stands,
      )))))
  stands_from f (in_common (of_replies is)) = inr (inr (inr (inr (inr is.stands))))

  module _ (votes : HaveVotes t) (fits : (names : List (List ℕ)) (x : Executed) → Decided (Fits names x))
      (orders : (f : Fault) → IsFaultOutside StandsInOrders t f → f.offset ≤ length_of t) where
    within : (c : Code) (at : ℕ) → StandsAt t c at → at ≤ length_of t
    within c at stands =
        let found = fault_at t c at stands in
        let low = trace_fault_within t laid orders found.fault found.is in
        omega (arith, low, found.offset)

    pub first_in_trace : ((f : Fault) × IsFirstOf (IsTraceFault t) f) ⊎ HasNone (IsTraceFault t)
    first_in_trace = elim (first_or_none (StandsAt t) (all_decided t votes fits) (length_of t) within) [
      | inr none ↦ inr (λ f is. none f.code f.offset (stands_from f is))
      | inl first ↦ (let found = fault_at t first.kind first.offset first.stands in
          inl (
            found.fault,
            record
                { is = found.is; first = λ g is. by first found g (first.first g.code g.offset (stands_from g is)) },
          ))
    ]
      where
        by : (first : IsFirstHere (StandsAt t) (all_decided t votes fits) (length_of t) within)
            (found : IsAt t first.kind first.offset) (g : Fault)
            → (phase_of first.kind < phase_of g.code)
            ⊎ ((phase_of first.kind ≡ phase_of g.code)
            × ((first.offset < g.offset) ⊎ ((first.offset ≡ g.offset) × (code_number first.kind ≤ code_number g.code))))
            → Precedes found.fault g
        by first found g (inl lt) = inl (omega (arith, ap phase_of found.kind, lt))
        by first found g (inr (same, inl lt)) =
            inr (ap phase_of found.kind ∙ same, inl (omega (arith, found.offset, lt)))
        by first found g (inr (same, inr low)) =
            inr (
              ap phase_of found.kind
                  ∙ same,
              inr (found.offset ∙ low.0, omega (arith, ap code_number found.kind, low.1)),
            )
