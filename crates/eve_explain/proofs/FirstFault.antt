-- The first fault of a trace: where it stands, and what doesn't stand before it.
use Rattle.std.proofs.Common.{◌≡◌, ℕ, ◌+◌, ◌<◌, ◌≤◌, true, [], List, length, Some, refl, sym, ap, subst, ◌∙◌}
use Rattle.std.proofs.Common.{inl, inr, arith}
use Rattle.std.proofs.lemmas.Bool.{cases_lt}
use Rattle.std.proofs.lemmas.List.{get_or_past}
use Rattle.std.proofs.lemmas.Option.{same_Some}
use Rattle.eve_grammar.specs.Frames.{OfReplica}
use Rattle.eve_grammar.specs.Trace.{Step, Trace}
use Rattle.eve_grammar.specs.Spelling.{frame_text, located, section_start, step_text, steps_at, steps_of}
use Rattle.eve_grammar.specs.FrameOrder.{Spells}
use Rattle.eve_views.specs.Code.{code_number, phase_of}
use Rattle.eve_views.specs.declared.fault.Code.{Code}
use Rattle.eve_views.specs.declared.fault.Code.TheVariants as code
use Rattle.eve_views.specs.declared.fault.Fault.{Fault}
use Rattle.eve_views.specs.Form.{SomePlace, HasNone, IsFaultIn, IsFaultOutside, IsLeast, Precedes, StandsInForm}
use Rattle.eve_views.proofs.Firsts.{up_to_from}
use Rattle.eve_history.specs.Section.{ByTransfer}
use Rattle.eve_history.specs.Order.{StandsInOrders}
use Rattle.eve_history.specs.Structure.{StandsInStructure}
use Rattle.eve_history.proofs.Places.{no_place}
use Rattle.eve_chains.specs.Faults.{StandsInRecords, StandsInChains, HasNoFault}
use Rattle.eve_agree.proofs.ByNumber.{how_reached_there, replica_there}
use Rattle.eve_agree.specs.Restores.{StandsInRestores}
use Rattle.eve_agree.specs.DueTokens.{StandsInTokens}
use Rattle.eve_agree.specs.Majority.{StandsInMajorities}
use Rattle.eve_agree.specs.Agreement.{StandsInAgreement}
use Rattle.eve_agree.specs.SentReplies.{StandsInReplies}
use Rattle.eve_votes.specs.Faults.{StandsInVotes}
use Rattle.eve_audit.specs.Verdict.{IsOwnFault, of_structure, of_records, of_chains, of_restores, of_tokens}
use Rattle.eve_audit.specs.Verdict.{IsFirst, IsTraceFault, in_section, Stands, in_form, in_trace}
use Rattle.eve_audit.proofs.Phases.{form_phase, structure_phase, record_phase, chain_phase, restore_phase, token_phase}
use Rattle.eve_evidence.specs.Section.{StandsAlong}
use Rattle.eve_explain.specs.inner.Behind.{IsFirstInTrace, IsBehind}
use Rattle.eve_explain.specs.Explained.{is_of_majority, is_of_orders, is_told_along}
use Rattle.eve_explain.proofs.Phases.{orders_phase, along_phase, majority_code_phase, orders_in, own_in}
use Rattle.eve_explain.proofs.Phases.{restores_in, tokens_in, votes_in, majorities_in, agreement_in, replies_in}

-- bytes spell one trace
abbrev pub OneTrace : Type 0
OneTrace = (bytes : List ℕ) (t u : Trace) → Spells bytes t → Spells bytes u → t ≡ u

-- faults of sections stand along them
pub record AlongLaws : Type 0 where
  pub structure : (t : Trace) (c : Code) (e at : ℕ) → StandsInStructure c t e at
      → (c ≡ code.Certificate → StandsInStructure code.Attempt t e at → ⊥) → StandsAlong c t e at
  pub records : (t : Trace) (c : Code) (e at : ℕ) → StandsInRecords c t e at → StandsAlong c t e at
  pub chains : (t : Trace) (c : Code) (e at : ℕ) → StandsInChains c t e at → StandsAlong c t e at

-- ---- a replica that is there

no_steps_there : (t : Trace) (e : ℕ) → length t.sections ≤ e → (P : List (ℕ × Step) → ℕ × Step → Type 0)
    → SomePlace (steps_at t e) P → ⊥
unfolding steps_at
no_steps_there t e past P place =
    let none : steps_of t e ≡ [] = get_or_past t.sections e [] past in
    no_place P (subst (λ (ss : List Step). SomePlace (located step_text
    (section_start t e + length (frame_text (OfReplica e))) ss) P) none place)

steps_there : (t : Trace) (e : ℕ) (P : List (ℕ × Step) → ℕ × Step → Type 0) → SomePlace (steps_at t e) P
    → e < length t.sections
steps_there t e P place = elim (cases_lt e (length t.sections)) [
  | inl lt ↦ lt
  | inr past ↦ absurd (no_steps_there t e past P place)
]

majority_section : (t : Trace) (e at : ℕ) (c : Code) → StandsInMajorities c t e at → e < length t.sections
majority_section t e at code.NoMajority stands = steps_there t e _ stands
majority_section t e at code.RollbackNoMajority stands = steps_there t e _ stands
majority_section t e at code.TransferNoMajority stands = steps_there t e _ stands
majority_section t e at c stands = absurd stands

agreement_section : (t : Trace) (e at : ℕ) (c : Code) → StandsInAgreement c t e at → e < length t.sections
agreement_section t e at code.Outcome stands = replica_there t e stands.n stands.item stands.is
agreement_section t e at code.TransferBalances stands =
    how_reached_there t e stands.n (ByTransfer at stands.state) stands.is
agreement_section t e at c stands = absurd stands

-- ---- where it stands

-- The replica that is named is there, and a fault of this code stands so in its section.
pub record IsThere (S : Code → Trace → ℕ → ℕ → Type 0) (t : Trace) (c : Code) (at e : ℕ) : Type 0 where
  pub there : e < length t.sections
  pub stands : S c t e at

module _ (one : OneTrace) (t : Trace) (f : Fault) (first : IsFirstInTrace t f) where
  -- it is one of the trace, if it is of a later phase than form
  in_this : 1 < phase_of f.code → IsTraceFault t f
  in_this later = by first.2.stands
    where
      by : Stands first.0 f → IsTraceFault t f
      by (in_form is) = absurd (omega (arith, later, form_phase first.0 f is))
      by (in_trace u spelled is) = subst (λ (v : Trace). IsTraceFault v f) (one first.0 u t spelled first.1) is

  -- of a replica that it names
  named_there : (S : Code → Trace → ℕ → ℕ → Type 0) (own e : ℕ) → own < length t.sections → f.replica ≡ Some own
      → S f.code t own f.offset → f.replica ≡ Some e → IsThere S t f.code f.offset e
  named_there S own e lt inside stands named =
      let same = same_Some own e (sym inside ∙ named) in
      record {
        there = subst (λ (n : ℕ). n < length t.sections) same lt;
        stands = subst (λ (n : ℕ). S f.code t n f.offset) same stands;
      }

  pub orders_first : is_of_orders f.code ≡ true → StandsInOrders f.code t f.offset
  orders_first told =
      let two = orders_phase f.code told in
      orders_in t f (in_this (omega (arith, two))) two

  pub votes_first : phase_of f.code ≡ 8 → StandsInVotes f.code t f.offset
  votes_first eight = votes_in t f (in_this (omega (arith, eight))) eight

  pub reply_first : phase_of f.code ≡ 11 → StandsInReplies f.code t f.offset
  reply_first eleven = replies_in t f (in_this (omega (arith, eleven))) eleven

  pub restore_first : phase_of f.code ≡ 6 → (e : ℕ) → f.replica ≡ Some e
      → IsThere StandsInRestores t f.code f.offset e
  restore_first six e named =
      let own = own_in t f (in_this (omega (arith, six))) (omega (arith, six)) (omega (arith, six)) in
      let is = restores_in t f own.0 own.2 six in
      named_there StandsInRestores own.0 e own.1 is.inside is.stands named

  pub token_first : phase_of f.code ≡ 7 → (e : ℕ) → f.replica ≡ Some e
      → IsThere StandsInTokens t f.code f.offset e
  token_first seven e named =
      let own = own_in t f (in_this (omega (arith, seven))) (omega (arith, seven)) (omega (arith, seven)) in
      let is = tokens_in t f own.0 own.2 seven in
      named_there StandsInTokens own.0 e own.1 is.inside is.stands named

  pub majority_first : is_of_majority f.code ≡ true → (e : ℕ) → f.replica ≡ Some e
      → IsThere StandsInMajorities t f.code f.offset e
  majority_first told e named =
      let nine = majority_code_phase f.code told in
      let is = majorities_in t f (in_this (omega (arith, nine))) nine in
      named_there StandsInMajorities is.0 e (majority_section t is.0 f.offset f.code is.1.stands) is.1.inside
      is.1.stands named

  pub agreement_first : phase_of f.code ≡ 10 → (e : ℕ) → f.replica ≡ Some e
      → IsThere StandsInAgreement t f.code f.offset e
  agreement_first ten e named =
      let is = agreement_in t f (in_this (omega (arith, ten))) ten in
      named_there StandsInAgreement is.0 e (agreement_section t is.0 f.offset f.code is.1.stands) is.1.inside
      is.1.stands named

  -- ---- what doesn't stand before it

  -- a fault that stands behind a phase of a replica's has none of that phase, nor of one before it, in its section
  none_behind : (phase e : ℕ) → phase ≤ 7 → IsBehind phase f e → (g : Fault) → (e < length t.sections)
      → IsOwnFault t e g → phase_of g.code ≤ phase → ⊥
  none_behind phase e own behind g there is early = after behind (first.2.first g (in_trace t first.1
      (in_section (e, there, is))))
    where
      after : IsBehind phase f e → Precedes f g → ⊥
      after (inl far) (inl later) = omega (arith, own, early, far, later)
      after (inl far) (inr same) = let alike = same.0 in omega (arith, own, early, far, alike)
      after (inr behind) (inl later) = let far = behind.0 in omega (arith, early, far, later)
      after (inr behind) (inr same) = let far = behind.0 in let alike = same.0 in omega (arith, early, far, alike)

  -- none of structure
  pub no_structure : (e : ℕ) → IsBehind 3 f e → e < length t.sections → HasNone (IsFaultIn StandsInStructure t e)
  no_structure e behind there g is =
      none_behind 3 e (omega arith) behind g there (of_structure is) (omega (arith, structure_phase t e g is))

  -- none of records or chains
  pub no_records_or_chains : (e : ℕ) → IsBehind 5 f e → e < length t.sections → HasNoFault t e
  no_records_or_chains e behind there = record {
    records = λ g is. none_behind 5 e (omega arith) behind g there (of_records is)
        (omega (arith, record_phase t e g is));
    chains = λ g is. none_behind 5 e (omega arith) behind g there (of_chains is)
        (omega (arith, chain_phase t e g is));
  }

  -- of a replica's certificate it has none of the same attempt beside it
  certificate_apart : (e : ℕ) → e < length t.sections → f.code ≡ code.Certificate
      → StandsInStructure code.Attempt t e f.offset → ⊥
  certificate_apart e there is attempt = after (first.2.first g stands)
    where
      g : Fault
      g = record { code = code.Attempt; offset = f.offset; replica = Some e }

      three : phase_of f.code ≡ 3
      three = ap phase_of is

      stands : Stands first.0 g
      stands = in_trace t first.1 (in_section (e, there, of_structure (record { stands = attempt; inside = refl })))

      number : code_number f.code ≡ 21
      number = ap code_number is

      after : Precedes f g → ⊥
      after (inl lt) = omega (arith, lt, three)
      after (inr (same, inl lt)) = omega (arith, lt)
      after (inr (same, inr (at, le))) = omega (arith, le, number)

  -- ---- along a section

  along_of : AlongLaws → (e : ℕ) → e < length t.sections → IsOwnFault t e f → phase_of f.code ≤ 5
      → (f.replica ≡ Some e) × StandsAlong f.code t e f.offset
  along_of laws e there (of_structure is) early =
      (is.inside, laws.structure t f.code e f.offset is.stands (certificate_apart e there))
  along_of laws e there (of_records is) early = (is.inside, laws.records t f.code e f.offset is.stands)
  along_of laws e there (of_chains is) early = (is.inside, laws.chains t f.code e f.offset is.stands)
  along_of laws e there (of_restores is) early = absurd (omega (arith, early, restore_phase t e f is))
  along_of laws e there (of_tokens is) early = absurd (omega (arith, early, token_phase t e f is))

  pub along_first : AlongLaws → is_told_along f.code ≡ true → (e : ℕ) → f.replica ≡ Some e
      → IsThere StandsAlong t f.code f.offset e
  along_first laws told e named =
      let phase = along_phase f.code told in
      let own = own_in t f (in_this (omega (arith, phase.0))) phase.0 (omega (arith, phase.1)) in
      let is = along_of laws own.0 own.1 own.2 phase.1 in
      named_there StandsAlong own.0 e own.1 is.0 is.1 named

-- ---- form

-- of bytes that are no trace it is the least fault of form
pub least_in_form : (bytes : List ℕ) (f : Fault) → IsFirst bytes f → ((t : Trace) → ¬ Spells bytes t)
    → IsLeast (IsFaultOutside StandsInForm bytes) f
least_in_form bytes f first none = by first.stands
  where
    by : Stands bytes f → IsLeast (IsFaultOutside StandsInForm bytes) f
    by (in_trace t spells is) = absurd (none t spells)
    by (in_form is) = record {
      is = is;
      least = λ g other. up_to_from f g (form_phase bytes f is ∙ sym (form_phase bytes g other))
          (first.first g (in_form other));
    }
