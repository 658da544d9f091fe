-- A replica's own faults are judged by the header, the customers, the batches and its section alone.
use Rattle.std.proofs.Common.{◌≡◌, ◌≢◌, ℕ, zero, suc, ◌*◌, ◌+◌, ℤ, List, [], length, take, slice_get, refl, sym, ap}
use Rattle.std.proofs.Common.{subst, ◌∙◌, IsTrue}
use Rattle.std.specs.Prelude.{IsFalse}
use Rattle.std.specs.List.{flat_map}
use Rattle.eve_smallbank.specs.Access.{Fits}
use Rattle.eve_grammar.specs.Trace.{Access, Attempt, Sent, Step, Trace, Vote}
use Rattle.eve_grammar.specs.Frames.{OfReplica}
use Rattle.eve_grammar.specs.Spelling.{frame_text, step_text, located, steps_at, accesses_at}
use Rattle.eve_grammar.specs.Accesses.{is_right_place}
use Rattle.eve_views.specs.declared.fault.Code.{Code}
use Rattle.eve_views.specs.declared.fault.Code.TheVariants as code
use Rattle.eve_views.specs.declared.fault.Fault.{Fault}
use Rattle.eve_views.specs.Form.{SomePlace}
use Rattle.eve_history.specs.Section.{Placed, came_by, SectionState, start, state_after, settled, are_right}
use Rattle.eve_history.specs.Section.{is_right_attempt}
use Rattle.eve_history.specs.Section.{is_right_certificate, is_right_access, is_right_commit, is_right_rollback}
use Rattle.eve_history.specs.Section.{is_right_transfer, are_right_accesses}
use Rattle.eve_history.specs.SectionHistory.{history, attempt_by, committed_at, names_of}
use Rattle.eve_history.specs.Structure.{StandsInStructure, OfAttempt, OfCommit, OfRollback, OfTransfer, accesses_of}
use Rattle.eve_chains.specs.Visible.{executed_by, visible_to, rows_after}
use Rattle.eve_chains.specs.Committed.{first_rows, balances_to}
use Rattle.eve_chains.specs.Faults.{StandsInRecords, StandsInChains}
use Rattle.eve_agree.specs.Tables.{are_right_restores}
use Rattle.eve_agree.specs.Restores.{StandsInRestores}
use Rattle.eve_agree.specs.DueTokens.{StandsInTokens}
use Rattle.eve_audit.specs.Verdict.{IsOwnFault, of_structure, of_records, of_chains, of_restores, of_tokens}
use Rattle.eve_audit.specs.Alone.{AgreeFor}
use Rattle.eve_token.specs.Token.{token_of}

-- the trace, had the others done, voted and sent something else
abbrev besides : Trace → List (List Step) → List (List Vote) → List Sent → Trace
besides t sections verifiers sent = record {
  head = t.head;
  customers = t.customers;
  batches = t.batches;
  sections = sections;
  verifiers = verifiers;
  sent = sent;
}

-- ---- the phases, by the steps of a section

abbrev AtStepOf : Trace → ℕ → (SectionState → Step → Type 0) → List (ℕ × Step) → Type 0
AtStepOf t at P steps = SomePlace steps (λ before step. IsTrue (are_right t start before)
    × ((step.0 ≡ at) × P (state_after start before) step.1))

abbrev AtAccessOf : Trace → ℕ → (Attempt → List Access → Access → Type 0) → List (ℕ × Step) → Type 0
AtAccessOf t at P steps = SomePlace steps (λ before step. IsTrue (are_right t start before) × OfAttempt step.1 (λ a.
    IsTrue (is_right_attempt t (state_after start before) a) × IsTrue (is_right_certificate t a)
    × SomePlace (accesses_at step.0 a) (λ own x. IsTrue (are_right_accesses t a [] (accesses_of own))
    × ((x.0 ≡ at) × P a (accesses_of own) x.1))))

abbrev AtSettledOf : (Placed → Access → Type 0) → ℕ → List (ℕ × Step) → Type 0
AtSettledOf P at steps = SomePlace (settled (state_after start steps))
    (λ _ p. SomePlace (accesses_at p.offset p.attempt) (λ _ x. (x.0 ≡ at) × P p x.1))

module _ (t : Trace) (sections : List (List Step)) (verifiers : List (List Vote)) (sent : List Sent) (e : ℕ)
    (same : steps_at t e ≡ steps_at (besides t sections verifiers sent) e) where
  structure_alone : (c : Code) (at : ℕ) → StandsInStructure c t e at
      → StandsInStructure c (besides t sections verifiers sent) e at
  structure_alone code.Attempt at =
      subst (AtStepOf t at (λ s step. OfAttempt step (λ a. IsFalse (is_right_attempt t s a)))) same
  structure_alone code.Certificate at =
      subst (AtStepOf t at (λ s step. OfAttempt step (λ a. IsFalse (is_right_certificate t a)))) same
  structure_alone code.Access at =
      subst (AtAccessOf t at (λ a before x. IsFalse (is_right_access t a before x))) same
  structure_alone code.WorkerOrder at =
      subst (AtAccessOf t at (λ a before x. IsFalse (is_right_place before x))) same
  structure_alone code.Commit at =
      subst (AtStepOf t at (λ s step. OfCommit step (λ c. IsFalse (is_right_commit s c)))) same
  structure_alone code.Rollback at =
      subst (AtStepOf t at (λ s step. OfRollback step (λ r. IsFalse (is_right_rollback t s r)))) same
  structure_alone code.Transfer at =
      subst (AtStepOf t at (λ s step. OfTransfer step (λ x. IsFalse (is_right_transfer t s x)))) same
  structure_alone c at = λ stands. absurd stands

  records_alone : (c : Code) (at : ℕ) → StandsInRecords c t e at
      → StandsInRecords c (besides t sections verifiers sent) e at
  unfolding history
  records_alone code.Record at = subst (AtSettledOf (λ p x. ¬ Fits (names_of t) (executed_by t p.attempt x)) at) same
  records_alone c at = λ stands. absurd stands

  chains_alone : (c : Code) (at : ℕ) → StandsInChains c t e at
      → StandsInChains c (besides t sections verifiers sent) e at
  unfolding history
  chains_alone code.Version at =
      subst (AtSettledOf (λ p x. SomePlace x.entries (λ _ y. y.version ≢ (visible_to t p x.index y.row).version)) at)
      same
  chains_alone code.Value at =
      subst (AtSettledOf (λ p x. SomePlace x.entries (λ _ y. y.seen ≢ (visible_to t p x.index y.row).value)) at) same
  chains_alone c at = λ stands. absurd stands

  restores_alone : (c : Code) (at : ℕ) → StandsInRestores c t e at
      → StandsInRestores c (besides t sections verifiers sent) e at
  restores_alone code.Restore at =
      let P : List (ℕ × Step) → Type 0 =
      λ steps. SomePlace steps
      (λ before step. (step.0 ≡ at)
      × OfRollback step.1 (λ r. IsFalse (are_right_restores t (state_after start before) r.restores))) in
      subst P same
  restores_alone c at = λ stands. absurd stands

  same_history : history t e ≡ history (besides t sections verifiers sent) e
  unfolding history
  same_history = ap (state_after start) same

  committed_alone : (n : ℕ) → committed_at t e n ≡ committed_at (besides t sections verifiers sent) e n
  committed_alone zero = refl
  committed_alone (suc n) = ap (λ (s : SectionState). attempt_by (slice_get s.ways_reached n)) same_history

  balances_alone : (n : ℕ) → balances_to t e n ≡ balances_to (besides t sections verifiers sent) e n
  balances_alone n = ap (λ (s : SectionState). first_rows (2 * length t.customers)
      (λ row. (rows_after t (flat_map came_by (take n s.ways_reached)) row).value)) same_history

  tokens_alone : (c : Code) (at : ℕ) → StandsInTokens c t e at
      → StandsInTokens c (besides t sections verifiers sent) e at
  tokens_alone code.Token at stands = record {
    n = stands.n;
    item = stands.item;
    is = sym (committed_alone stands.n) ∙ stands.is;
    offset = stands.offset;
    holds = subst (λ (balances : List ℤ). stands.item.attempt.token
        ≢ token_of t.head.version stands.item.attempt.seq balances stands.item.attempt.replies)
        (balances_alone stands.item.attempt.seq) stands.holds;
  }
  tokens_alone c at stands = absurd stands

  own_alone : (f : Fault) → IsOwnFault t e f → IsOwnFault (besides t sections verifiers sent) e f
  own_alone f (of_structure is) =
      of_structure (record { stands = structure_alone f.code f.offset is.stands; inside = is.inside })
  own_alone f (of_records is) =
      of_records (record { stands = records_alone f.code f.offset is.stands; inside = is.inside })
  own_alone f (of_chains is) =
      of_chains (record { stands = chains_alone f.code f.offset is.stands; inside = is.inside })
  own_alone f (of_restores is) =
      of_restores (record { stands = restores_alone f.code f.offset is.stands; inside = is.inside })
  own_alone f (of_tokens is) =
      of_tokens (record { stands = tokens_alone f.code f.offset is.stands; inside = is.inside })

-- ---- two traces

-- the second is the first but for what the others did, voted and sent
as_besides : (t u : Trace) (e : ℕ) → AgreeFor t u e → besides t u.sections u.verifiers u.sent ≡ u
as_besides t u e agree i = record {
  head = agree.head i;
  customers = agree.customers i;
  batches = agree.batches i;
  sections = u.sections;
  verifiers = u.verifiers;
  sent = u.sent;
}

same_steps : (t u : Trace) (e : ℕ) → AgreeFor t u e → steps_at t e ≡ steps_at u e
unfolding steps_at
same_steps t u e agree i = located step_text (agree.begins i + length (frame_text (OfReplica e))) (agree.steps i)

pub own_faults_alone : (t u : Trace) (e : ℕ) (f : Fault) → AgreeFor t u e → IsOwnFault t e f → IsOwnFault u e f
own_faults_alone t u e f agree is =
    let all = as_besides t u e agree in
    let same : steps_at t e ≡ steps_at (besides t u.sections u.verifiers u.sent) e = same_steps t u e agree
    ∙ ap (λ (v : Trace). steps_at v e) (sym all) in
    subst (λ (v : Trace). IsOwnFault v e f) all (own_alone t u.sections u.verifiers u.sent e same f is)
