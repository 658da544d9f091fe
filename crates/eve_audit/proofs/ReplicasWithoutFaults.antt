-- Where no phase finds a fault, all is as it must be, replica by replica.
use Rattle.std.proofs.Common.{◌≡◌, ℕ, List, [], ◌∷◌, ◌++◌, Some, inl, inr, refl, sym, ap, subst, ◌∙◌}
use Rattle.std.proofs.Common.{append_assoc}
use Rattle.std.specs.List.{AllByRecursion}
use Rattle.std.specs.Prelude.{IsTrue}
use Rattle.std.proofs.lemmas.Bool.{cases_Bool, and_from}
use Rattle.std.proofs.lemmas.List.Sums.{fold-append}
use Rattle.eve_smallbank.specs.Access.{Executed, Fits}
use Rattle.eve_grammar.specs.Trace.{Access, Step, Attempts, Commits, RollsBack, Transfers, Trace}
use Rattle.eve_grammar.specs.Spelling.{steps_at}
use Rattle.eve_views.specs.declared.fault.Code.TheVariants as code
use Rattle.eve_history.specs.Section.{Placed, SectionState, start, next, state_after, settled}
use Rattle.eve_history.specs.SectionHistory.{history, names_of}
use Rattle.eve_chains.specs.Visible.{executed_by}
use Rattle.eve_chains.specs.Sound.{OfSettledAccesses, RecordsFit}
use Rattle.eve_agree.specs.Tables.{are_right_restores, all_restore_rightly, RestoresAreRight}
use Rattle.eve_agree.specs.DueTokens.{due_token, TokensAreDue, StandsInTokens}
use Rattle.eve_agree.specs.Restores.{StandsInRestores}
use Rattle.eve_views.specs.Form.{HasNone, IsFaultIn}
use Rattle.eve_audit.proofs.Decidability.{Decided, stable, numbers, lists}

module _ (t : Trace) (e : ℕ) where
  -- ---- records

  module _ (decided : (names : List (List ℕ)) (x : Executed) → Decided (Fits names x)) where
    all_fit : (p : Placed) (xs : List Access) → AllByRecursion (λ x. ¬ ¬ Fits (names_of t) (executed_by t p.attempt x))
        xs → AllByRecursion (λ x. Fits (names_of t) (executed_by t p.attempt x)) xs
    all_fit p [] none = tt
    all_fit p (x ∷ xs) none = (stable (decided (names_of t) (executed_by t p.attempt x)) none.0, all_fit p xs none.1)

    all_records : (ps : List Placed)
        → AllByRecursion (λ p. AllByRecursion (λ x. ¬ ¬ Fits (names_of t) (executed_by t p.attempt x))
        p.attempt.accesses) ps
        → AllByRecursion (λ p. AllByRecursion (λ x. Fits (names_of t) (executed_by t p.attempt x)) p.attempt.accesses)
        ps
    all_records [] none = tt
    all_records (p ∷ ps) none = (all_fit p p.attempt.accesses none.0, all_records ps none.1)

    pub records_fit : OfSettledAccesses t e (λ p x. ¬ ¬ Fits (names_of t) (executed_by t p.attempt x)) → RecordsFit t e
    records_fit none = all_records (settled (history t e)) none

  -- ---- restores

  state_push : (before : List (ℕ × Step)) (step : ℕ × Step) → state_after start (before ++ step ∷ [])
      ≡ next (state_after start before) step
  state_push before step = fold-append next start before (step ∷ [])

  module _ (none : HasNone (IsFaultIn StandsInRestores t e)) where
    restores_along : (before rest : List (ℕ × Step)) → steps_at t e ≡ before ++ rest
        → IsTrue (all_restore_rightly t (state_after start before) rest)
    restores_along before [] is = refl
    restores_along before (step ∷ rest) is =
        by step refl (subst (λ (s : SectionState). IsTrue (all_restore_rightly t s rest)) (state_push before step)
        (restores_along (before ++ step ∷ []) rest (is ∙ sym (append_assoc before (step ∷ []) rest))))
      where
        by : (x : ℕ × Step) → step ≡ x → IsTrue (all_restore_rightly t (next (state_after start before) step) rest)
            → IsTrue (all_restore_rightly t (state_after start before) (x ∷ rest))
        by (at, Attempts a) same later =
            subst (λ (x : ℕ × Step). IsTrue (all_restore_rightly t (next (state_after start before) x) rest)) same later
        by (at, Commits c) same later =
            subst (λ (x : ℕ × Step). IsTrue (all_restore_rightly t (next (state_after start before) x) rest)) same later
        by (at, Transfers x) same later =
            subst (λ (x : ℕ × Step). IsTrue (all_restore_rightly t (next (state_after start before) x) rest)) same later
        by (at, RollsBack r) same later =
            elim (cases_Bool (are_right_restores t (state_after start before) r.restores)) [
              | inl right ↦
                  and_from (are_right_restores t (state_after start before) r.restores) _ right
                  (subst (λ (x : ℕ × Step). IsTrue (all_restore_rightly t (next (state_after start before) x) rest))
                  same later)
              | inr wrong ↦ absurd (none (record { code = code.Restore; offset = at; replica = Some e })
                  (record {
                    stands = record {
                      before = before;
                      item = (at, RollsBack r);
                      rest = rest;
                      is = is
                          ∙ ap (λ (x : ℕ × Step). before ++ x ∷ rest) same;
                      holds = (refl, wrong);
                    };
                    inside = refl;
                  }))
            ]

    pub right_restores : RestoresAreRight t e
    right_restores = restores_along [] (steps_at t e) refl

  -- ---- tokens

  pub due_tokens : HasNone (IsFaultIn StandsInTokens t e) → TokensAreDue t e
  due_tokens none n p at = stable (lists numbers p.attempt.token (due_token t e p))
      (λ wrong. none (record { code = code.Token; offset = p.offset; replica = Some e })
      (record { stands = record { n = n; item = p; is = at; offset = refl; holds = wrong }; inside = refl }))
