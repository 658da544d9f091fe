-- What replicas roll back wasn't decided.
use Rattle.std.proofs.Common.{◌≡◌, ◌≢◌, ℕ, ◌+◌, ◌*◌, ◌≤◌, Bool, true, false, cond, List, [], ◌∷◌}
use Rattle.std.proofs.Common.{length, get_or, Option, None, All, refl, sym, ap, ◌∙◌, subst}
use Rattle.std.proofs.Common.{inl, inr, arith}
use Rattle.std.proofs.lemmas.Bool.Decides.{eqb_tells}
use Rattle.std.proofs.lemmas.List.{length-map}
use Rattle.std.proofs.lemmas.List.Sums.{sum_by-cons}
use Rattle.std.specs.List.{count_by}
use Rattle.eve_grammar.specs.Trace.{Step, Vote}
use Rattle.eve_write.specs.Data.{section}
use Rattle.eve_replica.specs.declared.server.Server.{Server}
use Rattle.eve_replica.specs.declared.standing.Standing.{Standing}
use Rattle.eve_replica.specs.Decisions.{is_some_of, token_given_up, count_given_up, AreUndecided}
use Rattle.eve_replica.specs.Sections.{RunPlan}
use Rattle.eve_replica.specs.inner.RunInvariant.{Serves, GoesOn, GivesUpNext, rollback_move, next_token}
use Rattle.eve_replica.specs.inner.RunInvariant.{IsDecision, sections_in, first_standing}
use Rattle.eve_replica.proofs.TokenCounts.{counted_alike, next_by}
use Rattle.eve_replica.proofs.ReplicaLists.{AreAllOn}
use Rattle.eve_replica.proofs.GivenUpTokens.{none_given_up}

-- the token that a replica gave up by its rollback to this view
abbrev pub gave_up : ℕ → Server → Option (List ℕ)
gave_up view s = token_given_up view [] (section s.steps)

-- ---- one replica

-- by the rollback of a run it gave up the token that it had for the next batch
given_up_now : (p : RunPlan) (at : Standing) (votes : List Vote) (view : ℕ) (old new : Server) → p.first.opened ≡ []
    → Serves p at votes old → GoesOn rollback_move old new → GivesUpNext p old new → view ≡ at.view + 1
    → gave_up view new ≡ next_token old
given_up_now p at votes view old new begun serves goes next now = elim (eqb_tells view (old.replica.ledger.view + 1)) [
  | inl same ↦ subst (λ (v : ℕ). gave_up v new ≡ next_token old) (sym same.1) (next begun serves.through)
  | inr other ↦ stopped old.is_live refl other.1
]
  where
    stopped : (b : Bool) → old.is_live ≡ b → view ≢ old.replica.ledger.view + 1 → gave_up view new ≡ next_token old
    stopped true is other =
        let stands = ap (λ (x : Standing). x.view) (serves.live is) in absurd (other (omega arith))
    stopped false is other =
        let behind = serves.view in
        goes.given_up view (λ enters. other (omega arith))
        ∙ none_given_up p view (section old.steps) old.replica.ledger begun serves.through
        (λ up. omega arith)
        ∙ sym (next_by old false is)

-- and else what it had given up before
given_up_before : (p : RunPlan) (at : Standing) (votes : List Vote) (view : ℕ) (old new : Server)
    → p.first.opened ≡ [] → Serves p at votes old → GoesOn rollback_move old new → GivesUpNext p old new
    → view ≢ at.view + 1 → gave_up view new ≡ gave_up view old
given_up_before p at votes view old new begun serves goes next other =
    elim (eqb_tells view (old.replica.ledger.view + 1)) [
      | inl same ↦ stopped old.is_live refl same.1
      | inr apart ↦ goes.given_up view (λ enters. apart.1 (omega arith))
    ]
  where
    stopped : (b : Bool) → old.is_live ≡ b → view ≡ old.replica.ledger.view + 1 → gave_up view new ≡ gave_up view old
    stopped true is same =
        let stands = ap (λ (x : Standing). x.view) (serves.live is) in absurd (other (omega arith))
    stopped false is same =
        subst (λ (v : ℕ). gave_up v new ≡ next_token old) (sym same) (next begun serves.through)
        ∙ next_by old false is
        ∙ sym (none_given_up p view (section old.steps) old.replica.ledger begun serves.through
        (λ up. omega arith))

-- ---- all replicas

-- as many sections as replicas gave it up
counted_in : (view : ℕ) (token : List ℕ) (servers : List Server)
    → count_given_up view token (sections_in servers) ≡ count_by (λ s. is_some_of token (gave_up view s)) servers
counted_in view token [] = refl
counted_in view token (s ∷ servers) =
    sum_by-cons (λ (steps : List Step). cond (is_some_of token (token_given_up view [] steps)) 1 0) (section s.steps)
    (sections_in servers)
    ∙ ap (λ (n : ℕ). cond (is_some_of token (gave_up view s)) 1 0 + n) (counted_in view token servers)
    ∙ sym (sum_by-cons (λ (x : Server). cond (is_some_of token (gave_up view x)) 1 0) s servers)

-- Where each gave up what it had for the one before, no more than half gave it up if no more than half had it.
few_gave_up : (had : Server → Option (List ℕ)) (view : ℕ) (token : List ℕ) (was servers : List Server)
    → AreAllOn (λ old new. gave_up view new ≡ had old) was servers
    → 2 * count_by (λ s. is_some_of token (had s)) was ≤ length was
    → 2 * count_given_up view token (sections_in servers) ≤ length (sections_in servers)
few_gave_up had view token was servers on few =
    let counted = counted_in view token servers
    ∙ counted_alike (λ s. is_some_of token (gave_up view s)) (λ s. is_some_of token (had s)) servers was on.many
    (λ k d there. ap (is_some_of token) (on.each k d there)) in
    let many = length-map servers (λ s. section s.steps) in
    omega (arith, on.many)

-- what was undecided, counted over replicas
few_before : (view : ℕ) (token : List ℕ) (servers : List Server) → AreUndecided (sections_in servers)
    → 2 * count_by (λ s. is_some_of token (gave_up view s)) servers ≤ length servers
few_before view token servers was =
    let here = was view token in
    let counted = counted_in view token servers in
    let many = length-map servers (λ s. section s.steps) in
    omega arith

-- replicas that stayed in their views gave up nothing more
pub still_undecided : (Becomes : Server → Server → Type 0) (was servers : List Server) → AreAllOn Becomes was servers
    → ((view : ℕ) (old new : Server) → Becomes old new → gave_up view new ≡ gave_up view old)
    → AreUndecided (sections_in was) → AreUndecided (sections_in servers)
still_undecided Becomes was servers on stays before = λ view token.
    few_gave_up (gave_up view) view token was servers
    (record {
      many = on.many;
      each = λ k d there. stays view (get_or was k d) (get_or servers k d) (on.each k d there);
    }) (few_before view token was before)

-- and where nothing was decided a rollback gives up nothing that was
pub rolled_back_undecided : (p : RunPlan) (at : Standing) (votes : List Vote) (was servers : List Server)
    → p.first.opened ≡ [] → AreAllOn (λ old new. GoesOn rollback_move old new × GivesUpNext p old new) was servers
    → All (Serves p at votes) was → IsDecision None was → AreUndecided (sections_in was)
    → AreUndecided (sections_in servers)
rolled_back_undecided p at votes was servers begun on serve none before = λ view token.
    elim (eqb_tells view (at.view + 1)) [
      | inl now ↦ few_gave_up next_token view token was servers
          (record {
            many = on.many;
            each = λ k d there.
                let made = on.each k d there in
                given_up_now p at votes view (get_or was k d) (get_or servers k d) begun
                (serve k d (omega (arith, on.many))) made.0 made.1 now.1;
          }) (none token)
      | inr other ↦ few_gave_up (gave_up view) view token was servers
          (record {
            many = on.many;
            each = λ k d there.
                let made = on.each k d there in
                given_up_before p at votes view (get_or was k d) (get_or servers k d) begun
                (serve k d (omega (arith, on.many))) made.0 made.1 other.1;
          }) (few_before view token was before)
    ]

-- at first nobody has given up anything
count_none : (servers : List Server) → count_by (λ s. false) servers ≡ 0
count_none [] = refl
count_none (s ∷ servers) =
    let one = sum_by-cons (λ (x : Server). cond false 1 0) s servers in
    let rest = count_none servers in omega arith

pub begun_undecided : (p : RunPlan) (servers : List Server) → p.first.opened ≡ []
    → All (Serves p first_standing []) servers → AreUndecided (sections_in servers)
begun_undecided p servers begun serve = λ view token.
    few_gave_up (λ s. None) view token servers servers
    (record {
      many = refl;
      each = λ k d there.
          let s = get_or servers k d in
          let first = (serve k d there).view in
          none_given_up p view (section s.steps) s.replica.ledger begun (serve k d there).through (λ up. omega arith);
    })
    (let none = count_none servers in omega arith)
