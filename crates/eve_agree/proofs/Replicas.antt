-- The histories stand in the order of the replicas.
use Rattle.std.proofs.Common.{◌≡◌, ℕ, zero, suc, ◌+◌, ◌<◌, List, [], ◌∷◌, map, length, get_or, ap, ◌∙◌, refl, zero-add}
use Rattle.std.proofs.Common.{arith}
use Rattle.std.specs.List.{enumerate_from}
use Rattle.eve_grammar.specs.Trace.{Step, Trace}
use Rattle.eve_history.specs.SectionHistory.{SectionHistory, section_history, section_histories}
use Rattle.eve_history.proofs.RightSections.{as_many_told}
use Rattle.eve_agree.proofs.Outcomes.{replica_told}

abbrev told_from : Trace → ℕ → List (List Step) → List SectionHistory
told_from t n sections = map (λ (s : ℕ × List Step). section_history t s.0) (enumerate_from n sections)

replica_from : (t : Trace) (n k : ℕ) (sections : List (List Step)) (d : SectionHistory) → k < length sections
    → (get_or (told_from t n sections) k d).replica ≡ n + k
replica_from t n k [] d lt = absurd (omega arith)
replica_from t n zero (s ∷ sections) d lt = (let own = replica_told t n (section_history t n) refl in omega arith)
replica_from t n (suc k) (s ∷ sections) d lt =
    (let rest = replica_from t (n + 1) k sections d (omega arith) in omega arith)

pub section_history_count : (t : Trace) (xs : List SectionHistory) → xs ≡ section_histories t → length xs
    ≡ length t.sections
section_history_count t xs is = ap length is ∙ as_many_told t

pub replica_at : (t : Trace) (xs : List SectionHistory) (k : ℕ) (x : SectionHistory) → xs ≡ section_histories t
    → k < length t.sections → x ≡ get_or xs k x → x.replica ≡ k
unfolding section_histories
replica_at t xs k x is lt read =
    ap (λ (y : SectionHistory). y.replica) read ∙ ap (λ (ys : List SectionHistory). (get_or ys k x).replica) is
    ∙ replica_from t 0 k t.sections x lt ∙ zero-add k
