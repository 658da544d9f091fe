-- In a right section the numbers of commits, and of states transferred, rise.
use Rattle.std.proofs.Common.{◌≡◌, ℕ, ◌+◌, ◌==◌, true, List, [], ◌∷◌, refl, sym, subst, ◌∙◌, arith}
use Rattle.std.specs.Prelude.{nat_lt}
use Rattle.std.proofs.lemmas.Bool.{and_parts, eqb-true, ltb-true, false≢true}
use Rattle.eve_grammar.specs.Trace.{Commit, Step, Attempts, Commits, RollsBack, Transfers, Trace}
use Rattle.eve_grammar.specs.Spelling.{steps_at}
use Rattle.eve_history.specs.Section.{Placed, SectionState, start, committing, next, commits_first, is_right, are_right}
use Rattle.eve_history.specs.SectionHistory.{IsRightSection}
use Rattle.eve_audit.specs.Audited.{RiseFrom, named_numbers}

-- where a commit is right, one more number is reached
commits_next : (s : SectionState) (ps : List Placed) (c : Commit) → commits_first ps c ≡ true
    → (committing s ps).last ≡ s.last + 1
commits_next s [] c none = absurd (false≢true none)
commits_next s (p ∷ ps) c first = refl

rise_from : (t : Trace) (s : SectionState) (steps : List (ℕ × Step)) → are_right t s steps ≡ true
    → RiseFrom s.last (named_numbers steps)
rise_from t s [] right = tt
rise_from t s ((at, Attempts a) ∷ steps) right =
    let parts = and_parts (is_right t s (Attempts a)) (are_right t (next s (at, Attempts a)) steps) right in
    rise_from t (next s (at, Attempts a)) steps parts.1
rise_from t s ((at, Commits c) ∷ steps) right =
    let parts = and_parts (is_right t s (Commits c)) (are_right t (next s (at, Commits c)) steps) right in
    let own = and_parts (c.seq == s.last + 1) (commits_first s.pending c) parts.0 in
    let due : c.seq ≡ s.last + 1 = eqb-true c.seq (s.last + 1) own.0 in
    let last : (next s (at, Commits c)).last ≡ c.seq = commits_next s s.pending c own.1 ∙ sym due in (
      omega (arith, due),
      subst (λ (n : ℕ). RiseFrom n (named_numbers steps)) last (rise_from t (next s (at, Commits c)) steps parts.1),
    )
rise_from t s ((at, RollsBack r) ∷ steps) right =
    let parts = and_parts (is_right t s (RollsBack r)) (are_right t (next s (at, RollsBack r)) steps) right in
    rise_from t (next s (at, RollsBack r)) steps parts.1
rise_from t s ((at, Transfers x) ∷ steps) right =
    let parts = and_parts (is_right t s (Transfers x)) (are_right t (next s (at, Transfers x)) steps) right in (
      ltb-true s.last x.seq (and_parts (nat_lt s.last x.seq) _ parts.0).0,
      rise_from t (next s (at, Transfers x)) steps
          parts.1,
    )

pub numbers_rise : (t : Trace) (e : ℕ) → IsRightSection t e → RiseFrom 0 (named_numbers (steps_at t e))
numbers_rise t e right = rise_from t start (steps_at t e) right
