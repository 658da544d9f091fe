-- The balances of all replicas, one replica after another.
use Rattle.std.proofs.Common.{◌≡◌, ℕ, zero, suc, ◌+◌, ◌-◌, ◌<◌, ◌≤◌, ℤ, List, [], ◌∷◌, ◌++◌, length, slice_get, get_or}
use Rattle.std.proofs.Common.{set, Some, refl, sym, ap, subst, ◌∙◌, inl, inr, arith, get_or-set_same, get_or-set_other}
use Rattle.std.proofs.lemmas.Bool.{cases_lt, cases_eq}
use Rattle.std.proofs.lemmas.List.{length-set, length-append}
use Rattle.std.proofs.lemmas.Option.{slice_get_within, same_Some}
use Rattle.eve_smallbank.specs.Access.{balance_of_row}
use Rattle.eve_chains.specs.CommittedValues.{Settling, values_in}
use Rattle.eve_agree.specs.inner.NumbersJudged.{IsAfter, AreAfter}

pub push_left : {A : Type 0} (xs : List A) (x d : A) (i : ℕ) → i < length xs → get_or (xs ++ x ∷ []) i d ≡ get_or xs i d
push_left [] x d i lt = absurd (omega arith)
push_left (y ∷ xs) x d zero lt = refl
push_left (y ∷ xs) x d (suc i) lt = push_left xs x d i (omega arith)

pub push_here : {A : Type 0} (xs : List A) (x d : A) → get_or (xs ++ x ∷ []) (length xs) d ≡ x
push_here [] x d = refl
push_here (y ∷ xs) x d = push_here xs x d

-- ---- the opening

-- those of the first replicas are the opening balances
pub record AreOpenings (settled : List Settling) (i : ℕ) (all : List (List ℤ)) : Type 0 where
  pub as_many : length all ≡ i
  pub each : (e : ℕ) (s : Settling) → e < i → slice_get settled e ≡ Some s → IsAfter s 0 (get_or all e [])

pub openings_more : (settled : List Settling) (i : ℕ) (all after : List (List ℤ)) (s : Settling) (b : List ℤ)
    → AreOpenings settled i all → slice_get settled i ≡ Some s → length b ≡ length s.opening
    → balance_of_row b ≡ values_in s 0
    → after ≡ all ++ b ∷ [] → AreOpenings settled (i + 1) after
openings_more settled i all after s b openings got rows values is = record {
  as_many = ap length is ∙ length-append all (b ∷ []) ∙ ap (λ (n : ℕ). n + 1) openings.as_many;
  each = λ e r lt here. subst (λ (xs : List (List ℤ)). IsAfter r 0 (get_or xs e [])) (sym is) (elim (cases_lt e i) [
    | inl early ↦ let count = openings.as_many in subst (IsAfter r 0) (sym (push_left all b [] e (omega arith)))
        (openings.each e r early here)
    | inr late ↦
        let same : e ≡ length all = (let count = openings.as_many in omega arith) in
        let at : e ≡ i = omega arith in
        let its : s ≡ r = same_Some s r (sym got ∙ ap (slice_get settled) (sym at) ∙ here) in
        let last : get_or (all ++ b ∷ []) e [] ≡ b = ap (λ (k : ℕ). get_or (all ++ b ∷ []) k []) same
        ∙ push_here all b [] in
        subst (IsAfter r 0) (sym last)
        (subst (λ (x : Settling). IsAfter x 0 b) its (record { rows = rows; values = values }))
  ]);
}

pub openings_all : (settled : List Settling) (i : ℕ) (all : List (List ℤ)) → i ≡ length settled
    → AreOpenings settled i all
    → AreAfter settled 0 all
openings_all settled i all is openings =
    record {
      as_many = openings.as_many
          ∙ is;
      each = λ e s got. openings.each e s (let lt = slice_get_within settled e s got in omega arith) got;
    }

-- ---- the next batch

-- those of the first replicas are after batch n, the others after the batch before
pub record Reached (settled : List Settling) (n i : ℕ) (all : List (List ℤ)) : Type 0 where
  pub as_many : length all ≡ length settled
  pub done : (e : ℕ) (s : Settling) → e < i → slice_get settled e ≡ Some s → IsAfter s n (get_or all e [])
  pub rest : (e : ℕ) (s : Settling) → i ≤ e → slice_get settled e ≡ Some s → IsAfter s (n - 1) (get_or all e [])

pub reached_start : (settled : List Settling) (n : ℕ) (all : List (List ℤ)) → AreAfter settled (n - 1) all
    → Reached settled n 0 all
reached_start settled n all before =
    record {
      as_many = before.as_many;
      done = λ e s lt got. absurd (omega arith);
      rest = λ e s le got. before.each e s got;
    }

pub reached_here : (settled : List Settling) (n i : ℕ) (all : List (List ℤ)) (s : Settling) (b : List ℤ)
    → Reached settled n i all → slice_get settled i ≡ Some s → b ≡ get_or all i b → i < length all → IsAfter s (n - 1) b
reached_here settled n i all s b reached got is lt = subst (IsAfter s (n - 1)) (same all i lt ∙ sym is)
    (reached.rest i s (omega arith) got)
  where
    same : (xs : List (List ℤ)) (k : ℕ) → k < length xs → get_or xs k [] ≡ get_or xs k b
    same [] k lt = absurd (omega arith)
    same (x ∷ xs) zero lt = refl
    same (x ∷ xs) (suc k) lt = same xs k (omega arith)

pub reached_more : (settled : List Settling) (n i : ℕ) (all after : List (List ℤ)) (s : Settling) (b : List ℤ)
    → Reached settled n i all → i < length settled → slice_get settled i ≡ Some s → IsAfter s n b → after ≡ set all i b
    → Reached settled n (i + 1) after
reached_more settled n i all after s b reached lt got here is =
    let count = reached.as_many in
    record {
      as_many = ap length is ∙ length-set all i b ∙ reached.as_many;
      done = λ e r less its. subst (λ (xs : List (List ℤ)). IsAfter r n (get_or xs e [])) (sym is)
          (elim (cases_eq e i) [
            | inl at ↦
                let same : s ≡ r = same_Some s r (sym got ∙ ap (slice_get settled) (sym at) ∙ its) in
                let it : get_or (set all i b) e [] ≡ b = ap (λ (k : ℕ). get_or (set all i b) k []) at
                ∙ get_or-set_same all i b [] (omega arith) in
                subst (IsAfter r n) (sym it) (subst (λ (x : Settling). IsAfter x n b) same here)
            | inr other ↦ subst (IsAfter r n) (sym (get_or-set_other all i e b [] other))
                (reached.done e r (omega arith) its)
          ]);
      rest = λ e r more its. subst (λ (xs : List (List ℤ)). IsAfter r (n - 1) (get_or xs e [])) (sym is)
          (subst (IsAfter r (n - 1)) (sym (get_or-set_other all i e b [] (λ at. omega arith)))
          (reached.rest e r (omega arith) its));
    }

pub reached_all : (settled : List Settling) (n i : ℕ) (all : List (List ℤ)) → length settled ≤ i
    → Reached settled n i all → AreAfter settled n all
reached_all settled n i all past reached =
    record {
      as_many = reached.as_many;
      each = λ e s got. reached.done e s
          (let lt = slice_get_within settled e s got in omega arith) got;
    }
