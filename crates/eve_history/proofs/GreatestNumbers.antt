-- Clients' greatest numbers: a number above its client's greatest was not noted before.
use Rattle.std.proofs.Common.{◌≡◌, ℕ, ◌+◌, ◌≤◌, List, [], ◌∷◌, ◌++◌, length}
use Rattle.std.proofs.Common.{slice_get, Contains, Option, Some, refl, sym, ap, subst, ◌∙◌, rules, inl, inr, ◌<◌, ◌==◌}
use Rattle.std.proofs.Common.{if◌then◌else◌, arith}
use Rattle.std.proofs.lemmas.Bool.{cases_eq, cond-true, cond-false, eq-eqb, ne_eqb}
use Rattle.std.proofs.lemmas.List.Elements.{All-push, All-weaker, All-contains}
use Rattle.eve_grammar.specs.Trace.{Trace, Batch}
use Rattle.eve_grammar.specs.Spelling.{batches_at}
use Rattle.eve_history.specs.Order.{request_ids_at, IsAskedAgain, HasDistinctRequests}
use Rattle.eve_grammar.specs.Trace.{RequestId}
use Rattle.eve_history.specs.inner.GreatestNumbers.{HasReached, AreReached, HaveRisen}
use Rattle.eve_history.proofs.Places.{no_place}
use Rattle.eve_history.proofs.RequestIds.{Noting, noting_start, noting_more, noting_end}
use Rattle.eve_history.proofs.OrderLaws.{Asking, asking_more, asking_apart}

-- ---- one request

-- A number above the client's greatest was not noted before, and is then its greatest.
pub reached_more : (greatest after : ℕ → Option ℕ) (client number before : ℕ) → Some before ≡ greatest client
    → before < number → ((other : ℕ) → after other ≡ (if other == client then Some number else greatest other))
    → (noted : List RequestId) → AreReached greatest noted
    → (¬ Contains noted (client, number)) × AreReached after (noted ++ (client, number) ∷ [])
reached_more greatest after client number before had lt kept noted reached = (
  λ there.
      let old : HasReached (greatest client) number =
      All-contains (λ t. HasReached (greatest t.0) t.1) noted (client, number) reached there in
      let le : number ≤ before = subst (λ (g : Option ℕ). HasReached g number) (sym had) old in
      absurd (omega arith),
  All-push (λ t. HasReached (after t.0) t.1) noted (client, number)
      (All-weaker (λ t. HasReached (greatest t.0) t.1) (λ t. HasReached (after t.0) t.1) (λ t. stays t.0 t.1)
      noted reached)
      (subst (λ (g : Option ℕ). HasReached g number) (sym own) (omega arith)),
)
  where
    own : after client ≡ Some number
    own = kept client ∙ cond-true (client == client) (Some number) (greatest client) (eq-eqb client client refl)

    stays : (c n : ℕ) → HasReached (greatest c) n → HasReached (after c) n
    stays c n old = elim (cases_eq c client) [
      | inl same ↦
          let le : n ≤ before = subst (λ (g : Option ℕ). HasReached g n) (ap greatest same ∙ sym had) old in
          subst (λ (g : Option ℕ). HasReached g n) (sym (ap after same ∙ own)) (omega arith)
      | inr other ↦ subst (λ (g : Option ℕ). HasReached g n)
          (sym (kept c ∙ cond-false (c == client) (Some number) (greatest c) (ne_eqb c client other))) old
    ]

-- ---- the requests of a batch, one after another

-- some were noted, all new, and this is kept of them
pub record Rising (before own rest : List RequestId) (Kept : List RequestId → Type 0) : Type 0 where
  pub now : List RequestId
  pub noting : Noting before own rest now
  pub kept : Kept now

pub rising_start : (before own : List RequestId) (Kept : List RequestId → Type 0) → Kept before
    → Rising before own own Kept
rising_start before own Kept kept = record { now = before; noting = noting_start before own; kept = kept }

pub rising_more : (before own rest : List RequestId) (t : RequestId) (Kept After : List RequestId → Type 0)
    → Rising before own (t ∷ rest) Kept
    → ((noted : List RequestId) → Kept noted → (¬ Contains noted t) × After (noted ++ t ∷ []))
    → Rising before own rest After
rising_more before own rest t Kept After rising step =
    let one = step rising.now rising.kept in
    record {
      now = rising.now ++ t ∷ [];
      noting = noting_more before own rest rising.now (rising.now ++ t ∷ []) t
          rising.noting (one.0, refl);
      kept = one.1;
    }

pub rising_end : (before own : List RequestId) (Kept : List RequestId → Type 0) → Rising before own [] Kept
    → HaveRisen before own Kept
rising_end before own Kept rising =
    let all = noting_end before own rising.now rising.noting in
    record { new = all.new; kept = subst Kept all.noted rising.kept }

-- ---- batch after batch

-- the requests of so many batches have come, none twice, and these are the greatest numbers
pub record RisenTo (t : Trace) (i : ℕ) (greatest : ℕ → Option ℕ) : Type 0 where
  pub noted : List RequestId
  pub asking : Asking t i noted
  pub kept : AreReached greatest noted

-- no request came
pub risen_start : (t : Trace) (greatest : ℕ → Option ℕ) → RisenTo t 0 greatest
risen_start t greatest = record {
  noted = [];
  asking = record { items = refl; apart = no_place IsAskedAgain };
  kept = search rules;
}

pub risen_more : (t : Trace) (i : ℕ) (greatest after : ℕ → Option ℕ) (b : ℕ × (ℕ × Batch)) → RisenTo t i greatest
    → slice_get (batches_at t) i ≡ Some b
    → ((noted : List RequestId) → AreReached greatest noted
    → HaveRisen noted (request_ids_at b) (AreReached after))
    → RisenTo t (i + 1) after
risen_more t i greatest after b risen at step =
    let more = step risen.noted risen.kept in
    let noted : List RequestId = risen.noted ++ request_ids_at b in
    record {
      noted = noted;
      asking = asking_more t i risen.noted noted b risen.asking at
          (record { new = more.new; noted = refl });
      kept = more.kept;
    }

pub risen_apart : (t : Trace) (i : ℕ) (greatest : ℕ → Option ℕ) → RisenTo t i greatest → length t.batches ≤ i
    → HasDistinctRequests t
risen_apart t i greatest risen le = asking_apart t i risen.noted risen.asking le
