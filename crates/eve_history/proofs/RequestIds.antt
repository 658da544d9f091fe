-- The requests of a batch by client and number, one after another.
use Rattle.std.proofs.Common.{◌≡◌, List, [], ◌∷◌, ◌++◌, Contains}
use Rattle.std.proofs.Common.{refl, sym, ap, subst, ◌∙◌, append_assoc, inl, inr}
use Rattle.std.proofs.lemmas.List.{append-nil}
use Rattle.eve_grammar.specs.Trace.{RequestId}
use Rattle.eve_history.specs.Order.{IsRepeated}
use Rattle.eve_history.proofs.Places.{no_place, place_push}

-- none of a batch's own occurs earlier, among them or among what was noted, and they are noted after the others
pub record AreNewAndNoted (before own after : List RequestId) : Type 0 where
  pub new : ¬ IsRepeated before own
  pub noted : after ≡ before ++ own

-- some of a batch's requests were noted, and all of them were new
pub record Noting (before own rest now : List RequestId) : Type 0 where
  pub prefix : List RequestId
  pub split : own ≡ prefix ++ rest
  pub noted : now ≡ before ++ prefix
  pub new : ¬ IsRepeated before prefix

pub noting_start : (before own : List RequestId) → Noting before own own before
noting_start before own =
    record {
      prefix = [];
      split = refl;
      noted = sym (append-nil before);
      new = no_place (λ earlier t. Contains (before ++ earlier) t);
    }

pub noting_more : (before own rest now after : List RequestId) (t : RequestId) → Noting before own (t ∷ rest) now
    → (¬ Contains now t) × (after ≡ now ++ t ∷ []) → Noting before own rest after
noting_more before own rest now after t noting new = record {
  prefix = noting.prefix ++ t ∷ [];
  split = noting.split ∙ sym (append_assoc noting.prefix (t ∷ []) rest);
  noted = new.1 ∙ ap (λ (ts : List RequestId). ts ++ t ∷ []) noting.noted ∙ append_assoc before noting.prefix (t ∷ []);
  new = λ repeated. elim (place_push (λ earlier t. Contains (before ++ earlier) t) noting.prefix t repeated) [
    | inl prefix ↦ noting.new prefix
    | inr here ↦ new.0 (subst (λ (ts : List RequestId). Contains ts t) (sym noting.noted) here)
  ];
}

pub noting_end : (before own now : List RequestId) → Noting before own [] now → AreNewAndNoted before own now
noting_end before own now noting =
    let whole : own ≡ noting.prefix = noting.split ∙ append-nil noting.prefix in
    record {
      new = λ repeated. noting.new (subst (IsRepeated before) whole repeated);
      noted = noting.noted
          ∙ ap (λ (ts : List RequestId). before ++ ts) (sym whole);
    }
