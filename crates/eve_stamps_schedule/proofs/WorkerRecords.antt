-- The records of all workers are the applied ones.
use Rattle.std.proofs.Common.{◌≡◌, ℕ, zero, suc, ◌<◌, List, [], ◌∷◌, ◌++◌, Option, Some, None, inl, inr, refl, sym}
use Rattle.std.proofs.Common.{subst, ap, ◌∙◌, arith}
use Rattle.std.specs.Prelude.{IsPermutation}
use Rattle.std.proofs.lemmas.Bool.{cases_eq}
use Rattle.std.proofs.lemmas.List.{append-nil, append_assoc}
use Rattle.eve_stamps.specs.Applied.{Applied}
use Rattle.eve_stamps_schedule.specs.declared.stage.Stage.{Stage}
use Rattle.eve_stamps_schedule.specs.declared.stage.Stage.TheVariants as at
use Rattle.eve_stamps_schedule.specs.World.{World, pending, records_at, records_below}
use Rattle.eve_stamps_schedule.specs.Events.{changed, with_owner, with_applied, with_noted, placed_by_tick}
use Rattle.eve_stamps_schedule.proofs.Changes.{below_itself, changed-here, changed-other}
use Rattle.eve_stamps_schedule.proofs.InsertedRecords.{permutation-placed_by_tick}

records_alike : (w x : World) (n : ℕ) → ((u : ℕ) → u < n → records_at x u ≡ records_at w u) → records_below x n
    ≡ records_below w n
records_alike w x zero h = refl
records_alike w x (suc n) h =
    ap (λ xs. xs ++ records_at x n) (records_alike w x n (λ u l. h u (omega arith)))
    ∙ ap (λ ys. records_below w n ++ ys) (h n (omega arith))

-- ---- events that make no record

-- a worker goes to another stage, at which it has as few records to note
pub at_stage : (w x : World) (v : ℕ) (old new : Stage) → w.stages v ≡ old → pending new ≡ pending old
    → x.noted ≡ w.noted → x.stages ≡ changed w.stages v new
    → (u : ℕ) → records_at x u ≡ records_at w u
at_stage w x v old new stage same noted stages u =
    ap (λ (f : ℕ → List Applied). f u ++ pending (x.stages u)) noted
    ∙ ap (λ (f : ℕ → Stage). w.noted u ++ pending (f u)) stages
    ∙ (elim (cases_eq u v) [
      | inl e ↦ ap (λ k. w.noted u ++ pending (changed w.stages v new k)) e
          ∙ ap (λ s. w.noted u ++ pending s) (changed-here w.stages v new)
          ∙ ap (λ xs. w.noted u ++ xs) same ∙ ap (λ s. w.noted u ++ pending s) (sym stage)
          ∙ ap (λ k. w.noted u ++ pending (w.stages k)) (sym e)
      | inr e ↦ ap (λ s. w.noted u ++ pending s) (changed-other w.stages v new u e)
    ])

pub at_owner : (w : World) (o owner : Option ℕ) (u : ℕ) → records_at (with_owner w o owner) u ≡ records_at w u
at_owner w None owner u = refl
at_owner w (Some s) owner u = refl

pub at_note : (w : World) (v : ℕ) (x : Applied) → w.stages v ≡ at.Applied x → (u : ℕ) → records_at (with_noted w v x) u
    ≡ records_at w u
at_note w v x stage u =
    elim (cases_eq u v) [
      | inl e ↦
          let more : List Applied = w.noted v ++ x ∷ [] in
          ap (records_at (with_noted w v x)) e
          ∙ ap (λ xs. xs ++ pending (changed w.stages v at.Idle v)) (changed-here w.noted v more)
          ∙ ap (λ s. more ++ pending s) (changed-here w.stages v at.Idle)
          ∙ append-nil more ∙ ap (λ s. w.noted v ++ pending s) (sym stage) ∙ ap (records_at w) (sym e)
      | inr e ↦
          ap (λ xs. xs ++ pending (changed w.stages v at.Idle u)) (changed-other w.noted v (w.noted v ++ x ∷ []) u e)
          ∙ ap (λ s. w.noted u ++ pending s) (changed-other w.stages v at.Idle u e)
    ]

pub gathered_alike : (w x : World) (n : ℕ) → ((u : ℕ) → records_at x u ≡ records_at w u)
    → IsPermutation (records_below w n) w.applied → IsPermutation (records_below x n) w.applied
gathered_alike w x n h p = subst (λ xs. IsPermutation xs w.applied) (sym (records_alike w x n (λ u l. h u))) p

-- ---- the event that makes one

-- the records of all workers before and after one of them applies its request
record MoreBy (w : World) (v n : ℕ) (x : Applied) : Type 0 where
  prefix : List Applied
  back : List Applied
  were : records_below w n ≡ prefix ++ back
  are : records_below (with_applied w v x) n ≡ prefix ++ x ∷ back

more_by : (w : World) (v n : ℕ) (x : Applied) → v < n → pending (w.stages v) ≡ [] → MoreBy w v n x
more_by w v zero x h none = absurd (omega arith)
more_by w v (suc n) x h none =
    elim (cases_eq v n) [
      | inl e ↦ record {
        prefix = records_below w n ++ w.noted n;
        back = [];
        were = ap (λ k. records_below w n ++ (w.noted n ++ pending (w.stages k))) (sym e)
            ∙ ap (λ xs. records_below w n ++ (w.noted n ++ xs)) none
            ∙ sym (append_assoc (records_below w n) (w.noted n) []);
        are = ap (λ xs. xs ++ records_at (with_applied w v x) n) (records_alike w (with_applied w v x) n (λ u l.
            ap (λ s. w.noted u ++ pending s) (changed-other w.stages v (at.Applied x) u (λ k. below_itself (k ∙ e) l))))
            ∙ ap (λ k. records_below w n ++ (w.noted n ++ pending (changed w.stages v (at.Applied x) k))) (sym e)
            ∙ ap (λ s. records_below w n ++ (w.noted n ++ pending s)) (changed-here w.stages v (at.Applied x))
            ∙ sym (append_assoc (records_below w n) (w.noted n) (x ∷ []));
      }
      | inr e ↦
          let rest = more_by w v n x (omega arith) none in
          record {
            prefix = rest.prefix;
            back = rest.back ++ records_at w n;
            were = ap (λ xs. xs ++ records_at w n) rest.were ∙ append_assoc rest.prefix rest.back (records_at w n);
            are = ap (λ xs. xs ++ records_at (with_applied w v x) n) rest.are
                ∙ ap (λ s. (rest.prefix ++ x ∷ rest.back) ++ (w.noted n ++ pending s))
                (changed-other w.stages v (at.Applied x) n (λ k. e (sym k)))
                ∙ append_assoc rest.prefix (x ∷ rest.back) (records_at w n);
          }
    ]

pub gathered_apply : (w : World) (v n : ℕ) (x : Applied) → v < n → pending (w.stages v) ≡ []
    → IsPermutation (records_below w n) w.applied
    → IsPermutation (records_below (with_applied w v x) n) (placed_by_tick x w.applied)
gathered_apply w v n x h none p =
    let more = more_by w v n x h none in
    subst (λ xs. IsPermutation xs (placed_by_tick x w.applied)) (sym more.are)
    (permutation-placed_by_tick x more.prefix more.back w.applied
    (subst (λ xs. IsPermutation xs w.applied) more.were p))
