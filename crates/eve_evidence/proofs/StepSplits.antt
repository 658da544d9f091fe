-- A section's steps in front of one of them and behind it, by its byte.
use Rattle.std.proofs.Common.{◌≡◌, ◌≢◌, ℕ, suc, ◌+◌, ◌≤◌, ◌<◌, ◌^◌, List, [], ◌∷◌, ◌++◌, length, refl, sym, ap, subst}
use Rattle.std.proofs.Common.{◌∙◌, arith}
use Rattle.std.proofs.Common.{append_assoc}
use Rattle.std.specs.List.{AllByRecursion}
use Rattle.std.proofs.lemmas.List.{length-append}
use Rattle.eve_smallbank.specs.declared.versioned.Versioned.{Versioned}
use Rattle.eve_grammar.specs.Trace.{Step, Attempts, Commits, RollsBack, Transfers, Trace}
use Rattle.eve_grammar.specs.Frames.{OfReplica}
use Rattle.eve_grammar.specs.Spelling.{frame_text, located, section_start, step_text, steps_of, steps_at}
use Rattle.eve_grammar.proofs.Lists.{all-push, same_first, same_others, no_item}
use Rattle.eve_views.proofs.FrameLaws.{length-frame_text}
use Rattle.eve_history.specs.Section.{Placed, SectionState, start, next, path_of, state_after, committing}
use Rattle.eve_evidence.specs.declared.prefix.Prefix.{Prefix}
use Rattle.eve_evidence.specs.inner.LastSource.{IsPrefix}

-- ---- bytes rise

step_long : (s : Step) → 0 < length (step_text s)
step_long (Attempts a) = more _
  where
    more : (n : ℕ) → 0 < suc n
    more n = omega arith
step_long (Commits c) = more _
  where
    more : (n : ℕ) → 0 < suc n
    more n = omega arith
step_long (RollsBack r) = more _
  where
    more : (n : ℕ) → 0 < suc n
    more n = omega arith
step_long (Transfers x) = more _
  where
    more : (n : ℕ) → 0 < suc n
    more n = omega arith

-- the steps in front stand at other bytes, and are no more than those
split_located : (from : ℕ) (steps : List Step) (prefix : List (ℕ × Step)) (x : ℕ × Step) (behind : List (ℕ × Step))
    → located step_text from steps ≡ prefix ++ x ∷ behind
    → (from + length prefix ≤ x.0) × AllByRecursion (λ y. y.0 ≢ x.0) prefix
split_located from [] prefix x behind e = absurd (no_item prefix x behind e)
split_located from (s ∷ steps) [] x behind e =
    let at : from ≡ x.0 = ap (λ (z : ℕ × Step). z.0)
    (same_first (from, s) x (located step_text (from + length (step_text s)) steps) behind e) in
    (omega arith, tt)
split_located from (s ∷ steps) (y ∷ prefix) x behind e =
    let later : List (ℕ × Step) = located step_text (from + length (step_text s)) steps in
    let at : from ≡ y.0 = ap (λ (z : ℕ × Step). z.0) (same_first (from, s) y later (prefix ++ x ∷ behind) e) in
    let rest = split_located (from + length (step_text s)) steps prefix x behind
    (same_others (from, s) y later (prefix ++ x ∷ behind) e) in
    let low = rest.0 in
    let long = step_long s in
    (omega (arith, low, long), ((λ same. absurd (omega (arith, at, same, low, long))), rest.1))

pub split_section : (t : Trace) (e : ℕ) (prefix : List (ℕ × Step)) (x : ℕ × Step) (behind : List (ℕ × Step))
    → steps_at t e ≡ prefix ++ x ∷ behind → (length prefix + 1 ≤ x.0) × AllByRecursion (λ y. y.0 ≢ x.0) prefix
unfolding steps_at
split_section t e prefix x behind is =
    let parts = split_located (section_start t e + length (frame_text (OfReplica e))) (steps_of t e) prefix x behind is
    in
    let low = parts.0 in
    (omega (arith, low, length-frame_text (OfReplica e)), parts.1)

-- ---- one step at a byte

module _ (at : ℕ) where
  abbrev Elsewhere : ℕ × Step → Type 0
  Elsewhere y = y.0 ≢ at

  -- two ways to split the steps at the byte are one
  pub same_split : (done rest prefix behind : List (ℕ × Step)) (step x : ℕ × Step) → step.0 ≡ at → x.0 ≡ at
      → AllByRecursion Elsewhere done → AllByRecursion Elsewhere prefix → done ++ step ∷ rest ≡ prefix ++ x ∷ behind
      → (done ≡ prefix) × (rest ≡ behind)
  same_split [] rest [] behind step x here there before others e = (refl, same_others step x rest behind e)
  same_split [] rest (z ∷ prefix) behind step x here there before others e =
      absurd (others.0 (ap (λ (y : ℕ × Step). y.0) (sym (same_first step z rest (prefix ++ x ∷ behind) e)) ∙ here))
  same_split (z ∷ done) rest [] behind step x here there before others e =
      absurd (before.0 (ap (λ (y : ℕ × Step). y.0) (same_first z x (done ++ step ∷ rest) behind e) ∙ there))
  same_split (z ∷ done) rest (w ∷ prefix) behind step x here there before others e =
      let first = same_first z w (done ++ step ∷ rest) (prefix ++ x ∷ behind) e in
      let more = same_split done rest prefix behind step x here there before.1 others.1
      (same_others z w (done ++ step ∷ rest) (prefix ++ x ∷ behind) e) in
      ((λ i. first i ∷ more.0 i), more.1)

  -- where the step wasn't met yet, no more than those in front have come
  pub not_past : (done rest prefix behind : List (ℕ × Step)) (x : ℕ × Step) → x.0 ≡ at → AllByRecursion Elsewhere done
      → done ++ rest ≡ prefix ++ x ∷ behind → length done ≤ length prefix
  not_past [] rest prefix behind x there before e = omega arith
  not_past (z ∷ done) rest [] behind x there before e =
      absurd (before.0 (ap (λ (y : ℕ × Step). y.0) (same_first z x (done ++ rest) behind e) ∙ there))
  not_past (z ∷ done) rest (w ∷ prefix) behind x there before e =
      let more = not_past done rest prefix behind x there before.1
      (same_others z w (done ++ rest) (prefix ++ x ∷ behind) e) in
      omega (arith, more)

-- ---- open attempts

few_committing : (s : SectionState) (ps : List Placed) → length s.pending ≡ length ps
    → length (committing s ps).pending ≤ length s.pending
few_committing s [] e = omega arith
few_committing s (p ∷ ps) e = omega (arith, e)

few_open_from : (s : SectionState) (steps : List (ℕ × Step))
    → length (state_after s steps).pending ≤ length s.pending + length steps
few_open_from s [] = omega arith
few_open_from s ((at, Attempts a) ∷ steps) =
    let more = few_open_from (next s (at, Attempts a)) steps in
    let p : Placed = record { offset = at; attempt = a; path = path_of s } in
    omega (arith, more, length-append s.pending (p ∷ []))
few_open_from s ((at, Commits c) ∷ steps) =
    let more = few_open_from (next s (at, Commits c)) steps in
    let few = few_committing s s.pending refl in
    omega (arith, more, few)
few_open_from s ((at, RollsBack r) ∷ steps) =
    let more = few_open_from (next s (at, RollsBack r)) steps in omega (arith, more)
few_open_from s ((at, Transfers x) ∷ steps) =
    let more = few_open_from (next s (at, Transfers x)) steps in omega (arith, more)

pub few_open : (steps : List (ℕ × Step)) → length (state_after start steps).pending ≤ length steps
few_open steps = let few = few_open_from start steps in omega (arith, few)

-- ---- the steps up to a byte

-- These steps are still to come. Those before them stand at other bytes, and what was met is of them.
pub record Walks (t : Trace) (e at row : ℕ) (has : Versioned) (rest : List (ℕ × Step)) (f : Prefix) : Type 0 where
  pub done : List (ℕ × Step)
  pub split : steps_at t e ≡ done ++ rest
  pub before : AllByRecursion (λ y. y.0 ≢ at) done
  pub is : IsPrefix t row has done f

module _ (t : Trace) (e at row : ℕ) (has : Versioned) (prefix : List (ℕ × Step)) (s : Step) (behind : List (ℕ × Step))
    (is : steps_at t e ≡ prefix ++ (at, s) ∷ behind) where
  pub others_elsewhere : AllByRecursion (λ y. y.0 ≢ at) prefix
  others_elsewhere = (split_section t e prefix (at, s) behind is).1

  module _ (rest : List (ℕ × Step)) (f : Prefix) (w : Walks t e at row has rest f) where
    -- one attempt more has room
    pub room_for : at < 2 ^ 64 → f.pending + 1 < 2 ^ 64
    room_for few =
        let low = (split_section t e prefix (at, s) behind is).0 in
        let short = not_past at w.done rest prefix behind (at, s) refl w.before (sym w.split ∙ is) in
        let open_few = few_open w.done in
        let count = w.is.open_is in
        omega (arith, low, short, open_few, count, few)

  -- the step at the byte is met
  module _ (step : ℕ × Step) (rest : List (ℕ × Step)) (f : Prefix) (w : Walks t e at row has (step ∷ rest) f)
      (here : step.0 ≡ at) where
    parts : (w.done ≡ prefix) × (rest ≡ behind)
    parts = same_split at w.done rest prefix behind step (at, s) here refl w.before others_elsewhere (sym w.split ∙ is)

    pub prefix_met : IsPrefix t row has prefix f
    prefix_met = subst (λ (steps : List (ℕ × Step)). IsPrefix t row has steps f) parts.0 w.is

    pub behind_found : rest ≡ behind
    behind_found = parts.1

  -- it doesn't end before
  pub not_ended : (f : Prefix) → Walks t e at row has [] f → ⊥
  not_ended f w =
      let whole = sym w.split ∙ is in
      never w.done prefix whole w.before
    where
      never : (done prefix : List (ℕ × Step)) → done ++ [] ≡ prefix ++ (at, s) ∷ behind
          → AllByRecursion (λ y. y.0 ≢ at) done → ⊥
      never [] prefix e all = no_item prefix (at, s) behind e
      never (z ∷ done) [] e all = all.0 (ap (λ (y : ℕ × Step). y.0) (same_first z (at, s) (done ++ []) behind e))
      never (z ∷ done) (y ∷ prefix) e all =
          never done prefix (same_others z y (done ++ []) (prefix ++ (at, s) ∷ behind) e) all.1

pub walks_first : (t : Trace) (e at row : ℕ) (has : Versioned) (f : Prefix) → IsPrefix t row has [] f
    → Walks t e at row has (steps_at t e) f
walks_first t e at row has f is = record { done = []; split = refl; before = tt; is = is }

-- another step is gone over
pub walks_on : (t : Trace) (e at row : ℕ) (has : Versioned) (step : ℕ × Step) (rest : List (ℕ × Step))
    (f later : Prefix)
    → (w : Walks t e at row has (step ∷ rest) f) → step.0 ≢ at → IsPrefix t row has (w.done ++ step ∷ []) later
    → Walks t e at row has rest later
walks_on t e at row has step rest f later w apart is = record {
  done = w.done ++ step ∷ [];
  split = w.split ∙ sym (append_assoc w.done (step ∷ []) rest);
  before = all-push (λ (y : ℕ × Step). y.0 ≢ at) w.done step w.before apart;
  is = is;
}
