-- Public: other crates cite these lemmas. The replies that were sent, one after another.
use Rattle.std.proofs.Common.{◌≡◌, ℕ, zero, suc, ◌+◌, ◌<◌, ◌≤◌, List, [], ◌∷◌, ◌++◌, take, drop, length, slice_get}
use Rattle.std.proofs.Common.{slice_index_or, Some, None, refl, sym, subst, ap, ◌∙◌, inl, inr, ◌⊎◌, arith, IsTrue}
use Rattle.std.specs.List.{AllByRecursion, list_all}
use Rattle.std.proofs.lemmas.Bool.{and_parts, cases_lt, ltb-true, leb-true}
use Rattle.std.proofs.lemmas.List.{take_all}
use Rattle.std.proofs.lemmas.Option.{get_or_from_slice_get, same_Some}
use Rattle.eve_grammar.specs.Trace.{Sent, Trace}
use Rattle.eve_grammar.specs.Frames.{OfSent}
use Rattle.eve_grammar.specs.Spelling.{frame_text, located, sent_start, sent_at}
use Rattle.eve_grammar.specs.Limits.{is_reply, is_sent, HasLimits}
use Rattle.eve_views.specs.Cut.{part_start}
use Rattle.eve_views.specs.Code.{code_number}
use Rattle.eve_views.specs.declared.fault.Code.{Code}
use Rattle.eve_views.specs.declared.fault.Code.TheVariants as code
use Rattle.eve_views.specs.declared.fault.Fault.{Fault}
use Rattle.eve_views.specs.Form.{SomePlace, IsLeast, IsFaultOutside}
use Rattle.eve_views.proofs.Lists.{cut_at}
use Rattle.eve_views.proofs.FrameOffsets.{located_get}
use Rattle.eve_history.specs.SectionHistory.{SectionHistory, section_history, section_histories}
use Rattle.eve_history.proofs.Places.{no_place, place_cases, Rising, located_rising, At, first_place}
use Rattle.eve_history.proofs.Places.{weaker_place}
use Rattle.eve_history.proofs.RightSections.{section_history_at}
use Rattle.eve_chains.proofs.LinkedPaths.{none≢some}
use Rattle.eve_agree.specs.SentReplies.{IsReplied, AllReplied, AreReplied, StandsInReplies}

-- a reply that no committed attempt gave
abbrev pub IsUnreplied : Trace → List (ℕ × Sent) → ℕ × Sent → Type 0
IsUnreplied t before s = ¬ IsReplied t s.1

none_unreplied : (t : Trace) (text : Sent → List ℕ) (at : ℕ) (xs : List Sent) → AllByRecursion (IsReplied t) xs
    → SomePlace (located text at xs) (λ _ s. ¬ IsReplied t s.1) → ⊥
none_unreplied t text at [] all place = no_place _ place
none_unreplied t text at (x ∷ xs) all place =
    elim (place_cases (λ _ s. ¬ IsReplied t s.1) (at, x) (located text (at + length (text x)) xs) place) [
      | inl here ↦ here all.0
      | inr there ↦ none_unreplied t text (at + length (text x)) xs all.1 there
    ]

take_located : {A : Type 0} (text : A → List ℕ) (at i : ℕ) (xs : List A) → take i (located text at xs)
    ≡ located text at (take i xs)
take_located text at zero xs = refl
take_located text at (suc i) [] = refl
take_located {A = A} text at (suc i) (x ∷ xs) = ap (λ (ys : List (ℕ × A)). (at, x) ∷ ys)
    (take_located text (at + length (text x)) i xs)

pub sent_there : (t : Trace) (i o : ℕ) (s : Sent) → slice_get (sent_at t) i ≡ Some (o, s) → slice_get t.sent i ≡ Some s
unfolding sent_at
sent_there t i o s e = located_get (λ s. frame_text (OfSent s)) (sent_start t) t.sent i (o, s) e

-- ---- all of them

all_at : {P : Sent → Type 0} (xs : List Sent) (i : ℕ) → ((k : ℕ) (s : Sent) → k < i → slice_get xs k ≡ Some s → P s)
    → AllByRecursion P (take i xs)
all_at xs zero each = tt
all_at [] (suc i) each = tt
all_at (x ∷ xs) (suc i) each =
    (each 0 x (omega arith) refl, all_at xs i (λ k s lt at. each (suc k) s (omega arith) at))

all_before : (t : Trace) (i : ℕ) → AreReplied t 0 i → AllByRecursion (IsReplied t) (take i t.sent)
all_before t i replied = all_at t.sent i (λ k s lt at. replied k s (omega arith) lt at)

pub all_replied : (t : Trace) (n : ℕ) → n ≡ length t.sent → AreReplied t 0 n → AllReplied t
all_replied t n is replied =
    subst (AllByRecursion (IsReplied t)) (take_all n t.sent (omega arith)) (all_before t n replied)

pub none_yet : (t : Trace) (from to : ℕ) → to ≤ from → AreReplied t from to
none_yet t from to none = λ k s ge lt at. absurd (omega (arith, none, ge, lt))

pub replied_more : (t : Trace) (from i : ℕ) (s : Sent) → AreReplied t from i → slice_get t.sent i ≡ Some s
    → IsReplied t s → AreReplied t from (i + 1)
replied_more t from i s before here one = λ k x ge lt at. elim (cases_lt k i) [
  | inl less ↦ before k x ge less at
  | inr most ↦
      let same : k ≡ i = omega arith in
      subst (IsReplied t) (same_Some s x (sym here ∙ ap (λ (n : ℕ). slice_get t.sent n) (sym same) ∙ at)) one
]

-- parts one after another
pub parts_replied : (t : Trace) (size n : ℕ) → ((i : ℕ) → i < n
    → AreReplied t (part_start (length t.sent) size i) (part_start (length t.sent) size (i + 1)))
    → AreReplied t 0 (part_start (length t.sent) size n)
parts_replied t size zero each = none_yet t 0 (part_start (length t.sent) size 0) (omega arith)
parts_replied t size (suc n) each = λ k s ge lt at. elim (cases_lt k (part_start (length t.sent) size n)) [
  | inl less ↦ parts_replied t size n (λ i before. each i (omega arith)) k s ge less at
  | inr most ↦
      let next : suc n ≡ n + 1 = omega arith in
      each n (omega arith) k s most (subst (λ (m : ℕ). k < part_start (length t.sent) size m) next lt) at
]

pub no_fault : (t : Trace) → AllReplied t → (f : Fault) → ¬ IsFaultOutside StandsInReplies t f
unfolding sent_at
no_fault t all f is = by f.code is.stands
  where
    by : (c : Code) → StandsInReplies c t f.offset → ⊥
    by code.Reply stands =
        none_unreplied t (λ s. frame_text (OfSent s)) (sent_start t) t.sent all
        (weaker_place (λ _ s. (s.0 ≡ f.offset) × ¬ IsReplied t s.1) (λ _ s. ¬ IsReplied t s.1) (sent_at t)
        (λ b y h. h.1) stands)
    by _ stands = stands

pub first_fault : (t : Trace) (i o : ℕ) (s : Sent) (f : Fault) → AreReplied t 0 i
    → slice_get (sent_at t) i ≡ Some (o, s) → ¬ IsReplied t s
    → f ≡ record { code = code.Reply; offset = o; replica = None }
    → IsLeast (IsFaultOutside StandsInReplies t) f
unfolding sent_at
first_fault t i o s f before at not is = subst (IsLeast (IsFaultOutside StandsInReplies t)) (sym is) (record {
  is = record {
    stands = record {
      before = take i (sent_at t);
      item = (o, s);
      rest = drop (suc i) (sent_at t);
      is = cut_at (sent_at t) i (o, s) at;
      holds = (refl, not);
    };
    outside = refl;
  };
  least = λ g stands. by g.offset g.code stands.stands;
})
  where
    none_before : SomePlace (take i (sent_at t)) (IsUnreplied t) → ⊥
    none_before place =
        none_unreplied t (λ s. frame_text (OfSent s)) (sent_start t) (take i t.sent)
        (all_before t i before) (subst (λ (xs : List (ℕ × Sent)). SomePlace xs (IsUnreplied t))
        (take_located (λ s. frame_text (OfSent s)) (sent_start t) i t.sent) place)

    by : (to : ℕ) (c : Code) → StandsInReplies c t to → (o < to) ⊎ ((o ≡ to) × (90 ≤ code_number c))
    by to code.Reply stands =
        let cut : sent_at t ≡ take i (sent_at t) ++ (o, s) ∷ drop (suc i) (sent_at t) =
        cut_at (sent_at t) i (o, s) at in
        let rises = subst (λ (xs : List (ℕ × Sent)). Rising (sent_start t) xs) cut
        (located_rising (λ s. frame_text (OfSent s)) (sent_start t) t.sent) in
        up (first_place (IsUnreplied t) (sent_start t) to (take i (sent_at t)) (o, s) (drop (suc i) (sent_at t)) rises
        none_before (subst (λ (xs : List (ℕ × Sent)). SomePlace xs (At to (IsUnreplied t))) cut stands))
      where
        up : o ≤ to → (o < to) ⊎ ((o ≡ to) × (90 ≤ 90))
        up le = elim (cases_lt o to) [ inl lt ↦ inl lt | inr ge ↦ inr (omega arith, omega arith) ]
    by to _ stands = absurd stands

-- ---- within the limits

pub record IsPossible (t : Trace) (s : Sent) : Type 0 where
  pub replica : s.replica < length t.sections
  pub one : 1 ≤ s.seq
  pub there : s.seq ≤ length t.batches
  pub reply : IsTrue (is_reply s.reply)

pub possible_of : (t : Trace) (s : Sent) → IsTrue (is_sent (length t.sections) (length t.batches) s) → IsPossible t s
possible_of t s fits =
    let a = and_parts _ _ fits in
    let b = and_parts _ _ a.1 in
    let c = and_parts _ _ b.1 in
    let d = and_parts _ _ c.1 in
    let e = and_parts _ _ d.0 in
    record {
      replica = ltb-true s.replica (length t.sections) c.0;
      one = leb-true 1 s.seq e.0;
      there = leb-true s.seq (length t.batches) e.1;
      reply = d.1;
    }

pub sent_fits : (t : Trace) (i : ℕ) (s : Sent) → HasLimits t → slice_get t.sent i ≡ Some s
    → IsTrue (is_sent (length t.sections) (length t.batches) s)
sent_fits t i s limits at = each t.sent i limits.sent at
  where
    each : (xs : List Sent) (k : ℕ) → IsTrue (list_all (is_sent (length t.sections) (length t.batches)) xs)
        → slice_get xs k ≡ Some s → IsTrue (is_sent (length t.sections) (length t.batches) s)
    each [] k all there = none≢some s there
    each (x ∷ xs) zero all there = subst (λ (y : Sent). IsTrue (is_sent (length t.sections) (length t.batches) y))
        (same_Some x s there) (and_parts _ _ all).0
    each (x ∷ xs) (suc k) all there = each xs k (and_parts (is_sent (length t.sections) (length t.batches) x) _ all).1
        there

pub is_possible : (t : Trace) (i : ℕ) (s : Sent) → HasLimits t → slice_get t.sent i ≡ Some s → IsPossible t s
is_possible t i s limits at = possible_of t s (sent_fits t i s limits at)

-- what a replica's section tells, read at its place
pub told_as : (t : Trace) (vs : List SectionHistory) (e k : ℕ) (v : SectionHistory) → vs ≡ section_histories t
    → e < length t.sections → k ≡ e → v ≡ slice_index_or vs k v → v ≡ section_history t e
told_as t vs e k v is lt same read =
    read ∙ (λ i. slice_index_or (is i) (same i) v) ∙ get_or_from_slice_get (section_histories t) e
    (section_history t e) v (section_history_at t e lt)
