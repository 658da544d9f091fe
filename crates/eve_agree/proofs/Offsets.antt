-- The frames by which a replica reached its numbers stand in the order of the numbers, and sections in the order of the
-- replicas.
use Rattle.std.proofs.Common.{◌≡◌, ℕ, zero, suc, ◌+◌, ◌-◌, ◌<◌, ◌≤◌, List, [], ◌∷◌, ◌++◌, map, length, take, slice_get}
use Rattle.std.proofs.Common.{Some, refl, sym, ap, subst, ◌∙◌, inl, inr, arith, append_assoc, append-nil}
use Rattle.std.specs.Prelude.{replicate, slice_index_or}
use Rattle.std.specs.List.{flat_map, enumerate_from}
use Rattle.std.proofs.lemmas.Bool.{cases_lt}
use Rattle.std.proofs.lemmas.List.{length-append, map-append}
use Rattle.std.proofs.lemmas.Option.{same_Some}
use Rattle.eve_grammar.specs.Trace.{Transfer, Step, Attempts, Commits, RollsBack, Transfers, Trace}
use Rattle.eve_grammar.specs.Frames.{OfReplica}
use Rattle.eve_grammar.specs.Spelling.{frame_text, located, step_text, section_text, section_start, steps_of, steps_at}
use Rattle.eve_views.proofs.FrameOffsets.{section_is}
use Rattle.eve_history.specs.Section.{Placed, HowReached, ByAttempt, ByTransfer, Skipped, SectionState, start}
use Rattle.eve_history.specs.Section.{committing}
use Rattle.eve_history.specs.Section.{next, state_after}
use Rattle.eve_history.specs.SectionHistory.{history, how_reached_at}
use Rattle.eve_history.proofs.RightSections.{none_at}
use Rattle.eve_chains.proofs.LinkedPaths.{none≢some}
use Rattle.eve_agree.specs.inner.NumbersJudged.{offset_of}

-- ---- numbers that rise

-- each is greater than the one before it, from the one bound up to below the other
abbrev pub Climbs : ℕ → List ℕ → ℕ → Type 0
Climbs low [] high = low ≤ high
Climbs low (x ∷ xs) high = (low ≤ x) × Climbs (suc x) xs high

climbs_up : (low high : ℕ) (xs : List ℕ) → Climbs low xs high → low ≤ high
climbs_up low high [] climbs = climbs
climbs_up low high (x ∷ xs) climbs =
    let rest = climbs_up (suc x) high xs climbs.1 in
    let first = climbs.0 in
    omega arith

climbs_prefix : (low high : ℕ) (xs ys : List ℕ) → Climbs low (xs ++ ys) high → Climbs low xs high
climbs_prefix low high [] ys climbs = climbs_up low high ys climbs
climbs_prefix low high (x ∷ xs) ys climbs = (climbs.0, climbs_prefix (suc x) high xs ys climbs.1)

climbs_higher : (low high more : ℕ) (xs : List ℕ) → high ≤ more → Climbs low xs high → Climbs low xs more
climbs_higher low high more [] le climbs = omega (arith, climbs)
climbs_higher low high more (x ∷ xs) le climbs = (climbs.0, climbs_higher (suc x) high more xs le climbs.1)

climbs_lower : (low high less : ℕ) (xs : List ℕ) → less ≤ low → Climbs low xs high → Climbs less xs high
climbs_lower low high less [] le climbs = omega (arith, climbs)
climbs_lower low high less (x ∷ xs) le climbs = (let first = climbs.0 in omega arith, climbs.1)

climbs_push : (low at more : ℕ) (xs : List ℕ) → at < more → Climbs low xs at → Climbs low (xs ++ at ∷ []) more
climbs_push low at more [] lt climbs = (climbs, lt)
climbs_push low at more (x ∷ xs) lt climbs = (climbs.0, climbs_push (suc x) at more xs lt climbs.1)

-- ---- the frames by which numbers were reached

abbrev pub spots : List HowReached → List ℕ
spots [] = []
spots (ByAttempt p ∷ ls) = p.offset ∷ spots ls
spots (ByTransfer at x ∷ ls) = at ∷ spots ls
spots (Skipped ∷ ls) = spots ls

spots-append : (ls ks : List HowReached) → spots (ls ++ ks) ≡ spots ls ++ spots ks
spots-append [] ks = refl
spots-append (ByAttempt p ∷ ls) ks = ap (λ (xs : List ℕ). p.offset ∷ xs) (spots-append ls ks)
spots-append (ByTransfer at x ∷ ls) ks = ap (λ (xs : List ℕ). at ∷ xs) (spots-append ls ks)
spots-append (Skipped ∷ ls) ks = spots-append ls ks

spots_skipped : (n at : ℕ) (x : Transfer) → spots (replicate n Skipped ++ ByTransfer at x ∷ []) ≡ at ∷ []
spots_skipped zero at x = refl
spots_skipped (suc n) at x = spots_skipped n at x

-- they, and those of the open attempts
abbrev all_spots : SectionState → List ℕ
all_spots s = spots s.ways_reached ++ map (λ p. p.offset) s.pending

climbs_next : (low at to : ℕ) (s : SectionState) (step : Step) → at < to → Climbs low (all_spots s) at
    → Climbs low (all_spots (next s (at, step))) to
climbs_next low at to s (Attempts a) lt climbs =
    subst (λ (xs : List ℕ). Climbs low xs to)
    (append_assoc (spots s.ways_reached) (map (λ (p : Placed). p.offset) s.pending) (at ∷ [])
    ∙ ap (λ (xs : List ℕ). spots s.ways_reached ++ xs) (sym (map-append (λ (p : Placed). p.offset) s.pending _)))
    (climbs_push low at to (all_spots s) lt climbs)
climbs_next low at to s (Commits c) lt climbs = by s.pending refl
  where
    by : (pending : List Placed) → s.pending ≡ pending → Climbs low (all_spots (committing s pending)) to
    by [] is = climbs_higher low at to (all_spots s) (omega arith) climbs
    by (p ∷ ps) is = climbs_higher low at to
        (spots (s.ways_reached ++ ByAttempt p ∷ []) ++ map (λ (q : Placed). q.offset) ps) (omega arith)
        (subst (λ (xs : List ℕ). Climbs low xs at)
        (ap (λ (qs : List Placed). spots s.ways_reached ++ map (λ (q : Placed). q.offset) qs) is
        ∙ sym (append_assoc (spots s.ways_reached) (p.offset ∷ []) (map (λ (q : Placed). q.offset) ps))
        ∙ ap (λ (xs : List ℕ). xs ++ map (λ (q : Placed). q.offset) ps)
        (sym (spots-append s.ways_reached (ByAttempt p ∷ []))))
        climbs)
climbs_next low at to s (RollsBack r) lt climbs =
    subst (λ (xs : List ℕ). Climbs low xs to) (sym (append-nil (spots s.ways_reached)))
    (climbs_higher low at to (spots s.ways_reached) (omega arith)
    (climbs_prefix low at (spots s.ways_reached) (map (λ (p : Placed). p.offset) s.pending) climbs))
climbs_next low at to s (Transfers x) lt climbs =
    let skips : List HowReached = replicate (x.seq - (s.last + 1)) Skipped in
    subst (λ (xs : List ℕ). Climbs low xs to)
    (sym (append-nil (spots (s.ways_reached ++ (skips ++ ByTransfer at x ∷ [])))
    ∙ spots-append s.ways_reached (skips ++ ByTransfer at x ∷ [])
    ∙ ap (λ (xs : List ℕ). spots s.ways_reached ++ xs) (spots_skipped (x.seq - (s.last + 1)) at x)))
    (climbs_push low at to (spots s.ways_reached) lt
    (climbs_prefix low at (spots s.ways_reached) (map (λ (p : Placed). p.offset) s.pending) climbs))

has_text : (from : ℕ) (step : Step) → from < from + length (step_text step)
has_text from step = by step
  where
    more : (n m : ℕ) → n < n + suc m
    more n m = omega arith

    by : (step : Step) → from < from + length (step_text step)
    by (Attempts a) = more from _
    by (Commits c) = more from _
    by (RollsBack r) = more from _
    by (Transfers x) = more from _

climbs_after : (low from : ℕ) (s : SectionState) (steps : List Step) → Climbs low (all_spots s) from
    → Climbs low (all_spots (state_after s (located step_text from steps))) (from + length (flat_map step_text steps))
climbs_after low from s [] climbs = climbs_higher low from (from + 0) (all_spots s) (omega arith) climbs
climbs_after low from s (x ∷ xs) climbs =
    let to : ℕ = from + length (step_text x) in
    let more = length-append (step_text x) (flat_map step_text xs) in
    let last = next s (from, x) in
    climbs_higher low (to + length (flat_map step_text xs)) (from + length (step_text x ++ flat_map step_text xs))
    (all_spots (state_after last (located step_text to xs))) (omega arith)
    (climbs_after low to last xs (climbs_next low from to s x (has_text from x) climbs))

-- ---- sections

-- the bytes of the first of some sections
abbrev prefix : ℕ → ℕ → List (List Step) → ℕ
prefix n e sections = length (flat_map section_text (take e (enumerate_from n sections)))

prefix_more : (n e : ℕ) (sections : List (List Step)) → e < length sections → prefix n (suc e) sections
    ≡ prefix n e sections + length (section_text (n + e, slice_index_or sections e []))
prefix_more n e [] lt = absurd (omega (arith, lt))
prefix_more n zero (s ∷ sections) lt =
    let same : n + 0 ≡ n = omega arith in
    let one : length (section_text (n + 0, s)) ≡ length (section_text (n, s)) =
    ap (λ (m : ℕ). length (section_text (m, s))) same in
    omega (arith, one, length-append (section_text (n, s)) [])
prefix_more n (suc e) (s ∷ sections) lt =
    let same : n + suc e ≡ n + 1 + e = omega arith in
    let one : length (section_text (n + suc e, slice_index_or sections e []))
    ≡ length (section_text (n + 1 + e, slice_index_or sections e [])) =
    ap (λ (m : ℕ). length (section_text (m, slice_index_or sections e []))) same in
    let later = prefix_more (n + 1) e sections (omega (arith, lt)) in
    omega (
      arith,
      one,
      later,
      length-append (section_text (n, s)) (flat_map section_text (take (suc e) (enumerate_from (n + 1) sections))),
      length-append (section_text (n, s)) (flat_map section_text (take e (enumerate_from (n + 1) sections))),
    )

prefix_rises : (n e : ℕ) (sections : List (List Step)) → prefix n e sections ≤ prefix n (suc e) sections
prefix_rises n zero sections = omega arith
prefix_rises n (suc e) [] = omega arith
prefix_rises n (suc e) (s ∷ sections) =
    let later = prefix_rises (n + 1) e sections in
    omega (
      arith,
      later,
      length-append (section_text (n, s)) (flat_map section_text (take (suc e) (enumerate_from (n + 1) sections))),
      length-append (section_text (n, s)) (flat_map section_text (take e (enumerate_from (n + 1) sections))),
    )

-- a section begins where the one before it ends, or later
starts_rise : (t : Trace) (e : ℕ) → section_start t e ≤ section_start t (suc e)
starts_rise t e = let rise = prefix_rises 0 e t.sections in omega arith

starts_rise_by : (t : Trace) (e more : ℕ) → section_start t e ≤ section_start t (e + more)
starts_rise_by t e zero = let same : e + 0 ≡ e = omega arith in
    let is : section_start t (e + 0) ≡ section_start t e = ap (section_start t) same in omega arith
starts_rise_by t e (suc more) =
    let same : e + suc more ≡ suc (e + more) = omega arith in
    let is : section_start t (e + suc more) ≡ section_start t (suc (e + more)) = ap (section_start t) same in
    let one = starts_rise_by t e more in
    let two = starts_rise t (e + more) in
    omega arith

starts_behind : (t : Trace) (e i : ℕ) → e < i → section_start t (suc e) ≤ section_start t i
starts_behind t e i lt =
    let same : suc e + (i - suc e) ≡ i = omega (arith, lt) in
    let is : section_start t (suc e + (i - suc e)) ≡ section_start t i = ap (section_start t) same in
    let rise = starts_rise_by t (suc e) (i - suc e) in
    omega arith

-- a replica that is not there reached nothing
pub none_there : (t : Trace) (e : ℕ) → length t.sections ≤ e → (history t e).ways_reached ≡ []
unfolding history
none_there t e past = ap (λ (xs : List (ℕ × Step)). (state_after start xs).ways_reached) (none_at t e past)

section_climbs : (t : Trace) (e : ℕ) → Climbs (section_start t e) (spots (history t e).ways_reached)
    (section_start t (suc e))
unfolding history steps_at
section_climbs t e = elim (cases_lt e (length t.sections)) [
  | inl lt ↦
      let head : ℕ = length (frame_text (OfReplica e)) in
      let from : ℕ = section_start t e + head in
      let steps = steps_of t e in
      let end : ℕ = from + length (flat_map step_text steps) in
      let last = state_after start (located step_text from steps) in
      let here : 0 + e ≡ e = omega arith in
      let more = prefix_more 0 e t.sections lt in
      let own : length (section_text (0 + e, steps)) ≡ length (section_text (e, steps)) =
      ap (λ (m : ℕ). length (section_text (m, steps))) here in
      let is = section_is e steps in
      let at_start : Climbs from (all_spots start) from = omega arith in
      climbs_higher (section_start t e) end (section_start t (suc e)) (spots last.ways_reached) (omega arith)
      (climbs_lower from end (section_start t e) (spots last.ways_reached) (omega arith)
      (climbs_prefix from end (spots last.ways_reached) (map (λ (p : Placed). p.offset) last.pending)
      (climbs_after from from start steps at_start)))
  | inr past ↦
      subst (λ (ls : List HowReached). Climbs (section_start t e) (spots ls) (section_start t (suc e)))
      (sym (none_there t e past)) (starts_rise t e)
]

-- ---- one number, and two

lies_between : (low high : ℕ) (ls : List HowReached) (n at : ℕ) (l : HowReached) → Climbs low (spots ls) high
    → slice_get ls n ≡ Some l → offset_of l ≡ Some at → (low ≤ at) × (at < high)
lies_between low high [] n at l climbs is offset = none≢some l is
lies_between low high (k ∷ ls) zero at l climbs is offset =
    by k climbs (ap offset_of (same_Some k l is) ∙ offset)
  where
    by : (k : HowReached) → Climbs low (spots (k ∷ ls)) high → offset_of k ≡ Some at → (low ≤ at) × (at < high)
    by (ByAttempt p) own here =
        let same : p.offset ≡ at = same_Some p.offset at here in
        let up = climbs_up (suc p.offset) high (spots ls) own.1 in
        let first = own.0 in
        (omega arith, omega arith)
    by (ByTransfer o x) own here =
        let same : o ≡ at = same_Some o at here in
        let up = climbs_up (suc o) high (spots ls) own.1 in
        let first = own.0 in
        (omega arith, omega arith)
    by Skipped own here = none≢some at here
lies_between low high (ByAttempt p ∷ ls) (suc n) at l climbs is offset =
    let rest = lies_between (suc p.offset) high ls n at l climbs.1 is offset in
    let first = climbs.0 in
    let later = rest.0 in
    (omega arith, rest.1)
lies_between low high (ByTransfer o x ∷ ls) (suc n) at l climbs is offset =
    let rest = lies_between (suc o) high ls n at l climbs.1 is offset in
    let first = climbs.0 in
    let later = rest.0 in
    (omega arith, rest.1)
lies_between low high (Skipped ∷ ls) (suc n) at l climbs is offset = lies_between low high ls n at l climbs is offset

lies_before : (low high : ℕ) (ls : List HowReached) (m n o q : ℕ) (l k : HowReached) → Climbs low (spots ls) high
    → slice_get ls m ≡ Some l → slice_get ls n ≡ Some k → offset_of l ≡ Some o → offset_of k ≡ Some q → m < n → o < q
lies_before low high [] m n o q l k climbs own its at also lt = none≢some l own
lies_before low high (j ∷ ls) m zero o q l k climbs own its at also lt = absurd (omega arith)
lies_before low high (j ∷ ls) zero (suc n) o q l k climbs own its at also lt =
    by j climbs (ap offset_of (same_Some j l own) ∙ at)
  where
    by : (j : HowReached) → Climbs low (spots (j ∷ ls)) high → offset_of j ≡ Some o → o < q
    by (ByAttempt p) here is =
        let same : p.offset ≡ o = same_Some p.offset o is in
        let later = (lies_between (suc p.offset) high ls n q k here.1 its also).0 in
        omega arith
    by (ByTransfer a x) here is =
        let same : a ≡ o = same_Some a o is in
        let later = (lies_between (suc a) high ls n q k here.1 its also).0 in
        omega arith
    by Skipped here is = none≢some o is
lies_before low high (ByAttempt p ∷ ls) (suc m) (suc n) o q l k climbs own its at also lt =
    lies_before (suc p.offset) high ls m n o q l k climbs.1 own its at also (omega arith)
lies_before low high (ByTransfer a x ∷ ls) (suc m) (suc n) o q l k climbs own its at also lt =
    lies_before (suc a) high ls m n o q l k climbs.1 own its at also (omega arith)
lies_before low high (Skipped ∷ ls) (suc m) (suc n) o q l k climbs own its at also lt =
    lies_before low high ls m n o q l k climbs own its at also (omega arith)

-- in one section the frames stand in the order of their numbers
pub ways_reached_rise : (t : Trace) (e m n o q : ℕ) (l k : HowReached) → how_reached_at t e m ≡ Some l
    → how_reached_at t e n ≡ Some k
    → offset_of l ≡ Some o → offset_of k ≡ Some q → m < n → o < q
ways_reached_rise t e zero n o q l k own its at also lt = none≢some l own
ways_reached_rise t e (suc m) zero o q l k own its at also lt = none≢some k its
ways_reached_rise t e (suc m) (suc n) o q l k own its at also lt =
    lies_before (section_start t e) (section_start t (suc e)) (history t e).ways_reached m n o q l k
    (section_climbs t e)
    own its at also (omega arith)

lies_in : (t : Trace) (e n at : ℕ) (l : HowReached) → how_reached_at t e n ≡ Some l → offset_of l ≡ Some at
    → (section_start t e ≤ at) × (at < section_start t (suc e))
lies_in t e zero at l own offset = none≢some l own
lies_in t e (suc n) at l own offset =
    lies_between (section_start t e) (section_start t (suc e)) (history t e).ways_reached n at l (section_climbs t e)
    own
    offset

-- and those of a later replica behind them
pub sections_rise : (t : Trace) (e i m n o q : ℕ) (l k : HowReached) → how_reached_at t e m ≡ Some l
    → how_reached_at t i n ≡ Some k → offset_of l ≡ Some o → offset_of k ≡ Some q → e < i → o < q
sections_rise t e i m n o q l k own its at also lt =
    let one = (lies_in t e m o l own at).1 in
    let two = (lies_in t i n q k its also).0 in
    let between = starts_behind t e i lt in
    omega arith
