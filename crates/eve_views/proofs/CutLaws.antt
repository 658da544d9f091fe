-- Public: other crates cite these lemmas. Sections and verifiers' parts, cut out of a trace's frames, and the steps of
-- a section.
use Rattle.std.proofs.Common.{◌≡◌, ℕ, zero, suc, ◌+◌, ◌-◌, ◌<◌, ◌≤◌, Bool, true, false, List, [], ◌∷◌, ◌++◌, map}
use Rattle.std.proofs.Common.{length, get_or, take, drop, refl, sym, ap, ◌∙◌, append_assoc, append-nil, arith}
use Rattle.std.specs.Prelude.{IsTrue, ◌&&◌}
use Rattle.std.specs.List.{flat_map, list_all, enumerate_from}
use Rattle.std.proofs.lemmas.List.{length-append, length-map, take-append-drop, take_at, drop_at}
use Rattle.std.proofs.lemmas.List.FromFn.{length-enumerate_from, get_or-enumerate_from}
use Rattle.std.proofs.lemmas.Grind.{flat_map-append}
use Rattle.std.proofs.Math.Seq.{take-suc, drop-cons}
use Rattle.eve_grammar.specs.Trace.{Trace, head_of}
use Rattle.eve_grammar.specs.Frames.{Frame, OfReplica, OfVerifier, OfVote, step_frames, section_frames, verifier_frames}
use Rattle.eve_grammar.specs.Frames.{frames_of}
use Rattle.eve_grammar.specs.Spelling.{frame_text, frames_text, located, steps_of, steps_at, votes_of, votes_at}
use Rattle.eve_grammar.specs.Spelling.{section_start, verifier_start, step_text, length_of}
use Rattle.eve_grammar.specs.Limits.{HasLimits, is_vote, is_step, row_count}
use Rattle.eve_grammar.specs.GatheredTraces.{Gathered, nothing, gathered}
use Rattle.eve_grammar.proofs.Gatherings.{gathered-steps, with_steps}
use Rattle.eve_grammar.specs.declared.limits.TheConstants.{MOST_ROWS, MOST_BATCHES}
use Rattle.eve_views.specs.inner.FramesBefore.{before_sections, before_section, before_verifiers, before_verifier}
use Rattle.eve_views.specs.Parts.{byte_of, frames_between, votes_between, steps_between, AreVotes, AreSteps}
use Rattle.eve_views.proofs.NumberedFrames.{frames_from_sections, frames_from_verifiers}
use Rattle.eve_views.proofs.FrameOffsets.{length-frames_text, section_begins, verifier_begins}
use Rattle.eve_views.proofs.PartLaws.{votes_are}
use Rattle.eve_views.proofs.WalkLaws.{prefix_short}

-- ---- the k-th of numbered parts

-- what stands before the next one, and the whole
record IsCut {X : Type 0} (frames : ℕ × X → List Frame) (xs : List X) (k : ℕ) (x : X) : Type 0 where
  rest : List Frame
  next : flat_map frames (take (suc k) (enumerate_from 0 xs)) ≡ flat_map frames (take k (enumerate_from 0 xs)) ++ frames
      (k, x)
  all : flat_map frames (enumerate_from 0 xs) ≡ flat_map frames (take k (enumerate_from 0 xs)) ++
      (frames (k, x) ++ rest)

cut_part : {X : Type 0} (frames : ℕ × X → List Frame) (xs : List X) (k : ℕ) (d : X) → k < length xs
    → IsCut frames xs k (get_or xs k d)
cut_part {X = X} frames xs k d lt =
    let numbered = enumerate_from 0 xs in
    let none : ℕ × X = (0, d) in
    let here : ℕ × X = (k, get_or xs k d) in
    let long : k < length numbered = omega (arith, lt, length-enumerate_from 0 xs) in
    let is : get_or numbered k none ≡ here = get_or-enumerate_from 0 xs k none lt
    ∙ (let same : 0 + k ≡ k = omega arith in ap (λ (n : ℕ). (n, get_or xs k d)) same) in
    let later : List Frame = flat_map frames (drop (suc k) numbered) in
    let tail : drop k numbered ≡ here ∷ drop (suc k) numbered = drop-cons numbered k none long
    ∙ ap (λ (x : ℕ × X). x ∷ drop (suc k) numbered) is in
    let prefix : take (suc k) numbered ≡ take k numbered ++ here ∷ [] = take-suc numbered k none long
    ∙ ap (λ (x : ℕ × X). take k numbered ++ x ∷ []) is in
    record {
      rest = later;
      next = ap (flat_map frames) prefix ∙ flat_map-append frames (take k numbered) (here ∷ [])
          ∙ ap (λ (fs : List Frame). flat_map frames (take k numbered) ++ fs) (append-nil (frames here));
      all = ap (flat_map frames)
          (sym (take-append-drop k numbered) ∙ ap (λ (ys : List (ℕ × X)). take k numbered ++ ys) tail)
          ∙ flat_map-append frames (take k numbered) (here ∷ drop (suc k) numbered);
    }

-- ---- a section

-- a part after its own first frame: what stands before it, the part, and what stands after
pub record IsPart (fs before part next : List Frame) (first : Frame) : Type 0 where
  pub rest : List Frame
  pub whole : fs ≡ before ++ (first ∷ (part ++ rest))
  pub next_is : next ≡ before ++ (first ∷ part)

-- the k-th of numbered parts, each of which begins with a frame of its own
part_cut : {X : Type 0} (frames : ℕ × X → List Frame) (xs : List X) (k : ℕ) (d : X) (fs prefix others part : List Frame)
    (first : Frame) → k < length xs → fs ≡ prefix ++ (flat_map frames (enumerate_from 0 xs) ++ others)
    → frames (k, get_or xs k d) ≡ first ∷ part
    → IsPart fs (prefix ++ flat_map frames (take k (enumerate_from 0 xs))) part
    (prefix ++ flat_map frames (take (suc k) (enumerate_from 0 xs))) first
part_cut frames xs k d fs prefix others part first lt split is =
    let cut = cut_part frames xs k d lt in
    let own = flat_map frames (take k (enumerate_from 0 xs)) in
    record {
      rest = cut.rest ++ others;
      whole = split
          ∙ ap (λ (gs : List Frame). prefix ++ (gs ++ others))
          (cut.all ∙ ap (λ (gs : List Frame). own ++ (gs ++ cut.rest)) is)
          ∙ ap (λ (gs : List Frame). prefix ++ gs)
          (append_assoc own (first ∷ (part ++ cut.rest)) others
          ∙ ap (λ (gs : List Frame). own ++ gs) (append_assoc (first ∷ part) cut.rest others))
          ∙ sym (append_assoc prefix own (first ∷ (part ++ (cut.rest ++ others))));
      next_is = ap (λ (gs : List Frame). prefix ++ gs) (cut.next ∙ ap (λ (gs : List Frame). own ++ gs) is)
          ∙ sym (append_assoc prefix own (first ∷ part));
    }

pub section_cut : (t : Trace) (e : ℕ) → e < length t.sections
    → IsPart (frames_of t) (before_section t e) (flat_map step_frames (steps_of t e)) (before_section t (suc e))
    (OfReplica e)
unfolding before_section
section_cut t e lt = part_cut section_frames t.sections e [] (frames_of t) (before_sections t) _
    (flat_map step_frames (steps_of t e)) (OfReplica e) lt (frames_from_sections t) refl

pub verifier_cut : (t : Trace) (v : ℕ) → v < length t.verifiers
    → IsPart (frames_of t) (before_verifier t v) (map OfVote (votes_of t v)) (before_verifier t (suc v)) (OfVerifier v)
unfolding before_verifier
verifier_cut t v lt = part_cut verifier_frames t.verifiers v [] (frames_of t) (before_verifiers t) _
    (map OfVote (votes_of t v)) (OfVerifier v) lt (frames_from_verifiers t) refl

-- a verifier has no more votes than the trace has bytes
pub few_votes : (t : Trace) (v : ℕ) → v < length t.verifiers → length (votes_of t v) ≤ length_of t
unfolding length_of
few_votes t v lt =
    let cut = verifier_cut t v lt in
    let part = map OfVote (votes_of t v) in
    omega (
      arith,
      ap length cut.whole,
      length-append (before_verifier t v) (OfVerifier v ∷ (part ++ cut.rest)),
      length-append part cut.rest,
      length-map (votes_of t v) OfVote,
      prefix_short (frames_of t),
    )

-- the same by numbers of frames
pub record IsBetween (fs part : List Frame) (from to : ℕ) : Type 0 where
  pub up : from ≤ to
  pub within : to ≤ length fs
  pub there : frames_between fs from (to - from) ≡ part
  pub many : to - from ≡ length part

pub between : (fs before part next : List Frame) (first : Frame) (from to : ℕ) → IsPart fs before part next first
    → from ≡ length before + 1 → to ≡ length next → IsBetween fs part from to
between fs before part next first from to p at_from at_to =
    let prefix : List Frame = before ++ first ∷ [] in
    let wide : length prefix ≡ from = omega (arith, at_from, length-append before (first ∷ [])) in
    let cut : fs ≡ prefix ++ (part ++ p.rest) = p.whole ∙ sym (append_assoc before (first ∷ []) (part ++ p.rest)) in
    let behind : drop from fs ≡ part ++ p.rest = ap (drop from) cut ∙ drop_at prefix (part ++ p.rest) from wide in
    let ends : to ≡ from + length part =
    omega (arith, at_from, at_to, ap length p.next_is, length-append before (first ∷ part)) in
    let many : to - from ≡ length part = omega (arith, ends) in
    let long : length fs ≡ from + (length part + length p.rest) =
    omega (arith, ap length cut, wide, length-append prefix (part ++ p.rest), length-append part p.rest) in
    record {
      up = omega (arith, ends);
      within = omega (arith, ends, long);
      there = ap (take (to - from)) behind ∙ take_at part p.rest (to - from) (sym many);
      many = many;
    }

-- the byte after a part's first frame
pub byte_behind : (fs before part next : List Frame) (first : Frame) (from : ℕ) → IsPart fs before part next first
    → from ≡ length before + 1
    → byte_of fs from ≡ 32 + length (frames_text before) + length (frame_text first)
byte_behind fs before part next first from p at_from =
    let prefix : List Frame = before ++ first ∷ [] in
    let wide : length prefix ≡ from = omega (arith, at_from, length-append before (first ∷ [])) in
    let cut : fs ≡ prefix ++ (part ++ p.rest) = p.whole ∙ sym (append_assoc before (first ∷ []) (part ++ p.rest)) in
    let prefix_is : take from fs ≡ prefix = ap (take from) cut ∙ take_at prefix (part ++ p.rest) from wide in
    omega (
      arith,
      ap (λ (gs : List Frame). length (frames_text gs)) prefix_is,
      length-frames_text before (first ∷ []),
      length-append (frame_text first) [],
    )

-- ---- votes of a verifier

all_of : {X : Type 0} (test : X → Bool) (xs : List (List X)) (k : ℕ) → IsTrue (list_all (list_all test) xs)
    → k < length xs → IsTrue (list_all test (get_or xs k []))
all_of test [] k all lt = absurd (omega arith)
all_of test (x ∷ xs) zero all lt = and_first (list_all test x) (list_all (list_all test) xs) all
  where
    and_first : (a b : Bool) → IsTrue (a && b) → IsTrue a
    and_first true b t = refl
    and_first false b t = absurd cc
all_of test (x ∷ xs) (suc k) all lt = all_of test xs k (and_second (list_all test x) (list_all (list_all test) xs) all)
    (omega arith)
  where
    and_second : (a b : Bool) → IsTrue (a && b) → IsTrue b
    and_second true b t = t
    and_second false b t = absurd cc

pub votes_cut : (t : Trace) (v from to : ℕ) → HasLimits t → length t.batches ≤ MOST_BATCHES → v < length t.verifiers
    → from ≡ length (before_verifier t v) + 1 → to ≡ length (before_verifier t (suc v))
    → AreVotes (frames_of t) from to
votes_cut t v from to limits few lt at_from at_to =
    let b = between (frames_of t) (before_verifier t v) (map OfVote (votes_of t v)) (before_verifier t (suc v))
    (OfVerifier v) from to (verifier_cut t v lt) at_from at_to in
    record {
      items = votes_of t v;
      count = length t.batches;
      few = few;
      right = all_of (is_vote (length t.batches)) t.verifiers v limits.votes lt;
      many = sym (b.many ∙ length-map (votes_of t v) OfVote);
      up = b.up;
      within = b.within;
      there = b.there;
    }

pub votes_are_there : (t : Trace) (v from to : ℕ) → HasLimits t → length t.batches ≤ MOST_BATCHES
    → (lt : v < length t.verifiers) → from ≡ length (before_verifier t v) + 1 → to ≡ length (before_verifier t (suc v))
    → votes_between (frames_of t) from (to - from) ≡ votes_at t v
unfolding votes_at votes_cut
votes_are_there t v from to limits few lt at_from at_to =
    let cut = verifier_cut t v lt in
    let at : byte_of (frames_of t) from ≡ verifier_start t v + length (frame_text (OfVerifier v)) =
    byte_behind (frames_of t) (before_verifier t v) (map OfVote (votes_of t v)) (before_verifier t (suc v))
    (OfVerifier v) from cut at_from
    ∙ ap (λ (n : ℕ). n + length (frame_text (OfVerifier v))) (verifier_begins t v) in
    votes_are (frames_of t) from to (votes_cut t v from to limits few lt at_from at_to)
    ∙ ap (λ (n : ℕ). located (λ w. frame_text (OfVote w)) n (votes_of t v)) at

-- ---- steps of a section

pub steps_are : (fs : List Frame) (from to : ℕ) (are : AreSteps fs from to) → steps_between fs from (to - from)
    ≡ located step_text (byte_of fs from) are.steps
unfolding steps_between
steps_are fs from to are =
    let own : gathered (flat_map step_frames are.steps ++ []) ≡ with_steps nothing are.steps =
    gathered-steps are.steps [] nothing refl in
    let all : (gathered (frames_between fs from (to - from))).steps ≡ are.steps =
    ap (λ (gs : List Frame). (gathered gs).steps) (are.there ∙ sym (append-nil (flat_map step_frames are.steps)))
    ∙ ap (λ (g : Gathered). g.steps) own in
    ap (located step_text (byte_of fs from)) all

pub steps_cut : (t : Trace) (e from to : ℕ) → HasLimits t → row_count (head_of t) ≤ MOST_ROWS → e < length t.sections
    → from ≡ length (before_section t e) + 1 → to ≡ length (before_section t (suc e))
    → AreSteps (frames_of t) from to
steps_cut t e from to limits few lt at_from at_to =
    let b = between (frames_of t) (before_section t e) (flat_map step_frames (steps_of t e)) (before_section t (suc e))
    (OfReplica e) from to (section_cut t e lt) at_from at_to in
    record {
      steps = steps_of t e;
      rows = row_count (head_of t);
      few = few;
      right = all_of (is_step (row_count (head_of t))) t.sections e limits.sections lt;
      up = b.up;
      within = b.within;
      there = b.there;
    }

pub steps_are_there : (t : Trace) (e from to : ℕ) → HasLimits t → row_count (head_of t) ≤ MOST_ROWS
    → (lt : e < length t.sections) → from ≡ length (before_section t e) + 1 → to ≡ length (before_section t (suc e))
    → steps_between (frames_of t) from (to - from) ≡ steps_at t e
unfolding steps_at steps_cut
steps_are_there t e from to limits few lt at_from at_to =
    let cut = section_cut t e lt in
    let at : byte_of (frames_of t) from ≡ section_start t e + length (frame_text (OfReplica e)) =
    byte_behind (frames_of t) (before_section t e) (flat_map step_frames (steps_of t e)) (before_section t (suc e))
    (OfReplica e) from cut at_from
    ∙ ap (λ (n : ℕ). n + length (frame_text (OfReplica e))) (section_begins t e) in
    steps_are (frames_of t) from to (steps_cut t e from to limits few lt at_from at_to)
    ∙ ap (λ (n : ℕ). located step_text n (steps_of t e)) at
