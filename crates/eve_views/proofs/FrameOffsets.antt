-- Public: other crates cite these lemmas. Where the frames of one kind stand, by byte.
use Rattle.std.proofs.Common.{◌≡◌, ℕ, zero, suc, ◌+◌, ◌<◌, ◌≤◌, List, [], ◌∷◌, ◌++◌, map, length, get_or, take, drop}
use Rattle.std.proofs.Common.{Some, refl, sym, ap, ◌∙◌, append_assoc, arith}
use Rattle.std.specs.Prelude.{slice_get, option_map}
use Rattle.std.specs.List.{flat_map}
use Rattle.std.proofs.lemmas.List.{length-append, length-map, take-map, take_at, take-append-drop, drop_all}
use Rattle.std.proofs.lemmas.List.Folds.{flat_map-map}
use Rattle.std.proofs.lemmas.Grind.{flat_map-append}
use Rattle.std.proofs.Math.Seq.{take-append-add, take-suc, drop-cons}
use Rattle.std.proofs.lemmas.List.{take-append-le}
use Rattle.std.proofs.lemmas.Option.{slice_get-map, slice_get_within, get_or_from_slice_get}
use Rattle.std.proofs.lemmas.Option.{same_Some}
use Rattle.eve_grammar.specs.Trace.{Step, Trace}
use Rattle.eve_grammar.specs.Frames.{Frame, OfCustomer, OfBatch, OfReplica, step_frames, section_frames}
use Rattle.eve_grammar.specs.Frames.{verifier_frames, batches_of, sections_of, verifiers_of, frames_of}
use Rattle.eve_grammar.specs.Spelling.{frame_text, frames_text, located, frames_at, batch_text, step_text}
use Rattle.eve_grammar.specs.Spelling.{section_text, votes_text, batches_start, sections_start, section_start}
use Rattle.eve_grammar.specs.Spelling.{verifiers_start, verifier_start, sent_start}
use Rattle.eve_grammar.proofs.Lists.{item_within, slice_get-behind, slice_get-prefix}
use Rattle.eve_views.specs.inner.FramesBefore.{before_batches, before_sections, before_section, before_verifiers}
use Rattle.eve_views.specs.inner.FramesBefore.{before_verifier}
use Rattle.eve_views.specs.inner.FramesBefore.{before_sent}
use Rattle.eve_views.specs.Parts.{byte_of, frames_from}
use Rattle.eve_views.proofs.NumberedFrames.{sent_frames, frames_from_sections}

-- ---- located lists

-- an item with its byte offset
pub located-get : {A : Type 0} (text : A → List ℕ) (at : ℕ) (xs : List A) (i : ℕ) (x : A) → slice_get xs i ≡ Some x
    → slice_get (located text at xs) i ≡ Some (at + length (flat_map text (take i xs)), x)
located-get text at [] i x e = cc
located-get text at (y ∷ xs) zero x e =
    let same : y ≡ x = cc in
    let none : at ≡ at + 0 = omega arith in
    ap (λ z. Some (at, z)) same ∙ ap (λ (k : ℕ). Some (k, x)) none
located-get text at (y ∷ xs) (suc i) x e =
    let further : at + length (text y) + length (flat_map text (take i xs))
    ≡ at + length (text y ++ flat_map text (take i xs)) =
    omega (arith, length-append (text y) (flat_map text (take i xs))) in
    located-get text (at + length (text y)) xs i x e ∙ ap (λ (k : ℕ). Some (k, x)) further

pub length-located : {A : Type 0} (text : A → List ℕ) (at : ℕ) (xs : List A) → length (located text at xs) ≡ length xs
length-located text at [] = refl
length-located text at (x ∷ xs) = ap suc (length-located text (at + length (text x)) xs)

-- what is located at a place stands there in the list
pub located_get : {A : Type 0} (text : A → List ℕ) (at : ℕ) (xs : List A) (i : ℕ) (x : ℕ × A)
    → slice_get (located text at xs) i ≡ Some x → slice_get xs i ≡ Some x.1
located_get text at [] i x e = absurd cc
located_get {A} text at (y ∷ xs) zero x e = ap Some (ap (λ (u : ℕ × A). u.1) (same_Some (at, y) x e))
located_get text at (y ∷ xs) (suc i) x e = located_get text (at + length (text y)) xs i x e

-- Of the frames of one kind, after others, the i-th: what it says, and where it stands.
pub record IsPlaced {A : Type 0} (frame : A → Frame) (xs : List A) (i at offset : ℕ) (f : Frame) : Type 0 where
  pub item : A
  pub got : slice_get xs i ≡ Some item
  pub is : f ≡ frame item
  pub located_at : slice_get (located (λ x. frame_text (frame x)) at xs) i ≡ Some (offset, item)

pub placed : {A : Type 0} (frame : A → Frame) (before : List Frame) (xs : List A) (rest : List Frame) (i at offset : ℕ)
    (f : Frame) → i < length xs → at ≡ 32 + length (frames_text before)
    → slice_get (before ++ (map frame xs ++ rest)) (length before + i) ≡ Some f
    → offset ≡ 32 + length (frames_text (take (length before + i) (before ++ (map frame xs ++ rest))))
    → IsPlaced frame xs i at offset f
placed {A = A} frame before xs rest i at offset f lt begins got stands =
    let x = item_within xs i lt in
    let many : length (map frame xs) ≡ length xs = length-map xs frame in
    let own : slice_get (before ++ (map frame xs ++ rest)) (length before + i) ≡ slice_get (map frame xs) i =
    slice_get-behind before (map frame xs ++ rest) i
    ∙ slice_get-prefix (map frame xs) rest i (omega (arith, many, lt)) in
    let mapped : slice_get (map frame xs) i ≡ Some (frame x.0) = slice_get-map frame xs i ∙ ap (option_map frame) x.1 in
    let prefix : take (length before + i) (before ++ (map frame xs ++ rest)) ≡ before ++ map frame (take i xs) =
    take-append-add before (map frame xs ++ rest) i
    ∙ ap (λ (fs : List Frame). before ++ fs) (take-append-le i (map frame xs) rest (omega (arith, many, lt))
    ∙ take-map frame i xs) in
    let text : length (frames_text (before ++ map frame (take i xs))) ≡ length (frames_text before) + length
    (flat_map (λ y. frame_text (frame y)) (take i xs)) =
    ap length (flat_map-append frame_text before (map frame (take i xs)))
    ∙ length-append (frames_text before) (frames_text (map frame (take i xs)))
    ∙ ap (λ (bs : List ℕ). length (frames_text before) + length bs) (flat_map-map frame_text frame (take i xs)) in
    let there : at + length (flat_map (λ y. frame_text (frame y)) (take i xs)) ≡ offset =
    omega (arith, begins, stands, ap (λ (fs : List Frame). length (frames_text fs)) prefix, text) in
    record {
      item = x.0;
      got = x.1;
      is = same_Some f (frame x.0) (sym got ∙ own ∙ mapped);
      located_at = located-get (λ y. frame_text (frame y)) at xs i x.0 x.1 ∙ ap (λ (k : ℕ). Some (k, x.0)) there;
    }

-- ---- where the parts begin

-- the text of lists of frames, one after the other
pub frames_text-flat_map : {A : Type 0} (frames : A → List Frame) (xs : List A) → frames_text (flat_map frames xs)
    ≡ flat_map (λ x. frames_text (frames x)) xs
frames_text-flat_map frames [] = refl
frames_text-flat_map frames (x ∷ xs) = flat_map-append frame_text (frames x) (flat_map frames xs)
    ∙ ap (λ (bs : List ℕ). frames_text (frames x) ++ bs) (frames_text-flat_map frames xs)

-- how long a section is
pub section_is : (e : ℕ) (steps : List Step) → length (section_text (e, steps)) ≡ length (frame_text (OfReplica e))
    + length (flat_map step_text steps)
section_is e steps = length-append (frame_text (OfReplica e)) (frames_text (flat_map step_frames steps))
    ∙ ap (λ (bs : List ℕ). length (frame_text (OfReplica e)) + length bs) (frames_text-flat_map step_frames steps)

pub length-frames_text : (xs ys : List Frame) → length (frames_text (xs ++ ys))
    ≡ length (frames_text xs) + length (frames_text ys)
length-frames_text xs ys = ap length (flat_map-append frame_text xs ys)
    ∙ length-append (frames_text xs) (frames_text ys)

pub batches_begin : (t : Trace) → 32 + length (frames_text (before_batches t)) ≡ batches_start t
batches_begin t = ap (λ (bs : List ℕ). 32 + length bs) (flat_map-map frame_text OfCustomer t.customers)

-- behind frames that begin the trace
behind : (before own : List Frame) (at : ℕ) (text : List ℕ) → 32 + length (frames_text before) ≡ at
    → frames_text own ≡ text → 32 + length (frames_text (before ++ own)) ≡ at + length text
behind before own at text begins decoded = omega (arith, length-frames_text before own, begins, ap length decoded)

pub sections_begin : (t : Trace) → 32 + length (frames_text (before_sections t)) ≡ sections_start t
sections_begin t = behind (before_batches t) (map (λ b. OfBatch b.0 b.1) (batches_of t)) (batches_start t)
    (flat_map batch_text (batches_of t)) (batches_begin t)
    (flat_map-map frame_text (λ b. OfBatch b.0 b.1) (batches_of t))

pub section_begins : (t : Trace) (e : ℕ) → 32 + length (frames_text (before_section t e)) ≡ section_start t e
unfolding before_section
section_begins t e = behind (before_sections t) (flat_map section_frames (take e (sections_of t))) (sections_start t)
    (flat_map section_text (take e (sections_of t))) (sections_begin t)
    (frames_text-flat_map section_frames (take e (sections_of t)))

verifiers_begin : (t : Trace) → 32 + length (frames_text (before_verifiers t)) ≡ verifiers_start t
verifiers_begin t = behind (before_sections t) (flat_map section_frames (sections_of t)) (sections_start t)
    (flat_map section_text (sections_of t)) (sections_begin t) (frames_text-flat_map section_frames (sections_of t))

pub verifier_begins : (t : Trace) (v : ℕ) → 32 + length (frames_text (before_verifier t v)) ≡ verifier_start t v
unfolding before_verifier
verifier_begins t v = behind (before_verifiers t) (flat_map verifier_frames (take v (verifiers_of t)))
    (verifiers_start t) (flat_map votes_text (take v (verifiers_of t))) (verifiers_begin t)
    (frames_text-flat_map verifier_frames (take v (verifiers_of t)))

pub sent_begin : (t : Trace) → 32 + length (frames_text (before_sent t)) ≡ sent_start t
unfolding before_sent
sent_begin t = behind (before_verifiers t) (flat_map verifier_frames (verifiers_of t)) (verifiers_start t)
    (flat_map votes_text (verifiers_of t)) (verifiers_begin t) (frames_text-flat_map verifier_frames (verifiers_of t))

-- ---- all frames

pub all_from : (t : Trace) → frames_from (frames_of t) 0 ≡ frames_at t
unfolding frames_from frames_at
all_from t = refl

pub none_from : (fs : List Frame) (at : ℕ) → length fs ≤ at → frames_from fs at ≡ []
unfolding frames_from
none_from fs at le = ap (located frame_text (byte_of fs at)) (drop_all at fs le)

pub next_from : (fs : List Frame) (at : ℕ) (f : Frame) (offset : ℕ) → slice_get fs at ≡ Some f → offset ≡ byte_of fs at
    → frames_from fs at ≡ (offset, f) ∷ frames_from fs (at + 1)
unfolding frames_from
next_from fs at f offset got stands =
    let lt = slice_get_within fs at f got in
    let is : get_or fs at f ≡ f = get_or_from_slice_get fs at f f got in
    let more : at + 1 ≡ suc at = omega arith in
    let cut : drop at fs ≡ f ∷ drop (suc at) fs = drop-cons fs at f lt ∙ ap (λ (g : Frame). g ∷ drop (suc at) fs) is in
    let prefix : take (suc at) fs ≡ take at fs ++ f ∷ [] = take-suc fs at f lt
    ∙ ap (λ (g : Frame). take at fs ++ g ∷ []) is in
    let byte : byte_of fs at + length (frame_text f) ≡ byte_of fs (suc at) =
    omega (
      arith,
      ap (λ (gs : List Frame). length (frames_text gs)) prefix,
      length-frames_text (take at fs) (f ∷ []),
      length-append (frame_text f) [],
    ) in
    ap (located frame_text (byte_of fs at)) cut
    ∙ ap (λ (n : ℕ). (byte_of fs at, f) ∷ located frame_text n (drop (suc at) fs)) byte
    ∙ ap (λ (n : ℕ). (n, f) ∷ located frame_text (byte_of fs (suc at)) (drop (suc at) fs)) (sym stands)
    ∙ ap (λ (k : ℕ). (offset, f) ∷ located frame_text (byte_of fs k) (drop k fs)) (sym more)

-- ---- the prefix of a section

-- what stands before a section stands in front
pub section_prefix : (t : Trace) (e : ℕ) → (length (before_section t e) ≤ length (frames_of t))
    × (take (length (before_section t e)) (frames_of t) ≡ before_section t e)
unfolding before_section
section_prefix t e =
    let prefix = before_sections t in
    let own = flat_map section_frames (take e (sections_of t)) in
    let others = flat_map section_frames (drop e (sections_of t)) in
    let behind : List Frame = flat_map verifier_frames (verifiers_of t) ++ sent_frames t in
    let split : flat_map section_frames (sections_of t) ≡ own ++ others =
    ap (flat_map section_frames) (sym (take-append-drop e (sections_of t)))
    ∙ flat_map-append section_frames (take e (sections_of t)) (drop e (sections_of t)) in
    let all : frames_of t ≡ (prefix ++ own) ++ (others ++ behind) =
    frames_from_sections t ∙ ap (λ (fs : List Frame). prefix ++ (fs ++ behind)) split
    ∙ ap (λ (fs : List Frame). prefix ++ fs) (append_assoc own others behind)
    ∙ sym (append_assoc prefix own (others ++ behind)) in (
      omega (arith, ap length all, length-append (prefix ++ own) (others ++ behind)),
      ap (take (length (prefix ++ own))) all ∙ take_at (prefix ++ own) (others ++ behind) (length (prefix ++ own)) refl,
    )
