-- Frames, one after the other.
use Rattle.std.proofs.Common.{◌≡◌, ℕ, suc, ◌+◌, ◌-◌, ◌<◌, ◌≤◌, Bool, true, false, ◌&&◌, eqb, List, [], ◌∷◌, ◌++◌}
use Rattle.std.proofs.Common.{length, Ok, Err, refl, sym, ap, subst, ◌∙◌, append_assoc, zero-add, arith}
use Rattle.std.specs.Prelude.{IsTrue, slice_index}
use Rattle.std.proofs.lemmas.Bool.{eqb-true}
use Rattle.std.proofs.lemmas.List.{length-append, append-nil, nil_from_length}
use Rattle.std.proofs.lemmas.List.Concat.{flat_map-append}
use Rattle.eve_grammar.specs.Frames.{Frame, start_place, next_place, kind_of}
use Rattle.eve_grammar.specs.Spelling.{frame_text, frames_text}
use Rattle.eve_grammar.specs.Limits.{is_head, FitsAt}
use Rattle.eve_grammar.specs.FrameOrder.{Follow, after, AreAllFrames}
use Rattle.eve_views.specs.declared.fault.Code.{Code}
use Rattle.eve_views.specs.declared.fault.Code.TheVariants as code
use Rattle.eve_views.specs.Walk.{frame_at, Walked, with_frame, walk_on, walk, frames_in}
use Rattle.eve_grammar.proofs.Codec.{IsBytes}
use Rattle.eve_views.proofs.Bytes.{IsBytes-behind}
use Rattle.eve_views.proofs.FrameLaws.{StandsHere, frame_again, frame_stands, Framed-from, true_false}
use Rattle.eve_grammar.proofs.FramePlaces.{not_ended}
use Rattle.eve_grammar.specs.declared.head.Head.{Head}
use Rattle.eve_grammar.specs.declared.place.Place.{Place}

abbrev pub with_prefix : List Frame → Walked → Walked
with_prefix [] r = r
with_prefix (f ∷ fs) r = with_frame f (with_prefix fs r)

walk_step : (n : ℕ) (h : Head) (p : Place) (bytes : List ℕ) → p.ended ≡ false → walk (suc n) h p bytes
    ≡ walk_on bytes (frame_at h p bytes) (λ f rest. walk n h (next_place p f) rest)
unfolding walk
walk_step n h p bytes is_open = rw is_open refl

pub walk_prefix : (prefix : List Frame) (n : ℕ) (h : Head) (p : Place) (rest : List ℕ) → IsTrue (is_head h)
    → Follow h p prefix
    → walk (length prefix + n) h p (frames_text prefix ++ rest) ≡ with_prefix prefix (walk n h (after p prefix) rest)
walk_prefix [] n h p rest right follow = ap (λ (m : ℕ). walk m h p rest) (zero-add n)
walk_prefix (f ∷ fs) n h p rest right follow =
    let fuel : suc (length fs) + n ≡ suc (length fs + n) = omega arith in
    let regrouped : frames_text (f ∷ fs) ++ rest ≡ frame_text f ++ (frames_text fs ++ rest) =
    append_assoc (frame_text f) (frames_text fs) rest in
    let is_open = not_ended h p (kind_of f) follow.0.allowed in
    let one = walk_step (length fs + n) h p (frame_text f ++ (frames_text fs ++ rest)) is_open in
    let read = frame_again h p f (frames_text fs ++ rest) right follow.0 in
    let stepped : walk_on (frame_text f ++ (frames_text fs ++ rest))
    (frame_at h p (frame_text f ++ (frames_text fs ++ rest))) (λ f rest. walk (length fs + n) h (next_place p f) rest)
    ≡ with_frame f (walk (length fs + n) h (next_place p f) (frames_text fs ++ rest)) =
    ap (λ r. walk_on (frame_text f ++ (frames_text fs ++ rest)) r
    (λ f rest. walk (length fs + n) h (next_place p f) rest)) read
    in
    ap (λ (m : ℕ). walk m h p (frames_text (f ∷ fs) ++ rest)) fuel ∙ ap (walk (suc (length fs + n)) h p) regrouped ∙ one
    ∙ stepped ∙ ap (with_frame f) (walk_prefix fs n h (next_place p f) rest right follow.1)

prefix_ok : (prefix : List Frame) → with_prefix prefix (Ok []) ≡ Ok prefix
prefix_ok [] = refl
prefix_ok (f ∷ fs) = ap (with_frame f) (prefix_ok fs)

abbrev pub stopped : Code → List ℕ → Walked
stopped c rest = Err (c, rest)

prefix_err : (prefix : List Frame) (c : Code) (rest : List ℕ) → with_prefix prefix (stopped c rest) ≡ stopped c rest
prefix_err [] c rest = refl
prefix_err (f ∷ fs) c rest = ap (with_frame f) (prefix_err fs c rest)

walk_end : (n : ℕ) (h : Head) (p : Place) → IsTrue p.ended → walk (suc n) h p [] ≡ Ok []
unfolding walk
walk_end n h p ended = let e : p.ended ≡ true = ended in rw e refl

-- what is spelled is read
pub walk_again : (fs : List Frame) (n : ℕ) (h : Head) (p : Place) → IsTrue (is_head h) → Follow h p fs
    → IsTrue (after p fs).ended → length fs < n → walk n h p (frames_text fs) ≡ Ok fs
walk_again fs n h p right follow ended lt =
    let fuel : n ≡ length fs + suc (n - suc (length fs)) = omega arith in
    ap (λ (m : ℕ). walk m h p (frames_text fs)) fuel
    ∙ ap (walk (length fs + suc (n - suc (length fs))) h p) (sym (append-nil (frames_text fs)))
    ∙ walk_prefix fs (suc (n - suc (length fs))) h p [] right follow
    ∙ ap (with_prefix fs) (walk_end (n - suc (length fs)) h (after p fs) ended)
    ∙ prefix_ok fs

-- each frame takes bytes
pub prefix_short : (fs : List Frame) → length fs ≤ length (frames_text fs)
prefix_short [] = omega arith
prefix_short (f ∷ fs) = omega (arith, prefix_short fs, length-append (frame_text f) (frames_text fs))

-- the frames that the bytes spell are the ones that are found
pub run_read : (h : Head) (fs : List Frame) → IsTrue (is_head h) → AreAllFrames h fs → frames_in h (frames_text fs) ≡ fs
unfolding frames_in
run_read h fs right run =
    let e : walk (suc (length (frames_text fs))) h start_place (frames_text fs) ≡ Ok fs =
    walk_again fs (suc (length (frames_text fs))) h start_place right run.follow run.ended
    (omega (arith, prefix_short fs))
    in
    rw e refl

-- ---- faults

not_over : (b c : Bool) → (b ≡ true → c ≡ true → ⊥) → (b && c) ≡ false
not_over true true h = absurd (h refl refl)
not_over true false h = refl
not_over false c h = refl

goes_on : (c : Code) (h : Head) (p : Place) (rest : List ℕ) → StandsHere c h p rest → (p.ended && eqb (length rest) 0)
    ≡ false
goes_on code.Frame h p rest s = not_over p.ended (eqb (length rest) 0)
    (λ ended nothing. s.more ended (nil_from_length rest (eqb-true _ _ nothing)))
goes_on code.Body h p rest s =
    let f = Framed-from h p rest s.framed in
    let is_open = not_ended h p (slice_index rest 0) f.allowed in
    not_over p.ended (eqb (length rest) 0) (λ ended nothing. true_false p.ended ended is_open)
goes_on c h p rest s = absurd s

walk_stop : (n : ℕ) (c : Code) (h : Head) (p : Place) (rest : List ℕ) → (p.ended && eqb (length rest) 0) ≡ false
    → frame_at h p rest ≡ Err c → walk (suc n) h p rest ≡ stopped c rest
unfolding walk
walk_stop n c h p rest on e = rw (on, e) refl

-- frames that may stand where they stand, and after them a fault
pub record StandsBehind (c : Code) (h : Head) (bytes rest : List ℕ) : Type 0 where
  pub prefix : List Frame
  pub right : Follow h start_place prefix
  pub before : bytes ≡ frames_text prefix ++ rest
  pub here : StandsHere c h (after start_place prefix) rest

-- a fault that stands is found
pub walk_fault : (c : Code) (n : ℕ) (h : Head) (bytes rest : List ℕ) → IsTrue (is_head h) → IsBytes bytes
    → length bytes < n → StandsBehind c h bytes rest → walk n h start_place bytes ≡ stopped c rest
walk_fault c n h bytes rest right fits lt s =
    let m = n - suc (length s.prefix) in
    let short : length s.prefix < n =
    omega (arith, prefix_short s.prefix, ap length s.before, length-append (frames_text s.prefix) rest) in
    let fuel : n ≡ length s.prefix + suc m = omega arith in
    let rest_fits : IsBytes rest = IsBytes-behind (frames_text s.prefix) rest (subst IsBytes s.before fits) in
    let here = frame_stands c h (after start_place s.prefix) rest right rest_fits s.here in
    ap (λ (k : ℕ). walk k h start_place bytes) fuel
    ∙ ap (walk (length s.prefix + suc m) h start_place) s.before
    ∙ walk_prefix s.prefix (suc m) h start_place rest right s.right
    ∙ ap (with_prefix s.prefix)
    (walk_stop m c h (after start_place s.prefix) rest (goes_on c h (after start_place s.prefix) rest s.here) here)
    ∙ prefix_err s.prefix c rest

-- ---- one more frame

pub follow_more : (fs : List Frame) (h : Head) (p : Place) (f : Frame) → Follow h p fs → FitsAt h (after p fs) f
    → Follow h p (fs ++ f ∷ [])
follow_more [] h p f follow fits = (fits, tt)
follow_more (g ∷ fs) h p f follow fits = (follow.0, follow_more fs h (next_place p g) f follow.1 fits)

pub after_more : (fs : List Frame) (p : Place) (f : Frame) → after p (fs ++ f ∷ []) ≡ next_place (after p fs) f
after_more [] p f = refl
after_more (g ∷ fs) p f = after_more fs (next_place p g) f

pub text_more : (fs : List Frame) (f : Frame) → frames_text (fs ++ f ∷ []) ≡ frames_text fs ++ frame_text f
text_more fs f = flat_map-append frame_text fs (f ∷ [])
    ∙ ap (λ (b : List ℕ). frames_text fs ++ b) (append-nil (frame_text f))
