-- Bytes are the spelling of one trace at most.
use Rattle.std.proofs.Common.{◌≡◌, ℕ, ◌^◌, ◌<◌, Bool, true, false, List, [], ◌∷◌, ◌++◌, length, take, drop, Some, refl}
use Rattle.std.proofs.Common.{sym, ap, subst, ◌∙◌, append_assoc, arith}
use Rattle.std.specs.Prelude.{IsTrue, slice_index}
use Rattle.std.proofs.lemmas.Bool.{lt-ltb}
use Rattle.std.proofs.lemmas.List.{take_at, drop_at}
use Rattle.std.proofs.lemmas.Option.{same_Some}
use Rattle.byteorder.specs.Endian.{big_bytes}
use Rattle.eve_grammar.specs.Trace.{Trace}
use Rattle.eve_grammar.specs.Frames.{Frame, kind_of, start_place, next_place, frames_of}
use Rattle.eve_grammar.specs.Spelling.{body_text, frame_text, frames_text, length_of, spelling}
use Rattle.eve_grammar.specs.Limits.{is_head, FitsAt}
use Rattle.eve_grammar.specs.FrameOrder.{Follow, after, Spells}
use Rattle.eve_grammar.specs.Readers.{number_at, body_of, header_of}
use Rattle.eve_grammar.specs.GatheredTraces.{trace_of}
use Rattle.eve_grammar.proofs.FieldCodecs.{Codec-number4}
use Rattle.eve_grammar.proofs.FrameLaws.{limits_text, Exact-header, body_of-again}
use Rattle.eve_grammar.proofs.HeaderParts.{in_parts, header_parts, length-limits_text, behind_magic, behind_total}
use Rattle.eve_grammar.proofs.FramePlaces.{not_ended}
use Rattle.eve_grammar.proofs.Gatherings.{trace_of-frames_of}
use Rattle.eve_grammar.specs.declared.head.Head.{Head}
use Rattle.eve_grammar.proofs.Spelled.{frames_end}
use Rattle.eve_grammar.specs.declared.place.Place.{Place}

-- ---- one frame

-- two fields of a length and so many bytes, at the beginning of the same bytes
pub record SamePart (a x b y : List ℕ) : Type 0 where
  pub part : a ≡ b
  pub rest : x ≡ y

same_part : (a x b y : List ℕ) → length a < 2 ^ 32 → length b < 2 ^ 32 → big_bytes 4 (length a) ++ (a ++ x)
    ≡ big_bytes 4 (length b) ++ (b ++ y) → SamePart a x b y
same_part a x b y a_short b_short e =
    let first : number_at 4 (big_bytes 4 (length a) ++ (a ++ x)) ≡ Some (length a, a ++ x) =
    Codec-number4.again (length a) (a ++ x) (lt-ltb (length a) (256 ^ 4) (omega arith)) in
    let second : number_at 4 (big_bytes 4 (length b) ++ (b ++ y)) ≡ Some (length b, b ++ y) =
    Codec-number4.again (length b) (b ++ y) (lt-ltb (length b) (256 ^ 4) (omega arith)) in
    let one : ℕ × List ℕ = (length a, a ++ x) in
    let other : ℕ × List ℕ = (length b, b ++ y) in
    let same : one ≡ other = same_Some one other (sym first ∙ ap (number_at 4) e ∙ second) in
    let long : length a ≡ length b = ap (λ (p : ℕ × List ℕ). p.0) same in
    let text : a ++ x ≡ b ++ y = ap (λ (p : ℕ × List ℕ). p.1) same in
    record {
      part = sym (take_at a x (length a) refl) ∙ ap (take (length a)) text ∙ take_at b y (length a) (sym long);
      rest = sym (drop_at a x (length a) refl) ∙ ap (drop (length a)) text ∙ drop_at b y (length a) (sym long);
    }

prefix : (f : Frame) (rest : List ℕ) → frame_text f ++ rest
    ≡ kind_of f ∷ (big_bytes 4 (length (body_text f)) ++ (body_text f ++ rest))
prefix f rest = ap (λ (r : List ℕ). kind_of f ∷ r)
    (append_assoc (big_bytes 4 (length (body_text f))) (body_text f) rest)

pub record SameFrame (f g : Frame) (rest more : List ℕ) : Type 0 where
  pub frame : f ≡ g
  pub behind : rest ≡ more

-- two frames that fit at one place, at the beginning of the same bytes
same_frame : (h : Head) (p : Place) (f g : Frame) (rest more : List ℕ) → IsTrue (is_head h) → FitsAt h p f
    → FitsAt h p g → frame_text f ++ rest ≡ frame_text g ++ more → SameFrame f g rest more
same_frame h p f g rest more right f_fits g_fits e =
    let both = sym (prefix f rest) ∙ e ∙ prefix g more in
    let kind : kind_of f ≡ kind_of g = ap (λ (r : List ℕ). slice_index r 0) both in
    let tail = same_part (body_text f) rest (body_text g) more f_fits.short g_fits.short (ap (drop 1) both) in
    let one : body_of h p (kind_of f) (body_text f) ≡ Some f = body_of-again h p f right f_fits in
    let other : body_of h p (kind_of g) (body_text g) ≡ Some g = body_of-again h p g right g_fits in
    record {
      frame = same_Some f g (sym one ∙ ap (λ (k : ℕ). body_of h p k (body_text f)) kind
          ∙ ap (body_of h p (kind_of g)) tail.part ∙ other);
      behind = tail.rest;
    }

-- ---- frames one after another

-- nothing may stand where the end has come
none_behind_end : {A : Type 0} (h : Head) (p : Place) (f : Frame) → IsTrue p.ended → FitsAt h p f → A
none_behind_end h p f ended fits = absurd (apart p.ended ended (not_ended h p (kind_of f) fits.allowed))
  where
    apart : (b : Bool) → IsTrue b → b ≡ false → ⊥
    apart true t e = cc
    apart false t e = absurd cc

same_frames : (h : Head) (p : Place) (fs gs : List Frame) → IsTrue (is_head h) → Follow h p fs → Follow h p gs
    → IsTrue (after p fs).ended → IsTrue (after p gs).ended → frames_text fs ≡ frames_text gs → fs ≡ gs
same_frames h p [] [] right one other one_ends other_ends e = refl
same_frames h p [] (g ∷ gs) right one other one_ends other_ends e = none_behind_end h p g one_ends other.0
same_frames h p (f ∷ fs) [] right one other one_ends other_ends e = none_behind_end h p f other_ends one.0
same_frames h p (f ∷ fs) (g ∷ gs) right one other one_ends other_ends e =
    let here = same_frame h p f g (frames_text fs) (frames_text gs) right one.0 other.0 e in
    let moved : next_place p g ≡ next_place p f = ap (next_place p) (sym here.frame) in
    let rest = same_frames h (next_place p f) fs gs right one.1 (subst (λ (q : Place). Follow h q gs) moved other.1)
    one_ends
    (subst (λ (q : Place). IsTrue (after q gs).ended) moved other_ends) here.behind in
    ap (λ (x : Frame). x ∷ fs) here.frame ∙ ap (λ (xs : List Frame). g ∷ xs) rest

-- ---- the header

-- a header in three parts, and what stands after it
same_head : (h k : Head) (n m : ℕ) (rest more : List ℕ) → IsTrue (is_head h) → IsTrue (is_head k) → in_parts h n rest
    ≡ in_parts k m more → h ≡ k
same_head h k n m rest more h_right k_right e =
    let texts : limits_text h ≡ limits_text k =
    sym (take_at (limits_text h) (big_bytes 8 n ++ rest) 18 (length-limits_text h))
    ∙ ap (take 18) (sym (behind_magic h n rest) ∙ ap (drop 6) e ∙ behind_magic k m more)
    ∙ take_at (limits_text k) (big_bytes 8 m ++ more) 18 (length-limits_text k) in
    same_Some h k (sym (Exact-header.again h h_right) ∙ ap header_of texts ∙ Exact-header.again k k_right)

-- ---- the whole

spelled_parts : (t : Trace) → spelling t ≡ in_parts t.head (length_of t) (frames_text (frames_of t))
unfolding spelling
spelled_parts t = header_parts t.head (length_of t) (frames_text (frames_of t))

pub one_trace : (bytes : List ℕ) (t u : Trace) → Spells bytes t → Spells bytes u → t ≡ u
one_trace bytes t u one other =
    let e = sym (spelled_parts t) ∙ sym one.spelled ∙ other.spelled ∙ spelled_parts u in
    let heads : t.head ≡ u.head = same_head t.head u.head (length_of t) (length_of u)
    (frames_text (frames_of t)) (frames_text (frames_of u)) one.head other.head e in
    let texts : frames_text (frames_of t) ≡ frames_text (frames_of u) =
    sym (behind_total t.head (length_of t) (frames_text (frames_of t))) ∙ ap (drop 32) e
    ∙ behind_total u.head (length_of u) (frames_text (frames_of u)) in
    let second : Follow t.head start_place (frames_of u) =
    subst (λ (h : Head). Follow h start_place (frames_of u)) (sym heads) other.follow in
    let frames : frames_of t ≡ frames_of u = same_frames t.head start_place (frames_of t)
    (frames_of u) one.head one.follow second (frames_end t start_place) (frames_end u start_place) texts in
    sym (trace_of-frames_of t) ∙ ap (λ (h : Head). trace_of h (frames_of t)) heads ∙ ap (trace_of u.head) frames
    ∙ trace_of-frames_of u
