-- A trace that was read.
use Rattle.std.proofs.Common.{◌≡◌, ℕ, zero, suc, ◌+◌, ◌-◌, ◌<◌, ◌≤◌, List, [], ◌∷◌, ◌++◌, length, get_or, take, drop}
use Rattle.std.proofs.Common.{Some, refl, sym, ap, subst, ◌∙◌, append_assoc, add-one, arith}
use Rattle.std.specs.Prelude.{slice_get}
use Rattle.std.proofs.lemmas.List.{length-append, take_all, take_at, drop_at}
use Rattle.eve_grammar.specs.Trace.{Trace, head_of}
use Rattle.eve_grammar.specs.Frames.{Frame, frames_of}
use Rattle.eve_grammar.specs.GatheredTraces.{trace_of}
use Rattle.eve_grammar.specs.Spelling.{frame_text, frames_text, head_text}
use Rattle.eve_views.specs.declared.fault.CheckFault.{CheckFault}
use Rattle.eve_views.specs.declared.fault.CheckFault.TheVariants.{Found, Memory}
use Rattle.eve_views.specs.declared.walk.Index.{Index}
use Rattle.eve_views.specs.Form.{IfFound, IsLeast, StandsInForm, IsFaultOutside}
use Rattle.eve_views.specs.inner.Header.{IsHeader}
use Rattle.eve_views.specs.Walk.{frames_in}
use Rattle.eve_views.specs.Indexes.{AreStarts, IsIndex, offsets_of}
use Rattle.eve_views.specs.HeldTraces.{trace_in, IsHeldTrace}
use Rattle.eve_grammar.proofs.Codec.{IsBytes}
use Rattle.eve_views.proofs.FrameLaws.{length-frame_text}
use Rattle.eve_views.proofs.WalkLaws.{run_read}
use Rattle.eve_views.proofs.HeaderLaws.{says_head, header_spelled, Sized-from}
use Rattle.eve_grammar.proofs.HeaderParts.{length-head_text}
use Rattle.eve_grammar.proofs.Rests.{head_of-trace_of, frames_of-trace_of}
use Rattle.eve_grammar.specs.declared.head.Head.{Head}
use Rattle.eve_grammar.specs.FrameOrder.{Spells}
use Rattle.eve_views.proofs.WholeTraces.{SpellsFrames, spells_trace, spells_frames}
use Rattle.eve_views.proofs.FormLaws.{refused_behind}

-- what is held of a trace
pub held_of : (bytes : List ℕ) (h : Head) (i : Index) → IsBytes bytes → IsHeader bytes h → IsIndex h bytes i
    → IsHeldTrace bytes h i (trace_in h bytes)
held_of bytes h i fits is found =
    let says = says_head bytes h fits is.decoded in
    let same : frames_in h (drop 32 bytes) ≡ found.frames = ap (frames_in h) found.text
    ∙ run_read h found.frames says.limits found.run in
    let spells : SpellsFrames bytes h found.frames = record {
      limits = says.limits;
      run = found.run;
      short = (Sized-from bytes is.sized).short;
      spelled = header_spelled bytes h (frames_text found.frames) fits is found.text;
    } in
    let head : head_of (trace_of h found.frames) ≡ h = head_of-trace_of h found.frames says.limits found.run in
    let frames : frames_of (trace_of h found.frames) ≡ found.frames = frames_of-trace_of h found.frames says.limits
    found.run in
    let held : IsHeldTrace bytes h i (trace_of h found.frames) = record {
      spells = spells_trace bytes h found.frames spells;
      head = head;
      offsets = found.offsets ∙ ap (offsets_of 32) (sym frames);
      starts = subst (λ (fs : List Frame). AreStarts (head_of (trace_of h found.frames)) fs i.starts) (sym frames)
          (subst (λ (g : Head). AreStarts g found.frames i.starts) (sym head) found.starts);
    } in
    subst (λ (fs : List Frame). IsHeldTrace bytes h i (trace_of h fs)) (sym same) held

-- ---- a fault

pub found_least : (bytes : List ℕ) (h : Head) (e : CheckFault) → IsBytes bytes → IsHeader bytes h
    → IfFound e (IsFaultOutside StandsInForm bytes) → IfFound e (IsLeast (IsFaultOutside StandsInForm bytes))
found_least bytes h Memory fits is s = tt
found_least bytes h (Found f) fits is s = (refused_behind bytes h f is fits s).least

pub found_none : (bytes : List ℕ) (h : Head) (e : CheckFault) → IsBytes bytes → IsHeader bytes h
    → IfFound e (IsFaultOutside StandsInForm bytes) → IfFound e (λ _. (t : Trace) → ¬ Spells bytes t)
found_none bytes h Memory fits is s = tt
found_none bytes h (Found f) fits is s = (refused_behind bytes h f is fits s).none

-- ---- the i-th frame

pub record IsAt (fs : List Frame) (i : ℕ) (f : Frame) (rest : List ℕ) : Type 0 where
  pub got : slice_get fs i ≡ Some f
  pub before : frames_text fs ≡ frames_text (take i fs) ++ (frame_text f ++ rest)
  pub next : length (frames_text (take (suc i) fs)) ≡ length (frames_text (take i fs)) + length (frame_text f)

pub frame_of : (fs : List Frame) (i : ℕ) → i < length fs → (f : Frame) × ((rest : List ℕ) × IsAt fs i f rest)
frame_of [] i lt = absurd (omega arith)
frame_of (f ∷ fs) zero lt =
    (f, (frames_text fs, record { got = refl; before = refl; next = omega (arith, length-append (frame_text f) []) }))
frame_of (f ∷ fs) (suc i) lt =
    let r = frame_of fs i (omega arith) in
    let a = r.1.1 in (
      r.0,
      (
        r.1.0,
        record {
          got = a.got;
          before = ap (λ (b : List ℕ). frame_text f ++ b) a.before
              ∙ sym (append_assoc (frame_text f) (frames_text (take i fs)) (frame_text r.0 ++ r.1.0));
          next = omega (
            arith,
            a.next,
            length-append (frame_text f) (frames_text (take (suc i) fs)),
            length-append (frame_text f) (frames_text (take i fs)),
          );
        },
      ),
    )

pub offsets_at : (fs : List Frame) (at i : ℕ) → i < length fs → get_or (offsets_of at fs) i 0
    ≡ at + length (frames_text (take i fs))
offsets_at [] at i lt = absurd (omega arith)
offsets_at (f ∷ fs) at zero lt = omega arith
offsets_at (f ∷ fs) at (suc i) lt = offsets_at fs (at + length (frame_text f)) i (omega arith)
    ∙ omega (arith, length-append (frame_text f) (frames_text (take i fs)))

-- the end, after the last frame
pub end_at : (bytes : List ℕ) (t : Trace) (i : ℕ) → Spells bytes t → length (frames_of t) ≤ i → length bytes
    ≡ 32 + length (frames_text (take i (frames_of t)))
end_at bytes t i spells le =
    let s = spells_frames bytes t spells in
    let all : take i (frames_of t) ≡ frames_of t = take_all i (frames_of t) le in
    omega (
      arith,
      ap length s.spelled,
      length-append (head_text t.head (length bytes)) (frames_text (frames_of t)),
      length-head_text t.head (length bytes),
      ap (λ (fs : List Frame). length (frames_text fs)) all,
    )

-- a frame between two places
pub record IsPart (bytes : List ℕ) (fs : List Frame) (i from to : ℕ) : Type 0 where
  pub frame : Frame
  pub rising : from ≤ to
  pub inside : to ≤ length bytes
  pub got : slice_get fs i ≡ Some frame
  pub text : take (to - from) (drop from bytes) ≡ frame_text frame
  pub behind : List ℕ
  pub cut : drop from bytes ≡ frame_text frame ++ behind
  pub long : 5 ≤ to - from

pub part_is : (bytes : List ℕ) (t : Trace) (i from to : ℕ) → Spells bytes t → i < length (frames_of t)
    → from ≡ 32 + length (frames_text (take i (frames_of t)))
    → to ≡ 32 + length (frames_text (take (i + 1) (frames_of t))) → IsPart bytes (frames_of t) i from to
part_is bytes t i from to spells lt at_from at_to =
    let s = spells_frames bytes t spells in
    let fs = frames_of t in
    let r = frame_of fs i lt in
    let a = r.1.1 in
    let head = head_text t.head (length bytes) in
    let prefix = frames_text (take i fs) in
    let next : to ≡ from + length (frame_text r.0) = at_to ∙ ap (λ (k : ℕ). 32 + length (frames_text (take k fs)))
    (add-one i) ∙ omega (arith, a.next, at_from) in
    let whole : bytes ≡ (head ++ prefix) ++ (frame_text r.0 ++ r.1.0) = s.spelled
    ∙ ap (λ (b : List ℕ). head ++ b) a.before ∙ sym (append_assoc head prefix (frame_text r.0 ++ r.1.0)) in
    let before : length (head ++ prefix) ≡ from =
    omega (arith, length-append head prefix, length-head_text t.head (length bytes), at_from) in
    let long : length bytes ≡ from + (length (frame_text r.0) + length r.1.0) =
    omega (
      arith,
      ap length whole,
      before,
      length-append (head ++ prefix) (frame_text r.0 ++ r.1.0),
      length-append (frame_text r.0) r.1.0,
    ) in
    let cut : drop from bytes ≡ frame_text r.0 ++ r.1.0 = ap (drop from) whole
    ∙ drop_at (head ++ prefix) (frame_text r.0 ++ r.1.0) from before in
    let wide : length (frame_text r.0) ≡ to - from = omega (arith, next) in
    record {
      frame = r.0;
      rising = omega (arith, next);
      inside = omega (arith, next, long);
      got = a.got;
      text = ap (take (to - from)) cut ∙ take_at (frame_text r.0) r.1.0 (to - from) wide;
      behind = r.1.0;
      cut = cut;
      long = omega (arith, wide, length-frame_text r.0);
    }
