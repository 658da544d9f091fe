-- Public: other crates cite these lemmas. Heads with frames, and the traces that they make up.
use Rattle.std.proofs.Common.{◌≡◌, ℕ, ◌+◌, ◌^◌, ◌≤◌, List, ◌++◌, length, refl, sym, ap, ◌∙◌, arith, length-append}
use Rattle.std.proofs.Common.{subst}
use Rattle.std.specs.Prelude.{IsTrue}
use Rattle.eve_grammar.specs.Trace.{Trace}
use Rattle.eve_grammar.specs.Frames.{Frame, frames_of, start_place}
use Rattle.eve_grammar.specs.Spelling.{frames_text, head_text, length_of, spelling}
use Rattle.eve_grammar.specs.Limits.{is_head}
use Rattle.eve_grammar.specs.FrameOrder.{AreAllFrames, Spells, Follow}
use Rattle.eve_grammar.specs.GatheredTraces.{trace_of}
use Rattle.eve_grammar.proofs.Rests.{frames_of-trace_of}
use Rattle.eve_grammar.proofs.HeaderParts.{length-head_text}
use Rattle.eve_grammar.specs.declared.head.Head.{Head}
use Rattle.eve_grammar.proofs.Spelled.{frames_end}

-- a head and frames, as bytes of this length
abbrev text_of : Head → List Frame → ℕ → List ℕ
text_of h fs total = head_text h total ++ frames_text fs

length-text_of : (h : Head) (fs : List Frame) (total : ℕ) → length (text_of h fs total) ≡ 32 + length (frames_text fs)
length-text_of h fs total = omega (arith, length-append (head_text h total) (frames_text fs), length-head_text h total)

spelling_of : (t : Trace) → spelling t ≡ text_of t.head (frames_of t) (length_of t)
unfolding spelling
spelling_of t = refl

length_of-frames : (t : Trace) → length_of t ≡ 32 + length (frames_text (frames_of t))
unfolding length_of
length_of-frames t = refl

-- the bytes are a head within the limits and frames that run to the end
pub record SpellsFrames (bytes : List ℕ) (h : Head) (fs : List Frame) : Type 0 where
  pub limits : IsTrue (is_head h)
  pub run : AreAllFrames h fs
  pub short : length bytes ≤ 2 ^ 30
  pub spelled : bytes ≡ head_text h (length bytes) ++ frames_text fs

-- such bytes spell the trace that these make up
pub spells_trace : (bytes : List ℕ) (h : Head) (fs : List Frame) → SpellsFrames bytes h fs
    → Spells bytes (trace_of h fs)
unfolding trace_of
spells_trace bytes h fs is =
    let t : Trace = trace_of h fs in
    let frames : frames_of t ≡ fs = frames_of-trace_of h fs is.limits is.run in
    let long : length bytes ≡ 32 + length (frames_text fs) = ap length is.spelled
    ∙ length-text_of h fs (length bytes) in
    let total : length_of t ≡ length bytes = length_of-frames t
    ∙ ap (λ (gs : List Frame). 32 + length (frames_text gs)) frames ∙ sym long in
    let short : length_of t ≤ 2 ^ 30 = (let few = is.short in omega (arith, total, few)) in
    record {
      head = is.limits;
      follow = subst (Follow h start_place) (sym frames) is.run.follow;
      short = short;
      spelled = is.spelled ∙ ap (text_of h fs) (sym total)
          ∙ ap (λ (gs : List Frame). text_of h gs (length_of t)) (sym frames) ∙ sym (spelling_of t);
    }

-- bytes that spell a trace spell its head and its frames
pub spells_frames : (bytes : List ℕ) (t : Trace) → Spells bytes t → SpellsFrames bytes t.head (frames_of t)
spells_frames bytes t is =
    let text : bytes ≡ text_of t.head (frames_of t) (length_of t) = is.spelled ∙ spelling_of t in
    let long : length bytes ≡ length_of t = ap length text ∙ length-text_of t.head (frames_of t) (length_of t)
    ∙ sym (length_of-frames t) in
    let short : length bytes ≤ 2 ^ 30 = (let few = is.short in omega (arith, long, few)) in
    record {
      limits = is.head;
      run = record { follow = is.follow; ended = frames_end t start_place };
      short = short;
      spelled = text ∙ ap (text_of t.head (frames_of t)) (sym long);
    }
