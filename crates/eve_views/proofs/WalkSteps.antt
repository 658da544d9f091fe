-- The walk over the frames of a trace.
use Rattle.std.proofs.Common.{◌≡◌, ℕ, suc, ◌+◌, ◌-◌, ◌<◌, ◌≤◌, true, List, [], ◌∷◌, ◌++◌, length, take, drop, Result}
use Rattle.std.proofs.Common.{Ok, Err, refl, sym, ap, subst, ◌∙◌, append_assoc, add-zero, arith}
use Rattle.std.specs.Prelude.{IsTrue, slice_index}
use Rattle.std.proofs.lemmas.List.{length-append, length-drop, length-take, append-nil, drop_at, take_at}
use Rattle.std.proofs.lemmas.List.{take-append-drop, take_rest, nil_from_length}
use Rattle.byteorder.specs.Endian.{big_number}
use Rattle.eve_grammar.specs.Frames.{Frame, start_place, next_place, kind_of, is_allowed}
use Rattle.eve_grammar.specs.Spelling.{frame_text, frames_text}
use Rattle.eve_grammar.specs.Limits.{is_head, FitsAt}
use Rattle.eve_grammar.specs.FrameOrder.{after, AreAllFrames}
use Rattle.eve_views.specs.declared.fault.Code.{Code}
use Rattle.eve_views.specs.declared.fault.Code.TheVariants as code
use Rattle.eve_views.specs.Indexes.{KeptFrame, offsets_of}
use Rattle.eve_views.specs.Form.{SaysHead, IsReached, StandsInForm}
use Rattle.eve_views.specs.inner.Places.{accesses_in, place_after}
use Rattle.eve_views.specs.Walk.{frame_at}
use Rattle.eve_views.specs.Indexes.{kept, AreStarts}
use Rattle.eve_grammar.proofs.Codec.{IsBytes, IsBytes-drop}
use Rattle.eve_grammar.specs.declared.head.Head.{Head}
use Rattle.eve_grammar.specs.declared.place.Place.{Place}
use Rattle.eve_views.proofs.FrameLaws.{FrameOf, frame_takes, frame_fault, StandsHere}
use Rattle.eve_views.proofs.WalkLaws.{follow_more, after_more, text_more, prefix_short}
use Rattle.eve_views.specs.declared.starts.Starts.{Starts}
use Rattle.eve_views.specs.inner.PartStarts.{no_starts, noted}
use Rattle.std.proofs.lemmas.Bool.Decides.{nat_tests}
use Rattle.eve_views.proofs.KeptFrames.{next_moved}
use Rattle.eve_views.specs.inner.WalkProgress.{Reached, Started, Walking}
use Rattle.eve_views.proofs.StartLaws.{HasRoom, started_start, started_more, started_end, replica_below}
use Rattle.eve_views.proofs.StartLaws.{few_verifiers}

-- ---- a step

kept_ok : (bytes : List ℕ) (r : Result (Frame × List ℕ) Code) (k : KeptFrame) → kept bytes r ≡ Ok k
    → (x : Frame × List ℕ) × (r ≡ Ok x)
    × (k ≡ record { kind = slice_index bytes 0; len = 5 + big_number 4 (drop 1 bytes); accesses = accesses_in x.0 })
kept_ok bytes (Ok x) k e = (x, refl, cc)
kept_ok bytes (Err c) k e = absurd cc

-- the next frame, as it is kept
pub record Step (h : Head) (p : Place) (bytes : List ℕ) (at : ℕ) (k : KeptFrame) : Type 0 where
  pub frame : Frame
  pub rest : List ℕ
  pub is : FrameOf h p (drop at bytes) frame rest
  pub kind : k.kind ≡ kind_of frame
  pub len : k.len ≡ length (frame_text frame)
  pub accesses : k.accesses ≡ accesses_in frame
  pub within : at + k.len ≤ length bytes

pub step_of : (h : Head) (p : Place) (bytes : List ℕ) (at : ℕ) (k : KeptFrame) → IsTrue (is_head h) → IsBytes bytes
    → at ≤ length bytes → kept (drop at bytes) (frame_at h p (drop at bytes)) ≡ Ok k → Step h p bytes at k
step_of h p bytes at k right fits le e =
    let r = kept_ok (drop at bytes) (frame_at h p (drop at bytes)) k e in
    let t = frame_takes h p (drop at bytes) r.0 right (IsBytes-drop at bytes fits) r.1 in
    let len : k.len ≡ length (frame_text r.0.0) = ap (λ (f : KeptFrame). f.len) r.2 ∙ sym t.len in
    record {
      frame = r.0.0;
      rest = r.0.1;
      is = t;
      kind = ap (λ (f : KeptFrame). f.kind) r.2 ∙ t.kind;
      len = len;
      accesses = ap (λ (f : KeptFrame). f.accesses) r.2;
      within = omega (arith, len, ap length t.parts, length-append (frame_text r.0.0) r.0.1, length-drop at bytes, le);
    }

-- ---- the frames so far

pub reached_start : (h : Head) (bytes : List ℕ) → 32 ≤ length bytes → Reached h bytes 32 start_place []
reached_start h bytes le =
    record {
      prefix = [];
      right = tt;
      place_is = refl;
      at_is = refl;
      within = le;
      before = sym (append-nil (take 32 bytes));
      offsets_is = refl;
    }

offsets_more : (fs : List Frame) (at : ℕ) (f : Frame) → offsets_of at (fs ++ f ∷ [])
    ≡ offsets_of at fs ++ (at + length (frames_text fs)) ∷ []
offsets_more [] at f = ap (λ (n : ℕ). n ∷ []) (sym (add-zero at))
offsets_more (g ∷ fs) at f =
    let total : at + length (frame_text g) + length (frames_text fs) ≡ at + length (frames_text (g ∷ fs)) =
    omega (arith, length-append (frame_text g) (frames_text fs)) in
    ap (λ (xs : List ℕ). at ∷ xs) (offsets_more fs (at + length (frame_text g)) f
    ∙ ap (λ (n : ℕ). offsets_of (at + length (frame_text g)) fs ++ n ∷ []) total)

pub length-offsets_of : (fs : List Frame) (at : ℕ) → length (offsets_of at fs) ≡ length fs
length-offsets_of [] at = refl
length-offsets_of (f ∷ fs) at = ap suc (length-offsets_of fs (at + length (frame_text f)))

-- there are no more frames than bytes after the header
pub few_offsets : (h : Head) (bytes : List ℕ) (at : ℕ) (p : Place) (offsets : List ℕ) → Reached h bytes at p offsets
    → length offsets + 32 ≤ at
few_offsets h bytes at p offsets r =
    omega (arith, ap length r.offsets_is, length-offsets_of r.prefix 32, prefix_short r.prefix, r.at_is)

prefix_more : (at n : ℕ) (bytes text rest : List ℕ) → drop at bytes ≡ text ++ rest → length text ≡ n → at ≤ length bytes
    → take (at + n) bytes ≡ take at bytes ++ text
prefix_more at n bytes text rest e len le =
    let whole : bytes ≡ (take at bytes ++ text) ++ rest = sym (take-append-drop at bytes)
    ∙ ap (λ (b : List ℕ). take at bytes ++ b) e ∙ sym (append_assoc (take at bytes) text rest) in
    let wide : length (take at bytes ++ text) ≡ at + n =
    omega (arith, length-append (take at bytes) text, length-take at bytes, len, le) in
    ap (take (at + n)) whole ∙ take_at (take at bytes ++ text) rest (at + n) wide

pub reached_more : (h : Head) (bytes : List ℕ) (at : ℕ) (p : Place) (offsets : List ℕ) (k : KeptFrame)
    → Reached h bytes at p offsets → Step h p bytes at k
    → Reached h bytes (at + k.len) (place_after p k.kind k.accesses) (offsets ++ at ∷ [])
reached_more h bytes at p offsets k r s =
    let f = s.frame in
    let fits : FitsAt h (after start_place r.prefix) f = subst (λ (q : Place). FitsAt h q f)
    (sym r.place_is) s.is.fits in
    record {
      prefix = r.prefix ++ f ∷ [];
      right = follow_more r.prefix h start_place f r.right fits;
      place_is = after_more r.prefix start_place f ∙ ap (λ (q : Place). next_place q f) r.place_is ∙ next_moved p f
          ∙ ap (λ (n : ℕ). place_after p n (accesses_in f)) (sym s.kind) ∙ ap (place_after p k.kind) (sym s.accesses);
      at_is = omega (
        arith,
        r.at_is,
        s.len,
        ap length (text_more r.prefix f),
        length-append (frames_text r.prefix)
            (frame_text f),
      );
      within = s.within;
      before = prefix_more at k.len bytes (frame_text f) s.rest s.is.parts (sym s.len) r.within
          ∙ ap (λ (b : List ℕ). b ++ frame_text f) r.before ∙ append_assoc (take 32 bytes) (frames_text r.prefix)
          (frame_text f) ∙ ap (λ (b : List ℕ). take 32 bytes ++ b) (sym (text_more r.prefix f));
      offsets_is = ap (λ (xs : List ℕ). xs ++ at ∷ []) r.offsets_is
          ∙ ap (λ (n : ℕ). offsets_of 32 r.prefix ++ n ∷ []) r.at_is ∙ sym (offsets_more r.prefix 32 f);
    }

-- ---- the end, or a fault

-- what stands after the prefix is what stands after the place
pub split_at : (at : ℕ) (bytes text : List ℕ) → at ≡ 32 + length text → at ≤ length bytes → take at bytes
    ≡ take 32 bytes ++ text → drop 32 bytes ≡ text ++ drop at bytes
split_at at bytes text at_is le before =
    let whole : bytes ≡ take 32 bytes ++ (text ++ drop at bytes) = sym (take-append-drop at bytes)
    ∙ ap (λ (b : List ℕ). b ++ drop at bytes) before ∙ append_assoc (take 32 bytes) text (drop at bytes) in
    ap (drop 32) whole ∙ drop_at (take 32 bytes) (text ++ drop at bytes) 32
    (omega (arith, length-take 32 bytes, le, at_is))

kept_err : (bytes : List ℕ) (r : Result (Frame × List ℕ) Code) (c : Code) → kept bytes r ≡ Err c → r ≡ Err c
kept_err bytes (Ok x) c e = absurd cc
kept_err bytes (Err d) c e = let same : d ≡ c = cc in ap (λ (b : Code). Err b) same

stands_in_form : (c : Code) (bytes : List ℕ) (at : ℕ) (r : IsReached bytes at)
    → StandsHere c r.head (after start_place r.prefix) (drop at bytes) → StandsInForm c bytes at
stands_in_form code.Frame bytes at r s = (r, s)
stands_in_form code.Body bytes at r s = (r, s)
stands_in_form c bytes at r s = absurd s

pub reached_fault : (h : Head) (bytes : List ℕ) (at : ℕ) (p : Place) (offsets : List ℕ) (c : Code) → SaysHead bytes h
    → Reached h bytes at p offsets
    → kept (drop at bytes) (frame_at h p (drop at bytes)) ≡ Err c → (IsTrue p.ended → drop at bytes ≡ [] → ⊥)
    → StandsInForm c bytes at
reached_fault h bytes at p offsets c says r e more =
    let there : IsReached bytes at =
    record {
      head = h;
      prefix = r.prefix;
      says = says;
      right = r.right;
      at_is = r.at_is;
      within = r.within;
      before = r.before;
    } in
    let here = frame_fault h p (drop at bytes) c says.limits
    (kept_err (drop at bytes) (frame_at h p (drop at bytes)) c e) more in
    stands_in_form c bytes at there (subst (λ (q : Place). StandsHere c h q (drop at bytes)) (sym r.place_is) here)

-- ---- in the loop

pub walking_start : (h : Head) (bytes : List ℕ) → 32 ≤ length bytes → Walking h bytes 32 start_place [] no_starts
unfolding reached_start
walking_start h bytes le = record { reached = reached_start h bytes le; started = started_start h }

pub walking_more : (h : Head) (bytes : List ℕ) (at : ℕ) (p : Place) (offsets : List ℕ) (s : Starts) (k : KeptFrame)
    → HasRoom h → Walking h bytes at p offsets s → Step h p bytes at k
    → Walking h bytes (at + k.len) (place_after p k.kind k.accesses) (offsets ++ at ∷ [])
    (noted s p k.kind (length offsets))
unfolding reached_more
walking_more h bytes at p offsets s k room w step =
    let r = w.reached in
    let count : length offsets ≡ length r.prefix = ap length r.offsets_is ∙ length-offsets_of r.prefix 32 in
    let moved_is : next_place p step.frame ≡ place_after p k.kind k.accesses = next_moved p step.frame
    ∙ ap (λ (n : ℕ). place_after p n (accesses_in step.frame)) (sym step.kind)
    ∙ ap (place_after p k.kind) (sym step.accesses) in
    let noted_is : noted s p (kind_of step.frame) (length r.prefix) ≡ noted s p k.kind (length offsets) =
    ap (λ (n : ℕ). noted s p n (length r.prefix)) (sym step.kind) ∙ ap (noted s p k.kind) (sym count) in
    record {
      reached = reached_more h bytes at p offsets k r step;
      started = subst (λ (q : Place). Started h (r.prefix ++ step.frame ∷ []) q (noted s p k.kind (length offsets)))
          moved_is
          (subst (Started h (r.prefix ++ step.frame ∷ []) (next_place p step.frame)) noted_is
          (started_more h r.prefix p s step.frame room w.started step.is.fits));
    }

pub walking_end : (h : Head) (bytes : List ℕ) (at : ℕ) (p : Place) (offsets : List ℕ) (s : Starts)
    → Walking h bytes at p offsets s → p.ended ≡ true → length bytes ≤ at
    → (fs : List Frame) × AreAllFrames h fs × (drop 32 bytes ≡ frames_text fs) × (offsets ≡ offsets_of 32 fs)
    × AreStarts h fs s
walking_end h bytes at p offsets s w ended le =
    let r = w.reached in
    let nothing : drop at bytes ≡ [] = nil_from_length _ (omega (arith, length-drop at bytes, le)) in (
      r.prefix,
      record { follow = r.right; ended = subst (λ (q : Place). IsTrue q.ended) (sym r.place_is) ended },
      split_at at bytes (frames_text r.prefix) r.at_is r.within r.before
          ∙ ap (λ (b : List ℕ). frames_text r.prefix ++ b) nothing ∙ append-nil (frames_text r.prefix),
      r.offsets_is,
      started_end h r.prefix p s w.started ended,
    )

-- the step that the code took, of what it was given
pub step_here : (h g : Head) (p : Place) (bytes : List ℕ) (at : ℕ) (k : KeptFrame) → IsTrue (is_head h) → IsBytes bytes
    → at ≤ length bytes → g ≡ h
    → Ok k ≡ kept (take (length bytes - at) (drop at bytes)) (frame_at g p (take (length bytes - at) (drop at bytes)))
    → Step h p bytes at k
step_here h g p bytes at k right fits le same e =
    let there = take_rest bytes at in
    step_of h p bytes at k right fits le
    (sym (e ∙ ap (λ (b : List ℕ). kept b (frame_at g p b)) there
    ∙ ap (λ (i : Head). kept (drop at bytes) (frame_at i p (drop at bytes))) same))

pub fault_here : (h g : Head) (p : Place) (bytes : List ℕ) (at : ℕ) (c : Code) → g ≡ h
    → Err c ≡ kept (take (length bytes - at) (drop at bytes)) (frame_at g p (take (length bytes - at) (drop at bytes)))
    → kept (drop at bytes) (frame_at h p (drop at bytes)) ≡ Err c
fault_here h g p bytes at c same e =
    let there = take_rest bytes at in
    sym (e ∙ ap (λ (b : List ℕ). kept b (frame_at g p b)) there
    ∙ ap (λ (i : Head). kept (drop at bytes) (frame_at i p (drop at bytes))) same)

pub step_allowed : (h : Head) (p : Place) (bytes : List ℕ) (at : ℕ) (k : KeptFrame) → Step h p bytes at k
    → is_allowed h p k.kind ≡ true
step_allowed h p bytes at k s = ap (is_allowed h p) s.kind ∙ s.is.fits.allowed

pub room_of : (h : Head) → IsTrue (is_head h) → HasRoom h
room_of h e = record {
  replicas = grind (arith, nat_tests);
  verifiers = grind (arith, nat_tests);
  one = grind (arith, nat_tests);
}

pub replica_room : (h : Head) (p : Place) (kind : ℕ) → HasRoom h → is_allowed h p kind ≡ true → kind ≡ 16
    → p.replicas < 8
replica_room h p kind room allowed is =
    let below = replica_below h p (ap (is_allowed h p) (sym is) ∙ allowed) in omega (arith, below.1, room.replicas)

pub verifier_room : (h : Head) (p : Place) (kind : ℕ) → HasRoom h → is_allowed h p kind ≡ true → kind ≡ 32
    → p.verifiers < 16
verifier_room h p kind room allowed is =
    let below = few_verifiers h p (ap (is_allowed h p) (sym is) ∙ allowed) room.one in
    omega (arith, below, room.verifiers)
