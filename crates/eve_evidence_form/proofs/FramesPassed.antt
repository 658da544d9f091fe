-- Going over the frames before a byte.
use Rattle.std.proofs.Common.{◌≡◌, ℕ, ◌+◌, ◌-◌, ◌<◌, ◌≤◌, List, [], ◌∷◌}
use Rattle.std.specs.Prelude.{IfSome}
use Rattle.std.proofs.Common.{◌++◌, length, take, drop, None, Some, refl, sym, ap, subst, ◌∙◌}
use Rattle.std.proofs.Common.{append_assoc, arith}
use Rattle.std.proofs.lemmas.List.{append-nil, drop_at, length-append}
use Rattle.std.proofs.lemmas.List.{length-drop, length-take, take_all, take-append-drop}
use Rattle.std.proofs.lemmas.List.Concat.{flat_map-append}
use Rattle.eve_grammar.specs.Frames.{Frame, kind_of, start_place, next_place}
use Rattle.eve_grammar.specs.Spelling.{frame_text, frames_text}
use Rattle.eve_grammar.specs.Limits.{FitsAt}
use Rattle.eve_grammar.specs.FrameOrder.{Follow, after}
use Rattle.eve_grammar.specs.Readers.{header_of}
use Rattle.eve_grammar.specs.declared.head.Head.{Head}
use Rattle.eve_grammar.specs.declared.place.Place.{Place}
use Rattle.eve_grammar.proofs.FrameLaws.{Exact-header}
use Rattle.eve_views.specs.Form.{IsReached, SaysHead, head_bytes}
use Rattle.eve_views.proofs.FrameLaws.{length-frame_text}
use Rattle.eve_views.specs.inner.Places.{accesses_in}
use Rattle.eve_evidence_form.specs.Records.{TellsRecords, records_after}
use Rattle.eve_evidence_form.specs.inner.Walk.{BeginsWith}
use Rattle.eve_evidence_form.specs.declared.walk.PlaceReached.{PlaceReached}
use Rattle.eve_evidence_form.proofs.Headers.{head_bytes_text}
use Rattle.eve_evidence_form.proofs.Records.{few_found, no_records, told_after}

-- what a header says is read
pub head_again : (bytes : List ℕ) (h : Head) → SaysHead bytes h → header_of (head_bytes bytes) ≡ Some h
head_again bytes h s = ap header_of (s.decoded ∙ head_bytes_text h) ∙ Exact-header.again h s.limits

-- the frames up to the byte `next` have been gone over
pub record IsPassed (bytes : List ℕ) (at : ℕ) (r : IsReached bytes at) (next : ℕ) (so_far : PlaceReached) : Type 0 where
  pub prefix : List Frame
  pub rest : List Frame
  pub is : r.prefix ≡ prefix ++ rest
  pub next_at : next ≡ 32 + length (frames_text prefix)
  pub place_is : so_far.place ≡ after start_place prefix
  pub records_are : TellsRecords prefix so_far.records

-- how far a frame more comes, which begins at the byte `next`
pub record IsFurther (next : ℕ) (so_far : PlaceReached) (f : Frame) (further : PlaceReached) : Type 0 where
  pub place_is : further.place ≡ next_place so_far.place f
  pub records_are : further.records ≡ records_after so_far.records (kind_of f) next (accesses_in f)

-- the next frame
pub record IsNext (bytes : List ℕ) (at : ℕ) (r : IsReached bytes at) (next : ℕ) (so_far : PlaceReached) : Type 0 where
  pub frame : Frame
  pub begins : BeginsWith (drop next bytes) frame
  pub fits : FitsAt r.head so_far.place frame
  pub passed : (further : PlaceReached) → IsFurther next so_far frame further
      → IsPassed bytes at r (next + length (frame_text frame)) further
  pub few : IfSome so_far.records (λ records. records.found < next)
  pub within : next + length (frame_text frame) ≤ at

pub none_passed : (bytes : List ℕ) (at : ℕ) (r : IsReached bytes at) (so_far : PlaceReached)
    → so_far.place ≡ start_place → so_far.records ≡ None → IsPassed bytes at r 32 so_far
none_passed bytes at r so_far place records = record {
  prefix = [];
  rest = r.prefix;
  is = refl;
  next_at = refl;
  place_is = place;
  records_are = subst (TellsRecords []) (sym records) no_records;
}

-- where the byte itself was reached, all have been
pub all_passed : (bytes : List ℕ) (at : ℕ) (r : IsReached bytes at) (next : ℕ) (so_far : PlaceReached)
    → IsPassed bytes at r next so_far → at ≤ next
    → (so_far.place ≡ after start_place r.prefix) × TellsRecords r.prefix so_far.records
all_passed bytes at r next so_far passed le = by passed.rest passed.is
  where
    by : (rest : List Frame) → r.prefix ≡ passed.prefix ++ rest
        → (so_far.place ≡ after start_place r.prefix) × TellsRecords r.prefix so_far.records
    by [] e =
        let whole : passed.prefix ≡ r.prefix = sym (append-nil passed.prefix) ∙ sym e in (
          passed.place_is ∙ ap (after start_place) whole,
          subst (λ (fs : List Frame). TellsRecords fs so_far.records) whole passed.records_are,
        )
    by (f ∷ more) e = absurd (omega (
      arith,
      r.at_is,
      passed.next_at,
      le,
      ap (λ (fs : List Frame). length (frames_text fs)) e ∙ ap length (flat_map-append frame_text passed.prefix
          (f ∷ more)),
      length-append (frames_text passed.prefix) (frames_text (f ∷ more)),
      length-append (frame_text f) (frames_text more),
      length-frame_text f,
    ))

fits_there : (h : Head) (p : Place) (prefix : List Frame) (f : Frame) (more : List Frame) → Follow h p (prefix
    ++ f ∷ more)
    → FitsAt h (after p prefix) f
fits_there h p [] f more follow = follow.0
fits_there h p (g ∷ prefix) f more follow = fits_there h (next_place p g) prefix f more follow.1

after_one : (p : Place) (prefix : List Frame) (f : Frame) → after p (prefix ++ f ∷ []) ≡ next_place (after p prefix) f
after_one p [] f = refl
after_one p (g ∷ prefix) f = after_one (next_place p g) prefix f

module _ (bytes : List ℕ) (at : ℕ) (r : IsReached bytes at) (next : ℕ) (so_far : PlaceReached)
    (passed : IsPassed bytes at r next so_far)
    (f : Frame) (more : List Frame) (e : r.prefix ≡ passed.prefix ++ f ∷ more) where
  texts : frames_text r.prefix ≡ frames_text passed.prefix ++ (frame_text f ++ frames_text more)
  texts = ap frames_text e ∙ flat_map-append frame_text passed.prefix (f ∷ more)

  sizes : length (frames_text r.prefix) ≡ length (frames_text passed.prefix)
      + (length (frame_text f) + length (frames_text more))
  sizes = omega (
    arith,
    ap length texts,
    length-append (frames_text passed.prefix) (frame_text f ++ frames_text more),
    length-append (frame_text f) (frames_text more),
  )

  whole : bytes ≡ (take 32 bytes ++ frames_text passed.prefix) ++ (frame_text f ++ (frames_text more ++ drop at bytes))
  whole = sym (take-append-drop at bytes) ∙ ap (λ (b : List ℕ). b ++ drop at bytes) (r.before ∙ ap (λ (b : List ℕ).
      take 32 bytes ++ b) texts ∙ sym (append_assoc (take 32 bytes) (frames_text passed.prefix)
      (frame_text f ++ frames_text more)))
      ∙ append_assoc (take 32 bytes ++ frames_text passed.prefix) (frame_text f ++ frames_text more) (drop at bytes)
      ∙ ap (λ (b : List ℕ). (take 32 bytes ++ frames_text passed.prefix) ++ b)
      (append_assoc (frame_text f) (frames_text more) (drop at bytes))

  there : drop next bytes ≡ frame_text f ++ (frames_text more ++ drop at bytes)
  there = ap (drop next) whole ∙ drop_at (take 32 bytes ++ frames_text passed.prefix)
      (frame_text f ++ (frames_text more ++ drop at bytes)) next
      (omega (
        arith,
        length-append (take 32 bytes) (frames_text passed.prefix),
        length-take 32 bytes,
        r.at_is,
        r.within,
        passed.next_at,
      ))

  fits : FitsAt r.head so_far.place f
  fits = subst (λ (p : Place). FitsAt r.head p f) (sym passed.place_is)
      (fits_there r.head start_place passed.prefix f more (subst (Follow r.head start_place) e r.right))

  next_one : IsNext bytes at r next so_far
  next_one = record {
    frame = f;
    begins = record {
      head = r.head;
      place = so_far.place;
      body = fits.body;
      short = fits.short;
      rest = frames_text more ++ drop at bytes;
      is = there;
    };
    fits = fits;
    passed = λ further one. record {
      prefix = passed.prefix ++ f ∷ [];
      rest = more;
      is = e ∙ sym (append_assoc passed.prefix (f ∷ []) more);
      next_at = omega (
        arith,
        passed.next_at,
        ap length (flat_map-append frame_text passed.prefix (f ∷ [])),
        length-append (frames_text passed.prefix) (frames_text (f ∷ [])),
        ap length (append-nil (frame_text f)),
      );
      place_is = one.place_is ∙ ap (λ (p : Place). next_place p f) passed.place_is
          ∙ sym (after_one start_place passed.prefix f);
      records_are = subst (TellsRecords (passed.prefix ++ f ∷ [])) (sym one.records_are)
          (told_after passed.prefix f so_far.records next passed.next_at passed.records_are);
    };
    few = few_found passed.prefix so_far.records next passed.next_at passed.records_are;
    within = omega (arith, sizes, r.at_is, passed.next_at);
  }

-- and where it wasn't, a frame is next
pub next_frame : (bytes : List ℕ) (at : ℕ) (r : IsReached bytes at) (next : ℕ) (so_far : PlaceReached)
    → IsPassed bytes at r next so_far → next < at → IsNext bytes at r next so_far
next_frame bytes at r next so_far passed lt = by passed.rest passed.is
  where
    by : (rest : List Frame) → r.prefix ≡ passed.prefix ++ rest → IsNext bytes at r next so_far
    by [] e = absurd (omega (
      arith,
      r.at_is,
      passed.next_at,
      lt,
      ap (λ (fs : List Frame). length (frames_text fs)) (e ∙ append-nil passed.prefix),
    ))
    by (f ∷ more) e = next_one bytes at r next so_far passed f more e

-- it stands in front of what is sliced off
pub begins_there : (bytes : List ℕ) (at : ℕ) (r : IsReached bytes at) (next : ℕ) (so_far : PlaceReached)
    → (n : IsNext bytes at r next so_far) → BeginsWith (take (length bytes - next) (drop next bytes)) n.frame
begins_there bytes at r next so_far n =
    let whole : take (length bytes - next) (drop next bytes) ≡ drop next bytes =
    take_all (length bytes - next) (drop next bytes) (omega (arith, length-drop next bytes)) in
    subst (λ (ys : List ℕ). BeginsWith ys n.frame) (sym whole) n.begins
