-- Frames of which bodies were not judged.
use Rattle.std.proofs.Common.{◌≡◌, ℕ, ◌+◌, ◌-◌, ◌≤◌, ◌<◌, Bool, true, List, [], ◌∷◌, ◌++◌, length, take, drop, Option}
use Rattle.std.proofs.Common.{Some, None, refl, sym, ap, ap₂, subst, ◌∙◌, eqb, cond, is_some, arith}
use Rattle.std.specs.Prelude.{IsTrue, All, slice_index}
use Rattle.std.specs.Option.{option_map}
use Rattle.std.proofs.lemmas.Bool.{eq-eqb}
use Rattle.std.proofs.lemmas.Bool.Decides.{nat_tests}
use Rattle.std.proofs.lemmas.List.{take_rest, take-append-drop, take_at}
use Rattle.std.proofs.lemmas.List.Elements.{All-cons, All-head, All-tail, All-append}
use Rattle.byteorder.specs.Endian.{big_number}
use Rattle.eve_grammar.specs.Trace.{Batch, Attempt, Access, Transfer}
use Rattle.eve_grammar.specs.Frames.{OfBatch, OfAttempt, OfAccess, OfTransfer, is_allowed}
use Rattle.eve_grammar.specs.Limits.{is_head, row_count}
use Rattle.eve_grammar.specs.Readers.{◌>>=◌, batch_of, attempt_of, access_of, transfer_of, body_of}
use Rattle.eve_grammar.proofs.Codec.{IsBytes}
use Rattle.eve_grammar.specs.declared.head.Head.{Head}
use Rattle.eve_grammar.specs.declared.place.Place.{Place}
use Rattle.eve_frames.proofs.BatchPlaces.{batch_at}
use Rattle.eve_frames.proofs.AttemptPlaces.{attempt_at}
use Rattle.eve_views.specs.declared.starts.Starts.{Starts}
use Rattle.eve_views.specs.inner.PartStarts.{noted}
use Rattle.eve_views.specs.inner.Places.{accesses_in, place_after}
use Rattle.eve_views.specs.Walk.{IsPrefixOf}
use Rattle.eve_views.specs.Indexes.{KeptFrame}
use Rattle.eve_views.specs.inner.SideBySide.{is_right_body, IsRightFrame, AreRightFrames, IsFramedUnjudged, access_kept}
use Rattle.eve_views.proofs.KeptFrames.{kept_right}
use Rattle.eve_views.specs.inner.WalkProgress.{Walking}
use Rattle.eve_views.proofs.WalkSteps.{step_here, walking_more, room_of}

-- ---- what follows a body

-- the body as one behind five bytes, as a frame has it
abbrev framed : List ℕ → List ℕ
framed body = 0 ∷ 0 ∷ 0 ∷ 0 ∷ 0 ∷ body

-- so many access frames have to follow the body, which may stand there
abbrev pub Follow : Head → Place → ℕ → List ℕ → ℕ → Type 0
Follow h p kind body accesses = Some accesses ≡ option_map accesses_in (body_of h p kind body)

pub access_followed : (h : Head) (p : Place) (body : List ℕ) → IsTrue (is_right_body (row_count h) 18 body)
    → Follow h p 18 body 0
unfolding body_of
access_followed h p body right = by (access_of (row_count h) body) right
  where
    by : (o : Option Access) → is_some o ≡ true
        → Some 0 ≡ option_map accesses_in (o >>= (λ (x : Access). Some (OfAccess x)))
    by (Some x) e = refl
    by None e = absurd cc

pub transfer_followed : (h : Head) (p : Place) (body : List ℕ) → IsTrue (is_right_body (row_count h) 21 body)
    → Follow h p 21 body 0
unfolding body_of
transfer_followed h p body right = by (transfer_of (row_count h) body) right
  where
    by : (o : Option Transfer) → is_some o ≡ true
        → Some 0 ≡ option_map accesses_in (o >>= (λ (x : Transfer). Some (OfTransfer x)))
    by (Some x) e = refl
    by None e = absurd cc

pub attempt_followed : (h : Head) (p : Place) (body : List ℕ) (n : ℕ) → n ≡ big_number 2 (drop 9 body)
    → IsTrue (is_right_body (row_count h) 17 body) → Follow h p 17 body n
unfolding body_of
attempt_followed h p body n decoded right = by (attempt_of body) refl right
  where
    by : (o : Option Attempt) → attempt_of body ≡ o → is_some o ≡ true
        → Some n ≡ option_map accesses_in (o >>= (λ (x : Attempt). Some (OfAttempt x)))
    by (Some a) e f =
        let at = attempt_at (framed body) a e in
        ap Some (decoded ∙ sym at.1.count ∙ sym at.1.certificate.count)
    by None e f = absurd cc

pub batch_followed : (h : Head) (p : Place) (body : List ℕ) → big_number 4 body ≡ p.batches + 1
    → IsTrue (is_right_body (row_count h) 2 body) → Follow h p 2 body 0
unfolding body_of
batch_followed h p body decoded right = by (batch_of body) refl right
  where
    by : (o : Option (ℕ × Batch)) → batch_of body ≡ o → is_some o ≡ true
        → Some 0 ≡ option_map accesses_in
        (o >>= (λ (x : ℕ × Batch). cond (eqb x.0 (p.batches + 1)) (Some (OfBatch x.0 x.1)) None))
    by (Some b) e f =
        let at = batch_at (framed body) b e in
        let same : b.0 ≡ p.batches + 1 = at.1.seq ∙ decoded in
        rw (eq-eqb b.0 (p.batches + 1) same) refl
    by None e f = absurd cc

-- ---- one frame

pub right_body : (rows : ℕ) (bytes : List ℕ) (kind : ℕ) (body : List ℕ) → IsPrefixOf bytes kind body
    → is_right_body rows (slice_index bytes 0) (take (big_number 4 (drop 1 bytes)) (drop 5 bytes))
    ≡ is_right_body rows kind body
right_body rows bytes kind body prefix = rw (prefix.kind_is, prefix.len_is, prefix.body_is) refl

pub framed_unjudged : (h : Head) (p : Place) (bytes : List ℕ) (kind accesses : ℕ) (body : List ℕ)
    → IsPrefixOf bytes kind body → is_allowed h p kind ≡ true
    → (IsTrue (is_right_body (row_count h) kind body) → Follow h p kind body accesses)
    → IsFramedUnjudged h p bytes (record { kind = kind; len = 5 + length body; accesses = accesses })
framed_unjudged h p bytes kind accesses body prefix allowed follow = record {
  allowed = allowed;
  some = omega arith;
  within = prefix.whole;
  right = λ right. sym (kept_right h p bytes kind accesses body prefix allowed
      (follow (subst (λ (t : Bool). t ≡ true) (right_body (row_count h) bytes kind body prefix) right)));
}

pub access_framed : (h : Head) (p : Place) (bytes : List ℕ) (kind : ℕ) (body : List ℕ) → kind ≡ 18
    → IsPrefixOf bytes kind body → is_allowed h p 18 ≡ true
    → IsFramedUnjudged h p bytes (access_kept (5 + length body))
access_framed h p bytes kind body is prefix allowed =
    framed_unjudged h p bytes 18 0 body (subst (λ (k : ℕ). IsPrefixOf bytes k body) is prefix) allowed
    (access_followed h p body)

-- while access frames have to follow, they may
pub access_again : (h g : Head) (p q : Place) → g ≡ h → q ≡ place_after p 18 0 → is_allowed h p 18 ≡ true
    → 0 < q.accesses → is_allowed g q 18 ≡ true
access_again h g p q same moved allowed more =
    ap (λ (i : Head). is_allowed i q 18) same ∙ ap (λ (r : Place). is_allowed h r 18) moved
    ∙ there (subst (λ (r : Place). 0 < r.accesses) moved more)
  where
    there : 0 < p.accesses - 1 → is_allowed h (place_after p 18 0) 18 ≡ true
    there one = grind (arith, nat_tests)

-- ---- stretches

-- a list cut at a place
pub in_two : (xs prefix back : List ℕ) (n : ℕ) → prefix ≡ take n xs → back ≡ drop n xs → prefix ++ back ≡ xs
in_two xs prefix back n first second = ap₂ ◌++◌ first second ∙ take-append-drop n xs

-- where those up to a place are right, and those behind it, all are
pub right_whole : (rows : ℕ) (bytes xs back : List ℕ) (n : ℕ) → back ≡ drop n xs → AreRightFrames rows bytes (take n xs)
    → AreRightFrames rows bytes back → AreRightFrames rows bytes xs
right_whole rows bytes xs back n cut one two =
    subst (AreRightFrames rows bytes) (in_two xs (take n xs) back n refl cut)
    (All-append (λ (at : ℕ). IsRightFrame rows (drop at bytes)) (take n xs) back one two)

-- the offsets before stand in front of those with which the walk goes on
pub right_prefix : (rows : ℕ) (bytes before more after : List ℕ) → after ≡ before ++ more
    → AreRightFrames rows bytes before → AreRightFrames rows bytes (take (length before) after)
right_prefix rows bytes before more after on right =
    subst (AreRightFrames rows bytes)
    (sym (ap (take (length before)) on ∙ take_at before more (length before) refl)) right

-- ---- one frame more

all_last : {A : Type 0} (P : A → Type 0) (xs : List A) (x : A) → All P (xs ++ x ∷ []) → All P xs × P x
all_last P [] x all = ((λ k d lt. absurd (omega arith)), All-head P x [] all)
all_last P (y ∷ xs) x all =
    let r = all_last P xs x (All-tail P y (xs ++ x ∷ []) all) in
    (All-cons P y xs (All-head P y (xs ++ x ∷ []) all) r.0, r.1)

pub walking_unjudged : (h g : Head) (p : Place) (bytes : List ℕ) (at : ℕ) (offsets : List ℕ) (s : Starts)
    (k : KeptFrame) → IsTrue (is_head h) → IsBytes bytes → at ≤ length bytes → g ≡ h
    → IsFramedUnjudged g p (take (length bytes - at) (drop at bytes)) k
    → (AreRightFrames (row_count h) bytes offsets → Walking h bytes at p offsets s)
    → AreRightFrames (row_count h) bytes (offsets ++ at ∷ [])
    → Walking h bytes (at + k.len) (place_after p k.kind k.accesses) (offsets ++ at ∷ [])
    (noted s p k.kind (length offsets))
walking_unjudged h g p bytes at offsets s k is fits le same framed before right =
    let parts = all_last (λ (i : ℕ). IsRightFrame (row_count h) (drop i bytes)) offsets at right in
    let there : IsRightFrame (row_count g) (take (length bytes - at) (drop at bytes)) =
    subst (λ (b : List ℕ). IsRightFrame (row_count g) b) (sym (take_rest bytes at))
    (subst (λ (i : Head). IsRightFrame (row_count i) (drop at bytes)) (sym same) parts.1) in
    let step = step_here h g p bytes at k is fits le same (framed.right there) in
    walking_more h bytes at p offsets s k (room_of h is) (before parts.0) step
