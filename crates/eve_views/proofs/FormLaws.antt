-- The first fault of form.
use Rattle.std.proofs.Common.{◌≡◌, ℕ, suc, ◌<◌, ◌≤◌, true, List, length, drop, Option, Some, None, Ok, Err, refl, sym}
use Rattle.std.proofs.Common.{ap, subst, ◌∙◌, arith, inl, inr, ◌⊎◌}
use Rattle.std.proofs.lemmas.List.{length-drop}
use Rattle.eve_grammar.specs.Trace.{Trace}
use Rattle.eve_grammar.specs.Frames.{Frame, start_place, frames_of}
use Rattle.eve_grammar.specs.Spelling.{frames_text}
use Rattle.eve_grammar.specs.Readers.{header_of}
use Rattle.eve_views.specs.declared.fault.Code.{Code}
use Rattle.eve_views.specs.declared.fault.Code.TheVariants as code
use Rattle.eve_views.specs.declared.fault.Fault.{Fault}
use Rattle.eve_views.specs.Code.{code_number}
use Rattle.eve_views.specs.Form.{is_sized, has_magic, head_bytes, IsReached, StandsInForm, IsLeast, IsFaultOutside}
use Rattle.eve_views.specs.inner.Header.{IsHeader, StopsAtHeader}
use Rattle.eve_views.specs.Walk.{Walked, walk}
use Rattle.eve_grammar.proofs.Codec.{IsBytes, IsBytes-drop}
use Rattle.eve_grammar.specs.declared.head.Head.{Head}
use Rattle.eve_grammar.specs.FrameOrder.{Spells, after}
use Rattle.eve_views.proofs.FrameLaws.{StandsHere, true_false}
use Rattle.eve_views.proofs.WalkLaws.{stopped, StandsBehind, walk_fault, walk_again, prefix_short}
use Rattle.eve_views.proofs.WalkSteps.{split_at}
use Rattle.eve_views.proofs.HeaderLaws.{says_head, head_decoded, header_again_of}
use Rattle.eve_views.proofs.WholeTraces.{spells_frames}

some_none : {A : Type 0} (o : Option A) (x : A) → o ≡ Some x → o ≡ None → ⊥
some_none (Some y) x e n = cc
some_none None x e n = cc

same_some : {A : Type 0} (o : Option A) (x y : A) → o ≡ Some x → o ≡ Some y → x ≡ y
same_some (Some z) x y e f = cc
same_some None x y e f = absurd cc

-- ---- a fault of the header

-- what stops at the header stands at 0
pub stands_at_header : (c : Code) (bytes : List ℕ) → StopsAtHeader bytes c → StandsInForm c bytes 0
stands_at_header code.Length bytes s = (refl, s)
stands_at_header code.Magic bytes s = (refl, s.1)
stands_at_header code.Head bytes s =
    (refl, λ h says. some_none (header_of (head_bytes bytes)) h (head_decoded bytes h says) s.2)
stands_at_header c bytes s = absurd s

abbrev IsNotBefore : Code → ℕ → Code → Type 0
IsNotBefore d at c = (0 < at) ⊎ ((0 ≡ at) × (code_number c ≤ code_number d))

first_at_length : (d : Code) (bytes : List ℕ) (at : ℕ) → StandsInForm d bytes at → IsNotBefore d at code.Length
first_at_length code.Frame bytes at t = let place = t.0.at_is in inl (omega arith)
first_at_length code.Body bytes at t = let place = t.0.at_is in inl (omega arith)
first_at_length code.Length bytes at t = inr (sym t.0, omega arith)
first_at_length code.Magic bytes at t = inr (sym t.0, omega arith)
first_at_length code.Head bytes at t = inr (sym t.0, omega arith)
first_at_length d bytes at t = absurd t

first_at_magic : (d : Code) (bytes : List ℕ) (at : ℕ) → is_sized bytes ≡ true → StandsInForm d bytes at
    → IsNotBefore d at code.Magic
first_at_magic code.Frame bytes at sized t = let place = t.0.at_is in inl (omega arith)
first_at_magic code.Body bytes at sized t = let place = t.0.at_is in inl (omega arith)
first_at_magic code.Length bytes at sized t = absurd (true_false (is_sized bytes) sized t.1)
first_at_magic code.Magic bytes at sized t = inr (sym t.0, omega arith)
first_at_magic code.Head bytes at sized t = inr (sym t.0, omega arith)
first_at_magic d bytes at sized t = absurd t

first_at_head : (d : Code) (bytes : List ℕ) (at : ℕ) → is_sized bytes ≡ true → has_magic bytes ≡ true
    → StandsInForm d bytes at → IsNotBefore d at code.Head
first_at_head code.Frame bytes at sized magic t = let place = t.0.at_is in inl (omega arith)
first_at_head code.Body bytes at sized magic t = let place = t.0.at_is in inl (omega arith)
first_at_head code.Length bytes at sized magic t = absurd (true_false (is_sized bytes) sized t.1)
first_at_head code.Magic bytes at sized magic t = absurd (true_false (has_magic bytes) magic t.1)
first_at_head code.Head bytes at sized magic t = inr (sym t.0, omega arith)
first_at_head d bytes at sized magic t = absurd t

-- and nothing stands before it
first_at_header : (c d : Code) (bytes : List ℕ) (at : ℕ) → StopsAtHeader bytes c → StandsInForm d bytes at
    → IsNotBefore d at c
first_at_header code.Length d bytes at s t = first_at_length d bytes at t
first_at_header code.Magic d bytes at s t = first_at_magic d bytes at s.0 t
first_at_header code.Head d bytes at s t = first_at_head d bytes at s.0 s.1 t
first_at_header c d bytes at s t = absurd s

none_at_header : (c : Code) (bytes : List ℕ) (t : Trace) → StopsAtHeader bytes c → Spells bytes t → ⊥
none_at_header code.Length bytes t s spells = true_false (is_sized bytes) (header_again_of bytes t spells).0.sized s
none_at_header code.Magic bytes t s spells = true_false (has_magic bytes) (header_again_of bytes t spells).0.magic s.1
none_at_header code.Head bytes t s spells = some_none (header_of (head_bytes bytes)) t.head
    (header_again_of bytes t spells).0.decoded s.2
none_at_header c bytes t s spells = s

-- ---- a fault of the frames

behind_frames : (c : Code) (bytes : List ℕ) (at : ℕ) (h : Head) (r : IsReached bytes at) → r.head ≡ h
    → StandsHere c r.head (after start_place r.prefix) (drop at bytes)
    → StandsBehind c h (drop 32 bytes) (drop at bytes) × (at ≤ length bytes)
behind_frames c bytes at h r same s = (
  subst (λ (g : Head). StandsBehind c g (drop 32 bytes) (drop at bytes)) same
      (record {
        prefix = r.prefix;
        right = r.right;
        before = split_at at bytes (frames_text r.prefix) r.at_is r.within
            r.before;
        here = s;
      }),
  r.within,
)

-- where the header is right a fault stands after frames that are right
behind_of : (c : Code) (bytes : List ℕ) (at : ℕ) (h : Head) → StandsInForm c bytes at → IsHeader bytes h → IsBytes bytes
    → StandsBehind c h (drop 32 bytes) (drop at bytes) × (at ≤ length bytes)
behind_of code.Length bytes at h s is fits = absurd (true_false (is_sized bytes) is.sized s.1)
behind_of code.Magic bytes at h s is fits = absurd (true_false (has_magic bytes) is.magic s.1)
behind_of code.Head bytes at h s is fits = absurd (s.1 h (says_head bytes h fits is.decoded))
behind_of code.Frame bytes at h s is fits = behind_frames code.Frame bytes at h s.0
    (same_some (header_of (head_bytes bytes)) s.0.head h (head_decoded bytes s.0.head s.0.says) is.decoded) s.1
behind_of code.Body bytes at h s is fits = behind_frames code.Body bytes at h s.0
    (same_some (header_of (head_bytes bytes)) s.0.head h (head_decoded bytes s.0.head s.0.says) is.decoded) s.1
behind_of c bytes at h s is fits = absurd s

abbrev stop_of : Code × List ℕ → Walked → Code × List ℕ
stop_of d (Ok fs) = d
stop_of d (Err e) = e

same_stop : (c d : Code) (r s : List ℕ) → stopped c r ≡ stopped d s → (c ≡ d) × (r ≡ s)
same_stop c d r s e =
    let one : Code × List ℕ = (c, r) in
    let two : Code × List ℕ = (d, s) in
    let h : one ≡ two = ap (stop_of one) e in
    (ap (λ (x : Code × List ℕ). x.0) h, ap (λ (x : Code × List ℕ). x.1) h)

stop_ok : (c : Code) (r : List ℕ) (w : Walked) (fs : List Frame) → w ≡ stopped c r → w ≡ Ok fs → ⊥
stop_ok c r (Ok gs) fs e f = cc
stop_ok c r (Err d) fs e f = cc

-- the walk stops there
stops_at : (c : Code) (bytes : List ℕ) (at : ℕ) (h : Head) → StandsInForm c bytes at → IsHeader bytes h → IsBytes bytes
    → walk (suc (length (drop 32 bytes))) h start_place (drop 32 bytes) ≡ stopped c (drop at bytes)
stops_at c bytes at h s is fits =
    let b = behind_of c bytes at h s is fits in
    walk_fault c (suc (length (drop 32 bytes))) h (drop 32 bytes) (drop at bytes)
    (says_head bytes h fits is.decoded).limits (IsBytes-drop 32 bytes fits) (omega arith) b.0

one_place : (c d : Code) (bytes : List ℕ) (at to : ℕ) (h : Head) → IsHeader bytes h → IsBytes bytes
    → StandsInForm c bytes at → StandsInForm d bytes to → (c ≡ d) × (at ≡ to)
one_place c d bytes at to h is fits s t =
    let same = same_stop c d (drop at bytes) (drop to bytes) (sym (stops_at c bytes at h s is fits)
    ∙ stops_at d bytes to h t is fits) in
    let one = (behind_of c bytes at h s is fits).1 in
    let two = (behind_of d bytes to h t is fits).1 in
    (same.0, omega (arith, ap length same.1, length-drop at bytes, length-drop to bytes, one, two))

none_behind : (c : Code) (bytes : List ℕ) (at : ℕ) (h : Head) (t : Trace) → IsHeader bytes h → IsBytes bytes
    → StandsInForm c bytes at → Spells bytes t → ⊥
none_behind c bytes at h t is fits s spells =
    let a = header_again_of bytes t spells in
    let same : t.head ≡ h = same_some (header_of (head_bytes bytes)) t.head h a.0.decoded is.decoded in
    let frames = spells_frames bytes t spells in
    let again : walk (suc (length (drop 32 bytes))) t.head start_place (drop 32 bytes)
    ≡ Ok (frames_of t) = ap (λ (b : List ℕ). walk (suc (length b)) t.head start_place b) a.1
    ∙ walk_again (frames_of t) (suc (length (frames_text (frames_of t)))) t.head start_place frames.limits
    frames.run.follow frames.run.ended (omega (arith, prefix_short (frames_of t))) in
    stop_ok c (drop at bytes) (walk (suc (length (drop 32 bytes))) h start_place (drop 32 bytes)) (frames_of t)
    (stops_at c bytes at h s is fits)
    (ap (λ (g : Head). walk (suc (length (drop 32 bytes))) g start_place (drop 32 bytes)) (sym same) ∙ again)

-- ---- the first fault

-- the fault is the first, nothing is spelled, and it lies within the bytes
pub record IsRefused (bytes : List ℕ) (f : Fault) : Type 0 where
  pub least : IsLeast (IsFaultOutside StandsInForm bytes) f
  pub none : (t : Trace) → Spells bytes t → ⊥
  pub within : f.offset ≤ length bytes

abbrev at_header : Code → Fault
at_header c = record { code = c; offset = 0; replica = None }

pub refused_at_header : (c : Code) (bytes : List ℕ) → StopsAtHeader bytes c → IsRefused bytes (at_header c)
refused_at_header c bytes s = record {
  least = record {
    is = record { stands = stands_at_header c bytes s; outside = refl };
    least = λ g other. first_at_header c g.code bytes g.offset s other.stands;
  };
  none = λ t spells. none_at_header c bytes t s spells;
  within = omega arith;
}

pub refused_behind : (bytes : List ℕ) (h : Head) (f : Fault) → IsHeader bytes h → IsBytes bytes
    → IsFaultOutside StandsInForm bytes f
    → IsRefused bytes f
refused_behind bytes h f is fits s = record {
  least = record {
    is = s;
    least = λ g other.
        let same = one_place f.code g.code bytes f.offset g.offset h is fits s.stands other.stands in
        let number : code_number f.code ≡ code_number g.code = ap code_number same.0 in
        inr (same.1, omega arith);
  };
  none = λ t spells. none_behind f.code bytes f.offset h t is fits s.stands spells;
  within = (behind_of f.code bytes f.offset h s.stands is fits).1;
}
