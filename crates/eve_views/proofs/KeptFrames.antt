-- What the walk keeps of a frame.
use Rattle.std.proofs.Common.{◌≡◌, ℕ, ◌+◌, ◌<◌, ◌≤◌, Bool, true, false, cond, leb, ltb, List}
use Rattle.std.proofs.Common.{[], ◌∷◌, length, take, drop, Option, Some, None, Ok, Err, refl, sym, ap, ◌∙◌, arith}
use Rattle.std.specs.Prelude.{slice_index}
use Rattle.std.specs.Option.{option_map}
use Rattle.std.proofs.lemmas.Bool.{le-leb, ltb-false, and_from, and_left, and_right}
use Rattle.std.proofs.lemmas.List.{length-drop}
use Rattle.byteorder.specs.Endian.{big_number}
use Rattle.eve_grammar.specs.Frames.{Frame, OfCustomer, OfBatch, OfReplica, OfAttempt, OfAccess, OfCommit, OfRollback}
use Rattle.eve_grammar.specs.Frames.{OfTransfer, OfVerifier, OfVote, OfSent, End, next_place, kind_of, is_allowed}
use Rattle.eve_grammar.specs.Readers.{number_at, body_of}
use Rattle.eve_grammar.specs.declared.head.Head.{Head}
use Rattle.eve_grammar.specs.declared.place.Place.{Place}
use Rattle.eve_views.specs.declared.fault.Code.TheVariants as code
use Rattle.eve_views.specs.Form.{is_framed}
use Rattle.eve_views.specs.inner.Places.{accesses_in, place_after}
use Rattle.eve_views.specs.Walk.{with_rest, frame_at, IsPrefixOf}
use Rattle.eve_views.specs.Indexes.{kept}

-- ---- the prefix of bytes

pub record PrefixOf (bytes : List ℕ) (kind len : ℕ) (rest : List ℕ) : Type 0 where
  pub kind_is : slice_index bytes 0 ≡ kind
  pub len_is : big_number 4 (drop 1 bytes) ≡ len
  pub rest_is : drop 5 bytes ≡ rest
  pub size : length bytes ≡ 5 + length rest

taken : (n : ℕ) (bytes : List ℕ) (x : ℕ) (rest : List ℕ) → number_at n bytes ≡ Some (x, rest) → (n ≤ length bytes)
    × (big_number n bytes ≡ x) × (drop n bytes ≡ rest)
taken n bytes x rest e = by (ltb (length bytes) n) refl e
  where
    by : (b : Bool) → ltb (length bytes) n ≡ b
        → cond {A = Option (ℕ × List ℕ)} b None (Some (big_number n bytes, drop n bytes)) ≡ Some (x, rest)
        → (n ≤ length bytes) × (big_number n bytes ≡ x) × (drop n bytes ≡ rest)
    by true t e = absurd cc
    by false t e =
        let one : ℕ × List ℕ = (big_number n bytes, drop n bytes) in
        let two : ℕ × List ℕ = (x, rest) in
        let same : one ≡ two = cc in
        (ltb-false _ _ t, ap (λ (y : ℕ × List ℕ). y.0) same, ap (λ (y : ℕ × List ℕ). y.1) same)

pub prefix_of : (bytes : List ℕ) (kind len : ℕ) (rest more : List ℕ) → number_at 1 bytes ≡ Some (kind, rest)
    → number_at 4 rest ≡ Some (len, more) → PrefixOf bytes kind len more
prefix_of [] kind len rest more one two = let t = taken 1 [] kind rest one in let l : 1 ≤ 0 = t.0 in
    absurd (omega arith)
prefix_of (b ∷ bytes) kind len rest more one two =
    let t = taken 1 (b ∷ bytes) kind rest one in
    let here : bytes ≡ rest = t.2 in
    let u = taken 4 bytes len more (ap (number_at 4) here ∙ two) in
    let first : big_number 1 (b ∷ bytes) ≡ b = omega arith in
    record {
      kind_is = sym first ∙ t.1;
      len_is = u.1;
      rest_is = u.2;
      size = omega (arith, length-drop 4 bytes, ap length u.2, u.0);
    }

-- ---- bytes with no frame at their prefix

pub unframed_kind : (h : Head) (p : Place) (bytes : List ℕ) (kind : ℕ) → slice_index bytes 0 ≡ kind
    → is_allowed h p kind ≡ false → is_framed h p bytes ≡ false
unframed_kind h p bytes kind is banned = and_right _ _ (and_left _ _ (ap (is_allowed h p) is ∙ banned))

pub unframed_past : (h : Head) (p : Place) (bytes : List ℕ) (kind len : ℕ) (rest : List ℕ)
    → PrefixOf bytes kind len rest → length rest < len → is_framed h p bytes ≡ false
unframed_past h p bytes kind len rest prefix lt = and_right _ _ (and_right _ _ (past prefix.len_is prefix.size))
  where
    past : big_number 4 (drop 1 bytes) ≡ len → length bytes ≡ 5 + length rest
        → leb (5 + big_number 4 (drop 1 bytes)) (length bytes) ≡ false
    past e s = grind arith

-- ---- what is kept

pub kept_unframed : (h : Head) (p : Place) (bytes : List ℕ) → is_framed h p bytes ≡ false
    → kept bytes (frame_at h p bytes) ≡ Err code.Frame
unfolding frame_at
kept_unframed h p bytes e = rw e refl

framed_from : (h : Head) (p : Place) (bytes : List ℕ) (kind : ℕ) (body : List ℕ) → IsPrefixOf bytes kind body
    → is_allowed h p kind ≡ true → is_framed h p bytes ≡ true
framed_from h p bytes kind body prefix allowed =
    and_from _ _ (le-leb 5 (length bytes) (omega (arith, prefix.whole)))
    (and_from _ _ (ap (is_allowed h p) prefix.kind_is ∙ allowed)
    (le-leb _ _ (omega (arith, prefix.whole, prefix.len_is))))

body_is : (h : Head) (p : Place) (bytes : List ℕ) (kind : ℕ) (body : List ℕ) → IsPrefixOf bytes kind body
    → body_of h p (slice_index bytes 0) (take (big_number 4 (drop 1 bytes)) (drop 5 bytes)) ≡ body_of h p kind body
body_is h p bytes kind body prefix = rw (prefix.kind_is, prefix.len_is, prefix.body_is) refl

pub kept_wrong : (h : Head) (p : Place) (bytes : List ℕ) (kind : ℕ) (body : List ℕ) → IsPrefixOf bytes kind body
    → is_allowed h p kind ≡ true → None ≡ option_map accesses_in (body_of h p kind body)
    → kept bytes (frame_at h p bytes) ≡ Err code.Body
unfolding frame_at
kept_wrong h p bytes kind body prefix allowed e =
    rw (framed_from h p bytes kind body prefix allowed, body_is h p bytes kind body prefix)
    (by (body_of h p kind body) e)
  where
    by : (o : Option Frame) → None ≡ option_map accesses_in o
        → kept bytes (with_rest (drop (big_number 4 (drop 1 bytes)) (drop 5 bytes)) o) ≡ Err code.Body
    by (Some f) e = absurd cc
    by None e = refl

pub kept_right : (h : Head) (p : Place) (bytes : List ℕ) (kind accesses : ℕ) (body : List ℕ)
    → IsPrefixOf bytes kind body → is_allowed h p kind ≡ true
    → Some accesses ≡ option_map accesses_in (body_of h p kind body)
    → kept bytes (frame_at h p bytes) ≡ Ok (record { kind = kind; len = 5 + length body; accesses = accesses })
unfolding frame_at
kept_right h p bytes kind accesses body prefix allowed e =
    rw (framed_from h p bytes kind body prefix allowed, body_is h p bytes kind body prefix)
    (by (body_of h p kind body) e)
  where
    by : (o : Option Frame) → Some accesses ≡ option_map accesses_in o
        → kept bytes (with_rest (drop (big_number 4 (drop 1 bytes)) (drop 5 bytes)) o)
        ≡ Ok (record { kind = kind; len = 5 + length body; accesses = accesses })
    by (Some f) e =
        let same : accesses_in f ≡ accesses = cc in
        rw (prefix.kind_is, prefix.len_is, same) refl
    by None e = absurd cc

-- ---- the place after it

pub next_moved : (p : Place) (f : Frame) → next_place p f ≡ place_after p (kind_of f) (accesses_in f)
next_moved p (OfCustomer c) = refl
next_moved p (OfBatch n b) = refl
next_moved p (OfReplica n) = refl
next_moved p (OfAttempt a) = refl
next_moved p (OfAccess x) = refl
next_moved p (OfCommit c) = refl
next_moved p (OfRollback r) = refl
next_moved p (OfTransfer x) = refl
next_moved p (OfVerifier n) = refl
next_moved p (OfVote v) = refl
next_moved p (OfSent s) = refl
next_moved p End = refl
