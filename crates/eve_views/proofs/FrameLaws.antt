-- Public: other crates cite these lemmas. Frames are read as they are spelled.
use Rattle.std.proofs.Common.{◌≡◌, ℕ, ◌+◌, ◌^◌, ◌<◌, ◌≤◌, Bool, true, false, ◌&&◌, cond, leb, List, [], ◌∷◌, ◌++◌}
use Rattle.std.proofs.Common.{length, take, drop, Option, Some, None, Result, Ok, Err, refl, sym, ap, subst, ◌∙◌}
use Rattle.std.proofs.Common.{append_assoc, arith}
use Rattle.std.specs.Prelude.{IsTrue, slice_index}
use Rattle.std.proofs.lemmas.Bool.{le-leb, leb-true, and_parts, and_from}
use Rattle.std.proofs.lemmas.List.{take_at, drop_at, take-append-drop, length-append, length-take, length-drop}
use Rattle.byteorder.specs.Endian.{big_bytes, big_number}
use Rattle.byteorder.specs.Numbers.{length-bytes_high_first}
use Rattle.eve_grammar.specs.Frames.{Frame, kind_of, is_allowed}
use Rattle.eve_grammar.specs.Spelling.{body_text, frame_text}
use Rattle.eve_grammar.specs.Limits.{is_head, FitsAt}
use Rattle.eve_grammar.specs.Readers.{body_of}
use Rattle.eve_views.specs.declared.fault.Code.{Code}
use Rattle.eve_views.specs.declared.fault.Code.TheVariants as code
use Rattle.eve_views.specs.Form.{is_framed, HasNoFrame, HasWrongBody}
use Rattle.eve_views.specs.Walk.{with_rest, inside, frame_at}
use Rattle.eve_grammar.proofs.Codec.{IsBytes, IsBytes-drop, IsBytes-take}
use Rattle.eve_grammar.proofs.FrameLaws.{body_of-takes, body_of-again}
use Rattle.eve_grammar.specs.declared.head.Head.{Head}
use Rattle.eve_grammar.specs.declared.place.Place.{Place}
use Rattle.eve_views.proofs.Bytes.{number_back, number_short, number_again, number_behind}

pub true_false : {A : Type 0} (b : Bool) → b ≡ true → b ≡ false → A
true_false true h e = absurd cc
true_false false h e = absurd cc

-- ---- what it is to be framed

pub record Framed (h : Head) (p : Place) (bytes : List ℕ) : Type 0 where
  pub long : 5 ≤ length bytes
  pub allowed : is_allowed h p (slice_index bytes 0) ≡ true
  pub within : 5 + big_number 4 (drop 1 bytes) ≤ length bytes

pub Framed-from : (h : Head) (p : Place) (bytes : List ℕ) → is_framed h p bytes ≡ true → Framed h p bytes
Framed-from h p bytes e =
    let a = and_parts (leb 5 (length bytes))
    (is_allowed h p (slice_index bytes 0) && leb (5 + big_number 4 (drop 1 bytes)) (length bytes)) e in
    let b = and_parts (is_allowed h p (slice_index bytes 0)) (leb (5 + big_number 4 (drop 1 bytes)) (length bytes)) a.1
    in
    record { long = leb-true 5 (length bytes) a.0; allowed = b.0; within = leb-true _ _ b.1 }

-- ---- what is read is spelled so

pub record FrameOf (h : Head) (p : Place) (bytes : List ℕ) (f : Frame) (rest : List ℕ) : Type 0 where
  pub parts : bytes ≡ frame_text f ++ rest
  pub fits : FitsAt h p f
  pub len : length (frame_text f) ≡ 5 + big_number 4 (drop 1 bytes)
  pub kind : slice_index bytes 0 ≡ kind_of f

pub length-frame_text : (f : Frame) → length (frame_text f) ≡ 5 + length (body_text f)
length-frame_text f = omega (
  arith,
  length-bytes_high_first 4 (length (body_text f)),
  length-append (big_bytes 4 (length (body_text f)))
      (body_text f),
)

with_ok : (rest : List ℕ) (o : Option Frame) (x : Frame × List ℕ) → with_rest rest o ≡ Ok x → (o ≡ Some x.0)
    × (rest ≡ x.1)
with_ok rest (Some f) x e = let there : Frame × List ℕ = (f, rest) in let same : there ≡ x =
    cc in (ap (λ (y : Frame × List ℕ). Some y.0) same, ap (λ (y : Frame × List ℕ). y.1) same)
with_ok rest None x e = absurd cc

framed_ok : {A : Type 0} (b : Bool) (r : Result A Code) (c : Code) (y : A) → cond b r (Err c) ≡ Ok y → (b ≡ true)
    × (r ≡ Ok y)
framed_ok true r c y e = (refl, e)
framed_ok false r c y e = absurd cc

pub frame_takes : (h : Head) (p : Place) (bytes : List ℕ) (x : Frame × List ℕ) → IsTrue (is_head h) → IsBytes bytes
    → frame_at h p bytes ≡ Ok x → FrameOf h p bytes x.0 x.1
unfolding frame_at
frame_takes h p [] x right fits e =
    let g = framed_ok (is_framed h p []) (inside h p []) code.Frame x e in
    let f = Framed-from h p [] g.0 in
    let l : 5 ≤ 0 = f.long in absurd (omega arith)
frame_takes h p (k ∷ tail) x right fits e =
    let len = big_number 4 tail in
    let g = framed_ok (is_framed h p (k ∷ tail)) (inside h p (k ∷ tail)) code.Frame x e in
    let f = Framed-from h p (k ∷ tail) g.0 in
    let o = with_ok (drop len (drop 4 tail)) (body_of h p k (take len (drop 4 tail))) x g.1 in
    let tail_fits : IsBytes tail = IsBytes-drop 1 (k ∷ tail) fits in
    let long : 4 ≤ length tail = (let l = f.long in omega arith) in
    let digits : take 4 tail ≡ big_bytes 4 len = sym (number_back tail tail_fits long) in
    let short : len < 2 ^ 32 = number_short tail tail_fits in
    let size : length (take len (drop 4 tail)) ≡ len =
    (let w = f.within in omega (arith, length-take len (drop 4 tail), length-drop 4 tail)) in
    let body = body_of-takes h p k (take len (drop 4 tail)) x.0 right
    (IsBytes-take len (drop 4 tail) (IsBytes-drop 4 tail tail_fits)) o.0 in
    let wide : length (body_text x.0) ≡ len = ap length (sym body.text) ∙ size in
    let rest : drop 4 tail ≡ body_text x.0 ++ x.1 = sym (take-append-drop len (drop 4 tail))
    ∙ ap (λ (b : List ℕ). b ++ drop len (drop 4 tail)) body.text ∙ ap (λ (b : List ℕ). body_text x.0 ++ b) o.1 in
    let all : tail ≡ (big_bytes 4 (length (body_text x.0)) ++ body_text x.0) ++ x.1 =
    sym (take-append-drop 4 tail) ∙ ap (λ (b : List ℕ). b ++ drop 4 tail) digits
    ∙ ap (λ (r : List ℕ). big_bytes 4 len ++ r) rest
    ∙ ap (λ (n : ℕ). big_bytes 4 n ++ (body_text x.0 ++ x.1)) (sym wide)
    ∙ sym (append_assoc (big_bytes 4 (length (body_text x.0))) (body_text x.0) x.1) in
    record {
      parts = ap (λ (n : ℕ). n ∷ tail) body.kind_is ∙ ap (λ (r : List ℕ). kind_of x.0 ∷ r) all;
      fits = record {
        allowed = subst (λ (n : ℕ). is_allowed h p n ≡ true) body.kind_is f.allowed;
        body = body.fits;
        short = omega (arith, wide, short);
      };
      len = omega (arith, length-frame_text x.0, wide);
      kind = body.kind_is;
    }

-- ---- what is spelled is read again

pub frame_again : (h : Head) (p : Place) (f : Frame) (rest : List ℕ) → IsTrue (is_head h) → FitsAt h p f
    → frame_at h p (frame_text f ++ rest) ≡ Ok (f, rest)
unfolding frame_at
frame_again h p f rest right fits =
    let len = length (body_text f) in
    let digits = big_bytes 4 len in
    let body = body_text f in
    let regrouped : frame_text f ++ rest ≡ kind_of f ∷ (digits ++ (body ++ rest)) =
    ap (λ (r : List ℕ). kind_of f ∷ r) (append_assoc digits body rest) in
    let four : length digits ≡ 4 = length-bytes_high_first 4 len in
    let len-is : big_number 4 (digits ++ (body ++ rest)) ≡ len = number_again len (body ++ rest) fits.short in
    let rest-is : drop 4 (digits ++ (body ++ rest)) ≡ body ++ rest = number_behind len (body ++ rest) in
    let one : leb 5 (length (kind_of f ∷ (digits ++ (body ++ rest)))) ≡ true =
    le-leb _ _ (omega (arith, four, length-append digits (body ++ rest))) in
    let two : is_allowed h p (kind_of f) ≡ true = fits.allowed in
    let three : leb (5 + big_number 4 (digits ++ (body ++ rest))) (length (kind_of f ∷ (digits ++ (body ++ rest))))
    ≡ true = le-leb _ _ (omega (arith, len-is, four, length-append digits (body ++ rest), length-append body rest))
    in
    let framed : is_framed h p (kind_of f ∷ (digits ++ (body ++ rest))) ≡ true =
    and_from _ _ one (and_from _ _ two three) in
    let prefix : take len (body ++ rest) ≡ body = take_at body rest len refl in
    let back : drop len (body ++ rest) ≡ rest = drop_at body rest len refl in
    ap (frame_at h p) regrouped ∙ rw (framed, len-is, rest-is, prefix, back, body_of-again h p f right fits) refl

-- ---- faults

abbrev pub failed : {A : Type 0} → Code → Result A Code
failed c = Err c

pub same_code : {A : Type 0} (c d : Code) → failed {A = A} c ≡ failed d → c ≡ d
same_code c d e = cc

pub ok_err : {A : Type 0} (x : A) (c : Code) → Ok x ≡ Err c → ⊥
ok_err x c e = cc

-- what stands where no frame was read
abbrev pub StandsHere : Code → Head → Place → List ℕ → Type 0
StandsHere code.Frame h p bytes = HasNoFrame h p bytes
StandsHere code.Body h p bytes = HasWrongBody h p bytes
StandsHere c h p bytes = ⊥

framed_fault : (h : Head) (p : Place) (bytes : List ℕ) (c : Code) (b : Bool) → is_framed h p bytes ≡ b
    → cond b (inside h p bytes) (Err code.Frame) ≡ Err c
    → ((f : Frame) (more : List ℕ) → FitsAt h p f → bytes ≡ frame_text f ++ more → ⊥)
    → (IsTrue p.ended → bytes ≡ [] → ⊥) → StandsHere c h p bytes
framed_fault h p bytes c false framed e none more = subst (λ (d : Code). StandsHere d h p bytes)
    (same_code {A = Frame × List ℕ} code.Frame c e) (record { unframed = framed; more = more })
framed_fault h p bytes c true framed e none more =
    inside_fault (body_of h p (slice_index bytes 0) (take (big_number 4 (drop 1 bytes)) (drop 5 bytes))) e
  where
    inside_fault : (o : Option Frame) → with_rest (drop (big_number 4 (drop 1 bytes)) (drop 5 bytes)) o ≡ Err c
        → StandsHere c h p bytes
    inside_fault (Some f) e =
        absurd (ok_err {A = Frame × List ℕ} (f, drop (big_number 4 (drop 1 bytes)) (drop 5 bytes)) c e)
    inside_fault None e = subst (λ (d : Code). StandsHere d h p bytes) (same_code {A = Frame × List ℕ} code.Body c e)
        (record { framed = framed; none = none })

pub frame_fault : (h : Head) (p : Place) (bytes : List ℕ) (c : Code) → IsTrue (is_head h) → frame_at h p bytes ≡ Err c
    → (IsTrue p.ended → bytes ≡ [] → ⊥) → StandsHere c h p bytes
unfolding frame_at
frame_fault h p bytes c right e more =
    framed_fault h p bytes c (is_framed h p bytes) refl e
    (λ f rest fits is. ok_err {A = Frame × List ℕ} (f, rest) c
    (sym (ap (frame_at h p) is ∙ frame_again h p f rest right fits) ∙ e)) more

-- a fault that stands is the one that is read
body_stands : (h : Head) (p : Place) (bytes : List ℕ) (r : Result (Frame × List ℕ) Code) → IsTrue (is_head h)
    → IsBytes bytes → frame_at h p bytes ≡ r → cond (is_framed h p bytes) (inside h p bytes) (Err code.Frame) ≡ r
    → HasWrongBody h p bytes → r ≡ Err code.Body
body_stands h p bytes (Ok x) right fits e f s = let t = frame_takes h p bytes x right fits e in
    absurd (s.none x.0 x.1 t.fits t.parts)
body_stands h p bytes (Err c) right fits e f s =
    is_body (body_of h p (slice_index bytes 0) (take (big_number 4 (drop 1 bytes)) (drop 5 bytes)))
    (subst (λ (b : Bool). cond b (inside h p bytes) (Err code.Frame) ≡ Err c) s.framed f)
  where
    is_body : (o : Option Frame) → with_rest (drop (big_number 4 (drop 1 bytes)) (drop 5 bytes)) o ≡ failed c
        → failed {A = Frame × List ℕ} c ≡ failed code.Body
    is_body (Some f) e = absurd (ok_err {A = Frame × List ℕ} (f, drop (big_number 4 (drop 1 bytes)) (drop 5 bytes)) c e)
    is_body None e = sym e

pub frame_stands : (c : Code) (h : Head) (p : Place) (bytes : List ℕ) → IsTrue (is_head h) → IsBytes bytes
    → StandsHere c h p bytes → frame_at h p bytes ≡ Err c
unfolding frame_at
frame_stands code.Frame h p bytes right fits s = let e : is_framed h p bytes ≡ false = s.unframed in rw e refl
frame_stands code.Body h p bytes right fits s = body_stands h p bytes (frame_at h p bytes) right fits refl refl s
frame_stands c h p bytes right fits s = absurd s
