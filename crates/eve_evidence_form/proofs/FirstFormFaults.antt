-- A fault of form that is the first: what holds where it stands.
use Rattle.std.proofs.Common.{◌≡◌, ◌≢◌, ℕ, ◌^◌, ◌<◌, ◌≤◌, leb, Bool, true}
use Rattle.std.proofs.Common.{false, List, length, None, refl, subst, inl, inr, arith}
use Rattle.std.proofs.lemmas.Bool.{and_parts, leb-true}
use Rattle.eve_views.specs.Code.{code_number}
use Rattle.eve_views.specs.declared.fault.Code.{Code}
use Rattle.eve_views.specs.declared.fault.Code.TheVariants as code
use Rattle.eve_views.specs.declared.fault.Fault.{Fault}
use Rattle.eve_views.specs.Form.{is_sized, StandsInForm, IsFaultOutside, IsLeast}

-- where another fault of the header is the first, there are the bytes of a header
sized : (bytes : List ℕ) (f : Fault) → IsLeast (IsFaultOutside StandsInForm bytes) f → f.offset ≡ 0
    → 1 < code_number f.code → 32 ≤ length bytes
sized bytes f first at later = by (is_sized bytes) refl
  where
    by : (b : Bool) → is_sized bytes ≡ b → 32 ≤ length bytes
    by true e = leb-true 32 (length bytes) (and_parts (leb 32 (length bytes)) _ e).0
    by false e = elim (first.least (record { code = code.Length; offset = 0; replica = None })
        (record { stands = (refl, e); outside = refl })) [
          | inl before ↦ absurd (omega (arith, before, at))
          | inr same ↦ absurd (let le : code_number f.code ≤ 1 = same.1 in omega arith)
        ]

-- what stands there, by the code
pub stands_as : (c : Code) (bytes : List ℕ) (f : Fault) → IsLeast (IsFaultOutside StandsInForm bytes) f → f.code ≡ c
    → StandsInForm c bytes f.offset
stands_as c bytes f first e = subst (λ (d : Code). StandsInForm d bytes f.offset) e first.is.stands

-- no code but the five of form stands there
pub other_codes : (c : Code) (bytes : List ℕ) (at : ℕ) → StandsInForm c bytes at → c ≢ code.Length → c ≢ code.Magic
    → c ≢ code.Head
    → c ≢ code.Frame
    → c ≢ code.Body
    → ⊥
other_codes code.Length bytes at stands length magic head frame body = length refl
other_codes code.Magic bytes at stands length magic head frame body = magic refl
other_codes code.Head bytes at stands length magic head frame body = head refl
other_codes code.Frame bytes at stands length magic head frame body = frame refl
other_codes code.Body bytes at stands length magic head frame body = body refl
other_codes _ bytes at stands length magic head frame body = stands

pub sized_at_magic : (bytes : List ℕ) (f : Fault) → IsLeast (IsFaultOutside StandsInForm bytes) f → f.code ≡ code.Magic
    → 32 ≤ length bytes
sized_at_magic bytes f first e =
    let number : code_number f.code ≡ 2 = (λ i. code_number (e i)) in
    sized bytes f first (stands_as code.Magic bytes f first e).0 (omega arith)

pub sized_at_head : (bytes : List ℕ) (f : Fault) → IsLeast (IsFaultOutside StandsInForm bytes) f → f.code ≡ code.Head
    → 32 ≤ length bytes
sized_at_head bytes f first e =
    let number : code_number f.code ≡ 3 = (λ i. code_number (e i)) in
    sized bytes f first (stands_as code.Head bytes f first e).0 (omega arith)

-- where a fault of a body is the first, there are no more bytes than a trace may have
pub short_at_body : (bytes : List ℕ) (f : Fault) → IsLeast (IsFaultOutside StandsInForm bytes) f → f.code ≡ code.Body
    → length bytes ≤ 2 ^ 30
short_at_body bytes f first e = by (is_sized bytes) refl
  where
    by : (b : Bool) → is_sized bytes ≡ b → length bytes ≤ 2 ^ 30
    by true e = leb-true (length bytes) (2 ^ 30) (and_parts (leb (length bytes) (2 ^ 30)) _
        (and_parts (leb 32 (length bytes)) _ e).1).0
    by false none = elim (first.least (record { code = code.Length; offset = 0; replica = None })
        (record { stands = (refl, none); outside = refl })) [
          | inl before ↦ absurd (omega (arith, before))
          | inr same ↦ absurd (let at : f.offset ≡ 0 = same.0 in
              let behind = (stands_as code.Body bytes f first e).0.at_is in omega (arith, at, behind))
        ]
