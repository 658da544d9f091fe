-- Public: other crates cite these lemmas. The first of two faults precedes both.
use Rattle.std.proofs.Common.{◌≡◌, ℕ, ◌<◌, ◌≤◌, nat_lt, ◌==◌, Bool, true, false, ◌&&◌, ◌||◌, if◌then◌else◌, Some, refl}
use Rattle.std.proofs.Common.{sym, ◌∙◌, ◌⊎◌, inl, inr, arith}
use Rattle.std.proofs.lemmas.Bool.{cases_Bool, cases_lt, and_parts, and_from, or_parts, eqb-true, eq-eqb, ltb-true}
use Rattle.std.proofs.lemmas.Bool.{lt-ltb, false≢true}
use Rattle.eve_views.specs.Code.{code_number, phase_of}
use Rattle.eve_views.specs.Form.{IsUpTo, Precedes}
use Rattle.eve_views.specs.First.{is_before_in_phase, is_before, first_of}
use Rattle.eve_views.specs.declared.fault.Fault.{Fault}

-- ---- one number, and where it is the same another test

less_or : (a b : ℕ) (q : Bool) → (nat_lt a b || ((a == b) && q)) ≡ true → (a < b) ⊎ ((a ≡ b) × (q ≡ true))
less_or a b q h = by (nat_lt a b) refl h
  where
    by : (less : Bool) → nat_lt a b ≡ less → (less || ((a == b) && q)) ≡ true → (a < b) ⊎ ((a ≡ b) × (q ≡ true))
    by true is h = inl (ltb-true a b is)
    by false is h = let parts = and_parts (a == b) q h in inr (eqb-true a b parts.0, parts.1)

not_less_or : (a b : ℕ) (q : Bool) → (nat_lt a b || ((a == b) && q)) ≡ false → (b < a) ⊎ ((b ≡ a) × (q ≡ false))
not_less_or a b q h =
    let parts = or_parts (nat_lt a b) ((a == b) && q) h in
    elim (cases_lt b a) [
      | inl less ↦ inl less
      | inr more ↦ elim (cases_lt a b) [
        | inl less ↦ absurd (false≢true (sym parts.0 ∙ lt-ltb a b less))
        | inr up ↦ inr (both more up, other parts.1 (both more up) (cases_Bool q))
      ]
    ]
  where
    both : a ≤ b → b ≤ a → b ≡ a
    both m n = omega arith

    other : ((a == b) && q) ≡ false → b ≡ a → (q ≡ true) ⊎ (q ≡ false) → q ≡ false
    other none same (inl holds) = absurd (false≢true (sym none ∙ and_from (a == b) q (eq-eqb a b (sym same)) holds))
    other none same (inr not) = not

-- ---- the order of faults

pub up_to-trans : (f g h : Fault) → IsUpTo f g → IsUpTo g h → IsUpTo f h
up_to-trans f g h (inl a) (inl b) = inl (omega (arith, a, b))
up_to-trans f g h (inl a) (inr b) = inl (omega (arith, a, b.0))
up_to-trans f g h (inr a) (inl b) = inl (omega (arith, a.0, b))
up_to-trans f g h (inr a) (inr b) = inr (omega (arith, a.0, b.0), omega (arith, a.1, b.1))

pub before_precedes : (f g : Fault) → is_before f g ≡ true → Precedes f g
before_precedes f g h =
    elim (less_or (phase_of f.code) (phase_of g.code) (is_before_in_phase f g) h) [
      | inl less ↦ inl less
      | inr same ↦ inr (
        same.0,
        elim (less_or f.offset g.offset (nat_lt (code_number f.code) (code_number g.code)) same.1) [
          | inl less ↦ inl less
          | inr here ↦ inr (
            here.0,
            up (code_number f.code) (code_number g.code)
                (ltb-true (code_number f.code) (code_number g.code) here.1),
          )
        ],
      )
    ]
  where
    up : (m n : ℕ) → m < n → m ≤ n
    up m n lt = omega arith

pub behind_precedes : (f g : Fault) → is_before f g ≡ false → Precedes g f
behind_precedes f g h =
    elim (not_less_or (phase_of f.code) (phase_of g.code) (is_before_in_phase f g) h) [
      | inl less ↦ inl less
      | inr same ↦ inr (
        same.0,
        elim (not_less_or f.offset g.offset (nat_lt (code_number f.code) (code_number g.code)) same.1) [
          | inl less ↦ inl less
          | inr here ↦ inr (here.0, up (code_number f.code) (code_number g.code) here.1)
        ],
      )
    ]
  where
    up : (m n : ℕ) → nat_lt m n ≡ false → n ≤ m
    up m n none = elim (cases_lt m n) [ inl less ↦ absurd (false≢true (sym none ∙ lt-ltb m n less)) | inr more ↦ more ]

pub precedes-refl : (f : Fault) → Precedes f f
precedes-refl f = inr (refl, inr (refl, own (code_number f.code)))
  where
    own : (n : ℕ) → n ≤ n
    own n = omega arith

-- of one phase
pub up_to_from : (f g : Fault) → phase_of f.code ≡ phase_of g.code → Precedes f g → IsUpTo f g
up_to_from f g same (inl less) = absurd (apart (phase_of f.code) (phase_of g.code) same less)
  where
    apart : (m n : ℕ) → m ≡ n → m < n → ⊥
    apart m n e lt = omega arith
up_to_from f g same (inr here) = here.1

-- ---- the first of two

-- one of two faults, which precedes both
pub record IsFirstOfTwo (f g h : Fault) : Type 0 where
  pub one : (h ≡ f) ⊎ (h ≡ g)
  pub before : Precedes h f
  pub and_before : Precedes h g

pub first_of_two : (f g : Fault) → (h : Fault) × (first_of (Some f) (Some g) ≡ Some h) × IsFirstOfTwo f g h
first_of_two f g = by (is_before g f) refl
  where
    by : (b : Bool) → is_before g f ≡ b → (h : Fault) × ((if b then Some g else Some f) ≡ Some h) × IsFirstOfTwo f g h
    by true is = (g, refl, record { one = inr refl; before = before_precedes g f is; and_before = precedes-refl g })
    by false is = (f, refl, record { one = inl refl; before = precedes-refl f; and_before = behind_precedes g f is })
