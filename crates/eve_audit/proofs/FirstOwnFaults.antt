-- The first of the replicas' own faults, replica by replica.
use Rattle.std.proofs.Common.{◌≡◌, ℕ, ◌+◌, ◌-◌, ◌^◌, ◌<◌, ◌≤◌, ◌⊎◌, inl, inr, Option, Some, None, sym, ap, arith, min}
use Rattle.std.proofs.Common.{subst}
use Rattle.std.proofs.lemmas.Bool.{cases_lt}
use Rattle.eve_grammar.specs.Trace.{Trace}
use Rattle.eve_views.specs.Form.{HasNone, Precedes}
use Rattle.eve_views.specs.declared.fault.Fault.{Fault}
use Rattle.eve_audit.specs.Verdict.{IsOwnFault}
use Rattle.eve_audit.specs.Reports.{IsFirstOf, IsFoundBelow, IsLeastBelow, last_of, IsFaultBelow}

-- ---- replica by replica

pub below_more : (k e : ℕ) → k < e + 1 → (k < e) ⊎ (k ≡ e)
below_more k e less = elim (cases_lt k e) [ inl lower ↦ inl lower | inr up ↦ inr (omega (arith, less, up)) ]

-- a fault below the next number is one below this, or this replica's
fault_below : (t : Trace) (e : ℕ) (f : Fault) → IsFaultBelow t (e + 1) f → IsFaultBelow t e f ⊎ IsOwnFault t e f
fault_below t e f below = elim (below_more below.0 e below.1) [
  | inl less ↦ inl (below.0, less, below.2)
  | inr same ↦ inr (subst (λ (k : ℕ). IsOwnFault t k f) same below.2)
]

more_below : (t : Trace) (e : ℕ) (f : Fault) → IsFaultBelow t e f → IsFaultBelow t (e + 1) f
more_below t e f below = (below.0, omega (arith, below.1), below.2)

own_below : (t : Trace) (e : ℕ) (f : Fault) → IsOwnFault t e f → IsFaultBelow t (e + 1) f
own_below t e f is = (e, omega arith, is)

-- this replica has no fault of its own
pub none_more : (t : Trace) (e : ℕ) (first : Option Fault) → IsFoundBelow t e first → HasNone (IsOwnFault t e)
    → IsFoundBelow t (e + 1) first
none_more t e None found none = λ g below. elim (fault_below t e g below)
    [ inl less ↦ found g less | inr own ↦ none g own ]
none_more t e (Some f) found none = record {
  is = more_below t e f found.is;
  first = λ g below. elim (fault_below t e g below) [ inl less ↦ found.first g less | inr own ↦ absurd (none g own) ];
}

-- it has the first one
pub first_more : (t : Trace) (e : ℕ) (f : Fault) → HasNone (IsFaultBelow t e) → IsFirstOf (IsOwnFault t e) f
    → IsFirstOf (IsFaultBelow t (e + 1)) f
first_more t e f none own_first = record {
  is = own_below t e f own_first.is;
  first = λ g below. elim (fault_below t e g below) [
    | inl less ↦ absurd (none g less)
    | inr own
        ↦ own_first.first g own
  ];
}

-- it has one beside an earlier replica's
pub both_more : ((f g h : Fault) → Precedes f g → Precedes g h → Precedes f h) → (t : Trace) (e : ℕ) (f g h : Fault)
    → IsFirstOf (IsFaultBelow t e) g → IsFirstOf (IsOwnFault t e) f
    → (h ≡ g) ⊎ (h ≡ f) → Precedes h g → Precedes h f → IsFirstOf (IsFaultBelow t (e + 1)) h
both_more further t e f g h found own_first one before after = record {
  is = elim one [
    | inl same ↦ subst (λ (x : Fault). IsFaultBelow t (e + 1) x) (sym same) (more_below t e g found.is)
    | inr same ↦ subst (λ (x : Fault). IsFaultBelow t (e + 1) x) (sym same) (own_below t e f own_first.is)
  ];
  first = λ x below. elim (fault_below t e x below) [
    | inl less ↦ further h g x before (found.first x less)
    | inr own ↦ further h f x after (own_first.first x own)
  ];
}

-- its last committed number with those of the replicas before it
pub least_more : (t : Trace) (e c last m : ℕ) → IsLeastBelow t e c → last ≡ last_of t e → last < 2 ^ 32 → m ≡ min c last
    → IsLeastBelow t (e + 1) m
least_more t e c last m found is small least = record {
  least = λ k lt. elim (below_more k e lt) [
    | inl less ↦ (let few = found.least k less in omega (arith, few, least))
    | inr same ↦ omega (arith, is, least, ap (last_of t) same)
  ];
  reached = inr (by (cases_lt c last) found.reached);
}
  where
    by : (c < last) ⊎ (last ≤ c) → ((e ≡ 0) × (c ≡ 2 ^ 32 - 1)) ⊎ ((k : ℕ) × (k < e) × (last_of t k ≡ c)) → (k : ℕ)
        × (k < e + 1) × (last_of t k ≡ m)
    by (inr le) r = (e, omega arith, omega (arith, is, least, le))
    by (inl lt) (inl first) = absurd (omega (arith, lt, small, first.1))
    by (inl lt) (inr r) = (r.0, omega (arith, r.1), omega (arith, r.2, least, lt))
