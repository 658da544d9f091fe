-- Public: other crates cite these lemmas. What it says of a place that a frame of some kind may stand there.
use Rattle.std.proofs.Common.{◌≡◌, ℕ, ◌<◌, ◌≤◌, Bool, true, false, not, ◌&&◌, ◌||◌, if◌then◌else◌, refl, arith}
use Rattle.std.proofs.Common.{ltb-true, ltb-false, eqb-true}
use Rattle.std.specs.Prelude.{IsTrue, nat_lt, ◌==◌}
use Rattle.std.proofs.lemmas.Bool.{both_ways, and_parts, and_right, eqb-false, not-true}
use Rattle.eve_grammar.specs.Frames.{has_transfers, is_allowed_in_sections, is_allowed_behind_sections, is_allowed}
use Rattle.eve_grammar.proofs.KindBytes.{sections_none}
use Rattle.eve_grammar.specs.declared.head.Head.{Head}
use Rattle.eve_grammar.specs.declared.place.Place.{Place}

-- ---- tests one after another

if_first : (b x y : Bool) → y ≡ false → IsTrue (if b then x else y) → (b ≡ true) × IsTrue x
if_first true x y e t = (refl, t)
if_first false x y e t = absurd (both_ways y e t)

if_second : (b x y : Bool) → x ≡ false → IsTrue (if b then x else y) → (b ≡ false) × IsTrue y
if_second true x y e t = absurd (both_ways x e t)
if_second false x y e t = (refl, t)

if_none : (b y : Bool) → y ≡ false → (if b then false else y) ≡ false
if_none true y e = refl
if_none false y e = e

or_first : (x y : Bool) → y ≡ false → IsTrue (x || y) → IsTrue x
or_first true y e t = refl
or_first false y e t = absurd (both_ways y e t)

or_second : (x y : Bool) → x ≡ false → IsTrue (x || y) → IsTrue y
or_second true y e t = absurd (both_ways true e refl)
or_second false y e t = t

-- what the tests after the sections, and in either part, come to for a kind that stands elsewhere
votes_none : (s w : Bool) → ((not s && false) || (w && false)) ≡ false
votes_none true w = and_right w false refl
votes_none false w = and_right w false refl

late_none : (v q s w : Bool) → (if v then ((q && false) || false) else ((not s && false) || (w && false))) ≡ false
late_none true q s w = sections_none q
late_none false q s w = votes_none s w

-- ---- customers and batches

pub of_customer : (h : Head) (p : Place) → IsTrue (is_allowed h p 1) → p.customers < h.customers
of_customer h p t =
    let here = if_second p.ended false _ refl t in
    let none = if_none (nat_lt p.batches h.batches) _
    (if_none (nat_lt 0 p.accesses) _
    (late_none (p.verifiers == 0) (nat_lt 0 p.replicas) p.sending (p.verifiers == h.verifiers))) in
    ltb-true p.customers h.customers (if_first (nat_lt p.customers h.customers) true _ none here.1).0

pub of_batch : (h : Head) (p : Place) → IsTrue (is_allowed h p 2) → (h.customers ≤ p.customers)
    × (p.batches < h.batches)
of_batch h p t =
    let here = if_second p.ended false _ refl t in
    let customers = if_second (nat_lt p.customers h.customers) false _ refl here.1 in
    let none = if_none (nat_lt 0 p.accesses) _
    (late_none (p.verifiers == 0) (nat_lt 0 p.replicas) p.sending (p.verifiers == h.verifiers)) in (
      ltb-false p.customers h.customers customers.0,
      ltb-true p.batches h.batches
          (if_first (nat_lt p.batches h.batches) true _ none customers.1).0,
    )

-- ---- after the customers and batches

pub record IsBehind (h : Head) (p : Place) : Type 0 where
  pub customers : h.customers ≤ p.customers
  pub batches : h.batches ≤ p.batches

-- what is tested next
behind : (h : Head) (p : Place) (kind : ℕ) → (kind == 1) ≡ false → (kind == 2) ≡ false → IsTrue (is_allowed h p kind)
    → IsBehind h p × IsTrue (if nat_lt 0 p.accesses then kind == 18 else
    (if p.verifiers == 0 then is_allowed_in_sections h p kind else is_allowed_behind_sections h p kind))
behind h p kind one two t =
    let here = if_second p.ended false _ refl t in
    let customers = if_second (nat_lt p.customers h.customers) (kind == 1) _ one here.1 in
    let batches = if_second (nat_lt p.batches h.batches) (kind == 2) _ two customers.1 in (
      record {
        customers = ltb-false p.customers h.customers customers.0;
        batches = ltb-false p.batches h.batches batches.0;
      },
      batches.1,
    )

pub of_access : (h : Head) (p : Place) → IsTrue (is_allowed h p 18) → IsBehind h p × (0 < p.accesses)
of_access h p t =
    let b = behind h p 18 refl refl t in (
      b.0,
      ltb-true 0 p.accesses
          (if_first (nat_lt 0 p.accesses) true _
          (late_none (p.verifiers == 0) (nat_lt 0 p.replicas) p.sending (p.verifiers == h.verifiers)) b.1).0,
    )

-- ---- and after the accesses of the last attempt

pub record IsSettled (h : Head) (p : Place) : Type 0 where
  pub behind : IsBehind h p
  pub accesses : p.accesses ≡ 0

settled : (h : Head) (p : Place) (kind : ℕ) → (kind == 1) ≡ false → (kind == 2) ≡ false → (kind == 18) ≡ false
    → IsTrue (is_allowed h p kind)
    → IsSettled h p × IsTrue
    (if p.verifiers == 0 then is_allowed_in_sections h p kind else is_allowed_behind_sections h p kind)
settled h p kind one two access t =
    let b = behind h p kind one two t in
    let accesses = if_second (nat_lt 0 p.accesses) (kind == 18) _ access b.1 in
    let none : p.accesses ≤ 0 = ltb-false 0 p.accesses accesses.0 in
    (record { behind = b.0; accesses = omega arith }, accesses.1)

pub of_replica : (h : Head) (p : Place) → IsTrue (is_allowed h p 16) → IsSettled h p × (p.verifiers ≡ 0)
    × (p.replicas < h.replicas)
of_replica h p t =
    let s = settled h p 16 refl refl refl t in
    let here = if_first (p.verifiers == 0) _ _ (votes_none p.sending (p.verifiers == h.verifiers)) s.1 in (
      s.0,
      eqb-true p.verifiers 0 here.0,
      ltb-true p.replicas h.replicas
          (or_first (nat_lt p.replicas h.replicas) _ (sections_none (nat_lt 0 p.replicas)) here.1),
    )

pub record InSection (h : Head) (p : Place) : Type 0 where
  pub settled : IsSettled h p
  pub section : 0 < p.replicas
  pub votes : p.verifiers ≡ 0

-- where it stands in a section, the version has the kind
in_section : (h : Head) (p : Place) (known : Bool)
    → IsSettled h p × IsTrue
    (if p.verifiers == 0 then ((nat_lt 0 p.replicas && known) || false) else
    ((not p.sending && false) || ((p.verifiers == h.verifiers) && false)))
    → InSection h p × IsTrue known
in_section h p known s =
    let here = if_first (p.verifiers == 0) _ _ (votes_none p.sending (p.verifiers == h.verifiers)) s.1 in
    let some = and_parts (nat_lt 0 p.replicas) known (or_first (nat_lt 0 p.replicas && known) false refl here.1) in
    (record { settled = s.0; section = ltb-true 0 p.replicas some.0; votes = eqb-true p.verifiers 0 here.0 }, some.1)

pub of_attempt : (h : Head) (p : Place) → IsTrue (is_allowed h p 17) → InSection h p
of_attempt h p t = (in_section h p true (settled h p 17 refl refl refl t)).0

pub of_commit : (h : Head) (p : Place) → IsTrue (is_allowed h p 19) → InSection h p
of_commit h p t = (in_section h p true (settled h p 19 refl refl refl t)).0

pub of_rollback : (h : Head) (p : Place) → IsTrue (is_allowed h p 20) → InSection h p
of_rollback h p t = (in_section h p true (settled h p 20 refl refl refl t)).0

-- a Transfer's, in a version that has them alone
pub of_transfer : (h : Head) (p : Place) → IsTrue (is_allowed h p 21) → InSection h p × IsTrue (has_transfers h.version)
of_transfer h p t = in_section h p (has_transfers h.version) (settled h p 21 refl refl refl t)

-- ---- verifiers: the first after the last replica, the others after votes

verifier_first : (h : Head) (p : Place) → 0 < h.verifiers → p.verifiers ≡ 0 → IsTrue (is_allowed_in_sections h p 32)
    → (p.verifiers < h.verifiers) × (p.verifiers ≡ 0 → h.replicas ≤ p.replicas)
verifier_first h p some none t =
    let all : p.replicas ≡ h.replicas =
    eqb-true p.replicas h.replicas
    (or_second (nat_lt 0 p.replicas && false) _ (and_right (nat_lt 0 p.replicas) false refl) t) in
    (omega arith, λ e. omega arith)

verifier_next : (h : Head) (p : Place) → 0 < p.verifiers → IsTrue (is_allowed_behind_sections h p 32)
    → (p.verifiers < h.verifiers) × (p.verifiers ≡ 0 → h.replicas ≤ p.replicas)
verifier_next h p some t =
    let a = and_parts (not p.sending) _ (or_first _ _ (and_right (p.verifiers == h.verifiers) false refl) t) in
    (ltb-true p.verifiers h.verifiers (or_first (nat_lt p.verifiers h.verifiers) false refl a.1), λ e. omega arith)

verifier_at : (h : Head) (p : Place) (b : Bool) → (p.verifiers == 0) ≡ b → 0 < h.verifiers
    → IsTrue (if b then is_allowed_in_sections h p 32 else is_allowed_behind_sections h p 32)
    → (p.verifiers < h.verifiers) × (p.verifiers ≡ 0 → h.replicas ≤ p.replicas)
verifier_at h p true e some t = verifier_first h p some (eqb-true p.verifiers 0 e) t
verifier_at h p false e some t = let no = eqb-false p.verifiers 0 e in verifier_next h p (omega arith) t

pub of_verifier : (h : Head) (p : Place) → 0 < h.verifiers → IsTrue (is_allowed h p 32) → IsSettled h p
    × (p.verifiers < h.verifiers) × (p.verifiers ≡ 0 → h.replicas ≤ p.replicas)
of_verifier h p some t =
    let s = settled h p 32 refl refl refl t in
    let v = verifier_at h p (p.verifiers == 0) refl some s.1 in
    (s.0, v.0, v.1)

-- ---- after the sections

pub record InVotes (h : Head) (p : Place) : Type 0 where
  pub settled : IsSettled h p
  pub votes : 0 < p.verifiers

in_votes : (h : Head) (p : Place) (rest : Bool) → IsSettled h p
    × IsTrue (if p.verifiers == 0 then ((nat_lt 0 p.replicas && false) || false) else rest) → InVotes h p × IsTrue rest
in_votes h p rest s =
    let here = if_second (p.verifiers == 0) _ rest (sections_none (nat_lt 0 p.replicas)) s.1 in
    let no = eqb-false p.verifiers 0 here.0 in
    (record { settled = s.0; votes = omega arith }, here.1)

pub of_vote : (h : Head) (p : Place) → IsTrue (is_allowed h p 33) → InVotes h p × (p.sending ≡ false)
of_vote h p t =
    let v = in_votes h p _ (settled h p 33 refl refl refl t) in
    let a = and_parts (not p.sending) true
    (or_first (not p.sending && true) _ (and_right (p.verifiers == h.verifiers) false refl) v.1) in
    (v.0, not-true p.sending a.0)

all_verifiers : (h : Head) (p : Place)
    → IsSettled h p × IsTrue
    (if p.verifiers == 0 then ((nat_lt 0 p.replicas && false) || false) else
    ((not p.sending && false) || ((p.verifiers == h.verifiers) && true)))
    → InVotes h p × (p.verifiers ≡ h.verifiers)
all_verifiers h p s =
    let v = in_votes h p _ s in
    let a = and_parts (p.verifiers == h.verifiers) true
    (or_second (not p.sending && false) _ (and_right (not p.sending) false refl) v.1) in
    (v.0, eqb-true p.verifiers h.verifiers a.0)

pub of_sent : (h : Head) (p : Place) → IsTrue (is_allowed h p 48) → InVotes h p × (p.verifiers ≡ h.verifiers)
of_sent h p t = all_verifiers h p (settled h p 48 refl refl refl t)

pub of_end : (h : Head) (p : Place) → IsTrue (is_allowed h p 127) → InVotes h p × (p.verifiers ≡ h.verifiers)
of_end h p t = all_verifiers h p (settled h p 127 refl refl refl t)

-- ---- after the end

-- where frames may stand the end has not come
pub not_ended : (h : Head) (p : Place) (kind : ℕ) → IsTrue (is_allowed h p kind) → p.ended ≡ false
not_ended h p kind t = (if_second p.ended false _ refl t).0
