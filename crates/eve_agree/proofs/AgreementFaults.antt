-- The least of the faults of agreement, number after number.
use Rattle.std.proofs.Common.{◌≡◌, ℕ, zero, suc, ◌-◌, ◌<◌, ◌≤◌, Bool, true, false, cond, List, [], ◌∷◌, map}
use Rattle.std.proofs.Common.{length, slice_get, Option, Some, None, IfSome, refl, sym, ap, subst, ◌∙◌, inl}
use Rattle.std.proofs.Common.{inr, arith}
use Rattle.std.specs.List.{enumerate_from, find}
use Rattle.std.specs.Option.{is_some}
use Rattle.std.proofs.lemmas.Bool.{cases_lt, false≢true}
use Rattle.std.proofs.lemmas.Option.{same_Some}
use Rattle.eve_smallbank.specs.declared.request.Reply.{Reply}
use Rattle.eve_grammar.specs.Trace.{Transfer, Trace}
use Rattle.eve_views.specs.declared.fault.Code.{Code}
use Rattle.eve_views.specs.declared.fault.Code.TheVariants as code
use Rattle.eve_views.specs.declared.fault.Fault.{Fault}
use Rattle.eve_views.specs.Form.{IsUpTo, IsLeast, IsFaultIn, IsFaultSomewhere}
use Rattle.eve_views.specs.Code.{code_number}
use Rattle.eve_history.specs.Section.{Placed, HowReached, ByAttempt, ByTransfer, Skipped}
use Rattle.eve_history.specs.SectionHistory.{SectionHistory, section_history, section_histories, how_reached_at}
use Rattle.eve_history.specs.SectionHistory.{committed_at, attempt_by, IsRightSection, ReachedFrom}
use Rattle.eve_history.proofs.RightSections.{as_many_told, section_history_at}
use Rattle.eve_chains.proofs.LinkedPaths.{how_reached_by, none≢some}
use Rattle.eve_agree.specs.Agreement.{first_to_commit, HaveSameOutcome, HasBalancesOfFirst, ReplicasAgree}
use Rattle.eve_agree.specs.Agreement.{StandsInAgreement}
use Rattle.eve_agree.specs.inner.NumbersJudged.{AgreesIn, offset_of, code_of, IsApart, IsFirstFrom, bound_by, bound_of}
use Rattle.eve_agree.specs.inner.NumbersJudged.{JudgedTo}
use Rattle.eve_agree.proofs.Offsets.{ways_reached_rise, sections_rise}
use Rattle.eve_agree.proofs.Outcomes.{IsOf, last_told, first_there}
use Rattle.eve_agree.proofs.ByNumber.{some_there, there_some, how_reached_low, how_reached_there, replica_there}

-- ---- where a fault stands

no_outcome : (o : Option ℕ) (P : ℕ → Type 0) → IfSome o P → IfSome o (λ f. ¬ P f) → (f : ℕ) → o ≡ Some f → ⊥
no_outcome None P same apart f is = none≢some f is
no_outcome (Some g) P same apart f is = apart same

-- replica e reached this number by a frame at this offset, and differs in it
pub record WhereApart (t : Trace) (e : ℕ) (c : Code) (at : ℕ) : Type 0 where
  pub n : ℕ
  pub how_reached : HowReached
  pub is : how_reached_at t e n ≡ Some how_reached
  pub code : code_of how_reached ≡ Some c
  pub offset : offset_of how_reached ≡ Some at
  pub apart : ¬ AgreesIn t e n

pub where_apart : (t : Trace) (e : ℕ) (c : Code) (at : ℕ) → StandsInAgreement c t e at → WhereApart t e c at
where_apart t e code.Outcome at stands = record {
  n = stands.n;
  how_reached = ByAttempt stands.item;
  is = how_reached_by (how_reached_at t e stands.n) stands.item stands.is;
  code = refl;
  offset = ap (λ (o : ℕ). Some o) stands.offset;
  apart = λ agrees.
      let first = first_there t e stands.n stands.item stands.is in
      no_outcome (first_to_commit t stands.n) (λ f. HaveSameOutcome t e f stands.n)
      (agrees.outcome (there_some (committed_at t e stands.n) stands.item stands.is)) stands.holds first.0 first.1;
}
where_apart t e code.TransferBalances at stands = record {
  n = stands.n;
  how_reached = ByTransfer at stands.state;
  is = stands.is;
  code = refl;
  offset = refl;
  apart = λ agrees. stands.holds (agrees.state at stands.state stands.is);
}
where_apart t e c at stands = absurd stands

not_transfer : (p : Placed) (at : ℕ) (x : Transfer)
    → ◌≡◌ {A = Option HowReached} (Some (ByAttempt p)) (Some (ByTransfer at x)) → ⊥
not_transfer p at x e = cc

same_state : (at o : ℕ) (x y : Transfer) → ◌≡◌ {A = Option HowReached} (Some (ByTransfer at x)) (Some (ByTransfer o y))
    → x ≡ y
same_state at o x y e = cc

-- an outcome that differs
pub outcome_stands : (t : Trace) (e n : ℕ) (p : Placed) → committed_at t e n ≡ Some p
    → ¬ IfSome (first_to_commit t n) (λ f. HaveSameOutcome t e f n) → StandsInAgreement code.Outcome t e p.offset
outcome_stands t e n p at apart =
    record { n = n; item = p; is = at; offset = refl; holds = by (first_to_commit t n) apart }
  where
    by : (o : Option ℕ) → ¬ IfSome o (λ f. HaveSameOutcome t e f n) → IfSome o (λ f. ¬ HaveSameOutcome t e f n)
    by None apart = tt
    by (Some f) apart = apart

-- a state with other balances
pub state_stands : (t : Trace) (e n at : ℕ) (x : Transfer) → how_reached_at t e n ≡ Some (ByTransfer at x)
    → ¬ HasBalancesOfFirst t n x → StandsInAgreement code.TransferBalances t e at
state_stands t e n at x is apart = record { n = n; state = x; is = is; holds = apart }

module _ (t : Trace) (e n : ℕ) where
  -- of an attempt the outcome is all that is asked
  pub agrees_by_attempt : (p : Placed) → how_reached_at t e n ≡ Some (ByAttempt p)
      → IfSome (first_to_commit t n) (λ f. HaveSameOutcome t e f n) → AgreesIn t e n
  agrees_by_attempt p at same = record {
    outcome = λ _. same;
    state = λ o x is. absurd (not_transfer p o x (sym at ∙ is));
  }

  -- of a state its balances
  pub agrees_by_state : (at : ℕ) (x : Transfer) → how_reached_at t e n ≡ Some (ByTransfer at x)
      → HasBalancesOfFirst t n x → AgreesIn t e n
  agrees_by_state at x is has = record {
    outcome = λ committed.
        absurd (false≢true (sym (ap (λ (o : Option HowReached). is_some (attempt_by o)) is) ∙ committed));
    state = λ o y its. subst (HasBalancesOfFirst t n) (same_state at o x y (sym is ∙ its)) has;
  }

  -- and nothing where it didn't reach the number
  pub agrees_without : committed_at t e n ≡ None
      → ((at : ℕ) (x : Transfer) → how_reached_at t e n ≡ Some (ByTransfer at x) → ⊥) → AgreesIn t e n
  agrees_without none no_state = record {
    outcome = λ committed. absurd (false≢true (sym (ap (λ (o : Option Placed). is_some o) none) ∙ committed));
    state = λ o y its. absurd (no_state o y its);
  }

  pub agrees_missing : ((l : HowReached) → how_reached_at t e n ≡ Some l → ⊥) → AgreesIn t e n
  agrees_missing none = record {
    outcome = λ committed.
        let got = some_there (committed_at t e n) committed in
        absurd (none (ByAttempt got.0) (how_reached_by (how_reached_at t e n) got.0 got.1));
    state = λ o y its. absurd (none (ByTransfer o y) its);
  }

  pub apart_stands : (f : Fault) → IsApart t e n f → IsFaultIn StandsInAgreement t e f
  apart_stands f is = record { stands = by is.how_reached is.at is.code is.offset; inside = is.inside }
    where
      moved : (c : Code) (at : ℕ) → c ≡ f.code → at ≡ f.offset → StandsInAgreement c t e at
          → StandsInAgreement f.code t e f.offset
      moved c at same here stands = subst (λ (o : ℕ). StandsInAgreement f.code t e o) here
          (subst (λ (d : Code). StandsInAgreement d t e at) same stands)

      by : (l : HowReached) → how_reached_at t e n ≡ Some l → code_of l ≡ Some f.code → offset_of l ≡ Some f.offset
          → StandsInAgreement f.code t e f.offset
      by (ByAttempt p) at its offset =
          moved code.Outcome p.offset (same_Some code.Outcome f.code its) (same_Some p.offset f.offset offset)
          (outcome_stands t e n p (ap attempt_by at) (λ same. is.apart (agrees_by_attempt p at same)))
      by (ByTransfer o x) at its offset =
          moved code.TransferBalances o (same_Some code.TransferBalances f.code its) (same_Some o f.offset offset)
          (state_stands t e n o x at (λ has. is.apart (agrees_by_state o x at has)))
      by Skipped at its offset = none≢some f.code its

  -- where the numbers before it agree it is the first fault in its section, and in those behind it
  pub apart_first : (f : Fault) → IsApart t e n f → ((m : ℕ) → m < n → AgreesIn t e m) → IsFirstFrom t e f
  apart_first f is before = record {
    stands = apart_stands f is;
    first = λ i g le stands. by i g le (where_apart t i g.code g.offset stands.stands);
  }
    where
      same_codes : (l : HowReached) (c d : Code) → code_of l ≡ Some c → code_of l ≡ Some d → c ≡ d
      same_codes l c d one two = same_Some c d (sym one ∙ two)

      here : (g : Fault) → WhereApart t e g.code g.offset → IsUpTo f g
      here g place = elim (cases_lt place.n n) [
        | inl less ↦ absurd (place.apart (before place.n less))
        | inr ge ↦ elim (cases_lt n place.n) [
          | inl later ↦
              inl (ways_reached_rise t e n place.n f.offset g.offset is.how_reached place.how_reached is.at place.is
              is.offset place.offset later)
          | inr le ↦
              let one : n ≡ place.n = omega arith in
              let same : is.how_reached ≡ place.how_reached = same_Some is.how_reached place.how_reached
              (sym is.at ∙ ap (how_reached_at t e) one ∙ place.is) in
              let offsets : f.offset ≡ g.offset = same_Some f.offset g.offset
              (sym is.offset ∙ ap offset_of same ∙ place.offset) in
              let codes : f.code ≡ g.code = same_codes place.how_reached f.code g.code (sym (ap code_of same) ∙ is.code)
              place.code in
              let numbers : code_number f.code ≡ code_number g.code = ap code_number codes in
              inr (offsets, omega arith)
        ]
      ]

      by : (i : ℕ) (g : Fault) → e ≤ i → WhereApart t i g.code g.offset → IsUpTo f g
      by i g le place = elim (cases_lt e i) [
        | inl lt ↦ inl (sections_rise t e i n place.n f.offset g.offset is.how_reached place.how_reached is.at place.is
            is.offset place.offset lt)
        | inr ge ↦
            let one : i ≡ e = omega arith in
            here g (subst (λ (k : ℕ). WhereApart t k g.code g.offset) one place)
      ]

-- ---- number after number

module _ (t : Trace) where
  agrees_in_zero : (e m : ℕ) → m ≤ 0 → AgreesIn t e m
  agrees_in_zero e zero le = agrees_missing t e 0 (λ l at. none≢some l at)
  agrees_in_zero e (suc m) le = absurd (omega arith)

  pub judged_start : JudgedTo t 0 None
  judged_start = record { found = tt; agree = λ e m lt le. agrees_in_zero e m le }

  -- the replica whose fault was found is there
  pub bound_low : (n : ℕ) (least : Option Fault) → JudgedTo t n least → bound_of (length t.sections) least
      ≤ length t.sections
  bound_low n None judged = omega arith
  bound_low n (Some f) judged =
      let e = judged.found.0 in
      let first = judged.found.1 in
      let place = where_apart t e f.code f.offset first.stands.stands in
      let there = how_reached_there t e place.n place.how_reached place.is in
      let bound : bound_by (length t.sections) f.replica ≡ e = ap (bound_by (length t.sections)) first.stands.inside in
      omega arith

  up_to : (e m n : ℕ) → m ≤ n → ((k : ℕ) → k ≤ n - 1 → AgreesIn t e k) → AgreesIn t e n → AgreesIn t e m
  up_to e m n le before here = elim (cases_lt m n) [
    | inl lt ↦ before m (omega arith)
    | inr ge ↦ let same : n ≡ m = omega arith in subst (AgreesIn t e) same here
  ]

  -- the replicas that are left agree in the next number
  pub judged_on : (n : ℕ) (least : Option Fault) → JudgedTo t (n - 1) least
      → ((e : ℕ) → e < bound_of (length t.sections) least → AgreesIn t e n) → JudgedTo t n least
  judged_on n least judged here = record {
    found = judged.found;
    agree = λ e m lt le. up_to e m n le (λ k less. judged.agree e k lt less) (here e lt);
  }

  -- the lowest of them that doesn't
  pub judged_apart : (n e : ℕ) (least : Option Fault) (f : Fault) → JudgedTo t (n - 1) least
      → e < bound_of (length t.sections) least → ((i : ℕ) → i < e → AgreesIn t i n) → IsApart t e n f
      → JudgedTo t n (Some f)
  judged_apart n e least f judged there here apart = record {
    found = (e, apart_first t e n f apart (λ m lt. judged.agree e m there (omega arith)));
    agree = λ i m lt le.
        let bound : bound_by (length t.sections) f.replica ≡ e = ap (bound_by (length t.sections)) apart.inside in
        let less : i < e = omega arith in
        up_to i m n le (λ k low. judged.agree i k (omega arith) low) (here i less);
  }

  -- ---- all numbers

  -- up to the last number of all
  pub all_agree : (hs : List SectionHistory) (n most : ℕ) (least : Option Fault) → hs ≡ section_histories t
      → ((e : ℕ) → IsRightSection t e)
      → ((e : ℕ) (h : SectionHistory) → slice_get hs e ≡ Some h → h.committed ≤ most) → most ≤ n → JudgedTo t n least
      → (e m : ℕ) → e < bound_of (length t.sections) least → AgreesIn t e m
  all_agree hs n most least told right none_past end judged e m lt = elim (cases_lt n m) [
    | inl past ↦ agrees_missing t e m (λ l at.
        let there = how_reached_there t e m l at in
        let low = how_reached_low t e m l (right e) at in
        let last = last_told t e (section_history t e) refl in
        let le = none_past e (section_history t e) (ap (λ (xs : List SectionHistory). slice_get xs e) told
        ∙ section_history_at t e there) in
        omega arith)
    | inr le ↦ judged.agree e m lt le
  ]

  pub they_agree : ((e n : ℕ) → e < length t.sections → AgreesIn t e n) → ReplicasAgree t
  they_agree agree = record {
    outcomes = λ e n committed.
        let got = some_there (committed_at t e n) committed in
        (agree e n (replica_there t e n got.0 got.1)).outcome committed;
    states = λ e n at x is. (agree e n (how_reached_there t e n (ByTransfer at x) is)).state at x is;
  }

  pub agree_in : ReplicasAgree t → (e n : ℕ) → AgreesIn t e n
  agree_in agree e n = record { outcome = agree.outcomes e n; state = agree.states e n }

  pub none_stands : ReplicasAgree t → (f : Fault) → ¬ IsFaultSomewhere StandsInAgreement t f
  none_stands agree f is =
      let place = where_apart t is.0 f.code f.offset is.1.stands in
      place.apart (agree_in agree is.0 place.n)

  pub is_least : (n : ℕ) (f : Fault) → JudgedTo t n (Some f)
      → ((e m : ℕ) → e < bound_of (length t.sections) (Some f) → AgreesIn t e m)
      → IsLeast (IsFaultSomewhere StandsInAgreement t) f
  is_least n f judged agree = record {
    is = (judged.found.0, judged.found.1.stands);
    least = λ g is.
        let e = judged.found.0 in
        let first = judged.found.1 in
        elim (cases_lt is.0 e) [
          | inl lt ↦
              let bound : bound_by (length t.sections) f.replica ≡ e =
              ap (bound_by (length t.sections)) first.stands.inside in
              let place = where_apart t is.0 g.code g.offset is.1.stands in
              absurd (place.apart (agree is.0 place.n (omega arith)))
          | inr ge ↦ first.first is.0 g ge is.1
        ];
  }

-- ---- for those who cite it

-- a fault of replica e at this offset
abbrev pub outcome_fault : ℕ → ℕ → Fault
outcome_fault at e = record { code = code.Outcome; offset = at; replica = Some e }

-- an outcome that differs is a fault
pub differs : (t : Trace) (e f n at : ℕ) (rs : List Reply) → IsOf t e n at rs → first_to_commit t n ≡ Some f
    → ¬ HaveSameOutcome t e f n → IsFaultSomewhere StandsInAgreement t (outcome_fault at e)
differs t e f n at rs own first apart = (
  e,
  record {
    stands = record {
      n = n;
      item = own.item;
      is = own.at;
      offset = sym own.offset_is;
      holds = subst (λ (o : Option ℕ). IfSome o (λ g. ¬ HaveSameOutcome t e g n)) (sym first) apart;
    };
    inside = refl;
  },
)

-- ---- one replica alone

only_first : {A : Type 0} (test : ℕ → Bool) (xs : List A) (f : ℕ) → length xs < 2
    → find test (map (λ s. s.0) (enumerate_from 0 xs)) ≡ Some f → f ≡ 0
only_first test [] f few is = none≢some f is
only_first test (x ∷ []) f few is = by (test 0) is
  where
    by : (b : Bool) → cond b (Some 0) None ≡ Some f → f ≡ 0
    by true e = sym (same_Some 0 f e)
    by false e = none≢some f e
only_first test (x ∷ y ∷ ys) f few is = absurd (omega arith)

-- it is the first that committed what it committed
pub alone_agrees : (t : Trace) (hs : List SectionHistory) → hs ≡ section_histories t → length hs < 2
    → ((e : ℕ) (h : SectionHistory) → slice_get hs e ≡ Some h → h.transfers ≡ [])
    → ((e n at : ℕ) (x : Transfer) → how_reached_at t e n ≡ Some (ByTransfer at x) → (i : ℕ)
    × (slice_get (section_history t e).ways_reached (n - 1) ≡ Some (ReachedFrom i))
    × (slice_get (section_history t e).transfers i ≡ Some (at, x)))
    → (e n : ℕ) → AgreesIn t e n
alone_agrees t hs told few none law e n = record {
  outcome = λ committed.
      let got = some_there (committed_at t e n) committed in
      by got.0 got.1 (first_to_commit t n) refl;
  state = λ at x is.
      let there = how_reached_there t e n (ByTransfer at x) is in
      let from = law e n at x is in
      let empty = none e (section_history t e) (ap (λ (xs : List SectionHistory). slice_get xs e) told
      ∙ section_history_at t e there) in
      none≢some (at, x) (sym (ap (λ (xs : List (ℕ × Transfer)). slice_get xs from.0) empty) ∙ from.2);
}
  where
    sections : length t.sections < 2
    sections = let count : length hs ≡ length t.sections = ap length told ∙ as_many_told t in omega arith

    by : (p : Placed) → committed_at t e n ≡ Some p → (o : Option ℕ) → first_to_commit t n ≡ o
        → IfSome o (λ f. HaveSameOutcome t e f n)
    by p at None is = tt
    by p at (Some f) is =
        let there = replica_there t e n p at in
        let zeroth = only_first (λ i. is_some (committed_at t i n)) t.sections f sections is in
        let same : e ≡ f = let few_sections = sections in omega arith in
        subst (λ (k : ℕ). HaveSameOutcome t e k n) same (record { balances = refl; replies = refl })
