-- Which commits, rollbacks and transfers no majority voted for, and which is the first.
use Rattle.std.proofs.Common.{◌≡◌, ℕ, suc, ◌+◌, ◌-◌, ◌<◌, ◌≤◌, ◌==◌, List, [], ◌∷◌, ◌++◌}
use Rattle.std.proofs.Common.{length, Option, Some, None, refl, sym, subst, ap, ◌∙◌, ◌⊎◌, inl, inr, IsTrue, arith}
use Rattle.std.specs.Prelude.{Bool, true, false, ◌↔◌, IfNone, IfSome}
use Rattle.std.specs.Cmp.Lexicographic.{pointwise, same_text, other_text}
use Rattle.std.specs.List.{AllByRecursion}
use Rattle.std.proofs.lemmas.Bool.{eqb-true, eq-eqb, cases_lt, false≢true}
use Rattle.eve_grammar.specs.Trace.{Commit, Rollback, Transfer, Step, Attempts, Commits, RollsBack, Transfers, Trace}
use Rattle.eve_grammar.specs.Frames.{OfReplica}
use Rattle.eve_grammar.specs.Spelling.{frame_text, located, section_start, step_text, steps_of, steps_at}
use Rattle.eve_grammar.specs.Limits.{HasLimits}
use Rattle.eve_grammar.proofs.FrameLaws.{few_batches}
use Rattle.eve_frames.specs.Views.{commit_in, rollback_in, transfer_in}
use Rattle.eve_frames.specs.declared.commit.CommitView.{CommitView}
use Rattle.eve_frames.specs.declared.rollback.RollbackView.{RollbackView}
use Rattle.eve_frames.specs.declared.transfer.TransferView.{TransferView}
use Rattle.eve_views.specs.StepKinds.{IsStep}
use Rattle.eve_views.specs.declared.steps.Step as step_read
use Rattle.eve_views.specs.declared.steps.Step.TheVariants as of
use Rattle.eve_views.specs.Code.{code_number, phase_of}
use Rattle.eve_views.specs.Form.{IsUpTo, SomePlace, IsLeast, IsFaultSomewhere}
use Rattle.eve_views.specs.declared.fault.Code.{Code}
use Rattle.eve_views.specs.declared.fault.Code.TheVariants as code
use Rattle.eve_views.specs.declared.fault.Fault.{Fault}
use Rattle.eve_history.specs.Section.{start, next}
use Rattle.eve_history.specs.SectionHistory.{IsRightSection}
use Rattle.eve_history.specs.Structure.{OfCommit, OfRollback, OfTransfer}
use Rattle.eve_votes.specs.Votes.{IsDecided, IsRolledBack}
use Rattle.eve_history.proofs.Places.{place_here, place_later, no_place, place_cases, located_rising, from_low}
use Rattle.eve_agree.specs.Majority.{SomeDecided, IsBacked, IsBackedSection, AllAreBacked, StandsInMajorities}
use Rattle.eve_agree.specs.inner.Unbacked.{HasRoom, lacks, IsUnbacked, IsUnbackedIn, IsFirstUnbackedIn}
use Rattle.eve_agree.proofs.RollbackRoom.{room_along}
use Rattle.eve_views.specs.First.{first_of}
use Rattle.eve_views.proofs.Firsts.{first_of_two, up_to_from}
use Rattle.eve_history.proofs.RightSections.{none_at}
use Rattle.eve_views.proofs.Firsts.{up_to-trans}

-- it is the first in the sections of the replicas below n
pub record IsFirstBelow (t : Trace) (n : ℕ) (f : Fault) : Type 0 where
  pub replica : ℕ
  pub below : replica < n
  pub is : IsUnbackedIn t replica f
  pub first : (e : ℕ) (g : Fault) → e < n → IsUnbackedIn t e g → IsUpTo f g

-- what was found in those sections, if anything was
abbrev pub IsFirstUnbackedBelow : Trace → ℕ → Option Fault → Type 0
IsFirstUnbackedBelow t n (Some f) = IsFirstBelow t n f
IsFirstUnbackedBelow t n None = (e : ℕ) → e < n → IsBackedSection t e

-- ---- faults of majorities are steps that lack a majority

-- at some place of these steps
abbrev pub IsUnbackedAmong : Trace → ℕ → List (ℕ × Step) → Fault → Type 0
IsUnbackedAmong t e steps f = SomePlace steps (λ _ step. IsUnbacked t e step f)

pub place_of : {P Q : List (ℕ × Step) → ℕ × Step → Type 0} {steps : List (ℕ × Step)}
    → ((b : List (ℕ × Step)) (s : ℕ × Step) → P b s → Q b s) → SomePlace steps P → SomePlace steps Q
place_of f place = record {
  before = place.before;
  item = place.item;
  rest = place.rest;
  is = place.is;
  holds = f place.before place.item place.holds;
}

pub unbacked_from : (t : Trace) (f : Fault) → (fault : IsFaultSomewhere StandsInMajorities t f)
    → IsUnbackedIn t fault.0 f
unbacked_from t f fault = by f.code refl fault.1.stands
  where
    commit : f.code ≡ code.NoMajority → (at : ℕ) (step : Step) → at ≡ f.offset
        → OfCommit step (λ c. ¬ IsDecided t c.seq c.view c.token) → IsUnbacked t fault.0 (at, step) f
    commit is at (Attempts a) offset holds = absurd holds
    commit is at (Commits c) offset holds =
        record { unbacked = holds; lacking = is; offset = offset; inside = fault.1.inside }
    commit is at (RollsBack r) offset holds = absurd holds
    commit is at (Transfers x) offset holds = absurd holds

    rollback : f.code ≡ code.RollbackNoMajority → (at : ℕ) (step : Step) → at ≡ f.offset
        → OfRollback step (λ r. ¬ IsRolledBack t (r.to + 1) (r.view - 1)) → IsUnbacked t fault.0 (at, step) f
    rollback is at (Attempts a) offset holds = absurd holds
    rollback is at (Commits c) offset holds = absurd holds
    rollback is at (RollsBack r) offset holds =
        record { unbacked = holds; lacking = is; offset = offset; inside = fault.1.inside }
    rollback is at (Transfers x) offset holds = absurd holds

    transfer : f.code ≡ code.TransferNoMajority → (at : ℕ) (step : Step) → at ≡ f.offset
        → OfTransfer step (λ x. ¬ SomeDecided t x.seq x.view) → IsUnbacked t fault.0 (at, step) f
    transfer is at (Attempts a) offset holds = absurd holds
    transfer is at (Commits c) offset holds = absurd holds
    transfer is at (RollsBack r) offset holds = absurd holds
    transfer is at (Transfers x) offset holds =
        record { unbacked = holds; lacking = is; offset = offset; inside = fault.1.inside }

    by : (c : Code) → f.code ≡ c → StandsInMajorities c t fault.0 f.offset → IsUnbackedIn t fault.0 f
    by code.NoMajority is stands = place_of (λ b s h. commit is s.0 s.1 h.0 h.1) stands
    by code.RollbackNoMajority is stands = place_of (λ b s h. rollback is s.0 s.1 h.0 h.1) stands
    by code.TransferNoMajority is stands = place_of (λ b s h. transfer is s.0 s.1 h.0 h.1) stands
    by c is stands = absurd stands

pub fault_from : (t : Trace) (e : ℕ) (f : Fault) → IsUnbackedIn t e f → IsFaultSomewhere StandsInMajorities t f
fault_from t e f place = (e, record { stands = by place.item refl place.holds; inside = place.holds.inside })
  where
    by : (step : ℕ × Step) → place.item ≡ step → IsUnbacked t e step f → StandsInMajorities f.code t e f.offset
    by (at, Attempts a) is here = absurd here.lacking
    by (at, Commits c) is here =
        subst (λ d. StandsInMajorities d t e f.offset) (sym here.lacking)
        (record {
          before = place.before;
          item = (at, Commits c);
          rest = place.rest;
          is = place.is
              ∙ ap (λ (s : ℕ × Step). place.before ++ s ∷ place.rest) is;
          holds = (here.offset, here.unbacked);
        })
    by (at, RollsBack r) is here =
        subst (λ d. StandsInMajorities d t e f.offset) (sym here.lacking)
        (record {
          before = place.before;
          item = (at, RollsBack r);
          rest = place.rest;
          is = place.is
              ∙ ap (λ (s : ℕ × Step). place.before ++ s ∷ place.rest) is;
          holds = (here.offset, here.unbacked);
        })
    by (at, Transfers x) is here =
        subst (λ d. StandsInMajorities d t e f.offset) (sym here.lacking)
        (record {
          before = place.before;
          item = (at, Transfers x);
          rest = place.rest;
          is = place.is
              ∙ ap (λ (s : ℕ × Step). place.before ++ s ∷ place.rest) is;
          holds = (here.offset, here.unbacked);
        })

none_unbacked : (t : Trace) (e : ℕ) (f : Fault) (steps : List (ℕ × Step)) → AllByRecursion (λ s. IsBacked t s.1) steps
    → IsUnbackedAmong t e steps f → ⊥
none_unbacked t e f [] backed place = no_place _ place
none_unbacked t e f (s ∷ steps) backed place = elim (place_cases (λ _ x. IsUnbacked t e x f) s steps place) [
  | inl here ↦ here.unbacked backed.0
  | inr there ↦ none_unbacked t e f steps backed.1 there
]

-- ---- along a section

-- The steps of replica e that are still to come; those before them are backed.
pub record AreLeft (t : Trace) (e : ℕ) (left : List (ℕ × Step)) : Type 0 where
  pub offset : ℕ
  pub steps : List Step
  pub is : left ≡ located step_text offset steps
  pub room : AllByRecursion (λ s. HasRoom s.1) left
  pub backed : AllByRecursion (λ s. IsBacked t s.1) left → IsBackedSection t e
  pub to : (f : Fault) → IsUnbackedIn t e f → IsUnbackedAmong t e left f
  pub from : (f : Fault) → IsUnbackedAmong t e left f → IsUnbackedIn t e f

pub left_first : (t : Trace) (e : ℕ) → HasLimits t → IsRightSection t e → AreLeft t e (steps_at t e)
unfolding steps_at
left_first t e limits right = record {
  offset = section_start t e + length (frame_text (OfReplica e));
  steps = steps_of t e;
  is = refl;
  room = room_along t start (steps_at t e) (few_batches t limits) right;
  backed = λ all. all;
  to = λ f place. place;
  from = λ f place. place;
}

-- the first of located steps, and the others
record IsCut (offset : ℕ) (steps : List Step) (step : ℕ × Step) (left : List (ℕ × Step)) : Type 0 where
  at : step.0 ≡ offset
  others : List Step
  behind : ℕ
  is : left ≡ located step_text behind others
  after : offset < behind

cut : (offset : ℕ) (steps : List Step) (step : ℕ × Step) (left : List (ℕ × Step)) → step ∷ left
    ≡ located step_text offset steps → IsCut offset steps step left
cut offset [] step left e = absurd (none step left e)
  where
    none : (s : ℕ × Step) (xs : List (ℕ × Step)) → ◌≡◌ {A = List (ℕ × Step)} (s ∷ xs) [] → ⊥
    none s xs e = cc
cut offset (s ∷ steps) step left e = record {
  at = ap (λ (x : ℕ × Step). x.0)
      (first step (offset, s) left (located step_text (offset + length (step_text s)) steps) e);
  others = steps;
  behind = offset + length (step_text s);
  is = rest step (offset, s) left (located step_text (offset + length (step_text s)) steps) e;
  after = longer s;
}
  where
    first : (y z : ℕ × Step) (ys zs : List (ℕ × Step)) → ◌≡◌ {A = List (ℕ × Step)} (y ∷ ys) (z ∷ zs) → y ≡ z
    first y z ys zs e = cc

    rest : (y z : ℕ × Step) (ys zs : List (ℕ × Step)) → ◌≡◌ {A = List (ℕ × Step)} (y ∷ ys) (z ∷ zs) → ys ≡ zs
    rest y z ys zs e = cc

    more : (n m : ℕ) → n < n + suc m
    more n m = omega arith

    longer : (x : Step) → offset < offset + length (step_text x)
    longer (Attempts a) = more offset _
    longer (Commits c) = more offset _
    longer (RollsBack r) = more offset _
    longer (Transfers x) = more offset _

-- a step that is backed
pub left_next : (t : Trace) (e : ℕ) (step : ℕ × Step) (left : List (ℕ × Step)) → AreLeft t e (step ∷ left)
    → IsBacked t step.1 → AreLeft t e left
left_next t e step left are backed =
    let own = cut are.offset are.steps step left are.is in
    record {
      offset = own.behind;
      steps = own.others;
      is = own.is;
      room = are.room.1;
      backed = λ all. are.backed (backed, all);
      to = λ f place. elim (place_cases (λ _ s. IsUnbacked t e s f) step left (are.to f place))
          [ inl here ↦ absurd (here.unbacked backed) | inr there ↦ there ];
      from = λ f place. are.from f (place_later (λ _ s. IsUnbacked t e s f) step left place);
    }

same_code : (step : Step) (c d : Code) → lacks step c → lacks step d → code_number c ≤ code_number d
same_code (Attempts a) c d one two = absurd one
same_code (Commits x) c d one two =
    (let same : code_number c ≡ code_number d = ap code_number (one ∙ sym two) in omega arith)
same_code (RollsBack r) c d one two =
    (let same : code_number c ≡ code_number d = ap code_number (one ∙ sym two) in omega arith)
same_code (Transfers x) c d one two =
    (let same : code_number c ≡ code_number d = ap code_number (one ∙ sym two) in omega arith)

-- one that isn't is the first fault
pub left_fault : (t : Trace) (e : ℕ) (step : ℕ × Step) (left : List (ℕ × Step)) (f : Fault) → AreLeft t e (step ∷ left)
    → IsUnbacked t e step f → IsFirstUnbackedIn t e f
left_fault t e step left f are wrong = record {
  is = are.from f (place_here (λ _ s. IsUnbacked t e s f) step left wrong);
  first = λ g place. elim (place_cases (λ _ s. IsUnbacked t e s g) step left (are.to g place)) [
    | inl here ↦ inr (sym wrong.offset ∙ here.offset, same_code step.1 f.code g.code wrong.lacking here.lacking)
    | inr there ↦ inl (later g there)
  ];
}
  where
    own : IsCut are.offset are.steps step left
    own = cut are.offset are.steps step left are.is

    later : (g : Fault) → IsUnbackedAmong t e left g → f.offset < g.offset
    later g there =
        let low = from_low (λ _ s. IsUnbacked t e s g) own.behind g.offset (located step_text own.behind own.others)
        (located_rising step_text own.behind own.others)
        (subst (λ (xs : List (ℕ × Step)). SomePlace xs (λ _ s. (s.0 ≡ g.offset) × IsUnbacked t e s g)) own.is
        (place_of (λ b s h. (h.offset, h)) there)) in
        omega (arith, low, own.after, own.at, wrong.offset)

-- ---- section after section

pub below_more : (k e : ℕ) → k < e + 1 → (k < e) ⊎ (k ≡ e)
below_more k e lt = elim (cases_lt k e) [ inl less ↦ inl less | inr le ↦ inr (omega (arith, lt, le)) ]

pub none_found : (t : Trace) → IsFirstUnbackedBelow t 0 None
none_found t = λ e lt. absurd (omega (arith, lt))

-- this replica's section is backed
pub none_more : (t : Trace) (e : ℕ) (first : Option Fault) → IsFirstUnbackedBelow t e first → IsBackedSection t e
    → IsFirstUnbackedBelow t (e + 1) first
none_more t e None found backed =
    λ k lt. elim (below_more k e lt) [
      | inl less ↦ found k less
      | inr same
          ↦ subst (IsBackedSection t) (sym same) backed
    ]
none_more t e (Some f) found backed = record {
  replica = found.replica;
  below = (let below = found.below in omega (arith, below));
  is = found.is;
  first = λ k g lt is. elim (below_more k e lt) [
    | inl less ↦ found.first k g less is
    | inr same ↦ absurd (none_unbacked t e g (steps_at t e) backed (subst (λ i. IsUnbackedIn t i g) same is))
  ];
}

-- it has the first fault
pub first_more : (t : Trace) (e : ℕ) (f : Fault) → IsFirstUnbackedBelow t e None → IsFirstUnbackedIn t e f
    → IsFirstBelow t (e + 1) f
first_more t e f none first = record {
  replica = e;
  below = omega arith;
  is = first.is;
  first = λ k g lt is. elim (below_more k e lt) [
    | inl less ↦ absurd (none_unbacked t k g (steps_at t k) (none k less) is)
    | inr same ↦ first.first g (subst (λ i. IsUnbackedIn t i g) same is)
  ];
}

-- it has one beside an earlier replica's
pub both_more : (t : Trace) (e : ℕ) (f g h : Fault) → IsFirstBelow t e g → IsFirstUnbackedIn t e f → (h ≡ g) ⊎ (h ≡ f)
    → IsUpTo h g → IsUpTo h f → IsFirstBelow t (e + 1) h
both_more t e f g h found own which before after = by which
  where
    first : (k : ℕ) (x : Fault) → k < e + 1 → IsUnbackedIn t k x → IsUpTo h x
    first k x lt is = elim (below_more k e lt) [
      | inl less ↦ up_to-trans h g x before (found.first k x less is)
      | inr same ↦ up_to-trans h f x after (own.first x (subst (λ i. IsUnbackedIn t i x) same is))
    ]

    by : (h ≡ g) ⊎ (h ≡ f) → IsFirstBelow t (e + 1) h
    by (inl same) = record {
      replica = found.replica;
      below = (let below = found.below in omega (arith, below));
      is = subst (λ (x : Fault). IsUnbackedIn t found.replica x) (sym same) found.is;
      first = first;
    }
    by (inr same) = record {
      replica = e;
      below = omega arith;
      is = subst (λ (x : Fault). IsUnbackedIn t e x)
          (sym same) own.is;
      first = first;
    }

-- what no majority voted for is a matter of majorities
lacking_phase : (step : Step) (c : Code) → lacks step c → phase_of c ≡ 9
lacking_phase (Attempts a) c lacking = absurd lacking
lacking_phase (Commits d) c lacking = ap phase_of lacking
lacking_phase (RollsBack r) c lacking = ap phase_of lacking
lacking_phase (Transfers x) c lacking = ap phase_of lacking

unbacked_phase : (t : Trace) (e : ℕ) (f : Fault) → IsUnbackedIn t e f → phase_of f.code ≡ 9
unbacked_phase t e f place = lacking_phase place.item.1 f.code place.holds.lacking

-- the first so far, with what was found in this replica's section
pub found_more : (t : Trace) (e : ℕ) (first found : Option Fault) → IsFirstUnbackedBelow t e first
    → IfNone found (IsBackedSection t e) → IfSome found (IsFirstUnbackedIn t e)
    → IsFirstUnbackedBelow t (e + 1) (first_of first found)
found_more t e None None before backed own = none_more t e None before backed
found_more t e None (Some f) before backed own = first_more t e f before own
found_more t e (Some g) None before backed own = none_more t e (Some g) before backed
found_more t e (Some g) (Some f) before backed own =
    let two = first_of_two g f in
    let one = unbacked_phase t before.replica g before.is in
    let other = unbacked_phase t e f own.is in
    let its : phase_of two.0.code ≡ 9 =
    elim two.2.one [
      | inl same ↦ ap (λ (x : Fault). phase_of x.code) same ∙ one
      | inr same
          ↦ ap (λ (x : Fault). phase_of x.code) same ∙ other
    ] in
    subst (IsFirstUnbackedBelow t (e + 1)) (sym two.1)
    (both_more t e f g two.0 before own two.2.one (up_to_from two.0 g (its ∙ sym one) two.2.before)
    (up_to_from two.0 f (its ∙ sym other) two.2.and_before))

-- ---- all sections

pub all_backed : (t : Trace) (n : ℕ) → length t.sections ≤ n → IsFirstUnbackedBelow t n None → AllAreBacked t
all_backed t n many found e = elim (cases_lt e n) [
  | inl lt ↦ found e lt
  | inr ge ↦ subst (AllByRecursion (λ s. IsBacked t s.1)) (sym (none_at t e (omega arith))) tt
]

pub no_fault : (t : Trace) → AllAreBacked t → (f : Fault) → IsFaultSomewhere StandsInMajorities t f → ⊥
no_fault t backed f fault = none_unbacked t fault.0 f (steps_at t fault.0) (backed fault.0)
    (unbacked_from t f fault)

pub least_fault : (t : Trace) (n : ℕ) (f : Fault) → length t.sections ≤ n → IsFirstBelow t n f
    → IsLeast (IsFaultSomewhere StandsInMajorities t) f
least_fault t n f many found = record {
  is = fault_from t found.replica f found.is;
  least = λ g fault. by g fault (cases_lt fault.0 n);
}
  where
    by : (g : Fault) → (fault : IsFaultSomewhere StandsInMajorities t g) → (fault.0 < n) ⊎ (n ≤ fault.0) → IsUpTo f g
    by g fault (inl lt) = found.first fault.0 g lt (unbacked_from t g fault)
    by g fault (inr ge) =
        absurd (no_place _ (subst (λ (xs : List (ℕ × Step)). IsUnbackedAmong t fault.0 xs g)
        (none_at t fault.0 (omega arith)) (unbacked_from t g fault)))

-- ---- what is read of a frame

pub rolled_from : (t : Trace) (decision : Bool) (to view n v : ℕ) → n ≡ to → v ≡ view → IsTrue decision
    ↔ IsRolledBack t (n + 1) (v - 1) → IsTrue decision ↔ IsRolledBack t (to + 1) (view - 1)
rolled_from t decision to view n v e f is =
    subst (λ (m : ℕ). IsTrue decision ↔ IsRolledBack t (m + 1) (view - 1)) e
    (subst (λ (w : ℕ). IsTrue decision ↔ IsRolledBack t (n + 1) (w - 1)) f is)

-- what is told of a batch: in which view it is decided, and with which token
abbrev Tells : Trace → ℕ → Option (ℕ × List ℕ) → Type 0
Tells t n found = (view : ℕ) (token : List ℕ) → IsDecided t n view token ↔ (found ≡ Some (view, token))

told_same : (x y : ℕ × List ℕ) → ◌≡◌ {A = Option (ℕ × List ℕ)} (Some x) (Some y) → x ≡ y
told_same x y e = cc

pub decided_from : (t : Trace) (n seq v view : ℕ) (token b : List ℕ) (decision : Bool) → n ≡ seq → v ≡ view → b ≡ token
    → IsTrue decision ↔ IsDecided t n v b → IsTrue decision ↔ IsDecided t seq view token
decided_from t n seq v view token b decision e f g is =
    subst (λ (m : ℕ). IsTrue decision ↔ IsDecided t m view token) e
    (subst (λ (w : ℕ). IsTrue decision ↔ IsDecided t n w token) f
    (subst (λ (bytes : List ℕ). IsTrue decision ↔ IsDecided t n v bytes) g is))

-- the same view is told: it is decided where the token is the same
pub decided_with : (t : Trace) (n v : ℕ) (a b : List ℕ) (found : Option (ℕ × List ℕ)) (told : ℕ × List ℕ)
    (decision : Bool)
    → Tells t n found → found ≡ Some told → told.0 ≡ v → a ≡ told.1
    → decision ≡ pointwise ◌==◌ a b → IsTrue decision ↔ IsDecided t n v b
decided_with t n v a b found told decision tells is view token test = (
  λ held. (tells v b).1 (is ∙ ap Some (pair (token_same held))),
  λ decided. by decision refl (token
      ∙ ap (λ (x : ℕ × List ℕ). x.1) (told_same told (v, b) (sym is ∙ (tells v b).0 decided))),
)
  where
    token_same : decision ≡ true → a ≡ b
    token_same held = same_text a b (sym held ∙ test)

    pair : a ≡ b → ◌≡◌ {A = ℕ × List ℕ} told (v, b)
    pair same = λ i. (view i, (sym token ∙ same) i)

    by : (s : Bool) → decision ≡ s → a ≡ b → decision ≡ true
    by true e same = e
    by false e same = absurd (other_text a b (sym e ∙ test) same)

-- another view is told
pub decided_elsewhere : (t : Trace) (n v : ℕ) (b : List ℕ) (found : Option (ℕ × List ℕ)) (told : ℕ × List ℕ)
    → Tells t n found → found ≡ Some told → (told.0 ≡ v → ⊥) → IsTrue (told.0 == v) ↔ IsDecided t n v b
decided_elsewhere t n v b found told tells is apart = (
  λ held. absurd (apart (eqb-true told.0 v held)),
  λ decided. absurd (apart (ap (λ (x : ℕ × List ℕ). x.0) (told_same told (v, b) (sym is ∙ (tells v b).0 decided)))),
)

-- of a state: some commit is decided where its view is told
pub some_decided_with : (t : Trace) (n seq v view : ℕ) (found : Option (ℕ × List ℕ)) (told : ℕ × List ℕ) → n ≡ seq
    → v ≡ view → Tells t n found → found ≡ Some told → IsTrue (told.0 == v) ↔ SomeDecided t seq view
some_decided_with t n seq v view found told e f tells is = (
  λ held.
      let same : told.0 ≡ view = eqb-true told.0 v held ∙ f in (
        told.1,
        subst (λ (m : ℕ). IsDecided t m view told.1) e
            ((tells view told.1).1 (is ∙ ap (λ (w : ℕ). Some (w, told.1)) same)),
      ),
  λ decided.
      let its = (tells view decided.0).0 (subst (λ (m : ℕ). IsDecided t m view decided.0) (sym e) decided.1) in
      let same : told.0 ≡ v = ap (λ (x : ℕ × List ℕ). x.0) (told_same told (view, decided.0) (sym is ∙ its)) ∙ sym f in
      eq-eqb told.0 v same,
)

-- and none where nothing is told
pub some_decided_nowhere : (t : Trace) (n seq view : ℕ) (found : Option (ℕ × List ℕ)) → n ≡ seq → Tells t n found
    → ((told : ℕ × List ℕ) → found ≡ Some told → ⊥) → IsTrue false ↔ SomeDecided t seq view
some_decided_nowhere t n seq view found e tells none = (
  λ held. absurd (false≢true held),
  λ decided. absurd (none (view, decided.0)
      ((tells view decided.0).0 (subst (λ (m : ℕ). IsDecided t m view decided.0) (sym e) decided.1))),
)

-- none is told
pub decided_nowhere : (t : Trace) (n v : ℕ) (b : List ℕ) (found : Option (ℕ × List ℕ)) → Tells t n found → found ≡ None
    → IsTrue false ↔ IsDecided t n v b
decided_nowhere t n v b found tells is = (
  λ held. absurd (false≢true held),
  λ decided. absurd (none_decoded (v, b) (sym is ∙ (tells v b).0 decided)),
)
  where
    none_decoded : (x : ℕ × List ℕ) → ◌≡◌ {A = Option (ℕ × List ℕ)} None (Some x) → ⊥
    none_decoded x e = cc

-- ---- what is met

pub commit_located : (t : Trace) (m : step_read.Step) (x : CommitView) (next : ℕ × Step) → m ≡ of.Commit x
    → IsStep m next
    → IsDecided t (commit_in x.bytes.now).seq (commit_in x.bytes.now).view (commit_in x.bytes.now).token
    → IsBacked t next.1
commit_located t m x (at, Attempts a) is step decided = absurd
    (subst (λ (k : step_read.Step). IsStep k (at, Attempts a)) is step)
commit_located t m x (at, Commits c) is step decided =
    subst (λ (d : Commit). IsDecided t d.seq d.view d.token)
    (subst (λ (k : step_read.Step). IsStep k (at, Commits c)) is step).1 decided
commit_located t m x (at, RollsBack r) is step decided =
    absurd (subst (λ (k : step_read.Step). IsStep k (at, RollsBack r)) is step)
commit_located t m x (at, Transfers y) is step decided =
    absurd (subst (λ (k : step_read.Step). IsStep k (at, Transfers y)) is step)

pub rollback_located : (t : Trace) (m : step_read.Step) (x : RollbackView) (next : ℕ × Step) → m ≡ of.Rollback x
    → IsStep m next
    → IsRolledBack t ((rollback_in x.bytes.now).to + 1) ((rollback_in x.bytes.now).view - 1) → IsBacked t next.1
rollback_located t m x (at, Attempts a) is step voted = absurd
    (subst (λ (k : step_read.Step). IsStep k (at, Attempts a)) is step)
rollback_located t m x (at, Commits c) is step voted = absurd
    (subst (λ (k : step_read.Step). IsStep k (at, Commits c)) is step)
rollback_located t m x (at, RollsBack r) is step voted =
    subst (λ (q : Rollback). IsRolledBack t (q.to + 1) (q.view - 1))
    (subst (λ (k : step_read.Step). IsStep k (at, RollsBack r)) is step).1 voted
rollback_located t m x (at, Transfers y) is step voted =
    absurd (subst (λ (k : step_read.Step). IsStep k (at, Transfers y)) is step)

pub transfer_located : (t : Trace) (m : step_read.Step) (x : TransferView) (next : ℕ × Step) → m ≡ of.Transfer x
    → IsStep m next
    → SomeDecided t (transfer_in x.bytes.now).seq (transfer_in x.bytes.now).view → IsBacked t next.1
transfer_located t m x (at, Attempts a) is step decided =
    absurd (subst (λ (k : step_read.Step). IsStep k (at, Attempts a)) is step)
transfer_located t m x (at, Commits c) is step decided = absurd
    (subst (λ (k : step_read.Step). IsStep k (at, Commits c)) is step)
transfer_located t m x (at, RollsBack r) is step decided =
    absurd (subst (λ (k : step_read.Step). IsStep k (at, RollsBack r)) is step)
transfer_located t m x (at, Transfers y) is step decided =
    subst (λ (z : Transfer). SomeDecided t z.seq z.view)
    (subst (λ (k : step_read.Step). IsStep k (at, Transfers y)) is step).1 decided
