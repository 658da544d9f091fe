-- The numbers to which a section goes back never fall, and the votes tell them; so they differ, or one follows itself.
use Rattle.std.proofs.Common.{◌≡◌, ◌≢◌, ℕ, ◌+◌, ◌-◌, ◌<◌, ◌≤◌, List, [], ◌∷◌, ◌++◌, All, AllPairs}
use Rattle.std.proofs.Common.{sym, subst, ap, ◌∙◌, ◌⊎◌, inl, inr, arith, length-append}
use Rattle.std.specs.Prelude.{⊤}
use Rattle.std.proofs.lemmas.Bool.{cases_lt}
use Rattle.std.proofs.lemmas.List.{get_or_append_left}
use Rattle.std.proofs.lemmas.List.Elements.{All-nil, All-cons, All-weaker}
use Rattle.std.proofs.lemmas.List.Kept.{AllPairs-cons}
use Rattle.eve_grammar.specs.Trace.{Step, Attempts, Commits, RollsBack, Transfers, Choice, ForRollback, ForCommit}
use Rattle.eve_grammar.specs.Trace.{Vote}
use Rattle.eve_attempts.specs.Ledgers.{Ledger}
use Rattle.eve_replica.specs.Sections.{RunPlan, GoesThrough, AreVotesOf}
use Rattle.eve_run_laws.specs.RolledBack.{rolled_back_to}

-- ---- numbers that don't fall

-- the first is this one or above it, and none is below the one before it
abbrev pub DontFall : ℕ → List ℕ → Type 0
DontFall low [] = ⊤
DontFall low (n ∷ ns) = (low ≤ n) × DontFall n ns

dont_fall_from_lower : (low high : ℕ) (ns : List ℕ) → low ≤ high → DontFall high ns → DontFall low ns
dont_fall_from_lower low high [] le up = tt
dont_fall_from_lower low high (n ∷ ns) le up = (omega (arith, up.0), up.1)

all_above : (low : ℕ) (ns : List ℕ) → DontFall low ns → All (λ n. low ≤ n) ns
all_above low [] up = All-nil (λ n. low ≤ n)
all_above low (n ∷ ns) up =
    All-cons (λ m. low ≤ m) n ns up.0
    (All-weaker (λ m. n ≤ m) (λ m. low ≤ m) (λ m le. omega (arith, le, up.0)) ns (all_above n ns up.1))

-- all differ
abbrev pub Differ : List ℕ → Type 0
Differ ns = AllPairs (λ a b. a ≢ b) ns

-- a number follows itself
pub record Repeats (ns : List ℕ) : Type 0 where
  pub before : List ℕ
  pub number : ℕ
  pub rest : List ℕ
  pub is : ns ≡ before ++ number ∷ number ∷ rest

pub differ_or_repeat : (low : ℕ) (ns : List ℕ) → DontFall low ns → Differ ns ⊎ Repeats ns
differ_or_repeat low [] up = inl (λ i j d before within. absurd (omega arith))
differ_or_repeat low (n ∷ []) up = inl (λ i j d before within. absurd (omega arith))
differ_or_repeat low (n ∷ m ∷ ns) up = by (cases_lt n m) (differ_or_repeat n (m ∷ ns) up.1)
  where
    by : (n < m) ⊎ (m ≤ n) → Differ (m ∷ ns) ⊎ Repeats (m ∷ ns) → Differ (n ∷ m ∷ ns) ⊎ Repeats (n ∷ m ∷ ns)
    by one (inr twice) = inr (record {
      before = n ∷ twice.before;
      number = twice.number;
      rest = twice.rest;
      is = ap (λ (ms : List ℕ). n ∷ ms) twice.is;
    })
    by (inl above) (inl differ) =
        inl (AllPairs-cons (λ a b. a ≢ b) n (m ∷ ns)
        (All-weaker (λ k. m ≤ k) (λ k. n ≢ k) (λ k le same. omega (arith, le, same, above)) (m ∷ ns)
        (all_above m (m ∷ ns) (omega arith, up.1.1)))
        differ)
    by (inr below) (inl differ) =
        let low : n ≤ m = up.1.0 in
        let same : m ≡ n = omega (arith, low, below) in
        inr (record {
          before = [];
          number = n;
          rest = ns;
          is = ap (λ (k : ℕ). n ∷ k ∷ ns) same;
        })

-- so do the first of them
pub differ_before : (ns ms : List ℕ) → Differ (ns ++ ms) → Differ ns
differ_before ns ms differ i j d before within same =
    differ i j d before (omega (arith, within, length-append ns ms))
    (get_or_append_left ns ms d i (omega (arith, before, within)) ∙ same ∙ sym (get_or_append_left ns ms d j within))

-- ---- along a section

pub dont_fall : (p : RunPlan) (steps : List Step) (old last : Ledger) → GoesThrough p steps old last
    → DontFall old.committed (rolled_back_to steps)
dont_fall p [] old last goes = tt
dont_fall p (Attempts a ∷ steps) old last goes =
    subst (λ (n : ℕ). DontFall n (rolled_back_to steps))
    (ap (λ (l : Ledger). l.committed) goes.1.closed.opens.changed) (dont_fall p steps goes.0 last goes.2)
dont_fall p (Commits c ∷ steps) old last goes =
    let number = ap (λ (l : Ledger). l.committed) goes.1.changed in
    dont_fall_from_lower old.committed goes.0.committed (rolled_back_to steps) (omega (arith, number))
    (dont_fall p steps goes.0 last goes.2)
dont_fall p (RollsBack r ∷ steps) old last goes =
    let made = goes.1.rolled_back in
    let number : goes.0.committed ≡ r.to = ap (λ (l : Ledger). l.committed) made.changed ∙ sym made.to in (
      omega (arith, made.to),
      subst (λ (n : ℕ). DontFall n (rolled_back_to steps)) number (dont_fall p steps goes.0 last goes.2),
    )
dont_fall p (Transfers x ∷ steps) old last goes =
    let number = ap (λ (l : Ledger). l.committed) goes.1.transferred.changed in
    dont_fall_from_lower old.committed goes.0.committed (rolled_back_to steps)
    (omega (arith, number, goes.1.next)) (dont_fall p steps goes.0 last goes.2)

-- ---- what votes tell of them

-- the number to which a vote has replicas go back, if it is for a rollback
abbrev pub number_back : ℕ → Choice → List ℕ
number_back n ForRollback = (n - 1) ∷ []
number_back n (ForCommit token) = []

-- the numbers to which votes have replicas go back, in order
abbrev pub voted_back_to : List Vote → List ℕ
voted_back_to [] = []
voted_back_to (w ∷ votes) = number_back w.seq w.choice ++ voted_back_to votes

pub voted_along : (steps : List Step) (own later : List Vote) → AreVotesOf steps own
    → voted_back_to (own ++ later) ≡ rolled_back_to steps ++ voted_back_to later
voted_along [] own later led = ap (λ (vs : List Vote). voted_back_to (vs ++ later)) led
voted_along (Attempts a ∷ steps) own later led = voted_along steps own later led
voted_along (Commits c ∷ steps) own later led =
    ap (λ (vs : List Vote). voted_back_to (vs ++ later)) led.1 ∙ voted_along steps led.0 later led.2
voted_along (RollsBack r ∷ steps) own later led =
    let same : r.to + 1 - 1 ≡ r.to = omega arith in
    ap (λ (vs : List Vote). voted_back_to (vs ++ later)) led.1
    ∙ (λ i. same i ∷ voted_along steps led.0 later led.2 i)
voted_along (Transfers x ∷ steps) own later led =
    ap (λ (vs : List Vote). voted_back_to (vs ++ later)) led.2 ∙ voted_along steps led.1 later led.3
