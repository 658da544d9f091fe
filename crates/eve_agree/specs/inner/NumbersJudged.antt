-- What is kept while the numbers are judged one after another.
use Rattle.std.specs.Prelude.{◌≡◌, ℕ, ℤ, ◌≤◌, ◌<◌, List, [], length, map, Option, Some, None, IfSome, IsTrue}
use Rattle.std.specs.Prelude.{slice_get, slice_index_or}
use Rattle.eve_smallbank.specs.Access.{balance_of_row}
use Rattle.eve_grammar.specs.Trace.{Transfer, Trace}
use Rattle.eve_views.specs.declared.fault.Code.{Code}
use Rattle.eve_views.specs.declared.fault.Code.TheVariants as code
use Rattle.eve_views.specs.declared.fault.Fault.{Fault}
use Rattle.eve_views.specs.Form.{IsUpTo, IsFaultIn}
use Rattle.eve_history.specs.Section.{HowReached, ByAttempt, ByTransfer, Skipped}
use Rattle.eve_history.specs.SectionHistory.{SectionHistory, section_histories, how_reached_at, is_reached}
use Rattle.eve_history.specs.SectionHistory.{IsRightSection}
use Rattle.eve_chains.specs.Committed.{values_to, balances_to}
use Rattle.eve_chains.specs.CommittedValues.{Settling, settling, settlings, values_in, HaveSameBalances}
use Rattle.eve_agree.specs.declared.replica.Replicas.{Replicas}
use Rattle.eve_agree.specs.ByNumber.{told_at}
use Rattle.eve_agree.specs.Agreement.{first_to_commit, HasCommitted, HaveSameOutcome, HasBalancesOfFirst}
use Rattle.eve_agree.specs.Agreement.{StandsInAgreement}

-- ---- balances

-- the balances are those after the first n numbers of the replica, or after all where it has fewer
pub record IsAfter (s : Settling) (n : ℕ) (balances : List ℤ) : Type 0 where
  pub rows : length balances ≡ length s.opening
  pub values : balance_of_row balances ≡ values_in s n

-- those of each replica are
pub record AreAfter (settled : List Settling) (n : ℕ) (all : List (List ℤ)) : Type 0 where
  pub as_many : length all ≡ length settled
  pub each : (e : ℕ) (s : Settling) → slice_get settled e ≡ Some s → IsAfter s n (slice_index_or all e [])

-- What is known of all replicas where number n is judged: their sections are right, and these are what they tell, what
-- they committed, and the balances after the number. What is kept gives the balances that a replica has; where it had a
-- state transferred they are the state's values.
pub record AllStandAt (t : Trace) (hs : List SectionHistory) (settled : List Settling) (all : List (List ℤ)) (n : ℕ)
    : Type 0 where
  pub histories : hs ≡ section_histories t
  pub committed : settled ≡ settlings t
  pub right : (e : ℕ) → IsRightSection t e
  pub after : AreAfter (settlings t) n all
  pub values : (e m : ℕ) → values_in (settling t e) m ≡ values_to t e m
  pub states : (e m at : ℕ) (x : Transfer) → how_reached_at t e m ≡ Some (ByTransfer at x)
      → balances_to t e m ≡ map (λ v. v.value) x.rows

-- that is known of these
abbrev pub ReplicasStandAt : Trace → Replicas → Type 0
ReplicasStandAt t all = AllStandAt t all.histories.now all.settled.now all.balances.now all.number

-- ---- one number

-- none of the first replicas committed the batch
abbrev pub NoneBefore : List SectionHistory → ℕ → ℕ → Type 0
NoneBefore hs n e = (i : ℕ) (h : SectionHistory) → i < e → slice_get hs i ≡ Some h → told_at h n ≡ None

-- replica e has the outcome of the first that committed batch n where it committed it too, and its balances where it
-- had a state transferred
pub record AgreesIn (t : Trace) (e n : ℕ) : Type 0 where
  pub outcome : HasCommitted t e n → IfSome (first_to_commit t n) (λ f. HaveSameOutcome t e f n)
  pub state : (at : ℕ) (x : Transfer) → how_reached_at t e n ≡ Some (ByTransfer at x) → HasBalancesOfFirst t n x

-- the replicas up to e that have reached number n have the same balances after it
abbrev pub AllHaveSame : Trace → ℕ → ℕ → Type 0
AllHaveSame t e n = (i j : ℕ) → i ≤ e → j ≤ e → IsTrue (is_reached t i n) → IsTrue (is_reached t j n)
    → HaveSameBalances (settling t i) (settling t j) n

-- the frame by which a number was reached
abbrev pub offset_of : HowReached → Option ℕ
offset_of (ByAttempt p) = Some p.offset
offset_of (ByTransfer at x) = Some at
offset_of Skipped = None

-- the fault where it is apart from the others
abbrev pub code_of : HowReached → Option Code
code_of (ByAttempt p) = Some code.Outcome
code_of (ByTransfer at x) = Some code.TransferBalances
code_of Skipped = None

-- the fault is that replica e differs in number n
pub record IsApart (t : Trace) (e n : ℕ) (f : Fault) : Type 0 where
  pub how_reached : HowReached
  pub at : how_reached_at t e n ≡ Some how_reached
  pub code : code_of how_reached ≡ Some f.code
  pub offset : offset_of how_reached ≡ Some f.offset
  pub inside : f.replica ≡ Some e
  pub apart : ¬ AgreesIn t e n

-- ---- all numbers up to one

-- a fault of agreement in replica e, and the first in its section and in those behind it
pub record IsFirstFrom (t : Trace) (e : ℕ) (f : Fault) : Type 0 where
  pub stands : IsFaultIn StandsInAgreement t e f
  pub first : (i : ℕ) (g : Fault) → e ≤ i → IsFaultIn StandsInAgreement t i g → IsUpTo f g

abbrev pub bound_by : ℕ → Option ℕ → ℕ
bound_by count None = count
bound_by count (Some e) = e

-- of this many replicas those below it are left to judge
abbrev pub bound_of : ℕ → Option Fault → ℕ
bound_of count None = count
bound_of count (Some f) = bound_by count f.replica

-- What was found is the first fault from its replica on; the replicas that are left agree up to number n.
pub record JudgedTo (t : Trace) (n : ℕ) (least : Option Fault) : Type 0 where
  pub found : IfSome least (λ f. (e : ℕ) × IsFirstFrom t e f)
  pub agree : (e m : ℕ) → e < bound_of (length t.sections) least → m ≤ n → AgreesIn t e m
