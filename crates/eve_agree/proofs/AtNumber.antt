-- What is read of all replicas where a number is judged.
use Rattle.std.proofs.Common.{◌≡◌, ℕ, ◌<◌, ℤ, List, length, get_or, Option, Some, sym, ap, subst, ◌∙◌, arith, refl}
use Rattle.std.proofs.lemmas.Option.{slice_get_read}
use Rattle.eve_grammar.specs.Trace.{Transfer, Trace}
use Rattle.eve_views.specs.declared.fault.Fault.{Fault}
use Rattle.eve_history.specs.Section.{ByTransfer}
use Rattle.eve_history.specs.SectionHistory.{SectionHistory, section_history, section_histories, how_reached_at}
use Rattle.eve_history.proofs.RightSections.{as_many_told}
use Rattle.eve_chains.specs.Committed.{balances_to}
use Rattle.eve_chains.specs.CommittedValues.{Settling, settling}
use Rattle.eve_agree.specs.declared.replica.Replicas.{Replicas}
use Rattle.eve_agree.specs.Agreement.{first_to_commit, HasBalancesOfFirst}
use Rattle.eve_agree.specs.inner.NumbersJudged.{IsAfter, ReplicasStandAt, bound_of}
use Rattle.eve_agree.proofs.ByNumber.{replica_there}
use Rattle.eve_agree.proofs.Outcomes.{section_history_is, settlings_count, is_after, all_balances, first_committed}
use Rattle.eve_agree.proofs.EqualBalances.{settling_read}

-- so many replicas are left to judge
pub left_here : (t : Trace) (hs : List SectionHistory) (least : Option Fault) → hs ≡ section_histories t
    → bound_of (length hs) least ≡ bound_of (length t.sections) least
left_here t hs least told = ap (λ (k : ℕ). bound_of k least) (ap length told ∙ as_many_told t)

module _ (t : Trace) (all : Replicas) (known : ReplicasStandAt t all) where
  pub as_many_histories : length all.histories.now ≡ length t.sections
  as_many_histories = ap length known.histories ∙ as_many_told t

  pub as_many_settled : length all.settled.now ≡ length t.sections
  as_many_settled = ap length known.committed ∙ settlings_count t

  pub as_many_balances : length all.balances.now ≡ length t.sections
  as_many_balances = known.after.as_many ∙ settlings_count t

  module _ (e : ℕ) (there : e < length t.sections) where
    pub history_here : (h : SectionHistory) → h ≡ get_or all.histories.now e h → h ≡ section_history t e
    history_here h is =
        let count = as_many_histories in
        section_history_is t all.histories.now e h known.histories
        (slice_get_read all.histories.now (length all.histories.now) e h refl (omega arith) is)

    pub settled_here : (s : Settling) → s ≡ get_or all.settled.now e s → s ≡ settling t e
    settled_here s is = settling_read t all.settled.now e s known.committed there is

    pub after_here : (s : Settling) (b : List ℤ) → s ≡ get_or all.settled.now e s → b ≡ get_or all.balances.now e b
        → IsAfter s all.number b
    after_here s b is own = subst (λ (x : Settling). IsAfter x all.number b) (sym (settled_here s is))
        (is_after t e all.number all.balances.now b known.after there own)

    pub balances_here : (b : List ℤ) → b ≡ get_or all.balances.now e b → b ≡ balances_to t e all.number
    balances_here b is = all_balances t e all.number all.balances.now b known.after (known.values e all.number) there is

  -- the first that committed the batch is there
  pub first_there : (f : ℕ) → first_to_commit t all.number ≡ Some f → f < length t.sections
  first_there f first =
      let q = first_committed t all.number f first in
      replica_there t f all.number q.0 q.1

  -- a state has the balances of the first exactly where those after it are the first's
  pub state_is : (e at : ℕ) (x : Transfer) → how_reached_at t e all.number ≡ Some (ByTransfer at x)
      → (f : ℕ) × (first_to_commit t all.number ≡ Some f) × (balances_to t e all.number ≡ balances_to t f all.number)
      → HasBalancesOfFirst t all.number x
  state_is e at x is got = (got.0, got.1, sym (known.states e all.number at x is) ∙ got.2)

  pub is_state : (e at : ℕ) (x : Transfer) → how_reached_at t e all.number ≡ Some (ByTransfer at x)
      → HasBalancesOfFirst t all.number x
      → (f : ℕ) × (first_to_commit t all.number ≡ Some f) × (balances_to t e all.number ≡ balances_to t f all.number)
  is_state e at x is has = (has.0, has.1, known.states e all.number at x is ∙ has.2)
