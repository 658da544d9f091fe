-- Where replicas differ in what a batch came to. docs/MODEL.md, "Agreement".
use Rattle.std.specs.Prelude.{◌≡◌, ℕ, map, Option, Some, IfSome, IsTrue, find}
use Rattle.std.specs.Option.{is_some, option_map}
use Rattle.eve_grammar.specs.Trace.{Transfer, Trace}
use Rattle.eve_grammar.specs.Frames.{sections_of}
use Rattle.eve_views.specs.declared.fault.Code.{Code}
use Rattle.eve_views.specs.declared.fault.Code.TheVariants as code
use Rattle.eve_history.specs.Section.{ByTransfer}
use Rattle.eve_history.specs.SectionHistory.{how_reached_at, committed_at}
use Rattle.eve_chains.specs.Committed.{balances_to}
use Rattle.eve_agree.specs.ByNumber.{SomeCommitted, SomeTransferred}

-- the lowest-numbered replica that committed the batch
abbrev pub first_to_commit : Trace → ℕ → Option ℕ
first_to_commit t n = find (λ e. is_some (committed_at t e n)) (map (λ s. s.0) (sections_of t))

-- two replicas have the same balances after the batch, and the same replies by request index
-- Where it isn't so, F80 Outcome stands.
pub record HaveSameOutcome (t : Trace) (e f n : ℕ) : Type 0 where
  pub balances : balances_to t e n ≡ balances_to t f n
  pub replies : option_map (λ p. p.attempt.replies) (committed_at t e n) ≡ option_map (λ p. p.attempt.replies)
      (committed_at t f n)

-- replica e committed batch n
abbrev pub HasCommitted : Trace → ℕ → ℕ → Type 0
HasCommitted t e n = IsTrue (is_some (committed_at t e n))

-- a replica committed batch n, and the state has the balances after it of the lowest-numbered that did
-- Where it isn't so, F81 TransferBalances stands.
abbrev pub HasBalancesOfFirst : Trace → ℕ → Transfer → Type 0
HasBalancesOfFirst t n x = (f : ℕ) × (first_to_commit t n ≡ Some f) × (map (λ v. v.value) x.rows ≡ balances_to t f n)

-- each replica has the outcome of each batch that it committed from the first to commit it, and so have the states that
-- were transferred to it their balances
pub record ReplicasAgree (t : Trace) : Type 0 where
  pub outcomes : (e n : ℕ) → HasCommitted t e n → IfSome (first_to_commit t n) (λ f. HaveSameOutcome t e f n)
  pub states : (e n at : ℕ) (x : Transfer) → how_reached_at t e n ≡ Some (ByTransfer at x) → HasBalancesOfFirst t n x

-- a fault of agreement stands at this offset in replica e's section
abbrev pub StandsInAgreement : Code → Trace → ℕ → ℕ → Type 0
StandsInAgreement code.Outcome t e at =
    SomeCommitted t e at (λ n p. IfSome (first_to_commit t n) (λ f. ¬ HaveSameOutcome t e f n))
StandsInAgreement code.TransferBalances t e at = SomeTransferred t e at (λ n x. ¬ HasBalancesOfFirst t n x)
StandsInAgreement _ t e at = ⊥
