-- Where replicas differ in what a batch came to, though their tokens are due and decided, the trace shows a collision.
use Rattle.std.proofs.Common.{◌≡◌, ℕ, Option, Some, IfSome, subst}
use Rattle.eve_grammar.specs.Trace.{Transfer, Trace}
use Rattle.eve_grammar.specs.Limits.{HasLimits}
use Rattle.eve_views.specs.declared.fault.Code.{Code}
use Rattle.eve_views.specs.declared.fault.Code.TheVariants as code
use Rattle.eve_views.specs.declared.fault.Fault.{Fault}
use Rattle.eve_views.specs.Form.{IsFaultSomewhere}
use Rattle.eve_history.specs.Section.{Placed, ByTransfer}
use Rattle.eve_history.specs.SectionHistory.{how_reached_at, committed_at, IsRightSection}
use Rattle.eve_votes.specs.Faults.{AreVotesSound}
use Rattle.eve_agree.specs.Agreement.{HaveSameOutcome, HasBalancesOfFirst, StandsInAgreement}
use Rattle.eve_agree.specs.DueTokens.{TokensAreDue}
use Rattle.eve_agree.specs.Majority.{AllAreBacked}
use Rattle.eve_audit.proofs.Decisions.{committed_decided}
use Rattle.eve_audit.proofs.NumberLaws.{first_there, first_committed}
use Rattle.eve_run_laws.specs.Collision.{Collides}
use Rattle.eve_run_laws.proofs.Collisions.{collides}

module _ (t : Trace) (limits : HasLimits t) (right : (e : ℕ) → IsRightSection t e) (due : (e : ℕ) → TokensAreDue t e)
    (votes : AreVotesSound t) (backed : AllAreBacked t) where
  -- two replicas that committed a batch with other outcomes
  pub outcomes_collide : (e f n : ℕ) (q r : Placed) → committed_at t e n ≡ Some q → committed_at t f n ≡ Some r
      → ¬ HaveSameOutcome t e f n → Collides t
  outcomes_collide e f n q r at also apart =
      collides t e f n q r limits (right e) (right f) at also (due e) (due f)
      (votes.one_token n q.attempt.view r.attempt.view q.attempt.token r.attempt.token
      (committed_decided t e (right e) (backed e) n q at) (committed_decided t f (right f) (backed f) n r also)) apart

  -- a fault of an outcome
  pub outcome_fault_collides : (f : Fault) (e : ℕ) → StandsInAgreement code.Outcome t e f.offset → Collides t
  outcome_fault_collides f e place =
      let first = first_there t e place.n place.item place.is in
      let other = first_committed t place.n first.0 first.1 in
      outcomes_collide e first.0 place.n place.item other.0 place.is other.1
      (subst (λ (o : Option ℕ). IfSome o (λ g. ¬ HaveSameOutcome t e g place.n)) first.1 place.holds)

  -- a fault of agreement, where each state that was transferred has the balances that it must have
  pub outcome_collides : ((e n at : ℕ) (x : Transfer) → how_reached_at t e n ≡ Some (ByTransfer at x)
      → HasBalancesOfFirst t n x)
      → (f : Fault) → IsFaultSomewhere StandsInAgreement t f → Collides t
  outcome_collides states f is = by f.code is.1.stands
    where
      by : (c : Code) → StandsInAgreement c t is.0 f.offset → Collides t
      by code.Outcome place = outcome_fault_collides f is.0 place
      by code.TransferBalances place = absurd (place.holds (states is.0 place.n f.offset place.state place.is))
      by _ place = absurd place
