-- What is accepted where no phase finds a fault.
use Rattle.std.proofs.Common.{ℕ, refl, None}
use Rattle.std.specs.Prelude.{AllPairs, ◌≢◌}
use Rattle.eve_grammar.specs.Trace.{Trace}
use Rattle.eve_grammar.specs.Limits.{HasLimits}
use Rattle.eve_views.specs.declared.fault.Code.TheVariants as code
use Rattle.eve_history.specs.Order.{StandsInOrders}
use Rattle.eve_chains.specs.Committed.{batch_request_ids}
use Rattle.eve_audit.specs.Accepted.{IsAccepted}
use Rattle.eve_views.specs.Form.{HasNone, IsFaultOutside}
use Rattle.eve_audit.specs.Reports.{IsSoundReplica, IsSoundTogether}

pub no_request_again : (t : Trace) → HasNone (IsFaultOutside StandsInOrders t) → (at : ℕ)
    → ¬ StandsInOrders code.SameRequest t at
no_request_again t none at stands = none (record { code = code.SameRequest; offset = at; replica = None })
    (record { stands = stands; outside = refl })

pub accepted_of : (t : Trace) → HasLimits t → AllPairs (λ a b. a ≢ b) (batch_request_ids t)
    → ((e : ℕ) → IsSoundReplica t e)
    → IsSoundTogether t → IsAccepted t
accepted_of t limits apart replicas together = record {
  limits = limits;
  apart = apart;
  right = λ e. (replicas e).right;
  sound = λ e. (replicas e).sound;
  restores = λ e. (replicas e).restores;
  tokens = λ e. (replicas e).tokens;
  votes = together.votes;
  backed = together.backed;
  agree = together.agree;
  replied = together.replied;
}
