-- The numbers of a deployment, and the words of a line 1, which spell one deployment.
use Rattle.std.proofs.Common.{◌≡◌, ℕ, ◌^◌, ◌<◌, ◌≤◌, IsTrue, List, [], ap, get_or, arith}
use Rattle.std.specs.Fmt.{decimal}
use Rattle.std.proofs.lemmas.Fmt.{decimal_injective}
use Rattle.eve_grammar.specs.declared.limits.TheConstants.{MOST_REPLICAS, MOST_VERIFIERS, MOST_WINDOW, MOST_WORKERS}
use Rattle.eve_grammar.specs.declared.limits.TheConstants.{NEWEST_VERSION}
use Rattle.eve_grammar.specs.Limits.{is_head, HasHeadLimits}
use Rattle.eve_grammar.proofs.HeadLimits.{head_has_limits, head_from_limits}
use Rattle.eve_workload.specs.declared.deployment.Deployment.{Deployment}
use Rattle.eve_workload.specs.Lines.{line_words, HeadLine}
use Rattle.eve_workload.specs.Workload.{Workload, IsWorkload, head_with, head_asked, is_deployment}

-- ---- right headers

-- the header of a workload's trace is right where its version is known
pub head_right : (w : Workload) → IsWorkload w → 1 ≤ w.format → w.format ≤ NEWEST_VERSION
    → IsTrue (is_head (head_asked w))
head_right w is some known =
    let limits : HasHeadLimits (head_with 1 w.deployment 1 0) =
    head_has_limits (head_with 1 w.deployment 1 0) is.deployment in
    head_from_limits (head_asked w) (record {
      some_version = some;
      known_version = known;
      some_replicas = limits.some_replicas;
      few_replicas = limits.few_replicas;
      some_verifiers = limits.some_verifiers;
      few_verifiers = limits.few_verifiers;
      quorum = limits.quorum;
      majority = limits.majority;
      some_window = limits.some_window;
      few_window = limits.few_window;
      some_workers = limits.some_workers;
      few_workers = limits.few_workers;
      some_customers = is.some_customers;
      few_customers = is.few_customers;
      few_batches = is.few_batches;
    })

-- ---- small numbers

-- its numbers fit a byte
pub record IsSmall (d : Deployment) : Type 0 where
  pub replicas : d.replicas < 2 ^ 8
  pub verifiers : d.verifiers < 2 ^ 8
  pub quorum : d.quorum < 2 ^ 8
  pub window : d.window < 2 ^ 8
  pub workers : d.workers < 2 ^ 8

pub deployment_small : (d : Deployment) → IsTrue (is_deployment d) → IsSmall d
deployment_small d right =
    let limits : HasHeadLimits (head_with 1 d 1 0) = head_has_limits (head_with 1 d 1 0) right in
    let replicas : d.replicas ≤ MOST_REPLICAS = limits.few_replicas in
    let verifiers : d.verifiers ≤ MOST_VERIFIERS = limits.few_verifiers in
    let quorum : d.quorum ≤ d.verifiers = limits.quorum in
    let window : d.window ≤ MOST_WINDOW = limits.few_window in
    let workers : d.workers ≤ MOST_WORKERS = limits.few_workers in
    record {
      replicas = omega arith;
      verifiers = omega arith;
      quorum = omega arith;
      window = omega arith;
      workers = omega arith;
    }

same_number : (m n : ℕ) → m < 2 ^ 8 → n < 2 ^ 8 → decimal m ≡ decimal n → m ≡ n
same_number m n low_m low_n same = decimal_injective m n (omega arith) (omega arith) same

unfoldable pub word_at : ℕ → List (List ℕ) → List ℕ
word_at n words = get_or words n []

pub same_deployment : (d e : Deployment) → IsSmall d → IsSmall e → line_words (HeadLine d) ≡ line_words (HeadLine e)
    → d ≡ e
unfolding word_at
same_deployment d e low_d low_e same =
    let replicas = same_number d.replicas e.replicas low_d.replicas low_e.replicas (ap (word_at 1) same) in
    let verifiers = same_number d.verifiers e.verifiers low_d.verifiers low_e.verifiers (ap (word_at 2) same) in
    let quorum = same_number d.quorum e.quorum low_d.quorum low_e.quorum (ap (word_at 3) same) in
    let window = same_number d.window e.window low_d.window low_e.window (ap (word_at 4) same) in
    let workers = same_number d.workers e.workers low_d.workers low_e.workers (ap (word_at 5) same) in
    (λ k. record {
      replicas = replicas k;
      verifiers = verifiers k;
      quorum = quorum k;
      window = window k;
      workers = workers k;
    })
