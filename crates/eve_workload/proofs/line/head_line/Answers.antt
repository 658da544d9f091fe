use Rattle.std.proofs.Common.{IsTrue, [], ◌∷◌, get_or, sym, ap, subst, ◌∙◌}
use Rattle.eve_workload.specs.Workload.{is_deployment}
use Rattle.eve_workload.proofs.Deployments.{IsSmall, deployment_small, same_deployment}
use Rattle.eve_workload.proofs.Options.{on_none}
use Rattle.eve_workload.proofs.line.head_line.Goals as goal

pub returns-else-is_right-clause-none : goal.returns-else-is_right-clause-none
returns-else-is_right-clause-none c = λ d right words.
    let low : IsSmall (record {
      replicas = c.in_ok-byte_number.field-0;
      verifiers = c.in_ok-byte_number-2.field-0;
      quorum = c.in_ok-byte_number-3.field-0;
      window = c.in_ok-byte_number-4.field-0;
      workers = c.in_ok-byte_number-5.field-0;
    }) = record {
      replicas = c.in_ok-byte_number.ensures.small;
      verifiers = c.in_ok-byte_number-2.ensures.small;
      quorum = c.in_ok-byte_number-3.ensures.small;
      window = c.in_ok-byte_number-4.ensures.small;
      workers = c.in_ok-byte_number-5.ensures.small;
    } in
    let kind = c.says.ensures.0 cc in
    let same = same_deployment d _ (deployment_small d right) low
    (words ∙ (λ k. kind k ∷ c.in_ok-byte_number.ensures.spelled k ∷ c.in_ok-byte_number-2.ensures.spelled k
    ∷ c.in_ok-byte_number-3.ensures.spelled k ∷ c.in_ok-byte_number-4.ensures.spelled k
    ∷ c.in_ok-byte_number-5.ensures.spelled k ∷ [])) in
    let right_too = subst (λ e. IsTrue (is_deployment e)) same right in
    cc

pub returns-in_err-byte_number-clause-none : goal.returns-in_err-byte_number-clause-none
returns-in_err-byte_number-clause-none c = on_none c.from_residual.result _ (λ d right words.
    c.in_err-byte_number.ensures.none d.replicas (deployment_small d right).replicas
    (ap (λ ws. get_or ws 1 []) (sym words)))

pub returns-in_err-byte_number-2-clause-none : goal.returns-in_err-byte_number-2-clause-none
returns-in_err-byte_number-2-clause-none c = on_none c.from_residual-in_err-byte_number-2.result _ (λ d right words.
    c.in_err-byte_number-2.ensures.none d.verifiers (deployment_small d right).verifiers
    (ap (λ ws. get_or ws 2 []) (sym words)))

pub returns-in_err-byte_number-3-clause-none : goal.returns-in_err-byte_number-3-clause-none
returns-in_err-byte_number-3-clause-none c = on_none c.from_residual-in_err-byte_number-3.result _ (λ d right words.
    c.in_err-byte_number-3.ensures.none d.quorum (deployment_small d right).quorum
    (ap (λ ws. get_or ws 3 []) (sym words)))

pub returns-in_err-byte_number-4-clause-none : goal.returns-in_err-byte_number-4-clause-none
returns-in_err-byte_number-4-clause-none c = on_none c.from_residual-in_err-byte_number-4.result _ (λ d right words.
    c.in_err-byte_number-4.ensures.none d.window (deployment_small d right).window
    (ap (λ ws. get_or ws 4 []) (sym words)))

pub returns-in_err-byte_number-5-clause-none : goal.returns-in_err-byte_number-5-clause-none
returns-in_err-byte_number-5-clause-none c = on_none c.from_residual-in_err-byte_number-5.result _ (λ d right words.
    c.in_err-byte_number-5.ensures.none d.workers (deployment_small d right).workers
    (ap (λ ws. get_or ws 5 []) (sym words)))
