-- What the requests touch was looked up among the customers' names.
use Rattle.std.proofs.Common.{map, ap, ◌∙◌}
use Rattle.eve_smallbank.specs.Touch.{touched_of}
use Rattle.eve_write.specs.Data.{asked}
use Rattle.eve_test_deployment.proofs.ledger.replaying.close_due.Goals as goal

pub close-requires-clause-touched : goal.close-requires-clause-touched
close-requires-clause-touched c =
    let names = c.args.names.now.items in (
      names,
      c.as_slice-touched.ensures.value ∙ c.in-Ok.ensures
          ∙ ap (λ rs. map (λ a. touched_of names a.request) (map asked rs)) c.as_slice.ensures.value,
    )

pub close-requires-in-Err-Memory-clause-touched :
    goal.close-requires-in-Err-Memory-clause-touched
close-requires-in-Err-Memory-clause-touched c =
    let names = c.args.names.now.items in (
      names,
      c.as_slice-touched.ensures.value ∙ c.in-Ok.ensures
          ∙ ap (λ rs. map (λ a. touched_of names a.request) (map asked rs)) c.as_slice.ensures.value,
    )
