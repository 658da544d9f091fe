use Rattle.std.proofs.Common.{List, ap, ◌∙◌}
use Rattle.eve_smallbank.specs.SmallBank.{plain}
use Rattle.eve_smallbank.specs.declared.request.Reply.TheVariants.{Aborted}
use Rattle.eve_smallbank.specs.declared.decision.Effect.{Effect}
use Rattle.eve_smallbank.proofs.Records.{IsExactAnywhere, refused_done, rows_done, fits_done, only_done, one_each}
use Rattle.eve_smallbank.proofs.decision.decide.Goals as goal

refusal_done : (c : goal.After-abort) → IsExactAnywhere (plain c.args.request.now) c.args.touched.now c.args.seen.now
    c.abort.result
refusal_done c =
    refused_done (plain c.args.request.now) c.args.touched.now c.in-Refused.why c.args.seen.now c.abort.result
    c.in-Refused.is
    (c.abort.ensures ∙ ap (λ (effects : List Effect). record { reply = Aborted c.in-Refused.why; effects = effects })
    c.new.ensures)

pub returns-in-Refused-clause-exact : goal.returns-in-Refused-clause-exact
returns-in-Refused-clause-exact c = refusal_done c

pub returns-in-Refused-clause-fits : goal.returns-in-Refused-clause-fits
returns-in-Refused-clause-fits c = fits_done (plain c.args.request.now) c.args.touched.now c.args.seen.now
    c.abort.result c.requires.values (refusal_done c)

pub returns-in-Refused-clause-only : goal.returns-in-Refused-clause-only
returns-in-Refused-clause-only c = only_done (plain c.args.request.now) c.args.touched.now c.args.seen.now
    c.abort.result (refusal_done c)

decided_done : (c : goal.After-decide_rows)
    → IsExactAnywhere (plain c.args.request.now) c.args.touched.now c.args.seen.now c.decide_rows.result
decided_done c =
    rows_done (plain c.args.request.now) c.args.touched.now c.in-Rows.field-0 c.args.seen.now c.decide_rows.result
    c.in-Rows.is c.decide_rows.ensures

pub returns-in-Rows-clause-exact : goal.returns-in-Rows-clause-exact
returns-in-Rows-clause-exact c = decided_done c

pub returns-in-Rows-clause-each : goal.returns-in-Rows-clause-each
returns-in-Rows-clause-each c = one_each (plain c.args.request.now) c.args.seen.now c.decide_rows.result
    c.decide_rows.ensures

pub returns-in-Rows-clause-fits : goal.returns-in-Rows-clause-fits
returns-in-Rows-clause-fits c = fits_done (plain c.args.request.now) c.args.touched.now c.args.seen.now
    c.decide_rows.result c.requires.values (decided_done c)

pub returns-in-Rows-clause-only : goal.returns-in-Rows-clause-only
returns-in-Rows-clause-only c = only_done (plain c.args.request.now) c.args.touched.now c.args.seen.now
    c.decide_rows.result (decided_done c)
