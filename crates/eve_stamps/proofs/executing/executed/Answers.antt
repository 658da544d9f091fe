use Rattle.std.proofs.Common.{◌≡◌, ℤ, List, map, take, length, ap, ◌∙◌, sym, subst}
use Rattle.std.proofs.lemmas.List.{length-map}
use Rattle.std.specs.List.{AllByRecursion}
use Rattle.eve_smallbank.specs.SmallBank.{plain}
use Rattle.eve_smallbank.specs.Access.{Executed}
use Rattle.eve_smallbank.specs.Execution.{executed_on}
use Rattle.eve_smallbank.specs.Touch.{rows_in}
use Rattle.eve_stamps.specs.HeldRows.{CanBeNoted}
use Rattle.eve_stamps.proofs.Outcomes.{executed_is, all_noted}
use Rattle.eve_stamps.proofs.executing.executed.Goals as goal

pub returns-clause-exact : goal.returns-clause-exact
returns-clause-exact c names table is seen =
    let values : List ℤ = take c.len.result c.values_in-values.result in
    let valued : values ≡ map (λ r. r.value) c.args.seen.now =
    ap (λ n. take n c.values_in-values.result) c.len.ensures.len ∙ c.values_in-values.ensures in
    executed_is names table (plain c.args.request.now) (rows_in c.args.touched.now) c.args.seen.now values
    c.entries_of.result c.decide-decision.result (c.fitting_records_are_unique.ensures names table) seen valued
    (c.decide-decision.ensures.fits names (map (λ r. r.version) c.args.seen.now) is
    (length-map c.args.seen.now (λ r. r.version)
    ∙ sym (ap length valued ∙ length-map c.args.seen.now (λ r. r.value)))) c.entries_of.ensures

pub returns-clause-noted : goal.returns-clause-noted
returns-clause-noted c is_there table seen there fresh =
    let names = c.requires.touched.0 in
    let is = c.requires.touched.1 in
    let request = plain c.args.request.now in
    let exact : executed_on names table (plain c.args.request.now)
    ≡ record {
      request = plain c.args.request.now;
      reply = c.decide-decision.result.reply;
      entries = c.entries_of.result;
    } = returns-clause-exact c names table is seen in
    subst (λ (x : Executed). AllByRecursion (CanBeNoted is_there table) x.entries) exact
    (all_noted names table (plain c.args.request.now) c.args.touched.now is_there is
    (c.fitting_records_touch_their_rows.ensures names (executed_on names table (plain c.args.request.now))
    (c.requests_fit.ensures names table (plain c.args.request.now))) there fresh)
