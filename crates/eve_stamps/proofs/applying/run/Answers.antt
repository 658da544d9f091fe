use Rattle.std.proofs.Common.{◌≡◌, true, false, rules, refl, sym, subst, ◌∙◌}
use Rattle.std.proofs.lemmas.Bool.{not-false}
use Rattle.eve_smallbank.specs.SmallBank.{plain}
use Rattle.eve_smallbank.specs.Access.{Fits}
use Rattle.eve_smallbank.specs.Touch.{rows_in}
use Rattle.eve_stamps.specs.Requests.{is_worn}
use Rattle.eve_stamps.proofs.Refusals.{IsSeen, seen_is, worn_told, not_refused}
use Rattle.eve_stamps.proofs.applying.run.Goals as goal

pub returns-clause-run : goal.returns-clause-run
returns-clause-run c is_there now told =
    let rows = rows_in c.args.touched.now in
    let is : IsSeen is_there now rows c.in-Some.seen =
    seen_is is_there now rows rows c.in-Some.seen refl (sym c.in-Some.is ∙ told) in
    let timely : c.args.is_new ≡ true = search (rules, not-false) in
    let fresh : is_worn now rows ≡ false =
    sym (worn_told is_there now rows c.args.rows.now c.in-Some.seen c.are_worn.result is c.requires.rows
    c.are_worn.ensures) ∙ c.if-are_worn.false in
    record {
      exact = λ names same. sym (c.executed.ensures.exact names now same is.as_now);
      fits = λ names same. subst (Fits names) (c.executed.ensures.exact names now same is.as_now)
          (c.requests_fit.ensures names now (plain c.args.request.now));
      noted = c.executed.ensures.noted is_there now is.as_now is.there fresh;
      taken = not_refused is_there c.args.is_new now rows c.in-Some.seen is timely fresh;
      refused = tt;
    }
