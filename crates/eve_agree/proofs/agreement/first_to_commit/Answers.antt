use Rattle.std.proofs.Common.{◌≡◌, None, length, sym, arith, refl, ◌∙◌}
use Rattle.std.specs.Prelude.{IsTrue}
use Rattle.std.specs.Option.{is_some}
use Rattle.std.proofs.lemmas.Option.{slice_get_read}
use Rattle.eve_agree.specs.ByNumber.{told_at}
use Rattle.eve_agree.proofs.ByNumber.{not_there}
use Rattle.eve_agree.proofs.Outcomes.{none_more, first_is, first_none}
use Rattle.eve_agree.proofs.agreement.first_to_commit.Goals as goal

pub returns-then-has_committed : goal.returns-then-has_committed
returns-then-has_committed c =
    let hs = c.args.histories.now in
    let h = c.index-histories-e.result in
    let got = slice_get_read hs (length hs) c.loop-e.e h refl c.loop-e-test.true c.index-histories-e.is in
    let some : IsTrue (is_some (told_at h c.args.n)) = sym c.has_committed.ensures ∙ c.if-has_committed.true in
    record {
      is = λ t told. sym (first_is t hs told c.args.n c.loop-e.e h got some c.loop-e.invariant);
      there = (h, got, some);
      before = c.loop-e.invariant;
      none = tt;
    }

pub loop-e-preserved : goal.loop-e-preserved
loop-e-preserved c =
    let hs = c.args.histories.now in
    let h = c.index-histories-e.result in
    let got = slice_get_read hs (length hs) c.loop-e.e h refl c.loop-e-test.true c.index-histories-e.is in
    let none : told_at h c.args.n ≡ None =
    not_there (told_at h c.args.n) (sym c.has_committed.ensures ∙ c.if-has_committed.false) in
    none_more hs c.args.n c.loop-e.e h c.loop-e.invariant got none

pub returns : goal.returns
returns c =
    let hs = c.args.histories.now in
    record {
      is = λ t told. sym (first_none t hs told c.args.n c.loop-e.e c.loop-e-test.false c.loop-e.invariant);
      there = tt;
      before = tt;
      none = λ i h lt got. c.loop-e.invariant i h (omega (arith, c.loop-e-test.false)) got;
    }
