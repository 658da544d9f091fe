use Rattle.std.proofs.Common.{List, refl, subst, arith}
use Rattle.std.specs.List.{AllByRecursion}
use Rattle.std.proofs.lemmas.List.{take_all}
use Rattle.eve_smallbank.specs.declared.entry.Entry.{Entry}
use Rattle.eve_frames.specs.Decoded.{access_decoded}
use Rattle.eve_evidence.specs.Sought.{Meets}
use Rattle.eve_evidence.proofs.Lists.{all_more, place_at, no_place_of_all}
use Rattle.eve_evidence.proofs.sought.has_met.Goals as goal

pub returns-then-meets-clause-yes : goal.returns-then-meets-clause-yes
returns-then-meets-clause-yes c = λ yes.
    place_at (λ _ e. Meets c.args.sought.now e) (access_decoded c.args.access.now).entries c.loop-i.i c.entry.result
    c.entry.ensures (c.if-meets.ensures.yes refl)

pub loop-i-preserved : goal.loop-i-preserved
loop-i-preserved c =
    all_more (λ (e : Entry). ¬ Meets c.args.sought.now e) (access_decoded c.args.access.now).entries c.loop-i.i
    c.entry.result
    c.entry.ensures c.loop-i.invariant (c.if-meets.ensures.no refl)

pub returns-clause-no : goal.returns-clause-no
returns-clause-no c = λ no.
    let es = (access_decoded c.args.access.now).entries in
    no_place_of_all (Meets c.args.sought.now) es
    (subst (λ (xs : List Entry). AllByRecursion (λ e. ¬ Meets c.args.sought.now e) xs)
    (take_all c.loop-i.i es (omega (arith, c.len-i-end.ensures.len, c.loop-i-test.false))) c.loop-i.invariant)
