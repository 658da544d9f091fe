use Rattle.std.proofs.Common.{Result, IfOk, IfErr, subst, arith}
use Rattle.eve_views.specs.Form.{IfFound, StandsInForm, IsFaultOutside}
use Rattle.eve_views.specs.Indexes.{IsIndex}
use Rattle.eve_views.specs.declared.fault.CheckFault.{CheckFault}
use Rattle.eve_views.specs.declared.walk.Index.{Index}
use Rattle.eve_views.proofs.FormLaws.{refused_behind}
use Rattle.eve_views.proofs.TraceLaws.{held_of, found_least, found_none}
use Rattle.eve_views.proofs.trace.Trace.of_index.Goals as goal

pub invariant_of-result : goal.invariant_of-result
invariant_of-result c =
    let bytes = c.args.bytes.now in
    let h = c.args.head in
    let found : IsIndex h bytes c.in-Ok.index = subst (λ (r : Result Index CheckFault). IfOk r (IsIndex h bytes))
    c.in-Ok.is c.requires.found in
    held_of bytes h c.in-Ok.index (λ i. omega (arith, c.type_inv.bytes i)) c.requires.header found

pub returns-in-Ok-clause-trace : goal.returns-in-Ok-clause-trace
returns-in-Ok-clause-trace c =
    let bytes = c.args.bytes.now in
    let h = c.args.head in
    let found : IsIndex h bytes c.in-Ok.index = subst (λ (r : Result Index CheckFault). IfOk r (IsIndex h bytes))
    c.in-Ok.is c.requires.found in
    (held_of bytes h c.in-Ok.index (λ i. omega (arith, c.type_inv.bytes i)) c.requires.header found).spells

pub returns-in-Ok-clause-faultless : goal.returns-in-Ok-clause-faultless
returns-in-Ok-clause-faultless c = λ f stands.
    let bytes = c.args.bytes.now in
    let h = c.args.head in
    let found : IsIndex h bytes c.in-Ok.index = subst (λ (r : Result Index CheckFault). IfOk r (IsIndex h bytes))
    c.in-Ok.is c.requires.found in
    let held = held_of bytes h c.in-Ok.index (λ i. omega (arith, c.type_inv.bytes i)) c.requires.header found in
    (refused_behind bytes h f c.requires.header (λ i. omega (arith, c.type_inv.bytes i)) stands).none _ held.spells

pub returns-in-Err-clause-least : goal.returns-in-Err-clause-least
returns-in-Err-clause-least c =
    let bytes = c.args.bytes.now in
    let h = c.args.head in
    let stands : IfFound c.in-Err.fault (IsFaultOutside StandsInForm bytes) =
    subst (λ (r : Result Index CheckFault). IfErr r (λ e. IfFound e (IsFaultOutside StandsInForm bytes))) c.in-Err.is
    c.requires.fault
    in
    found_least bytes h c.in-Err.fault (λ i. omega (arith, c.type_inv.bytes i)) c.requires.header stands

pub returns-in-Err-clause-no_trace : goal.returns-in-Err-clause-no_trace
returns-in-Err-clause-no_trace c =
    let bytes = c.args.bytes.now in
    let h = c.args.head in
    let stands : IfFound c.in-Err.fault (IsFaultOutside StandsInForm bytes) =
    subst (λ (r : Result Index CheckFault). IfErr r (λ e. IfFound e (IsFaultOutside StandsInForm bytes))) c.in-Err.is
    c.requires.fault
    in
    found_none bytes h c.in-Err.fault (λ i. omega (arith, c.type_inv.bytes i)) c.requires.header stands
