use Rattle.std.proofs.Common.{rules, ◌≡◌, ◌+◌, ◌<◌, ◌≤◌, length, sym, subst, ◌∙◌, arith}
use Rattle.eve_agree.specs.Majority.{IsBackedSection}
use Rattle.eve_agree.specs.inner.Unbacked.{IsFirstUnbackedIn}
use Rattle.eve_agree.proofs.Replicas.{section_history_count, replica_at}
use Rattle.eve_agree.proofs.MajorityFaults.{IsFirstUnbackedBelow, none_found, found_more, all_backed, no_fault}
use Rattle.eve_agree.proofs.MajorityFaults.{least_fault}
use Rattle.eve_agree.proofs.majority.majorities.Goals as goal
use Rattle.std.specs.Prelude.{IfNone, IfSome}

pub loop-history-init : goal.loop-history-init
loop-history-init c = none_found c.args.trace.now

pub first_in-requires-clause-there : goal.first_in-requires-clause-there
first_in-requires-clause-there c =
    let t = c.args.trace.now in
    let count = section_history_count t c.args.histories.now c.requires.histories in
    let here : c.loop-history.history-index < length t.sections = omega (arith, count, c.loop-history-test.true) in
    let own = replica_at t c.args.histories.now c.loop-history.history-index c.history-item.result c.requires.histories
    here c.history-item.is in
    omega (arith, here, own, c.replica.ensures)

pub loop-history-preserved : goal.loop-history-preserved
loop-history-preserved c =
    let t = c.args.trace.now in
    let e = c.loop-history.history-index in
    let count = section_history_count t c.args.histories.now c.requires.histories in
    let here : e < length t.sections = omega (arith, count, c.loop-history-test.true) in
    let own : c.replica.result ≡ e = c.replica.ensures
    ∙ replica_at t c.args.histories.now e c.history-item.result c.requires.histories here c.history-item.is in
    subst (IsFirstUnbackedBelow t (e + 1)) (sym c.first_of-first.ensures)
    (found_more t e c.loop-history.first c.first_in.result c.loop-history.invariant
    (subst (λ i. IfNone c.first_in.result (IsBackedSection t i)) own c.first_in.ensures.backed)
    (subst (λ i. IfSome c.first_in.result (IsFirstUnbackedIn t i)) own c.first_in.ensures.first))

pub returns-in-Some-clause-found : goal.returns-in-Some-clause-found
returns-in-Some-clause-found c = search rules

pub returns-in-Some-clause-least : goal.returns-in-Some-clause-least
returns-in-Some-clause-least c =
    let t = c.args.trace.now in
    let n = c.loop-history.history-index in
    let count = section_history_count t c.args.histories.now c.requires.histories in
    let all : length t.sections ≤ n = omega (arith, count, c.loop-history-test.false) in
    least_fault t n c.in-Some.fault all (subst (IsFirstUnbackedBelow t n) c.in-Some.is c.loop-history.invariant)

pub returns-in-None-clause-backed : goal.returns-in-None-clause-backed
returns-in-None-clause-backed c =
    let t = c.args.trace.now in
    let n = c.loop-history.history-index in
    let count = section_history_count t c.args.histories.now c.requires.histories in
    let all : length t.sections ≤ n = omega (arith, count, c.loop-history-test.false) in
    all_backed t n all (subst (IsFirstUnbackedBelow t n) c.in-None.is c.loop-history.invariant)

pub returns-in-None-clause-none : goal.returns-in-None-clause-none
returns-in-None-clause-none c =
    let t = c.args.trace.now in
    let n = c.loop-history.history-index in
    let count = section_history_count t c.args.histories.now c.requires.histories in
    let all : length t.sections ≤ n = omega (arith, count, c.loop-history-test.false) in
    no_fault t (all_backed t n all (subst (IsFirstUnbackedBelow t n) c.in-None.is c.loop-history.invariant))
