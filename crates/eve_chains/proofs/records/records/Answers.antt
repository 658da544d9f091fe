use Rattle.eve_views.specs.Form.{IsLeast, IsFaultIn}
use Rattle.std.proofs.Common.{ℕ, sym, subst}
use Rattle.eve_chains.specs.Records.{IsLeastMismatch}
use Rattle.eve_chains.proofs.JudgedRecords.{judged_of, record_fault, all_fit, no_fault, least_fault, as_told}
use Rattle.eve_chains.specs.Faults.{StandsInRecords}
use Rattle.eve_chains.proofs.records.records.Goals as goal

pub returns-in-None-clause-fit : goal.returns-in-None-clause-fit
returns-in-None-clause-fit c =
    let t = c.args.section.trace.now in
    let h = c.args.section.history.now in
    all_fit t h.replica c.recall_limits.ensures
    (c.recall_right.ensures.section t h.replica c.requires.told)
    (subst (IsLeastMismatch _ (judged_of t h.replica)) c.in-None.is
    (as_told t h c.args.least c.requires.told c.requires.least))

pub returns-in-None-clause-none : goal.returns-in-None-clause-none
returns-in-None-clause-none c =
    let t = c.args.section.trace.now in
    let h = c.args.section.history.now in
    no_fault t h.replica c.recall_limits.ensures
    (c.recall_right.ensures.section t h.replica c.requires.told)
    (subst (IsLeastMismatch _ (judged_of t h.replica)) c.in-None.is
    (as_told t h c.args.least c.requires.told c.requires.least))

pub returns-in-Some-clause-least : goal.returns-in-Some-clause-least
returns-in-Some-clause-least c =
    let t = c.args.section.trace.now in
    let h = c.args.section.history.now in
    let least = least_fault t h.replica c.recall_limits.ensures
    (c.recall_right.ensures.section t h.replica c.requires.told)
    c.in-Some.offset (subst (IsLeastMismatch _ (judged_of t h.replica)) c.in-Some.is
    (as_told t h c.args.least c.requires.told c.requires.least)) in
    subst (λ (e : ℕ). IsLeast (IsFaultIn StandsInRecords t h.replica) (record_fault e c.in-Some.offset))
    (sym c.replica.ensures)
    least
