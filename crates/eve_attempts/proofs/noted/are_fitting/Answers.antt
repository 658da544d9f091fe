use Rattle.std.proofs.Common.{◌<◌, length, sym, subst, true, false}
use Rattle.eve_smallbank.specs.Access.{Fits}
use Rattle.eve_grammar.proofs.Lists.{all-get_or}
use Rattle.eve_write.specs.Data.{batch as plain}
use Rattle.eve_stamps.specs.Applied.{Applied}
use Rattle.eve_attempts.specs.ClosedAttempts.{executed}
use Rattle.eve_attempts.proofs.Lists.{drop_read, goes_start, goes_more, goes_stop, goes_end, fails_by}
use Rattle.eve_attempts.proofs.Lists.{decides_mapped}
use Rattle.eve_attempts.proofs.noted.are_fitting.Goals as goal

pub is_fitting-requires-clause-index : goal.is_fitting-requires-clause-index
is_fitting-requires-clause-index c =
    let b = plain c.args.noted.batch.now in
    subst (λ (r : Applied). r.index < length b.requests) (sym c.record-item.is)
    (all-get_or (λ r. r.index < length b.requests) c.args.noted.records.now c.loop-record.record-index
    c.record-item.result c.requires.indexes c.loop-record-test.true)

pub loop-record-init : goal.loop-record-init
loop-record-init c = λ names is.
    goes_start (λ r. Fits names (executed (plain c.args.noted.batch.now) r)) c.args.noted.records.now

pub returns-then-not-is_fitting : goal.returns-then-not-is_fitting
returns-then-not-is_fitting c = λ names is.
    let b = plain c.args.noted.batch.now in
    let rs = c.args.noted.records.now in
    decides_mapped (Fits names) (executed b) rs false
    (goes_stop (λ r. Fits names (executed b r)) rs c.loop-record.record-index c.record-item.result
    (c.loop-record.invariant names is)
    (drop_read rs c.loop-record.record-index c.record-item.result c.loop-record-test.true c.record-item.is)
    (fails_by c.is_fitting.result (c.is_fitting.ensures names is) c.if-not-is_fitting.true))

pub loop-record-preserved : goal.loop-record-preserved
loop-record-preserved c = λ names is.
    let b = plain c.args.noted.batch.now in
    let rs = c.args.noted.records.now in
    goes_more (λ r. Fits names (executed b r)) rs c.loop-record.record-index
    c.record-item.result (c.loop-record.invariant names is)
    (drop_read rs c.loop-record.record-index c.record-item.result c.loop-record-test.true
    c.record-item.is) ((c.is_fitting.ensures names is).0 c.if-not-is_fitting.false)

pub returns : goal.returns
returns c = λ names is.
    let b = plain c.args.noted.batch.now in
    let rs = c.args.noted.records.now in
    decides_mapped (Fits names) (executed b) rs true
    (goes_end (λ r. Fits names (executed b r)) rs c.loop-record.record-index
    (c.loop-record.invariant names is) c.loop-record-test.false)
