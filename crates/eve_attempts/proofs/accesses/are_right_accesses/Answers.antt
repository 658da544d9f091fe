use Rattle.std.proofs.Common.{◌≡◌, ℕ, ◌<◌, ◌≤◌, false, true, get_or, sym, subst, ap, ◌∙◌, arith}
use Rattle.eve_attempts.proofs.MarkedRecords.{marking_start, marking_end, stop_worker, stop_index, stop_again}
use Rattle.eve_attempts.proofs.MarkedRecords.{stop_place}
use Rattle.eve_attempts.proofs.MarkedRecords.{marking_more, place_room}
use Rattle.eve_attempts.proofs.accesses.are_right_accesses.Goals as goal

pub loop-record-init : goal.loop-record-init
loop-record-init c = marking_start c.args.workers c.args.count c.args.records.now

pub overflow_add-places : goal.overflow_add-places
overflow_add-places c =
    let m = c.loop-record.invariant in
    let small : c.record-item.result.worker < 256 =
    omega (arith, c.worker-worker.ensures, c.if-worker-workers.false, c.ranges.workers.fits) in
    let room : get_or c.loop-record.places c.record-item.result.worker 0 ≤ c.loop-record.record-index =
    place_room c.args.workers c.args.count c.args.records.now c.loop-record.record-index c.loop-record.seen
    c.loop-record.places m c.record-item.result c.loop-record-test.true c.record-item.is small in
    let same : get_or c.loop-record.places c.worker-worker.result 0
    ≡ get_or c.loop-record.places c.record-item.result.worker 0 =
    ap (λ (w : ℕ). get_or c.loop-record.places w 0) c.worker-worker.ensures in
    record { fits = omega (arith, c.requires.few, c.loop-record-test.true) }

pub returns-then-worker-workers : goal.returns-then-worker-workers
returns-then-worker-workers c = elim c.then-worker-workers.branch [
  | goal.then-worker-workers-via-then-worker-workers w ↦
      stop_worker c.args.workers c.args.count c.args.records.now c.loop-record.record-index c.loop-record.seen
      c.loop-record.places c.loop-record.invariant c.record-item.result c.loop-record-test.true
      c.record-item.is (omega (arith, c.worker-worker.ensures, w.if-worker-workers.true))
  | goal.then-worker-workers-via-else-worker-workers+then-index-count w ↦
      stop_index c.args.workers c.args.count c.args.records.now c.loop-record.record-index c.loop-record.seen
      c.loop-record.places c.loop-record.invariant c.record-item.result c.loop-record-test.true
      c.record-item.is (omega (arith, c.index-index.ensures, w.if-index-count.true))
  | goal.then-worker-workers-via-else-worker-workers+else-index-count+then-seen-index w ↦
      stop_again c.args.workers c.args.count c.args.records.now c.loop-record.record-index c.loop-record.seen
      c.loop-record.places c.loop-record.invariant c.record-item.result c.loop-record-test.true
      c.record-item.is (omega (arith, c.index-index.ensures, w.if-index-count.false, c.requires.count))
      (subst (λ (i : ℕ). get_or c.loop-record.seen i false ≡ true) c.index-index.ensures w.if-seen-index.true)
]

pub returns-then-place-places : goal.returns-then-place-places
returns-then-place-places c =
    stop_place c.args.workers c.args.count c.args.records.now c.loop-record.record-index c.loop-record.seen
    c.loop-record.places c.loop-record.invariant c.record-item.result c.loop-record-test.true
    c.record-item.is (omega (arith, c.worker-worker.ensures, c.if-worker-workers.false))
    (omega (arith, c.index-index.ensures, c.if-index-count.false))
    (omega (arith, c.index-index.ensures, c.if-index-count.false, c.requires.count))
    (omega (arith, c.worker-worker.ensures, c.if-worker-workers.false, c.ranges.workers.fits))
    (subst (λ (i : ℕ). get_or c.loop-record.seen i false ≡ false) c.index-index.ensures c.if-seen-index.false)
    (λ same. c.if-place-places.true
    (c.place.ensures ∙ same ∙ ap (λ (w : ℕ). get_or c.loop-record.places w 0) (sym c.worker-worker.ensures)))

pub loop-record-preserved : goal.loop-record-preserved
loop-record-preserved c =
    rw (c.index-index.ensures, c.worker-worker.ensures)
    (marking_more c.args.workers c.args.count c.args.records.now c.loop-record.record-index c.loop-record.seen
    c.loop-record.places c.loop-record.invariant c.record-item.result c.loop-record-test.true
    c.record-item.is (omega (arith, c.worker-worker.ensures, c.if-worker-workers.false))
    (omega (arith, c.index-index.ensures, c.if-index-count.false))
    (omega (arith, c.index-index.ensures, c.if-index-count.false, c.requires.count))
    (omega (arith, c.worker-worker.ensures, c.if-worker-workers.false, c.ranges.workers.fits))
    (subst (λ (i : ℕ). get_or c.loop-record.seen i false ≡ false) c.index-index.ensures c.if-seen-index.false)
    (sym c.place.ensures ∙ c.if-place-places.false
    ∙ ap (λ (w : ℕ). get_or c.loop-record.places w 0) c.worker-worker.ensures))

pub returns : goal.returns
returns c =
    marking_end c.args.workers c.args.count c.args.records.now c.loop-record.record-index c.loop-record.seen
    c.loop-record.places c.loop-record.invariant c.loop-record-test.false
