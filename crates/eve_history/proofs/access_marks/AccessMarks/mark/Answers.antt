use Rattle.std.proofs.Common.{ℕ, ◌<◌, ◌≤◌, ◌==◌, List, length, get_or, arith, rules}
use Rattle.std.proofs.lemmas.List.{length-map}
use Rattle.std.proofs.lemmas.List.Sums.{count_by-le-length}
use Rattle.eve_grammar.specs.Trace.{Access}
use Rattle.eve_frames.specs.Views.{access_in}
use Rattle.eve_history.specs.declared.access_marks.AccessMarks.{AccessMarks}
use Rattle.eve_history.specs.Structure.{accesses_of}
use Rattle.eve_history.specs.inner.MarkedRecords.{AreMarked}
use Rattle.eve_history.proofs.MarkedRecords.{refused_worker, refused_index, refused_again, refused_place}
use Rattle.eve_history.proofs.MarkedRecords.{transferred_right}
use Rattle.eve_history.proofs.access_marks.AccessMarks.mark.Goals as goal

pub returns-then-worker-workers : goal.returns-then-worker-workers
returns-then-worker-workers c = λ before marked.
    let x : ℕ × Access = (c.args.access.now.offset, access_in c.args.access.now.bytes.now) in
    let m = c.args.self.now in
    let few : c.args.count ≤ 256 = c.requires.count in
    elim c.then-worker-workers.branch [
      | goal.then-worker-workers-via-then-worker-workers w ↦
          refused_worker c.args.workers c.args.count before x m c.worker-worker.result c.index-index.result
          c.worker-worker.ensures c.index-index.ensures marked (search rules)
      | goal.then-worker-workers-via-else-worker-workers+then-index-count w ↦
          refused_index c.args.workers c.args.count before x m c.worker-worker.result c.index-index.result
          c.worker-worker.ensures c.index-index.ensures marked (search rules)
      | goal.then-worker-workers-via-else-worker-workers+else-index-count+then-self-index w ↦
          let below : c.index-index.result < c.args.count = search rules in
          refused_again c.args.workers c.args.count before x m c.worker-worker.result c.index-index.result
          c.worker-worker.ensures c.index-index.ensures marked (omega arith) (search rules)
    ]

pub returns-then-place-self : goal.returns-then-place-self
returns-then-place-self c = λ before marked.
    refused_place c.args.workers c.args.count before
    (c.args.access.now.offset, access_in c.args.access.now.bytes.now) c.args.self.now
    c.worker-worker.result c.index-index.result c.worker-worker.ensures c.index-index.ensures marked
    c.requires.workers c.requires.count (search rules) (search rules) (search rules) (search rules)

pub returns : goal.returns
returns c = λ before marked.
    transferred_right c.args.workers c.args.count before
    (c.args.access.now.offset, access_in c.args.access.now.bytes.now) c.args.self.now
    c.worker-worker.result c.index-index.result c.worker-worker.ensures c.index-index.ensures marked
    c.offset.result c.offset.ensures c.requires.workers c.requires.count (search rules) (search rules)
    (search rules) (search rules)

-- as many have come of a worker as there are at most
few_places : (m : AccessMarks) (before : List (ℕ × Access)) (worker : ℕ) → AreMarked before m → worker < 8
    → length before < 256 → get_or m.places worker 0 < 256
few_places m before worker marked lt few =
    let xs = accesses_of before in
    omega (
      arith,
      marked.places worker lt,
      count_by-le-length (λ (y : Access). y.worker == worker) xs,
      length-map before (λ (x : ℕ × Access). x.1),
    )

pub overflow_add-self : goal.overflow_add-self
overflow_add-self c =
    let few : c.args.workers ≤ 8 = c.requires.workers in
    let lt : c.worker-worker.result < c.args.workers = search rules in
    let small = few_places c.args.self.now c.requires.marked.0 c.worker-worker.result c.requires.marked.1 (omega arith)
    c.requires.marked.2 in
    record { fits = omega (arith, small) }

pub bounds-self-index : goal.bounds-self-index
bounds-self-index c = let few : c.args.count ≤ 256 = c.requires.count in omega arith

pub bounds-self-worker : goal.bounds-self-worker
bounds-self-worker c = let few : c.args.workers ≤ 8 = c.requires.workers in omega arith

pub bounds-self-index-2 : goal.bounds-self-index-2
bounds-self-index-2 c = let few : c.args.count ≤ 256 = c.requires.count in omega arith

pub bounds-self-index-3 : goal.bounds-self-index-3
bounds-self-index-3 c = let few : c.args.count ≤ 256 = c.requires.count in omega arith

pub bounds-self-worker-2 : goal.bounds-self-worker-2
bounds-self-worker-2 c = let few : c.args.workers ≤ 8 = c.requires.workers in omega arith

pub bounds-self-worker-3 : goal.bounds-self-worker-3
bounds-self-worker-3 c = let few : c.args.workers ≤ 8 = c.requires.workers in omega arith
