use Rattle.std.proofs.Common.{◌≡◌, refl, sym, ◌∙◌, arith, rules}
use Rattle.std.proofs.lemmas.Option.{slice_get_read}
use Rattle.eve_workload.specs.inner.Marks.{place_of}
use Rattle.eve_workload.proofs.RowsMarked.{none_past, none_of_another}
use Rattle.eve_workload.proofs.marks.RowMarks.place_of.Goals as goal
use Rattle.eve_workload.proofs.marks.RowMarks.place_of.Goals.{in-Some, in-None}
use Rattle.eve_workload.proofs.marks.RowMarks.place_of.Goals.{else-place-len-via-then-place-len+else-index-number}
use Rattle.eve_workload.proofs.marks.RowMarks.place_of.Goals.{else-place-len-via-else-place-len}

pub returns-then-index-number-clause-some : goal.returns-then-index-number-clause-some
returns-then-index-number-clause-some c =
    let found : place_of c.args.self.now c.args.row ≡ c.match-get.place = elim c.match-get.branch [
      | in-Some w ↦ search rules
      | in-None w ↦ search rules
    ] in
    record {
      found = found;
      own = (
        c.index.result.now,
        slice_get_read c.args.self.now.marks.items _ c.match-get.place _ refl (omega arith)
            c.index.ensures,
        c.if-index-number.true ∙ c.number-then-place-len.ensures.number,
      );
    }

pub returns-else-place-len-clause-none : goal.returns-else-place-len-clause-none
returns-else-place-len-clause-none c = λ kind group.
    let found : place_of c.args.self.now c.args.row ≡ c.match-get.place = elim c.match-get.branch [
      | in-Some w ↦ search rules
      | in-None w ↦ search rules
    ] in
    elim c.else-place-len.branch [
      | else-place-len-via-then-place-len+else-index-number w ↦
          none_of_another c.args.self.now c.args.row kind c.match-get.place group w.index.result.now found
          (slice_get_read c.args.self.now.marks.items _ c.match-get.place _ refl (omega arith) w.index.ensures)
          (λ same. w.if-index-number.false (same ∙ sym w.number-then-place-len.ensures.number))
      | else-place-len-via-else-place-len w ↦
          none_past c.args.self.now c.args.row kind c.match-get.place group found (omega arith)
    ]
