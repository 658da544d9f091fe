use Rattle.std.proofs.Common.{◌≡◌, ℕ, List, [], ◌∷◌, ◌++◌, ◌+◌, sym, ap, ◌∙◌, arith, rules}
use Rattle.std.specs.Prelude.{slice_index_or}
use Rattle.std.specs.Vec.{with_item}
use Rattle.std.proofs.lemmas.List.{get_or-set_other}
use Rattle.eve_workload.specs.declared.marks.Marks.{Marks}
use Rattle.eve_workload.specs.declared.marks.RowMarks.{RowMarks}
use Rattle.eve_workload.specs.inner.Marks.{is_barred}
use Rattle.eve_workload.proofs.RowsMarked.{grown, seen_more}
use Rattle.eve_workload.proofs.marks.RowMarks.meet.Goals as goal
use Rattle.eve_workload.proofs.marks.RowMarks.meet.Goals.{then-index-len+in_ok-resize, else-index-len}

pub returns-clause-same : goal.returns-clause-same
returns-clause-same c =
    let old : List ℕ = c.args.self.now.places.items in
    let wide : List ℕ = c.if-index-len.self.places.items in
    let none : Marks = record { row = c.number.result; touched = c.none.result; written = c.none-2.result } in
    let leaves : (k : ℕ) → slice_index_or wide k 0 ≡ slice_index_or old k 0 =
    elim c.if-index-len.branch [
      | then-index-len+in_ok-resize w ↦ λ k. ap (λ (s : RowMarks). slice_index_or s.places.items k 0) w.self-is
          ∙ grown old w.resize.new.self.items (c.number-index.result + 1) _ (omega arith) w.in_ok-resize.ensures.items k
      | else-index-len w ↦ λ k. ap (λ (s : RowMarks). slice_index_or s.places.items k 0) w.self-is
    ] in
    let new : RowMarks = record {
      places = with_item c.if-index-len.self.places c.number-index.result c.len-place.result;
      marks = c.if-index-len.self.marks;
    } in
    let pushed : new.marks.items ≡ c.args.self.now.marks.items ++ none ∷ [] = search rules in
    seen_more c.args.self.now new none pushed c.none.ensures c.none-2.ensures
    (λ kind group. ap (λ (row : ℕ). is_barred c.args.self.now (row, kind) group) c.number.ensures.number
    ∙ c.in_default.ensures.none kind group)
    (search rules)
    (λ other apart.
    get_or-set_other wide c.number-index.result other c.len-place.result 0
    (λ e. apart (e ∙ c.number-index.ensures.number ∙ sym c.number.ensures.number))
    ∙ leaves other)
