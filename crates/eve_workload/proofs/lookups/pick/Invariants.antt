use Rattle.std.proofs.Common.{◌≡◌, length, map, take, vec_len, vec_capacity}
use Rattle.std.specs.Prelude.{slice_index_or}
use Rattle.eve_smallbank.specs.declared.rows.Touched.{Touched}
use Rattle.eve_workload.proofs.lookups.pick.Given as goal

abbrev pub invariant-loop-index : goal.invariant-loop-index
invariant-loop-index l = record {
  picked : (other : Touched) → l.picked.items ≡ map (λ i. slice_index_or l.touched i other)
      (take l.index-index l.order);
  len : vec_len l.picked ≡ l.index-index;
  room : vec_capacity l.picked ≡ length l.order;
}
