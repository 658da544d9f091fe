use Rattle.std.proofs.Common.{◌≡◌, ◌<◌, ℕ, [], ◌∷◌, ◌++◌, length, map, sym, ap, ◌∙◌, arith, rules}
use Rattle.std.specs.Prelude.{slice_index_or}
use Rattle.std.proofs.lemmas.List.{take_all, map_more, get_or_default}
use Rattle.eve_workload.proofs.lookups.pick.Goals as goal

pub loop-index-preserved : goal.loop-index-preserved
loop-index-preserved c =
    let pushed : c.push_reserved.new.self.items ≡ c.loop-index.picked.items ++ c.index-touched-index.result ∷ [] =
    search rules in
    let index : ℕ = slice_index_or c.args.order.now c.loop-index.index-index 0 in
    let there : c.loop-index.index-index < length c.args.order.now = omega arith in
    let bound : index < length c.args.touched.now = c.requires c.loop-index.index-index 0 there in
    record {
      picked = λ other.
          let at : c.index-touched-index.result ≡ slice_index_or c.args.touched.now index other =
          c.index-touched-index.is ∙ get_or_default c.args.touched.now index c.index-touched-index.result other bound in
          pushed ∙ (λ i. c.loop-index.invariant.picked other i ++ at i ∷ [])
          ∙ sym (map_more (λ j. slice_index_or c.args.touched.now j other) c.args.order.now c.loop-index.index-index 0
          there);
      len = omega (arith, c.push_reserved.ensures.len, c.loop-index.invariant.len);
      room = c.push_reserved.ensures.capacity ∙ c.loop-index.invariant.room;
    }

pub returns : goal.returns
returns c other =
    c.loop-index.invariant.picked other
    ∙ ap (map (λ i. slice_index_or c.args.touched.now i other))
    (take_all c.loop-index.index-index c.args.order.now (omega arith))
